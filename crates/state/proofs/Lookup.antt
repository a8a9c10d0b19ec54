-- The head of a version has its value and its writer, so what the array of versions says of the newest version that a mask holds is what the store says of
-- it. Assumes nothing.
use Prim.Native.Nat.{ℕ, ◌/◌, ◌%◌, ◌^◌, ◌<◌}
use mathlib.Core.Path.{◌≡◌, refl}
use mathlib.Core.List.{List}
use native.Mathlib.Omega.{arith}
use lib.ListN.{get_or}
use Rattle.sets.specs.Set.{Set}
use Rattle.store.specs.Store.{Key, VersionNumber, View, Store, count, version, next_number}
use Rattle.store.specs.Update.{newest, newest_visible}
use Rattle.store.specs.Sound.{SoundStore}
use Rattle.state.specs.Places.{numbers, head_place, packed, writer_in}
use Rattle.state.specs.Lookup.{visible_in}

-- ---- two numbers in one word

low_half : (low high : ℕ) → low < 2 ^ 32 → packed low high % 2 ^ 32 ≡ low
low_half low high l = omega arith

high_half : (low high : ℕ) → low < 2 ^ 32 → packed low high / 2 ^ 32 ≡ high
high_half low high l = omega arith

-- ---- the head of a version

module _ (s : Store) (sound : SoundStore s) (few : s.commits < numbers) (k : Key) (i : VersionNumber) (l : i < count s k)
    {h : ℕ} (e : h ≡ packed (version s k i).value (version s k i).writer) (fits : (version s k i).value < 2 ^ 32) where
  pub value-in-head : h % 2 ^ 32 ≡ (version s k i).value
  value-in-head = rw e (low_half _ _ fits)

  pub writer-in-head : writer_in h ≡ (version s k i).writer
  unfolding writer_in
  writer-in-head =
      let w : h / 2 ^ 32 ≡ (version s k i).writer = rw e (high_half _ _ fits) in
      let b : (version s k i).writer < next_number s = sound.writers _ k i (l, refl) in
      omega arith

-- ---- the lookup

pub visible-is : (s : Store) → SoundStore s → s.commits < numbers → (u : View) (k : Key) → newest u k < count s k → (versions : List ℕ)
    → get_or versions (head_place k (newest u k)) 0 ≡ packed (version s k (newest u k)).value (version s k (newest u k)).writer → (version s k (newest u k)).value < 2 ^ 32
    → {m : Set} → m ≡ u k → visible_in versions m k ≡ newest_visible s u k
visible-is s sound few u k l versions e fits q =
    rw (q, value-in-head s sound few k (newest u k) l e fits, writer-in-head s sound few k (newest u k) l e fits)
