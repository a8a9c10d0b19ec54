-- A key of an image, and a pass over the keys. Assumes nothing.
use Prim.Native.Nat.{ℕ, zero, suc, ◌+◌, ◌*◌, ◌≤◌, ◌<◌}
use mathlib.Core.Path.{◌≡◌, refl, sym, ap, ap₂, ◌∙◌, subst}
use mathlib.Core.Logic.{◌↔◌}
use mathlib.Core.List.{List}
use native.Mathlib.Omega.{arith}
use native.Mathlib.Decide.{ℕ_discrete}
use lib.ListN.{length}
use Rattle.endian.specs.Endian.{le_at}
use Rattle.endian.proofs.Laws.{le_at-add}
use Rattle.store.specs.Reading.{image_keys, image_commits, commit_size, key_place}
use Rattle.reading.specs.Parts.{key_end, VersionsFit, KeyFits, BodyFits}

-- ---- one key

-- the first 8 bytes of version 0 are zero: its value, its writer and its spare bytes
pub opening-zero : (b : List ℕ) (at : ℕ) → (le_at b (at + 4) 8 ≡ 0) ↔ ((le_at b (at + 4) 4 ≡ 0) × (le_at b (at + 8) 1 ≡ 0) × (le_at b (at + 4 + 16 * 0 + 5) 3 ≡ 0))
opening-zero b at =
    let place : at + 4 + 4 ≡ at + 8 = omega arith in
    let spare : at + 8 + 1 ≡ at + 4 + 16 * 0 + 5 = omega arith in
    let halves : le_at b (at + 4) 8 ≡ le_at b (at + 4) 4 + 4294967296 * le_at b (at + 8) 4 =
    le_at-add b 4 4 (at + 4) ∙ ap (λ (p : ℕ). le_at b (at + 4) 4 + 4294967296 * le_at b p 4) place in
    let second : le_at b (at + 8) 4 ≡ le_at b (at + 8) 1 + 256 * le_at b (at + 4 + 16 * 0 + 5) 3 =
    le_at-add b 1 3 (at + 8) ∙ ap (λ (p : ℕ). le_at b (at + 8) 1 + 256 * le_at b p 3) spare in
    (λ e. (omega arith, omega arith, omega arith), λ (x, y, z). omega arith)

module _ (b : List ℕ) (at commits : ℕ) where
  pub key_fits : {n : ℕ} → n ≡ le_at b at 4 → 0 < n → at + (4 + 16 * n) ≤ length b → le_at b (at + 4) 8 ≡ 0 → VersionsFit b (at + 4) n commits → KeyFits b at commits
  key_fits e p l z v =
      let first = (opening-zero b at).0 z in record {
        some-version = omega arith;
        within = omega (arith, e);
        first-value = first.0;
        first-writer = first.1;
        versions = subst (λ (n : ℕ). VersionsFit b (at + 4) n commits) e v;
      }

  pub key-opens : KeyFits b at commits → le_at b (at + 4) 8 ≡ 0
  key-opens f = (opening-zero b at).1 (f.first-value, f.first-writer, f.versions.spare 0 f.some-version)

-- ---- the keys in turn

pub place-next : (b : List ℕ) (k : ℕ) → key_place b (suc k) ≡ key_end b (key_place b k)
unfolding key_place
place-next b k = refl

-- a key stands behind those before it
pub place_mono : (b : List ℕ) (j d : ℕ) → key_place b j ≤ key_place b (d + j)
place_mono b j zero = let e : 0 + j ≡ j = omega arith in rw e (omega arith)
place_mono b j (suc d) =
    let e : suc d + j ≡ suc (d + j) = omega arith in
    rw e (omega (arith, place_mono b j d, place-next b (d + j)))

-- the keys before one fit
abbrev pub KeysFit : List ℕ → ℕ → ℕ → Type 0
KeysFit b commits k = (j : ℕ) → j < k → KeyFits b (key_place b j) commits

pub keys-more : (b : List ℕ) (commits k : ℕ) {at : ℕ} → at ≡ key_place b k → KeyFits b at commits → KeysFit b commits k → KeysFit b commits (k + 1)
keys-more b commits k e here before j l = go (ℕ_discrete j k)
  where
    go : Dec (j ≡ k) → KeyFits b (key_place b j) commits
    go (yes q) = subst (λ (p : ℕ). KeyFits b p commits) (e ∙ ap (key_place b) (sym q)) here
    go (no q) = before j (omega arith)

-- ---- the entries and the keys

module _ (b : List ℕ) (n commits : ℕ) (k : n ≡ image_keys b) (c : commits ≡ image_commits b) where
  pub start_is : 8 + (8 + 8 * n) * commits ≡ key_place b 0
  unfolding key_place
  start_is = ap₂ (λ (x y : ℕ). 8 + commit_size x * y) k c

  -- the entries are all there
  pub body-long : BodyFits b → 8 + (8 + 8 * n) * commits ≤ length b
  body-long h =
      let e : image_keys b + 0 ≡ image_keys b = omega arith in
      omega (arith, start_is, place_mono b 0 (image_keys b), ap (key_place b) e, h.ends)
