-- Sets of commits by their versions. Assumes nothing.
use Prim.Native.Nat.{ℕ, ◌+◌, ◌*◌, ◌^◌, ◌≤◌, ◌<◌}
use mathlib.Core.Path.{◌≡◌, sym, subst}
use mathlib.Core.Logic.{◌⊎◌, inl, inr}
use mathlib.Core.List.{List}
use native.Mathlib.Omega.{arith}
use lib.Dec.{T}
use lib.Bits.{bit_and}
use lib.ListN.{get_or, replicate, get_or-replicate}
use Rattle.search.proofs.Tests.{same}
use Rattle.sets.specs.Set.{Set, has, insert, without, below, width}
use Rattle.sets.proofs.Laws.{has-none, has-lt, has-below, size_word}
use Rattle.sets.proofs.Algebra.{both_is}
use Rattle.store.specs.Limits.{max_keys}
use Rattle.state.specs.Keeps.{IsSet}
use Rattle.state.proofs.Sets.{is_set-as, is_set-insert, is_set-without}
use Rattle.trying.specs.Recorded.{versions_of, Exists, writer_at, readers_at, StoredIn, HeldIn, WroteOne}
use Rattle.trying.specs.Tries.{ChosenAt, Chosen}

-- the writer of a version that is chosen, and its readers that are asked for
pub chosen-version : (versions masks : List ℕ) (base : ℕ) (ranks readers : Set) (k i : ℕ) {w r : ℕ} → T (has (get_or masks (base + k) 0) i) → T (has ranks (2 * k + 1))
    → w ≡ writer_at versions k i → r ≡ insert w (bit_and (readers_at versions k i) readers) → IsSet r (ChosenAt versions masks base ranks readers k i)
chosen-version versions masks base ranks readers k i x y d e =
    rw (e, d) (is_set-as _ (λ t. (out t, back t)) (is_set-insert (writer_at versions k i) (bit_and (readers_at versions k i) readers) (both_is (readers_at versions k i) readers)))
  where
    out : (t : ℕ) → (t ≡ writer_at versions k i) ⊎ (T (has (readers_at versions k i) t) × T (has readers t)) → ChosenAt versions masks base ranks readers k i t
    out t (inl z) = ((x, y), inl (sym z))
    out t (inr z) = ((x, y), inr z)

    back : (t : ℕ) → ChosenAt versions masks base ranks readers k i t → (t ≡ writer_at versions k i) ⊎ (T (has (readers_at versions k i) t) × T (has readers t))
    back t (_, inl z) = inl (sym z)
    back t (_, inr z) = inr z

-- ---- what is chosen

-- every entry of an array is a word
abbrev pub Words : List ℕ → Type 0
Words xs = (i : ℕ) → get_or xs i 0 < 2 ^ 64

-- the set of every number
abbrev every : Set
every = below width

in-every : (i : ℕ) → i < 64 → T (has every i)
in-every i l = has-below 64 i l

pub few-versions : (keys : List ℕ) → Words keys → (k i : ℕ) → i < versions_of keys k → i < 64
few-versions keys words k i l = let m : versions_of keys k ≤ 64 = size_word _ (words k) in omega arith

module _ (versions keys : List ℕ) (n : ℕ) (few : n ≤ max_keys) where
  pub held-chosen : (masks : List ℕ) (base : ℕ) (r : Set) → IsSet r (Chosen versions keys masks base every 0 n) → IsSet r (HeldIn versions keys masks base n)
  held-chosen masks base r = is_set-as r (λ t. (out t, λ (k, i, x, (y, e)). (k, i, x, ((y, in-every (2 * k + 1) (let l : k < n = x.0 in omega arith)), inl e))))
    where
      out : (t : ℕ) → Chosen versions keys masks base every 0 n t → HeldIn versions keys masks base n t
      out t (k, i, x, ((y, _), inl e)) = (k, i, x, (y, e))
      out t (k, i, x, (_, inr (_, none))) = absurd (has-none t none)

  abbrev all : List ℕ
  all = replicate max_keys every

  in_all : (k i : ℕ) → k < n → i < 64 → T (has (get_or all (0 + k) 0) i)
  in_all k i l m = subst (λ (x : Set). T (has x i)) (sym (get_or-replicate max_keys (0 + k) every 0 (omega arith))) (in-every i m)

  module _ (words : Words keys) where
    pub writers-chosen : (ranks : Set) (r : Set) → IsSet r (Chosen versions keys all 0 ranks 0 n) → IsSet r (WroteOne versions keys ranks n)
    writers-chosen ranks r = is_set-as r (λ t. (out t, λ (k, i, x, (y, e)). (k, i, x, ((in_all k i x.0 (few-versions keys words k i x.1), y), inl e))))
      where
        out : (t : ℕ) → Chosen versions keys all 0 ranks 0 n t → WroteOne versions keys ranks n t
        out t (k, i, x, ((_, y), inl e)) = (k, i, x, (y, e))
        out t (k, i, x, (_, inr (_, none))) = absurd (has-none t none)

    pub stored-chosen : Words versions → (r : Set) → IsSet r (Chosen versions keys all 0 every every n) → IsSet r (StoredIn versions keys n)
    stored-chosen readers r = is_set-as r (λ t. (out t, back t))
      where
        out : (t : ℕ) → Chosen versions keys all 0 every every n t → StoredIn versions keys n t
        out t (k, i, x, (_, inl e)) = (k, i, x, inl e)
        out t (k, i, x, (_, inr (y, _))) = (k, i, x, inr y)

        chosen : (k i : ℕ) → Exists keys n k i → T (has (get_or all (0 + k) 0) i) × T (has every (2 * k + 1))
        chosen k i x = (in_all k i x.0 (few-versions keys words k i x.1), in-every (2 * k + 1) (let l : k < n = x.0 in omega arith))

        back : (t : ℕ) → StoredIn versions keys n t → Chosen versions keys all 0 every every n t
        back t (k, i, x, inl e) = (k, i, x, (chosen k i x, inl e))
        back t (k, i, x, inr y) = (k, i, x, (chosen k i x, inr (y, in-every t (has-lt 64 _ t (readers _) y))))

-- those of a set that are not in another
pub not-among : {P : ℕ → Type 0} (w seen : Set) {r : Set} → IsSet w P → r ≡ without w seen → IsSet r (λ t. P t × (¬ T (has seen t)))
not-among w seen is e = rw e (is_set-without w seen is (λ t. same))
