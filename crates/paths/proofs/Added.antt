-- The links with a commit more: what the steps of the code make of the array, kind by kind. Assumes nothing.
use Prim.Native.Nat.{ℕ, zero, suc, ◌+◌, ◌*◌, ◌^◌, ◌≤◌, ◌<◌}
use mathlib.Core.Path.{◌≡◌, refl, sym, ◌∙◌, subst}
use mathlib.Core.Bool.{Bool}
use mathlib.Core.Logic.{◌⊎◌, inl, inr, ◌↔◌, ◌≢◌}
use mathlib.Core.List.{List}
use native.Mathlib.Omega.{arith}
use lib.Dec.{T}
use lib.ListN.{length, get_or, set, length-set}
use lib.Seq.{get_or-set_same, get_or-set_other}
use Rattle.search.proofs.Tests.{same, T?}
use Rattle.sets.specs.Set.{Set, has, union}
use Rattle.sets.proofs.Laws.{has-lt}
use Rattle.store.specs.Store.{Key, CommitNumber}
use Rattle.store.specs.Limits.{max_keys, numbers}
use Rattle.state.specs.Places.{link_place, lead_place}
use Rattle.state.specs.Room.{LinksRoom}
use Rattle.state.specs.Keeps.{IsSet}
use Rattle.state.proofs.Sets.{is_set-as, is_set-union}
use Rattle.paths.specs.Added.{BroughtBelow, Joined, of_kind, RowsOf, LeadsOf}

-- the links of one kind with a commit more
pub record AddedKind (kind : ℕ) (me : CommitNumber) (first into over ranks : Set) (n : ℕ) (before after : List ℕ) : Type 0 where
  pub new_row : IsSet (get_or after (link_place kind me) 0) (λ a. T (has into a) ⊎ BroughtBelow kind before ranks n a)
  pub old_row : (t : CommitNumber) → t < numbers → t ≢ me
      → IsSet (get_or after (link_place kind t) 0) (λ a. T (has (get_or before (link_place kind t) 0) a) ⊎ (T (has over t) × T (has first a)))
  pub lead : (k : Key) → k < n
      → IsSet (get_or after (lead_place kind k) 0) (λ a. T (has (get_or before (lead_place kind k) 0) a) ⊎ (T (has ranks (2 * k)) × T (has first a)))

-- the set at one place where words gain a set: at this place exactly where a test holds
gained : {P : ℕ → Set → Type 0} {before after : List ℕ} → Joined P before after → (j : ℕ) (gain : Set) (b : Bool) → (T b → P j gain) → ((g : Set) → P j g → T b)
    → IsSet (get_or after j 0) (λ a. T (has (get_or before j 0) a) ⊎ (T b × T (has gain a)))
gained {P} {before} {after} h j gain b there only = go (T? b)
  where
    Gained : ℕ → Type 0
    Gained a = T (has (get_or before j 0) a) ⊎ (T b × T (has gain a))

    with-gain : T b → (a : ℕ) → (T (has (get_or before j 0) a) ⊎ T (has gain a)) ↔ Gained a
    with-gain t a = (into, out)
      where
        into : T (has (get_or before j 0) a) ⊎ T (has gain a) → Gained a
        into (inl x) = inl x
        into (inr x) = inr (t, x)

        out : Gained a → T (has (get_or before j 0) a) ⊎ T (has gain a)
        out (inl x) = inl x
        out (inr (_, x)) = inr x

    without-gain : ¬ T b → (a : ℕ) → T (has (get_or before j 0) a) ↔ Gained a
    without-gain n a = (λ x. inl x, out)
      where
        out : Gained a → T (has (get_or before j 0) a)
        out (inl x) = x
        out (inr (t, _)) = absurd (n t)

    go : Dec (T b) → IsSet (get_or after j 0) Gained
    go (yes t) = subst (λ (w : ℕ). IsSet w Gained) (sym (h.gains j gain (there t))) (is_set-as (union (get_or before j 0) gain) (with-gain t) (is_set-union (get_or before j 0) gain (λ a. same) (λ a. same)))
    go (no n) = subst (λ (w : ℕ). IsSet w Gained) (sym (h.stays j (λ g p. n (only g p)))) (is_set-as (get_or before j 0) (without-gain n) (λ a. same))

module _ (me : ℕ) (first into over ranks : Set) (n : ℕ) (numbered : me < numbers) (few : n ≤ max_keys) (fits : over < 2 ^ 64)
    (before mid after : List ℕ) (room : LinksRoom before) (w₀ w₁ : Set) (pointed : Joined (RowsOf over first into) before mid)
    (brings : Joined (LeadsOf ranks n first into) (set (set mid me w₀) (numbers + me) w₁) after) where
  long : length after ≡ length before
  long = brings.long ∙ length-set (set mid me w₀) (numbers + me) w₁ ∙ length-set mid me w₀ ∙ pointed.long

  -- the array before the leads are noted: the rows of the commit, and the other words
  own_row : (kind : ℕ) → kind < 2 → get_or (set (set mid me w₀) (numbers + me) w₁) (link_place kind me) 0 ≡ of_kind w₀ w₁ kind
  own_row zero l =
      let e : link_place 0 me ≡ me = omega arith in
      rw e (get_or-set_other (set mid me w₀) (numbers + me) me w₁ 0 (λ x. absurd (omega arith)) ∙ get_or-set_same mid me w₀ 0 (omega (arith, pointed.long)))
  own_row (suc zero) l = get_or-set_same (set mid me w₀) (numbers + me) w₁ 0 (omega (arith, pointed.long, length-set mid me w₀))
  own_row (suc (suc k)) l = absurd (omega arith)

  other_word : (j : ℕ) → j ≢ me → j ≢ numbers + me → get_or (set (set mid me w₀) (numbers + me) w₁) j 0 ≡ get_or mid j 0
  other_word j x y = get_or-set_other (set mid me w₀) (numbers + me) j w₁ 0 y ∙ get_or-set_other mid me j w₀ 0 x

  module _ (kind : ℕ) (k2 : kind < 2) where
    -- places of rows and of leads are apart
    row-no-lead : (t : ℕ) → t < numbers → (g : Set) → ¬ LeadsOf ranks n first into (link_place kind t) g
    row-no-lead t l g (k, _, (_, (other, _, e, _))) = absurd (omega arith)

    lead-no-row : (k : ℕ) (g : Set) → ¬ RowsOf over first into (lead_place kind k) g
    lead-no-row k g (t, x, (other, l, e, _)) = absurd (omega (arith, has-lt 64 over t fits x))

    -- a row is at the place of its kind and commit alone, and a lead at that of its kind and key
    row_at : (t : ℕ) → t < numbers → (g : Set) → RowsOf over first into (link_place kind t) g → T (has over t)
    row_at t l g (b, x, (other, _, e, _)) = let q : b ≡ t = omega (arith, has-lt 64 over b fits x) in subst (λ (y : ℕ). T (has over y)) q x

    lead-at : (k : ℕ) → k < n → (g : Set) → LeadsOf ranks n first into (lead_place kind k) g → T (has ranks (2 * k))
    lead-at k l g (b, m, (x, (other, _, e, _))) = let q : b ≡ k = omega arith in subst (λ (y : ℕ). T (has ranks (2 * y))) q x

    row_kept : (t : ℕ) → t < numbers → t ≢ me → get_or after (link_place kind t) 0 ≡ get_or mid (link_place kind t) 0
    row_kept t l x = brings.stays (link_place kind t) (row-no-lead t l) ∙ other_word (link_place kind t) (λ e. x (omega arith)) (λ e. x (omega arith))

    -- leads before those of this commit are noted
    lead-kept : (k : ℕ) → get_or (set (set mid me w₀) (numbers + me) w₁) (lead_place kind k) 0 ≡ get_or before (lead_place kind k) 0
    lead-kept k = other_word (lead_place kind k) (λ e. absurd (omega arith)) (λ e. absurd (omega arith)) ∙ pointed.stays (lead_place kind k) (lead-no-row k)

    added-kind : (more : Set) → IsSet more (BroughtBelow kind before ranks n) → of_kind w₀ w₁ kind ≡ union into more
        → AddedKind kind me (of_kind first into kind) into over ranks n before after
    added-kind more is e = record {
      new_row = subst (λ (w : ℕ). IsSet w (λ a. T (has into a) ⊎ BroughtBelow kind before ranks n a)) (sym (brings.stays (link_place kind me) (row-no-lead me numbered) ∙ own_row kind k2 ∙ e)) (is_set-union into more (λ a. same) is);
      old_row = λ t l x. subst (λ (w : ℕ). IsSet w (λ a. T (has (get_or before (link_place kind t) 0) a) ⊎ (T (has over t) × T (has gain a)))) (sym (row_kept t l x)) (gained pointed (link_place kind t) gain (has over t) (λ y. (t, y, (kind, k2, refl, refl))) (row_at t l));
      lead = λ k l. subst (λ (w : ℕ). IsSet (get_or after (lead_place kind k) 0) (λ a. T (has w a) ⊎ (T (has ranks (2 * k)) × T (has gain a)))) (lead-kept k) (gained brings (lead_place kind k) gain (has ranks (2 * k)) (λ y. (k, l, (y, (kind, k2, refl, refl)))) (lead-at k l));
    }
      where
        gain : Set
        gain = of_kind first into kind

  pub added : (prefix snapshot : Set) → IsSet prefix (BroughtBelow 0 before ranks n) → IsSet snapshot (BroughtBelow 1 before ranks n) → w₀ ≡ union into prefix → w₁ ≡ union into snapshot
      → (length after ≡ length before) × AddedKind 0 me first into over ranks n before after × AddedKind 1 me into into over ranks n before after
  added prefix snapshot p s e f = (long, added-kind 0 (omega arith) prefix p e, added-kind 1 (omega arith) snapshot s f)

  -- what stands behind the leads stays
  pub notes-stay : (j : ℕ) → 2 * numbers + 2 * max_keys ≤ j → get_or after j 0 ≡ get_or before j 0
  notes-stay j l = brings.stays j no_lead ∙ other_word j (λ e. absurd (omega arith)) (λ e. absurd (omega arith)) ∙ pointed.stays j no_row
    where
      no_lead : (g : Set) → ¬ LeadsOf ranks n first into j g
      no_lead g (k, m, (_, (kind, b, e, _))) = absurd (omega (arith, few))

      no_row : (g : Set) → ¬ RowsOf over first into j g
      no_row g (t, x, (kind, b, e, _)) = absurd (omega (arith, has-lt 64 over t fits x))
