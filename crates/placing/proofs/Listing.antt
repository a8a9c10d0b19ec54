-- The commits that are placed, listed one behind the other: one turn of the loop. Assumes nothing.
use Prim.Native.Nat.{ℕ, suc, ◌+◌, ◌-◌, ◌≤◌, ◌<◌}
use mathlib.Core.Path.{◌≡◌, refl, sym, ap, ◌∙◌}
use mathlib.Core.Option.{Option, some, none}
use mathlib.Core.List.{List, [], ◌∷◌, ◌++◌, append_assoc, append-nil}
use native.Mathlib.Omega.{arith}
use native.Mathlib.Nat.{sub-zero}
use lib.ListN.{length, set, take, drop, length-append}
use lib.Seq.{length-take-le}
use Rattle.sets.specs.Set.{Set, insert}
use Rattle.endian.specs.Endian.{put_at}
use Rattle.endian.proofs.Put.{put-none, put_next, length-put, put-front}
use Rattle.text.proofs.Put.{put_one}
use Rattle.relations.specs.Relation.{Relation}
use Rattle.ordering.specs.Placing.{lowest_ready, and_then, place_next, lowest_ready_first, placed_with}

-- after i turns: the commits that are placed stand at the start of the list
pub record Listed (n : ℕ) (r : Relation) (before order : List ℕ) (placed : Set) (i : ℕ) : Type 0 where
  pub done : List ℕ
  pub long : length done ≡ i
  pub stands : order ≡ put_at before 0 done
  pub set-of : placed ≡ placed_with done 0
  pub whole : lowest_ready_first n r ≡ done ++ place_next (n - i) n r placed

placed-last : (done : List ℕ) (c : ℕ) (placed : Set) → placed_with (done ++ (c ∷ [])) placed ≡ insert c (placed_with done placed)
unfolding placed_with
placed-last [] c placed = refl
placed-last (d ∷ done) c placed = placed-last done c (insert d placed)

module _ (n : ℕ) (r : Relation) (d : List ℕ) (room : n ≤ length d) where
  pub listed_start : Listed n r (take n d) (take n d) 0 0
  unfolding placed_with
  listed_start = record {
    done = [];
    long = refl;
    stands = put-none (take n d) 0;
    set-of = refl;
    whole = ap (λ (m : ℕ). place_next m n r 0) (sym (sub-zero n));
  }

  module _ {order : List ℕ} {placed : Set} {i : ℕ} (h : Listed n r (take n d) order placed i) where
    rest_of : i < n → place_next (n - i) n r placed ≡ and_then (lowest_ready n r placed) (λ c. place_next (n - (i + 1)) n r (insert c placed))
    unfolding place_next
    rest_of l = ap (λ (m : ℕ). place_next m n r placed) (let e : n - i ≡ suc (n - (i + 1)) = omega arith in e)

    -- a commit is ready
    pub listed_next : {c : ℕ} → lowest_ready n r placed ≡ some c → i < n → {more : Set} → more ≡ insert c placed
        → Listed n r (take n d) (set order i c) more (i + 1)
    unfolding and_then
    listed_next {c} e l {more} add = record {
      done = h.done ++ (c ∷ []);
      long = length-append h.done (c ∷ []) ∙ omega (arith, h.long);
      stands = put_next (take n d) 0 i i h.done (c ∷ []) h.stands h.long (omega arith) (omega (arith, long)) (put_one order i c (omega (arith, kept, long))).stands;
      set-of = add ∙ ap (insert c) h.set-of ∙ sym (placed-last h.done c 0);
      whole =
          h.whole ∙ ap (λ (xs : List ℕ). h.done ++ xs) (rest_of l ∙ ap (λ (o : Option ℕ). and_then o (λ x. place_next (n - (i + 1)) n r (insert x placed))) e)
          ∙ sym (append_assoc h.done (c ∷ []) (place_next (n - (i + 1)) n r (insert c placed)))
          ∙ ap (λ (m : Set). (h.done ++ (c ∷ [])) ++ place_next (n - (i + 1)) n r m) (sym add);
    }
      where
        long : length (take n d) ≡ n
        long = length-take-le n d room

        kept : length order ≡ length (take n d)
        kept = ap length h.stands ∙ length-put (take n d) 0 h.done (omega (arith, h.long, long))

    ends : lowest_ready_first n r ≡ h.done → i ≤ n → (placed ≡ placed_with (lowest_ready_first n r) 0) × (order ++ drop n d ≡ put_at d 0 (lowest_ready_first n r))
    ends e l = (
      h.set-of ∙ ap (λ (xs : List ℕ). placed_with xs 0) (sym e),
      ap (λ (xs : List ℕ). xs ++ drop n d) h.stands ∙ put-front n d h.done (omega (arith, h.long)) room ∙ ap (put_at d 0) (sym e),
    )

    -- none is
    pub listed-stop : lowest_ready n r placed ≡ none → i < n → (placed ≡ placed_with (lowest_ready_first n r) 0) × (order ++ drop n d ≡ put_at d 0 (lowest_ready_first n r))
    unfolding and_then
    listed-stop e l =
        ends
        (h.whole ∙ ap (λ (xs : List ℕ). h.done ++ xs) (rest_of l ∙ ap (λ (o : Option ℕ). and_then o (λ x. place_next (n - (i + 1)) n r (insert x placed))) e)
        ∙ append-nil h.done)
        (omega arith)

    -- or all n are placed
    pub listed-full : i ≡ n → (placed ≡ placed_with (lowest_ready_first n r) 0) × (order ++ drop n d ≡ put_at d 0 (lowest_ready_first n r))
    unfolding place_next
    listed-full e =
        ends (h.whole ∙ ap (λ (m : ℕ). h.done ++ place_next m n r placed) (let z : n - i ≡ 0 = omega arith in z) ∙ append-nil h.done) (omega arith)
