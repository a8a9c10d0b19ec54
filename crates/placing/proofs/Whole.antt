-- What is shown in the end: an order where every commit was placed, and else the ring that is found from the lowest that was not. Assumes nothing.
use Prim.Native.Nat.{ℕ, suc, ◌+◌, ◌^◌, ◌≤◌, ◌<◌}
use mathlib.Core.Path.{◌≡◌, sym, ap, ◌∙◌, subst}
use mathlib.Core.Option.{Option, some, none}
use mathlib.Core.List.{List}
use native.Mathlib.Omega.{arith}
use lib.Dec.{T}
use lib.ListN.{length, take, drop}
use lib.Seq.{take_at}
use Rattle.search.specs.Search.{least}
use Rattle.search.proofs.Search.{least-none, least-found}
use Rattle.sets.specs.Set.{Set, has, without, lowest}
use Rattle.sets.proofs.Laws.{has-lowest, lowest-least}
use Rattle.sets.proofs.Algebra.{empty-is}
use Rattle.endian.specs.Endian.{put_at}
use Rattle.text.specs.Put.{Put}
use Rattle.text.proofs.Put.{put-start}
use Rattle.ordering.specs.Links.{Between}
use Rattle.ordering.specs.Shape.{commit_set}
use Rattle.ordering.specs.Placing.{unplaced, ready, lowest_ready, lowest_ready_first, placed_with}
use Rattle.ordering.specs.Ring.{ring_from}
use Rattle.ordering.specs.Judge as Judge
use Rattle.ordering.specs.Judge.{order_unless, order_or_ring, shown_commits}
use Rattle.ordering.specs.Rows.{links_in}
use Rattle.ordering.proofs.Lists.{each-once-length}
use Rattle.ordering.proofs.Placing.{all_placed, none-ready, left_is}
use Rattle.ordering.proofs.Rings.{ring-found, ring-commits}
use Rattle.placing.specs.declared.Shown.TheVariants.{Order, Ring}
use Rattle.placing.specs.Answers.{shown_as}
use Rattle.placing.proofs.Ready.{unplaced-is}

module _ (rows : List Set) (n : ℕ) (between : Between n (links_in rows)) {placed left : Set}
    (all : placed ≡ placed_with (lowest_ready_first n (links_in rows)) 0) (rest : left ≡ without (commit_set n) placed) where
  abbrev cs : List ℕ
  cs = lowest_ready_first n (links_in rows)

  abbrev end : Set
  end = placed_with cs 0

  -- what is in `left` is not placed
  left-has : (c : ℕ) → T (has left c) → T (unplaced n end c)
  left-has c t = subst (λ (p : Set). T (unplaced n p c)) all ((unplaced-is n placed c).0 (subst (λ (m : Set). T (has m c)) rest t))

  has_left : (c : ℕ) → T (unplaced n end c) → T (has left c)
  has_left c t = subst (λ (m : Set). T (has m c)) (sym rest) ((unplaced-is n placed c).1 (subst (λ (p : Set). T (unplaced n p c)) (sym all) t))

  shown-is : (o : Option ℕ) → least (suc n) (unplaced n end) ≡ o → order_or_ring n (links_in rows) ≡ order_unless n (links_in rows) cs o
  unfolding order_or_ring
  shown-is o e = ap (order_unless n (links_in rows) cs) e

  -- ---- every commit is placed

  module _ (none_left : left ≡ 0) where
    no_more : (c : ℕ) → c < suc n → ¬ T (unplaced n end c)
    no_more c l t = (empty-is left).0 none_left c (has_left c t)

    shown-order : order_or_ring n (links_in rows) ≡ Judge.order cs
    unfolding order_unless
    shown-order = shown-is none ((least-none (suc n) (unplaced n end)).1 no_more)

    order-long : length cs ≡ n
    order-long = each-once-length n cs (all_placed n (links_in rows) between no_more)

    -- n bytes of the list are the order
    pub ends-order : (before : List ℕ) {list out after : List ℕ} {count : ℕ} → list ≡ put_at before 0 cs → Put out 0 (take n list) after count
        → (Order count ≡ shown_as (order_or_ring n (links_in rows))) × (after ≡ put_at out 0 (shown_commits (order_or_ring n (links_in rows))))
    ends-order before {list} {out} {after} {count} stands put =
        let bytes : take n list ≡ cs = ap (take n) stands ∙ take_at cs (drop (0 + length cs) before) n order-long in
        let told = put-start put in (
          ap Order (told.0 ∙ ap length bytes) ∙ ap shown_as (sym shown-order),
          told.1 ∙ ap (put_at out 0) bytes ∙ ap (λ (s : Judge.Shown). put_at out 0 (shown_commits s)) (sym shown-order),
        )

  -- ---- some commit is not

  module _ (some_left : 0 < left) (word : left < 2 ^ 64) {start : ℕ} (is-lowest : start ≡ lowest left) where
    start_left : T (has left start)
    start_left = subst (λ (x : ℕ). T (has left x)) (sym is-lowest) (has-lowest left some_left word)

    -- it is not placed, and no commit is ready
    pub walk-stuck : (lowest_ready n (links_in rows) placed ≡ none) × T (unplaced n placed start)
    unfolding lowest_ready
    walk-stuck =
        let no-more = none-ready n (links_in rows) between in (
          ap (λ (p : Set). least (suc n) (ready n (links_in rows) p)) all ∙ (least-none (suc n) (ready n (links_in rows) end)).1 (λ c l. no-more c),
          subst (λ (p : Set). T (unplaced n p start)) (sym all) (left-has start start_left),
        )

    start-low : start < suc n
    start-low = let c = ((left_is n end start).0 (left-has start start_left)).0.1 in omega (arith, c)

    shown-ring : order_or_ring n (links_in rows) ≡ Judge.ring (ring_from n (links_in rows) placed start)
    unfolding order_unless
    shown-ring =
        shown-is (some start) (least-found (suc n) (unplaced n end) start start-low (left-has start start_left)
        (λ j l t. let m = lowest-least left some_left word j (has_left j t) in omega (arith, m)))
        ∙ ap (λ (p : Set). Judge.ring (ring_from n (links_in rows) p start)) (sym all)

    pub ring_long : length (ring_from n (links_in rows) placed start) ≤ n
    ring_long =
        subst (λ (p : Set). length (ring_from n (links_in rows) p start) ≤ n) (sym all)
        (ring-commits n (links_in rows) between _ (ring-found (links_in rows) n between end (none-ready n (links_in rows) between) start (left-has start start_left))).1

    -- the part of the list is the ring
    pub ends-ring : {part out after : List ℕ} {count : ℕ} → part ≡ ring_from n (links_in rows) placed start → Put out 0 part after count
        → (Ring count ≡ shown_as (order_or_ring n (links_in rows))) × (after ≡ put_at out 0 (shown_commits (order_or_ring n (links_in rows))))
    ends-ring {part} {out} {after} {count} bytes put =
        let told = put-start put in (
          ap Ring (told.0 ∙ ap length bytes) ∙ ap shown_as (sym shown-ring),
          told.1 ∙ ap (put_at out 0) bytes ∙ ap (λ (s : Judge.Shown). put_at out 0 (shown_commits s)) (sym shown-ring),
        )
