-- What the call answers, case by case, and that the claim holds of every image. Assumes nothing.
use Prim.Native.Nat.{ℕ, ◌≤◌, ◌<◌}
use mathlib.Core.Path.{◌≡◌, refl, sym, ap, ◌∙◌, subst, fun_ext}
use mathlib.Core.Bool.{true, false}
use mathlib.Core.List.{List}
use lib.Dec.{T, leb}
use lib.ListN.{length}
use Rattle.search.specs.Choose.{need}
use Rattle.search.proofs.Steps.{tests, need-met, need-unmet}
use Rattle.search.proofs.Tests.{true-T}
use Rattle.sets.specs.Set.{Set}
use Rattle.endian.specs.Endian.{le_at, put_at}
use Rattle.store.specs.Limits.{max_commits}
use Rattle.store.specs.Refusal.{refuse}
use Rattle.trace.specs.Result.{Result, refused, taken, on_taken}
use Rattle.ordering.specs.Links.{links, Between}
use Rattle.ordering.specs.Judge.{Shown, shown_commits, order_or_ring, judge_bare}
use Rattle.ordering.specs.Rows.{links_in, KeepLinks}
use Rattle.ordering.proofs.Shape.{WellFormed, links-between}
use Rattle.placing.specs.Answers.{shown_as}
use Rattle.store.specs.Reading.{store_of}
use Rattle.reading.specs.Shape.{well_shaped}
use Rattle.reading.proofs.Shaped.{Shaped, shaped-is, shaped-store}
use Rattle.arranging.specs.Answer.{shown_for, shown_in, shown_answer, with_shown, shown_after}

-- ---- the image is misshapen

module _ (b : List ℕ) (bad : well_shaped b ≡ false) where
  pub misshapen : shown_for b ≡ refused (refuse 20 0)
  unfolding shown_for
  misshapen = sym (need-unmet (well_shaped b) (refused (refuse 20 0)) (taken (judge_bare (store_of b))) bad)

  pub twenty-first : (room : ℕ) → shown_in b room ≡ refused (refuse 20 0)
  unfolding shown_in on_taken
  twenty-first room = ap (λ (r : Result Shown). on_taken r (λ s. need (leb max_commits room) (refused (refuse 17 0)) (taken s))) misshapen

-- ---- it is not

module _ (b : List ℕ) (good : well_shaped b ≡ true) where
  shaped : T (well_shaped b)
  shaped = true-T (well_shaped b) good

  pub shaped-for : shown_for b ≡ taken (judge_bare (store_of b))
  unfolding shown_for
  shaped-for = sym (need-met (well_shaped b) (refused (refuse 20 0)) (taken (judge_bare (store_of b))) good refl)

  in-room : (room : ℕ) → shown_in b room ≡ need (leb max_commits room) (refused (refuse 17 0)) (taken (judge_bare (store_of b)))
  unfolding shown_in on_taken
  in-room room = ap (λ (r : Result Shown). on_taken r (λ s. need (leb max_commits room) (refused (refuse 17 0)) (taken s))) shaped-for

  -- the buffer is too short
  module _ (room : ℕ) (short : room < max_commits) where
    too_short : shown_in b room ≡ refused (refuse 17 0)
    too_short = in-room room ∙ sym (need-unmet (leb max_commits room) (refused (refuse 17 0)) (taken (judge_bare (store_of b))) (omega tests))

    pub short-answer : refused (refuse 17 0) ≡ shown_answer b room
    unfolding shown_answer on_taken
    short-answer = sym (ap (λ (r : Result Shown). on_taken r (λ s. taken (shown_as s))) too_short)

  pub short-after : (buffer : List ℕ) → length buffer < max_commits → buffer ≡ shown_after b buffer
  unfolding with_shown
  short-after buffer short = sym (ap (λ (r : Result Shown). with_shown r buffer) (too_short (length buffer) short))

  -- what the bytes are like
  parts : Shaped b
  parts = (shaped-is b).0 shaped

  pub shaped-long : 8 ≤ length b
  shaped-long = parts.head.long

  formed : WellFormed (store_of b)
  formed = shaped-store b shaped

  pub few-commits : le_at b 5 1 ≤ max_commits
  few-commits = parts.head.few-commits

  -- and the rows that keep its links
  module _ (rows : List Set) (keep : KeepLinks rows (links (store_of b))) {n : ℕ} (count : n ≡ le_at b 5 1) where
    same-links : links_in rows ≡ links (store_of b)
    same-links = fun_ext (λ a. fun_ext (λ c. keep a c))

    pub rows-between : Between n (links_in rows)
    unfolding store_of
    rows-between = subst (λ (k : ℕ). Between k (links_in rows)) (sym count) (subst (Between (store_of b).commits) (sym same-links) (links-between (store_of b) formed))

    judged : order_or_ring n (links_in rows) ≡ judge_bare (store_of b)
    unfolding judge_bare store_of
    judged = ap (λ (k : ℕ). order_or_ring k (links_in rows)) count ∙ ap (order_or_ring (store_of b).commits) same-links

    module _ (room : ℕ) (wide : max_commits ≤ room) where
      enough : shown_in b room ≡ taken (judge_bare (store_of b))
      enough = in-room room ∙ sym (need-met (leb max_commits room) (refused (refuse 17 0)) (taken (judge_bare (store_of b))) (omega tests) refl)

      pub whole-answer : taken (shown_as (order_or_ring n (links_in rows))) ≡ shown_answer b room
      unfolding shown_answer on_taken
      whole-answer = ap (λ s. taken (shown_as s)) judged ∙ sym (ap (λ (r : Result Shown). on_taken r (λ s. taken (shown_as s))) enough)

    pub whole-after : (buffer : List ℕ) → max_commits ≤ length buffer → put_at buffer 0 (shown_commits (order_or_ring n (links_in rows))) ≡ shown_after b buffer
    unfolding with_shown
    whole-after buffer wide =
        ap (λ s. put_at buffer 0 (shown_commits s)) judged ∙ sym (ap (λ (r : Result Shown). with_shown r buffer) (enough (length buffer) wide))
