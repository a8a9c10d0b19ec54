-- What is at hand where a commit is judged, from what its caller knows; and a commit that fails no clause. Assumes nothing.
use Rattle.std.specs.Prelude.{Option as CodeOption, None}
use Prim.Native.Nat.{ℕ, ◌<◌}
use mathlib.Core.Path.{◌≡◌, refl, sym, ap, ◌∙◌, subst}
use mathlib.Core.Bool.{Bool, true, false, not}
use mathlib.Core.Logic.{◌⊎◌, inl, inr, ⊎_elim, ◌↔◌}
use mathlib.Core.Option.{Option}
use mathlib.Core.List.{List}
use native.Mathlib.Omega.{arith}
use native.Mathlib.Decide.{ℕ_discrete}
use lib.Dec.{T}
use lib.Bits.{bit_and, and_le_r}
use lib.ListN.{get_or}
use borrow.Author.Tests.{not-false}
use Rattle.search.specs.Choose.{or_else}
use Rattle.search.proofs.Tests.{T?, true-T, same}
use Rattle.sets.specs.Set.{Set, has, insert, union, without}
use Rattle.sets.proofs.Laws.{has-none}
use Rattle.sets.proofs.Algebra.{empty-is, without_is}
use Rattle.dependencies.specs.History.{Holds}
use Rattle.store.specs.Store.{View, Store, Commit}
use Rattle.store.specs.Update.{update}
use Rattle.store.specs.Missing.{missing}
use Rattle.store.specs.Refusal.{all_of}
use Rattle.store.specs.History.{history, held}
use Rattle.growth.specs.Made.{Writes, Writer}
use Rattle.growth.proofs.Made.{keys-after, writer-after}
use Rattle.growth.specs.Views.{Lacking}
use Rattle.levels.specs.Level.{Level, clauses_of, Failure, fails_clauses}
use Rattle.state.specs.declared.Place.{Place}
use Rattle.state.specs.Places.{numbers, before_place}
use Rattle.state.specs.Keeps.{IsSet}
use Rattle.state.specs.Answers.{place_of}
use Rattle.state.proofs.Sets.{is_set-as, is_set-union, is_set-insert, is_set-without}
use Rattle.views.specs.Own.{AddsOwn}
use Rattle.views.proofs.OwnView.{own-lost-none, own-holds}
use Rattle.verdicts.specs.declared.Wanted.{Wanted}
use Rattle.verdicts.specs.declared.Held.{Held}
use Rattle.verdicts.specs.declared.Hand.{Hand}
use Rattle.verdicts.specs.AtHand.{AtHand, Judging, AfterCommit}
use Rattle.verdicts.specs.Verdicts.{level_count, level_at, clause_place, Live, FailingClauses, KeepsVerdict, KeepsVerdicts}
use Rattle.verdicts.proofs.FirstFailing.{none-failing}
use Rattle.verdicts.proofs.ByClause.{Marks, failing-is}
use Rattle.verdicts.proofs.Searches.{lost-is}
use Rattle.verdicts.proofs.Noted.{keeps-failure, nothing-new}

module _ {s : Store} {u : View} {c : Commit} {w : Wanted} {sight : Held} {versions keys commits views fresh values : List ℕ} {ranks : Set} {plain : Bool} {base n me : ℕ}
    (b : AfterCommit s u c w sight versions keys commits views fresh values ranks plain base n me) where
  -- where the view after is the view before and the commit's own versions, clause 1 misses nothing, and no search is made
  pub plain-lost : {lost : CodeOption Place} → not plain ≡ false → lost ≡ None → place_of lost ≡ missing s (all_of u) c.view_after
  plain-lost t e = ap place_of e ∙ own-lost-none s u c (b.adds-own (true-T plain (not-false plain t)))

  pub keys-are : s.keys ≡ n
  keys-are = sym (keys-after s u c b.made) ∙ b.arrays.number

  -- the writers of the store after it: those that the view before holds, those that it lacks, and the commit where it writes something
  writers-are : IsSet (union (union sight.before w.lacking) sight.own) (Writer (history (update s u c)))
  writers-are = is_set-as _ writer (is_set-union (union sight.before w.lacking) sight.own (is_set-union sight.before w.lacking b.holds b.wants.lacking) b.own)
    where
      before : (t : ℕ) → (Holds (history s) (held u) t ⊎ Lacking s u t) ↔ Writer (history s) t
      before t = (⊎_elim (λ (k, i, _, x). (k, (i, x))) (λ x. x.0), λ x. go x (T? (has sight.before t)))
        where
          go : Writer (history s) t → Dec (T (has sight.before t)) → Holds (history s) (held u) t ⊎ Lacking s u t
          go x (yes y) = inl ((b.holds t).0 y)
          go x (no y) = inr (x, λ z. y ((b.holds t).1 z))

      writer : (t : ℕ) → ((Holds (history s) (held u) t ⊎ Lacking s u t) ⊎ ((t ≡ me) × Writes c)) ↔ Writer (history (update s u c)) t
      writer t =
          let x = writer-after s u c b.made t in (
            ⊎_elim (λ y. x.1 (inl ((before t).0 y))) (λ (e, y). x.1 (inr (e ∙ sym b.number_is, y))),
            λ y. ⊎_elim (λ z. inl ((before t).1 z)) (λ (e, z). inr (e ∙ b.number_is, z)) (x.0 y),
          )

  -- what is at hand from there
  module _ (lost : CodeOption Place) (searched : place_of lost ≡ missing s (all_of u) c.view_after) {session absent : Set}
      (up_to_lem : session ≡ insert me (get_or commits (before_place me) 0)) (few : me < numbers)
      (left : absent ≡ without (union (union sight.before w.lacking) sight.own) sight.after) where
    abbrev hand : Hand
    hand = record { seen = sight.before; ranks = ranks; lost = lost; session = session; absent = absent; wanted = w }

    pub at-hand : AtHand s u c hand
    at-hand = record {
      made = b.made;
      view-after = b.view-after;
      wants = b.wants;
      lost-is = searched ∙ lost-is s u c b.made.view;
      session = rw (up_to_lem, b.number_is) (is_set-insert me _ (b.in-commits.before me few));
      lacking-after = rw left (is_set-without _ sight.after writers-are b.holds_after);
    }

    pub judging : Judging s u c hand values versions keys views fresh base n
    judging = record { at-hand = at-hand; holds = b.holds; operations = b.operations; arrays = b.arrays; masks = b.masks }

  -- where the view after is the view before and the commit's own versions, and the view before lacks nothing, no clause fails
  pub nothing-asked : plain ≡ true → w.lacking ≡ 0 → me < numbers → FailingClauses s u c w.live 0
  nothing-asked t e few =
      failing-is s u c _ (at-hand None (own-lost-none s u c adds) refl few refl) 0 0 0 0 0 0 0 0 0 (λ _. refl, λ _. refl)
      (λ _. refl, λ n. absurd (n refl)) (unmarked 2 (insert me (get_or commits (before_place me) 0)) absent none-absent) (unmarked 3 w.before w.lacking e) (unmarked 4 w.read w.lacking e)
      (unmarked 5 w.written w.lacking e) (unmarked 6 w.prefix w.lacking e) (unmarked 7 w.snapshot w.lacking e) (λ _. refl, λ n. absurd (n e)) refl
    where
      adds : AddsOwn s u c
      adds = b.adds-own (true-T plain t)

      unmarked : (clause x y : ℕ) → y ≡ 0 → Marks 0 clause (bit_and x y) 0
      unmarked clause x y z = (λ _. refl, λ n. absurd (n (omega (arith, and_le_r x y))))

      absent : Set
      absent = without (union (union sight.before w.lacking) sight.own) sight.after

      none-absent : absent ≡ 0
      none-absent = (empty-is absent).1 (λ a x. let y = (without_is _ sight.after a).0 x in y.1 ((b.holds_after a).1 ((held_after a).0 (kept a ((writer a).0 y.0)))))
        where
          held_after : IsSet (union sight.before sight.own) (Holds (history (update s u c)) (held c.view_after))
          held_after = own-holds s u c b.made adds sight.before sight.own b.holds (subst (λ (x : ℕ). IsSet sight.own (λ a. (a ≡ x) × Writes c)) (sym b.number_is) b.own)

          writer : IsSet (union (union sight.before w.lacking) sight.own) (λ a. (T (has sight.before a) ⊎ T (has w.lacking a)) ⊎ T (has sight.own a))
          writer = is_set-union (union sight.before w.lacking) sight.own (is_set-union sight.before w.lacking (λ a. same) (λ a. same)) (λ a. same)

          either : IsSet (union sight.before sight.own) (λ a. T (has sight.before a) ⊎ T (has sight.own a))
          either = is_set-union sight.before sight.own (λ a. same) (λ a. same)

          kept : (a : ℕ) → (T (has sight.before a) ⊎ T (has w.lacking a)) ⊎ T (has sight.own a) → T (has (union sight.before sight.own) a)
          kept a (inl (inl x)) = (either a).1 (inl x)
          kept a (inl (inr x)) = absurd (has-none a (subst (λ (m : Set). T (has m a)) e x))
          kept a (inr x) = (either a).1 (inr x)

-- where no clause fails that is asked for, the verdicts stay
pub no-clause-fails : (n : ℕ) (s : Store) (u : View) (c : Commit) {live failing : Set} → FailingClauses s u c live failing → failing ≡ 0
    → (fs : Level → Option Failure) {verdicts : List ℕ} → Live verdicts live → KeepsVerdicts fs verdicts → KeepsVerdicts (λ l. or_else (fs l) (fails_clauses n s u c (clauses_of l))) verdicts
no-clause-fails n s u c {live} {failing} h e fs {verdicts} asked k = record { room = k.room; verdict = λ i l. at i l (ℕ_discrete (get_or verdicts (clause_place i) 0) 0) }
  where
    at : (i : ℕ) → i < level_count → Dec (get_or verdicts (clause_place i) 0 ≡ 0) → KeepsVerdict verdicts i (or_else (fs (level_at i)) (fails_clauses n s u c (clauses_of (level_at i))))
    at i l (no x) = (keeps-failure verdicts i (fails_clauses n s u c (clauses_of (level_at i))) x).here (fs (level_at i)) (k.verdict i l)
    at i l (yes x) =
        (nothing-new verdicts i
        (none-failing n s u c live failing h (clauses_of (level_at i)) (asked i l x) (λ j t f. has-none j (subst (λ (m : Set). T (has m j)) e f)))
        ).here (fs (level_at i)) (k.verdict i l)
