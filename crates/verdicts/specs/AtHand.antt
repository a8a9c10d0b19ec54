-- What is at hand where a commit is judged. Assumes nothing.
use Rattle.std.specs.Prelude.{ℕ, ◌≡◌, Bool, List, T}
use Rattle.sets.specs.Set.{Set}
use Rattle.dependencies.specs.History.{Holds}
use Rattle.store.specs.Store.{View, Store, next_number, Commit}
use Rattle.store.specs.Update.{update}
use Rattle.store.specs.View.{IsView}
use Rattle.store.specs.History.{history, held}
use Rattle.growth.specs.Made.{Made, Writes}
use Rattle.growth.specs.Sessions.{UpTo}
use Rattle.growth.specs.Views.{Lacking}
use Rattle.levels.specs.Clause.{monotonic_reads, missing_by}
use Rattle.state.specs.Keeps.{IsSet, KeepsCommits, KeepsMasks, KeepsOperations}
use Rattle.state.specs.Answers.{place_of}
use Rattle.views.specs.Rules.{StoreAndView}
use Rattle.views.specs.Own.{AddsOwn}
use Rattle.verdicts.specs.declared.Wanted.{Wanted}
use Rattle.verdicts.specs.declared.Held.{Held}
use Rattle.verdicts.specs.declared.Hand.{Hand}
use Rattle.verdicts.specs.Wants.{Wants}

-- commit c is made on view u of store s, and its view after is a view: what clause 1 finds missing, and the commits that the others want, clause 2 of the view
-- after and clauses 3 to 8 of u
pub record AtHand (s : Store) (u : View) (c : Commit) (h : Hand) : Type 0 where
  pub made : Made s u c
  pub view-after : IsView (update s u c) c.view_after
  pub wants : Wants s u c h.wanted
  pub lost-is : place_of h.lost ≡ missing_by s u c monotonic_reads
  pub session : IsSet h.session (UpTo (history (update s u c)) (next_number s))
  pub lacking-after : IsSet h.absent (Lacking (update s u c) c.view_after)

-- and the arrays in which the missing versions are searched: they keep the store after the commit, u from `base` on, and the view after in `fresh`
pub record Judging (s : Store) (u : View) (c : Commit) (h : Hand) (values versions keys views fresh : List ℕ) (base n : ℕ) : Type 0 where
  pub at-hand : AtHand s u c h
  pub holds : IsSet h.seen (Holds (history s) (held u))
  pub operations : KeepsOperations c h.ranks values
  pub arrays : StoreAndView (update s u c) u n versions keys views base
  pub masks : KeepsMasks n c.view_after fresh

-- where the levels are asked: what the caller knows of the views before and after, and where `plain` says so, that the view after is u and the commit's own
-- versions
pub record AfterCommit (s : Store) (u : View) (c : Commit) (w : Wanted) (sight : Held) (versions keys commits views fresh values : List ℕ) (ranks : Set) (plain : Bool)
    (base n me : ℕ) : Type 0 where
  pub made : Made s u c
  pub view-after : IsView (update s u c) c.view_after
  pub number_is : next_number s ≡ me
  pub arrays : StoreAndView (update s u c) u n versions keys views base
  pub in-commits : KeepsCommits (update s u c) commits
  pub wants : Wants s u c w
  pub holds : IsSet sight.before (Holds (history s) (held u))
  pub holds_after : IsSet sight.after (Holds (history (update s u c)) (held c.view_after))
  pub own : IsSet sight.own (λ t. (t ≡ me) × Writes c)
  pub operations : KeepsOperations c ranks values
  pub masks : KeepsMasks n c.view_after fresh
  pub adds-own : T plain → AddsOwn s u c
