-- The codes of a commit, case by case. Assumes nothing.
use Prim.Native.Nat.{ℕ, ◌+◌, ◌*◌, ◌≤◌, ◌<◌}
use mathlib.Core.Path.{◌≡◌, sym, ap, ◌∙◌, subst, subst₂}
use mathlib.Core.Bool.{Bool, ◌&&◌}
use mathlib.Core.Logic.{◌↔◌}
use mathlib.Core.Option.{Option, some, none}
use mathlib.Core.List.{List}
use native.Mathlib.Omega.{arith}
use lib.Dec.{T, eqb, ltb, leb}
use lib.ListN.{get_or, set}
use Rattle.search.specs.Choose.{map_some, when, or_else, first_some}
use Rattle.search.specs.Search.{any}
use Rattle.search.proofs.Tests.{both, and_is, eq_is, lt-is, le_is, or_else-none}
use Rattle.search.proofs.Search.{any-is}
use Rattle.dependencies.specs.History as D
use Rattle.sets.specs.Set.{Set}
use Rattle.store.specs.Limits.{max_keys, max_clients}
use Rattle.store.specs.Store.{Store, Configuration, next_number, Commit, commit}
use Rattle.store.specs.Update.{step, view_before, store_after}
use Rattle.store.specs.Refusal.{Refusal, refuse, refuse_key, refuse_read, not_above, old_number, wrong_read, stray, refuses_event}
use Rattle.store.specs.History.{InLog, history, held}
use Rattle.store.specs.View.{IsView, FitsView}
use Rattle.store.proofs.Sound.{view-of-grown-store}
use Rattle.store.proofs.Legal.{view-is}
use Rattle.growth.specs.Made.{Made, Writes}
use Rattle.growth.proofs.Made.{keys-after, sound-after, number-after}
use Rattle.growth.proofs.Ordered.{ordered-commit}
use Rattle.growth.proofs.Views.{holds_kept}
use Rattle.state.specs.Places.{view_place, stored_row, bar_place}
use Rattle.state.specs.Keeps.{IsSet, KeepsSessions, KeepsViews}
use Rattle.state.proofs.Sets.{is_set-as}
use Rattle.views.specs.Rows.{Moved}
use Rattle.views.specs.Viewed.{NewMasks}
use Rattle.shifts.specs.Outcomes.{mask_refusal}
use Rattle.shifts.proofs.Refused.{good-masks, third-or}
use Rattle.shifts.proofs.Replaced.{commit-replaces}
use Rattle.levels.specs.Level.{Level, Failure, fails_event, fails_clauses, clauses_of}
use Rattle.trying.specs.declared.Tried.{Tried}
use Rattle.verdicts.specs.Verdicts.{KeepsVerdicts}
use Rattle.commits.specs.Codes.{late_refusal, LateGiven, JudgeGiven}
use Rattle.commits.specs.Engines.{JudgedAfter}

-- the codes of a commit: 9, then 13, and then those after it is made
pub codes-in-turn : (i : ℕ) (g : Configuration) (c : Commit)
    → refuses_event i g (commit c) ≡ or_else (when (old_number g.store c) (refuse 9 i)) (or_else (map_some (refuse_read i) (wrong_read g.store (view_before g c) c)) (late_refusal i g c))
unfolding refuses_event late_refusal mask_refusal first_some
codes-in-turn i g c = ap (λ (late : Option Refusal). or_else (when (old_number g.store c) (refuse 9 i)) (or_else (map_some (refuse_read i) (wrong_read g.store (view_before g c) c)) late)) (third-or _ _ _)

-- ---- code 9

-- the session number is below the bar exactly where it is too small
pub old-is : (s : Store) (c : Commit) (sessions : List ℕ) → KeepsSessions s sessions → c.client < max_clients
    → T (old_number s c) ↔ (c.session < get_or sessions (bar_place c.client) 0)
unfolding old_number
old-is s c sessions k b = both (both found same) ((k.bar c.client b c.session).1, (k.bar c.client b c.session).0)
  where
    Above : ℕ → Type 0
    Above t = (0 < t) × ((s.client_of t ≡ c.client) × (c.session ≤ s.session_of t))

    found : T (any (next_number s) (not_above s c)) ↔ ((t : ℕ) × (t < next_number s) × Above t)
    found = any-is (next_number s) (not_above s c) (λ t.
        and_is (ltb 0 t) (eqb (s.client_of t) c.client && leb c.session (s.session_of t)) (lt-is 0 t)
        (and_is (eqb (s.client_of t) c.client) (leb c.session (s.session_of t)) (eq_is _ _) (le_is _ _)))

    same : ((t : ℕ) × (t < next_number s) × Above t) ↔ ((t : ℕ) × InLog s c.client t × (c.session ≤ s.session_of t))
    same = (λ (t, l, (p, (e, q))). (t, (p, l, e), q), λ (t, (p, l, e), q). (t, l, (p, (e, q))))

-- ---- after it is made

module _ (i : ℕ) (g : Configuration) (c : Commit) where
  pub late-bad : {a : Refusal} → mask_refusal i (store_after g c) c.view_after ≡ some a → some a ≡ late_refusal i g c
  unfolding late_refusal or_else
  late-bad e = rw e

  pub late-stray : {a : Refusal} {k : ℕ} → mask_refusal i (store_after g c) c.view_after ≡ none → stray g.store (view_before g c) c ≡ some k → a ≡ refuse_key 14 i k
      → some a ≡ late_refusal i g c
  unfolding late_refusal or_else map_some
  late-stray e d q = rw (q, e, d)

  -- no code is due: the view after is a view
  pub late-view : Made g.store (view_before g c) c → none ≡ late_refusal i g c → IsView (store_after g c) c.view_after
  unfolding late_refusal
  late-view made e =
      let m = ((or_else-none (mask_refusal i (store_after g c) c.view_after) (map_some (refuse_key 14 i) (stray g.store (view_before g c) c))).0 (sym e)).0 in
      (view-is (store_after g c) (sound-after g.store (view_before g c) c made) c.view_after (rw (keys-after g.store (view_before g c) c made) made.fits.after)).0 (good-masks i _ _ m)

  pub late-none : mask_refusal i (store_after g c) c.view_after ≡ none → stray g.store (view_before g c) c ≡ none → none ≡ late_refusal i g c
  unfolding late_refusal or_else map_some
  late-none e d = rw (e, d)

-- what is known of the view before, and what the search of the masks is given
module _ {g : Configuration} {c : Commit} {values versions keys fresh views seen : List ℕ} {client : ℕ} {ranks : Set} {n me : ℕ}
    (l : LateGiven g c values versions keys fresh views seen client ranks n me) (b : client < max_clients) where
  pub late-holds : IsSet (get_or seen client 0) (D.Holds (history g.store) (held (view_before g c)))
  late-holds = subst (λ (d : ℕ). IsSet (get_or seen client 0) (D.Holds (history g.store) (held (g.views d)))) (sym l.client-is) (l.in-views.holds client b)

  pub late-masks : NewMasks (store_after g c) (view_before g c) c.view_after n versions keys views (max_keys * client) (get_or seen client 0) fresh
  late-masks = record {
    arrays = record {
      number = keys-after g.store (view_before g c) c l.made ∙ l.keys-are;
      sound = sound-after g.store (view_before g c) c l.made;
      few = omega (arith, l.room-left, number-after g.store (view_before g c) c l.made);
      in-versions = l.in-versions;
      in-keys = l.in-keys;
      in-masks = row;
    };
    ordered = ordered-commit g.store (view_before g c) c l.made l.ordered;
    view = view-of-grown-store g.store (view_before g c) c l.made.sound (view_before g c) l.made.view;
    seen-is = is_set-as _ (λ t. let x = holds_kept g.store (view_before g c) c l.made (view_before g c) l.made.view t in (x.1, x.0)) late-holds;
    in-fresh = l.in-fresh;
    fits = subst (λ (k : ℕ). FitsView k c.view_after) l.keys-are l.made.fits.after;
  }
    where
      row : (k : ℕ) → k < n → get_or views (max_keys * client + k) 0 ≡ view_before g c k
      row k p = l.in-views.rows client b k (omega (arith, l.keys-are)) ∙ ap (λ (d : ℕ). g.views d k) (sym l.client-is)

  -- the views after it, where the view before is stored and the masks are kept as the client's
  pub late-kept : n ≤ max_keys → {views' : List ℕ} (m : ℕ) → Moved fresh (max_keys * client) (view_place (stored_row me) 0) n views views'
      → IsSet m (D.Holds (history (store_after g c)) (held c.view_after)) → KeepsViews (step g (commit c)) views' (set seen client m)
  late-kept few {views'} m k s =
      let own : c.client < max_clients = let e = l.client-is in omega arith in
      subst (λ (d : ℕ). KeepsViews (step g (commit c)) views' (set seen d m)) l.client-is
      (commit-replaces g c n l.sound l.made few l.keys-are own views views' seen fresh m l.in-views l.in-fresh
      (subst₂ (λ (d t : ℕ). Moved fresh (max_keys * d) (view_place (stored_row t) 0) n views views') (sym l.client-is) (sym l.number_is) k) s)

  -- what the levels are given, where no code is due
  pub judged-after : (i : ℕ) {tried : Tried} {plain : Bool} {commits verdicts : List ℕ} → JudgeGiven g c tried plain commits verdicts → {own m : Set} → IsSet own (λ t. (t ≡ me) × Writes c)
      → (none ≡ late_refusal i g c) × IsSet m (D.Holds (history (store_after g c)) (held c.view_after))
      → JudgedAfter g.store (view_before g c) c tried m own versions keys commits views fresh values ranks plain (max_keys * client) n me
  judged-after i j new says = record {
    clients-fit = j.clients-fit;
    client-below = let e = l.client-is in omega arith;
    after-commit = record {
      made = l.made;
      view-after = late-view i g c l.made says.0;
      number_is = l.number_is;
      arrays = late-masks.arrays;
      in-commits = j.in-commits;
      wants = j.wants;
      holds = j.holds;
      holds_after = says.1;
      own = new;
      operations = l.operations;
      masks = l.in-fresh;
      adds-own = j.adds-own;
    };
  }

-- the failures of a commit, as the run asks for them
pub noted : (g : Configuration) (c : Commit) (number : ℕ) (fs : Level → Option Failure) {verdicts : List ℕ}
    → KeepsVerdicts (λ l. or_else (fs l) (fails_clauses number g.store (view_before g c) c (clauses_of l))) verdicts
    → KeepsVerdicts (λ l. or_else (fs l) (fails_event l number g (commit c))) verdicts
unfolding fails_event
noted g c number fs k = k
