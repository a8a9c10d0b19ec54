-- What is at hand where a commit is judged, from what was tried on the arrays that keep the store after it. Assumes nothing.
use Rattle.std.specs.Prelude.{Option as CodeOption}
use Prim.Native.Nat.{ℕ, suc, ◌+◌, ◌≤◌, ◌<◌}
use mathlib.Core.Path.{◌≡◌, sym, ap, ◌∙◌, subst}
use mathlib.Core.List.{List}
use native.Mathlib.Omega.{arith}
use native.Mathlib.Decide.{ℕ_discrete}
use lib.Dec.{T}
use Rattle.sets.specs.Set.{Set, has, below, width}
use Rattle.dependencies.specs.History.{StoredBelow, Holds}
use Rattle.store.specs.Limits.{max_keys, max_clients}
use Rattle.store.specs.Store.{View, Store, Commit, next_number}
use Rattle.store.specs.Update.{update}
use Rattle.store.specs.View.{IsView}
use Rattle.store.specs.Missing.{missing}
use Rattle.store.specs.Refusal.{all_of}
use Rattle.store.specs.History.{history, held}
use Rattle.store.specs.Image.{ClientsFit}
use Rattle.growth.specs.Made.{Made}
use Rattle.growth.specs.Sessions.{UpTo}
use Rattle.growth.proofs.Made.{keys-after, number-after, client-kept, client-new}
use Rattle.state.specs.declared.Place.{Place}
use Rattle.state.specs.Keeps.{IsSet, KeepsCommits, KeepsMasks, KeepsOperations}
use Rattle.state.specs.Answers.{place_of}
use Rattle.views.specs.Rules.{StoreAndView}
use Rattle.views.proofs.Rows.{masks-row}
use Rattle.verdicts.specs.declared.Wanted.{Wanted}
use Rattle.verdicts.specs.Wants.{Wants}
use Rattle.verdicts.specs.AtHand.{Judging}
use Rattle.verdicts.proofs.Searches.{lost-is}
use Rattle.trying.specs.Recorded.{HeldIn, WroteOne, recorded}
use Rattle.trying.proofs.Kept.{holds_kept, lacking-kept, told_below, up-to-kept}

module _ (s : Store) (u : View) (c : Commit) (made : Made s u c) where
  -- the client of the commit has room in its word of the log, so the clients of all commits after it have
  clients-after : ClientsFit s → c.client < max_clients → ClientsFit (update s u c)
  clients-after fit small t p l = go (ℕ_discrete t (next_number s))
    where
      go : Dec (t ≡ next_number s) → (update s u c).client_of t < 256
      go (yes e) = let d : (update s u c).client_of t ≡ c.client = ap (update s u c).client_of e ∙ client-new s u c made in omega arith
      go (no d) =
          let e = client-kept s u c made d in
          let after = number-after s u c made in
          let f : s.client_of t < 256 = fit t p (omega arith) in
          omega arith

  module _ (n : ℕ) (versions keys commits views : List ℕ) (base : ℕ) (arrays : StoreAndView (update s u c) u n versions keys views base) (log : KeepsCommits (update s u c) commits)
      (fit : ClientsFit s) (small : c.client < max_clients) (me : ℕ) (number : next_number s ≡ me) where
    abbrev after : Store
    after = update s u c

    stored-after : StoredBelow (me + 1) (recorded versions keys commits n)
    stored-after = told_below after u n versions keys views base arrays commits log (clients-after fit small) (me + 1) (number-after s u c made ∙ (let e : suc (next_number s) ≡ me + 1 = omega arith in e))

    session-after : (session : Set) → (StoredBelow (me + 1) (recorded versions keys commits n) → IsSet session (UpTo (recorded versions keys commits n) me)) → IsSet session (UpTo (history after) (next_number s))
    session-after session is =
        subst (λ (t : ℕ). IsSet session (UpTo (history after) t)) (sym number) (up-to-kept after u n versions keys views base arrays commits log (clients-after fit small) me session (is stored-after))

    module _ (few : n ≤ max_keys) (fresh : List ℕ) (masks : KeepsMasks n c.view_after fresh) where
      with-fresh : StoreAndView after c.view_after n versions keys fresh 0
      with-fresh = record {
        number = arrays.number;
        sound = arrays.sound;
        few = arrays.few;
        in-versions = arrays.in-versions;
        in-keys = arrays.in-keys;
        in-masks = masks-row masks;
      }

      pub handed : IsView after c.view_after → (seen : Set) → IsSet seen (Holds (history s) (held u)) → (w : Wanted) → Wants s u c w → (ranks : Set) (values : List ℕ) → KeepsOperations c ranks values
          → (lost : CodeOption Place) → (s.keys ≡ n → place_of lost ≡ missing s (all_of u) c.view_after)
          → (session : Set) → (StoredBelow (me + 1) (recorded versions keys commits n) → IsSet session (UpTo (recorded versions keys commits n) me))
          → (now : Set) → IsSet now (HeldIn versions keys fresh 0 n) → (absent : Set) → IsSet absent (λ t. WroteOne versions keys (below width) n t × (¬ T (has now t)))
          → Judging s u c (record { seen = seen; ranks = ranks; lost = lost; session = session; absent = absent; wanted = w }) values versions keys views fresh base n
      handed view seen holds w wants ranks values operations lost found session up_to_lem now is absent lacks = record {
        at-hand = record {
          made = made;
          view-after = view;
          wants = wants;
          lost-is = found (sym (keys-after s u c made) ∙ arrays.number) ∙ lost-is s u c made.view;
          session = session-after session up_to_lem;
          lacking-after = lacking-kept after c.view_after n versions keys fresh 0 with-fresh few now absent (holds_kept after c.view_after n versions keys fresh 0 with-fresh now is) lacks;
        };
        holds = holds;
        operations = operations;
        arrays = arrays;
        masks = masks;
      }
