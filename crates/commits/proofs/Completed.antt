-- A commit whose session number is not too small: what each part of the work on it is given, and what they come to together. Assumes
-- nothing.
use Prim.Native.Nat.{ℕ, ◌+◌, ◌*◌, ◌<◌}
use mathlib.Core.Path.{◌≡◌, sym, ap, ◌∙◌, subst}
use mathlib.Core.Bool.{Bool}
use mathlib.Core.Logic.{◌↔◌}
use mathlib.Core.List.{List}
use native.Mathlib.Omega.{arith}
use lib.Dec.{T}
use lib.ListN.{get_or}
use Rattle.sets.specs.Set.{Set}
use Rattle.dependencies.specs.History as D
use Rattle.store.specs.Limits.{max_keys, max_clients}
use Rattle.store.specs.Store.{View, Store, Configuration, Commit, next_number, commit}
use Rattle.store.specs.Update.{update, step, view_before, store_after}
use Rattle.store.specs.Sound as Store
use Rattle.store.proofs.Legal.{newer-is}
use Rattle.store.specs.History.{history, held}
use Rattle.growth.specs.Made.{Made}
use Rattle.trace.proofs.Fits.{commit-fits}
use Rattle.state.specs.Keeps.{IsSet, KeepsVersions, KeepsViews, KeepsMasks, Keeps}
use Rattle.state.specs.Rows.{RowAt}
use Rattle.views.specs.Own.{AddsOwn}
use Rattle.verdicts.specs.Wants.{Wants}
use Rattle.verdicts.specs.Verdicts.{Live}
use Rattle.trying.specs.declared.Tried.{Tried}
use Rattle.making.specs.Commits.{CommitGiven, MadeIn}
use Rattle.commits.specs.Codes.{LateGiven, JudgeGiven}
use Rattle.commits.specs.Engines.{BeforeCommit}
use Rattle.commits.specs.Records.{Recorded, Ready}

module _ {g : Configuration} {c : Commit} {clients client session : ℕ} {ranks : Set} {n me : ℕ} {versions keys views seen sessions commits links values fresh : List ℕ}
    (ready : Ready g c clients client session ranks n me versions keys views seen sessions commits links values fresh) where
  abbrev r : Recorded g c clients n versions keys views seen sessions commits links
  r = ready.recorded

  fits : Store.WithinKeys g.store.keys c
  fits = subst (λ (k : ℕ). Store.WithinKeys k c) (sym r.keys-are) (commit-fits n clients c r.fits)

  below : client < max_clients
  below = let x = r.fits.client-below in let y = r.few-clients in let e = ready.client-is in omega arith

  pub made : Made g.store (view_before g c) c
  made = record { sound = r.sound.store; view = r.sound.views c.client; fits = fits; newer = (newer-is g c r.sound fits).0 ready.new-number }

  row : (k : ℕ) → k < n → get_or views (max_keys * client + k) 0 ≡ view_before g c k
  row k l = r.keeps.in-views.rows client below k (let e = r.keys-are in omega arith) ∙ ap (λ (d : ℕ). g.views d k) (sym ready.client-is)

  holds : IsSet (get_or seen client 0) (D.Holds (history g.store) (held (view_before g c)))
  holds = subst (λ (d : ℕ). IsSet (get_or seen client 0) (D.Holds (history g.store) (held (g.views d)))) (sym ready.client-is) (r.keeps.in-views.holds client below)

  -- what is given where the wants of clauses 3 to 8 are gathered, from the arrays before the commit
  pub before-commit : BeforeCommit g.store (view_before g c) c values versions keys commits links views (max_keys * client) (get_or seen client 0) ranks n me
  before-commit = record {
    keys-are = r.keys-are;
    sound = r.sound.store;
    ordered = r.ordered;
    number_is = ready.number_is;
    clients-fit = r.clients-fit;
    in-versions = r.keeps.in-versions;
    in-keys = r.keeps.in-keys;
    in-commits = r.keeps.in-commits;
    in-links = r.keeps.in-links;
    row = row;
    operations = ready.operations;
    holds = holds;
  }

  -- what the making of the commit is given
  pub commit-given : CommitGiven g.store (view_before g c) c versions keys views sessions values client ranks n
  commit-given = record {
    made = made;
    ordered = r.ordered;
    keys-are = r.keys-are;
    room-left = r.room-left;
    client-is = ready.client-is;
    in-versions = r.keeps.in-versions;
    in-keys = r.keeps.in-keys;
    row = row;
    in-sessions = r.keeps.in-sessions;
    operations = ready.operations;
  }

  module _ {versions' keys' sessions' commits' links' : List ℕ} (k : MadeIn (store_after g c) versions' keys' sessions' commits' links') where
    -- what the first test of the view after says
    pub plain-is : (plain : Bool)
        → ((s : Store) (u : View) (e : Commit) → Made s u e → next_number s ≡ me → s.keys ≡ n → KeepsVersions (update s u e) versions' → RowAt n views (max_keys * client) u → KeepsMasks n e.view_after fresh → T plain ↔ AddsOwn s u e)
        → T plain → AddsOwn g.store (view_before g c) c
    plain-is plain says = (says g.store (view_before g c) c made ready.number_is r.keys-are k.in-versions row ready.masks).0

    -- what the test of the view after is given
    pub late-given : LateGiven g c values versions' keys' fresh views seen client ranks n me
    late-given = record {
      sound = r.sound;
      made = made;
      ordered = r.ordered;
      keys-are = r.keys-are;
      room-left = r.room-left;
      client-is = ready.client-is;
      number_is = ready.number_is;
      operations = ready.operations;
      in-versions = k.in-versions;
      in-keys = k.in-keys;
      in-fresh = ready.masks;
      in-views = r.keeps.in-views;
    }

    -- what the levels are given
    pub judge-given : (plain : Bool) (tried : Tried) {verdicts : List ℕ} → (T plain → AddsOwn g.store (view_before g c) c)
        → IsSet tried.seen (D.Holds (history g.store) (held (view_before g c))) × Wants g.store (view_before g c) c tried.wanted
        → Live verdicts tried.wanted.live → JudgeGiven g c tried plain commits' verdicts
    judge-given plain tried adds found asked = record {
      clients-fit = r.clients-fit;
      holds = found.0;
      wants = found.1;
      asked = asked;
      adds-own = adds;
      in-commits = k.in-commits;
    }

    -- the arrays after it
    pub kept-after : {views' seen' : List ℕ} → KeepsViews (step g (commit c)) views' seen' → Keeps (step g (commit c)) versions' keys' views' seen' sessions' commits' links'
    unfolding step
    kept-after v = record {
      in-versions = k.in-versions;
      in-keys = k.in-keys;
      in-views = v;
      in-sessions = k.in-sessions;
      in-commits = k.in-commits;
      in-links = k.in-links;
    }
