-- The commits that clauses 3 to 8 want of a view, as sets (01, Clauses and levels). Assumes nothing.
use Rattle.std.specs.Prelude.{◌≡◌, ◌⊎◌}
use Rattle.relations.specs.Relation.{Plus}
use Rattle.dependencies.specs.History.{SO}
use Rattle.store.specs.Store.{CommitNumber, View, Store, Commit}
use Rattle.store.specs.History.{history}
use Rattle.growth.specs.Links.{FromWrite}
use Rattle.growth.specs.Sessions.{ReadUpTo}
use Rattle.growth.specs.Views.{Lacking}
use Rattle.growth.specs.Clauses.{LeadsToHeld, LacksOneOf}
use Rattle.levels.specs.Clause.{monotonic_writes, writes_follow_reads, update_atomic, consistent_prefix, snapshot_isolation}
use Rattle.state.specs.Keeps.{IsSet, Step}
use Rattle.verdicts.specs.declared.Wanted.{Wanted}
use Rattle.verdicts.specs.Verdicts.{Asked}

-- the view lacks a commit: it holds nothing of what the commit wrote
abbrev pub LacksSome : Store → View → Type 0
LacksSome s u = (a : CommitNumber) × Lacking s u a

-- what is before the commits that the view holds, in SO and in what was read, is gathered
abbrev pub PastGathered : Store → View → Wanted → Type 0
PastGathered s u w = IsSet w.before (LeadsToHeld s u (SO (history s))) × IsSet w.read (LeadsToHeld s u (ReadUpTo (history s)))

-- nothing of it is lacking, and nothing is gathered
abbrev pub PastHeld : Store → View → Wanted → Type 0
PastHeld s u w =
    ((w.before ≡ 0) × (w.read ≡ 0)) × ((¬ LacksOneOf s u (LeadsToHeld s u (SO (history s)))) × (¬ LacksOneOf s u (LeadsToHeld s u (ReadUpTo (history s)))))

-- the sets are asked for only where the view lacks a commit, and each only where its clause is asked for
pub record Wants (s : Store) (u : View) (c : Commit) (w : Wanted) : Type 0 where
  pub lacking : IsSet w.lacking (Lacking s u)
  pub past : Asked w.live monotonic_writes ⊎ Asked w.live writes_follow_reads → LacksSome s u → PastGathered s u w ⊎ PastHeld s u w
  pub written : Asked w.live update_atomic → LacksSome s u → IsSet w.written (FromWrite s c)
  pub prefix : Asked w.live consistent_prefix → LacksSome s u → IsSet w.prefix (LeadsToHeld s u (Plus (Step 0 s)))
  pub snapshot : Asked w.live snapshot_isolation → LacksSome s u → IsSet w.snapshot (LeadsToHeld s u (Plus (Step 1 s)))
