-- `run::run_all` meets its contract: before each record the run stands, with its arrays, where the records so far leave it. Assumes nothing.
use Prim.Native.Nat.{◌+◌, ◌-◌}
use mathlib.Core.List.{List}
use Rattle.store.specs.Limits.{min_bytes}
use Rattle.trace.specs.Entry.{Entry}
use Rattle.trace.specs.Format.{entries_from}
use Rattle.trace.specs.Meaning.{header_of}
use Rattle.trace.proofs.Pass.{InTurn}
use Rattle.state.specs.Room.{Room, ValuesRoom, FreshRoom}
use Rattle.verdicts.specs.Verdicts.{VerdictsRoom}
use Rattle.run.specs.Ran.{header_with, Starts}
use Rattle.run.proofs.Runs.{Stands}
use Rattle.run.proofs.run_all.Given as goal

abbrev pub invariant-loop-number : goal.invariant-loop-number
invariant-loop-number l =
    InTurn l.file (header_with l.n l.clients l.records) (entries_from l.file (header_of (header_with l.n l.clients l.records)) l.records min_bytes 1 0) (l.records + 1 - l.number) l.at l.number l.made
    × Room l.versions l.keys l.views l.seen l.sessions l.commits l.links
    × (ValuesRoom l.values × FreshRoom l.fresh × VerdictsRoom l.verdicts)
    × ((rs : List Entry) → Starts l.file l.n l.clients l.records rs l.initial.versions l.initial.keys l.initial.views l.initial.seen l.initial.sessions l.initial.commits l.initial.links l.initial.verdicts l.initial.values
    → Stands l.file l.n l.clients l.records rs (l.records + 1 - l.number) l.at l.number l.made l.versions l.keys l.views l.seen l.sessions l.commits l.links l.verdicts l.values)
