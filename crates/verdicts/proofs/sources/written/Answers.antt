-- `verdicts::sources::written` meets its contract. The loop's invariant: the writers of the keys below some k that are written are gathered,
-- and the keys from k on that are written are left. Assumes nothing.
use Prim.Native.Nat.{ℕ, ◌+◌, ◌/◌}
use mathlib.Core.List.{List}
use lib.ListN.{get_or}
use native.Mathlib.Omega.{arith}
use Rattle.sets.specs.Set.{Set}
use Rattle.store.specs.Store.{Key}
use Rattle.state.specs.Places.{writers_place}
use Rattle.state.proofs.Accesses.{next-key, left-rest, left-none}
use Rattle.state.proofs.Below.{keys-turn, keys-passed}
use Rattle.verdicts.proofs.sources.written.Goals as goal

-- the writers of each key
abbrev row : List ℕ → Key → Set
row keys k = get_or keys (writers_place k) 0

pub loop-twice-preserved : goal.loop-twice-preserved
loop-twice-preserved c =
    let a = c.args in
    let l = c.loop-twice.invariant in
    let given = c.in-Some.ensures.steps in
    let k = next-key l.2 given in
    (c.in-Some.twice / 2 + 1, omega (arith, k.1), left-rest l.2 given, keys-turn (row a.keys.now) a.ranks 1 _ l.3 k.0 k.3 k.2 c.union-all.ensures)

pub returns : goal.returns
returns c =
    let a = c.args in
    let l = c.loop-twice.invariant in
    keys-passed (row a.keys.now) a.ranks 1 _ l.3 l.1 (left-none l.2 c.in-None.ensures.steps.0)
