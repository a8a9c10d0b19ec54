-- `run::one::one_record` meets its contract: each arm by what its call ensures. Assumes nothing.
use mathlib.Core.Path.{subst}
use native.Mathlib.Omega.{arith}
use Rattle.run.specs.OneRecord.{Readable}
use Rattle.run.proofs.OneRecord.{shift_one, sorted-in, commit-one}
use Rattle.run.proofs.one.one_record.Goals as goal

pub shift_to-requires : goal.shift_to-requires
shift_to-requires c =
    let p = c.requires in
    let (below, masks) = subst (Readable _ _ _) c.in-Shift.is p.le_n.2 in
    let room = p.room in record { le_n = (p.le_n.0, p.le_n.1, below, masks); versions_room = (room.of-versions, room.of-keys, room.of-views, room.of-seen, p.values_room.1) }

pub overflow_add-next : goal.overflow_add-next
overflow_add-next c =
    let (below, masks, operations, room) = subst (Readable _ _ _) c.in-Commit.is c.requires.le_n.2 in
    record { fits = omega arith }

pub commit_to-requires : goal.commit_to-requires
commit_to-requires c =
    let p = c.requires in
    let (below, masks, operations, room) = subst (Readable _ _ _) c.in-Commit.is c.requires.le_n.2 in
    record {
      le_n = (p.le_n.0, p.le_n.1, omega arith, below, masks, sorted-in _ c.args.n (record { client = _; count = _; session = _; operations = _; ranks = c.args.ranks; listing = _ }) c.args.made c.in-Commit.is _ p.le_n.3);
      values_room = p.values_room;
      room = p.room;
    }

pub returns-in-Shift : goal.returns-in-Shift
returns-in-Shift c =
    let done = c.shift_to.ensures in
    λ g fs clients f s. shift_one _ _ _ _ _ c.in-Shift.is _ _ done.answer done.kept g fs s clients f

pub returns-in-Commit : goal.returns-in-Commit
returns-in-Commit c =
    let (below, masks, operations, room) = subst (Readable _ _ _) c.in-Commit.is c.requires.le_n.2 in
    λ g fs clients f s.
    commit-one _ _ (record { client = _; count = _; session = _; operations = _; ranks = c.args.ranks; listing = _ }) _ c.in-Commit.is _ _ _ c.commit_to.ensures g fs s room clients f
