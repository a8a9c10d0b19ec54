-- `run::run_all` meets its contract: before each record the run stands, with its arrays, where the records so far leave it. Assumes nothing.
use Prim.Native.Nat.{◌+◌, ◌-◌, ◌<◌}
use mathlib.Core.Path.{◌≡◌, refl}
use native.Mathlib.Omega.{arith}
use borrow.Author.Rules.{rules}
use Rattle.std.specs.Prelude.{Err}
use Rattle.endian.specs.Endian.{Bytes}
use Rattle.store.specs.Limits.{min_bytes}
use Rattle.trace.specs.Format.{entries_from}
use Rattle.trace.specs.Meaning.{read_whole, header_of}
use Rattle.trace.proofs.Pass.{CountedSays, InTurn, turn-starts, turn-goes, turn-stops, turn-ends, turn-over, form-whole}
use Rattle.state.specs.Room.{Room, ValuesRoom, FreshRoom}
use Rattle.verdicts.specs.Verdicts.{VerdictsRoom}
use Rattle.run.specs.Ran.{header_with}
use Rattle.run.specs.declared.Stop.TheVariants.{Misshapen}
use Rattle.run.proofs.OneRecord.{record-readable}
use Rattle.run.proofs.Runs.{read-turn, turn-rest, run-starts, run-reads, run-goes, run-stops, run_ends}
use Rattle.run.proofs.run_all.Goals as goal
use Rattle.run.proofs.run_all.Goals.{In-Ok, After-one_record-outcome, After-commits_with-made}

-- ---- what holds in a turn

-- the file is one of bytes
bytes : (c : In-Ok) → Bytes c.args.file.now
bytes c = λ i. (c.type_inv.file i).fits

-- there was a record left
some_left : (c : In-Ok) → 0 < c.args.records + 1 - c.loop-number.number
some_left c = omega (arith, c.loop-number-test.true)

-- what is said of it, once it was read in its turn
says : (c : In-Ok) → let a = c.args in
    CountedSays a.file.now c.loop-number.at a.n a.clients c.loop-number.number c.loop-number.made (read_whole c.in-Ok.read.whole.record c.in-Ok.read.whole.next)
says c =
    let turn = rw c.in-Ok.is at c.read_turn.ensures.said in
    read-turn _ _ _ _ c.loop-number.number _ turn refl

-- the turn of the next one
next-turn : (c : After-commits_with-made) → let a = c.args in let h = header_with a.n a.clients a.records in
    InTurn a.file.now h (entries_from a.file.now (header_of h) a.records min_bytes 1 0) (a.records + 1 - (c.loop-number.number + 1)) c.in-Ok.read.whole.next (c.loop-number.number + 1) c.commits_with-made.result
next-turn c =
    let k = (goal.at.After-commits_with-made c).In-Ok in
    let left : c.args.records + 1 - (c.loop-number.number + 1) ≡ c.args.records + 1 - c.loop-number.number - 1 = omega arith in
    rw left (turn-goes c.loop-number.invariant.0 (some_left k) _ _ (says k) (c.commits_with-made.ensures _ _))

-- the call for the record keeps the room of the arrays
kept : (c : After-one_record-outcome) → let o = c.one_record-outcome.new in
    Room o.versions o.keys o.views o.seen o.sessions o.commits o.links
    × (ValuesRoom c.read_turn.new.values × FreshRoom o.fresh × VerdictsRoom o.verdicts)
kept c =
    let l = c.loop-number.invariant in
    let room = l.1 in (
      record {
        of-versions = omega (arith, room.of-versions);
        of-keys = omega (arith, room.of-keys);
        of-views = omega (arith, room.of-views);
        of-seen = omega (arith, room.of-seen);
        of-sessions = omega (arith, room.of-sessions);
        of-commits = omega (arith, room.of-commits);
        of-links = omega (arith, room.of-links);
      },
      (omega (arith, l.2.0), omega (arith, l.2.1), omega (arith, l.2.2)),
    )

-- ---- the goals

pub loop-number-init : goal.loop-number-init
loop-number-init c =
    let p = c.requires in
    let all : c.args.records + 1 - 1 ≡ c.args.records = omega arith in
    rw all (turn-starts _ _ _ _ _ _ (omega arith) (omega arith), p.room, p.values_room, λ rs s. run-starts s)

pub returns-in-Err-clause-form : goal.returns-in-Err-clause-form
returns-in-Err-clause-form c =
    let turn = rw c.in-Err.is at c.read_turn.ensures.said in
    rw c.refused_at.ensures (turn-stops c.loop-number.invariant.0 c.in-Err.why (omega (arith, c.loop-number-test.true)) (read-turn _ _ _ _ c.loop-number.number _ turn refl))

pub one_record-outcome-requires-clause-le_n : goal.one_record-outcome-requires-clause-le_n
one_record-outcome-requires-clause-le_n c =
    let k = (goal.at.one_record-outcome-requires-clause-le_n c).In-Ok in
    let p = c.requires in
    let sorted = rw c.in-Ok.is at c.read_turn.ensures.sorted in
    (p.le_n.0, p.le_n.1, record-readable _ (bytes k) _ _ _ _ _ _ p.le_n.2 (says k).0 (says k).1, sorted.0)

pub records_form-requires : goal.records_form-requires
records_form-requires c =
    let p = c.requires.le_n in
    let t = next-turn (goal.at.records_form-requires c).After-commits_with-made in
    (omega (arith, t.within), p.1, omega (arith, p.5), omega (arith, c.loop-number-test.true), t.few-made)

pub returns-in_err-records_form-clause-form : goal.returns-in_err-records_form-clause-form
returns-in_err-records_form-clause-form c =
    let t = next-turn (goal.at.returns-in_err-records_form-clause-form c).After-commits_with-made in
    let is : c.from_residual.result ≡ Err (Misshapen c.in_err-records_form.field-0.0) = search rules in
    let rest = rw c.in_err-records_form.was at c.records_form.ensures in
    rw is (turn-rest t (omega (arith, c.loop-number-test.true)) _ rest)

pub returns-in-Err-outcome-clause-form : goal.returns-in-Err-outcome-clause-form
returns-in-Err-outcome-clause-form c =
    let t = next-turn (goal.at.returns-in-Err-outcome-clause-form c).After-commits_with-made in
    let rest = rw c.in_ok-records_form.was at c.records_form.ensures in
    form-whole _ _ _ (turn-rest t (omega (arith, c.loop-number-test.true)) _ rest)

pub returns-in-Err-outcome-clause-meaning : goal.returns-in-Err-outcome-clause-meaning
returns-in-Err-outcome-clause-meaning c =
    let k = (goal.at.returns-in-Err-outcome-clause-meaning c).In-Ok in
    λ rs s.
    run-stops (run-reads (c.loop-number.invariant.3 rs s) c.read_turn.ensures.sorted.1) (bytes k) c.requires.le_n.2 (some_left k) _ _ (says k).0 _ _ _ _ _ _ _ _ _ _ c.one_record-outcome.ensures c.in-Err-outcome.is

pub loop-number-preserved : goal.loop-number-preserved
loop-number-preserved c =
    let k = (goal.at.loop-number-preserved c).In-Ok in
    let done = kept (goal.at.loop-number-preserved c).After-one_record-outcome in
    let left : c.args.records + 1 - (c.loop-number.number + 1) ≡ c.args.records + 1 - c.loop-number.number - 1 = omega arith in (
      next-turn (goal.at.loop-number-preserved c).After-commits_with-made,
      done.0,
      done.1,
      rw left (λ rs s.
          run-goes (run-reads (c.loop-number.invariant.3 rs s) c.read_turn.ensures.sorted.1) (bytes k) c.requires.le_n.2 (some_left k) _ _ (says k).0 _ _ _ _ _ _ _ _ _ _
          c.one_record-outcome.ensures c.in_default.is (c.commits_with-made.ensures _ _)),
    )

pub returns-then-at-file-clause-form : goal.returns-then-at-file-clause-form
returns-then-at-file-clause-form c = turn-over c.loop-number.invariant.0 (omega arith) c.if-at-file.true

pub returns : goal.returns
returns c = record { form = turn-ends c.loop-number.invariant.0 (omega arith) (omega arith); meaning = λ rs s. run_ends (c.loop-number.invariant.3 rs s) (omega arith) }
