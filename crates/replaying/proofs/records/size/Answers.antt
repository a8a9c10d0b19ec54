-- `replaying::records::size` meets its contract. The loop's invariant: what is reckoned, with the records to come, is the length of the replay. Assumes nothing.
use Prim.Native.Nat.{◌+◌, ◌-◌, ◌≤◌, ◌<◌}
use mathlib.Core.Path.{◌≡◌}
use native.Mathlib.Omega.{arith}
use Rattle.endian.specs.Endian.{Bytes}
use Rattle.store.specs.Limits.{max_replay}
use Rattle.trace.specs.Meaning.{read_whole, RecordSays}
use Rattle.replaying.specs.Full.{replay_length}
use Rattle.replaying.proofs.Standing.{first-in-form, goes_on, length-on, reckoned-first, reckoned-few, reckoned-all}
use Rattle.replaying.proofs.records.size.Goals as goal
use Rattle.replaying.proofs.records.size.Goals.{After-known_at-known}

-- the bytes of the file are bytes
bytes : (c : goal.After-known_at-known) → Bytes c.args.file.now
bytes c i = (c.type_inv.file i).fits

some_left : (c : goal.After-known_at-known) → 0 < c.args.h.records - c.loop.counter
some_left c = omega (arith, c.loop-test.true)

says : (c : goal.After-known_at-known) → let a = c.args in
    RecordSays a.file.now c.loop.at a.h.keys a.h.clients (read_whole c.known_at-known.result.record c.known_at-known.result.next)
says c =
    let w = c.requires in
    c.known_at-known.ensures _ (first-in-form (c.loop.invariant _ w.decoded).going (some_left c))

-- there is room for it in what is reckoned
few : (c : goal.After-known_at-known) → c.loop.sum + replay_length c.args.h.keys c.known_at-known.result.record ≤ max_replay
few c =
    let w = c.requires in
    let s = c.loop.invariant _ w.decoded in
    omega (arith, reckoned-few (bytes c) w.decoded s, length-on s.going (bytes c) w.few-clients (some_left c) _ _ (says c))

-- ---- the needs
pub loop-init : goal.loop-init
loop-init c =
    let all : c.args.h.records - 0 ≡ c.args.h.records = omega arith in
    λ t d. rw all (reckoned-first c.requires t d)

pub known_at-known-requires : goal.known_at-known-requires
known_at-known-requires c =
    let w = c.requires in
    (_, first-in-form (c.loop.invariant _ w.decoded).going (omega arith))

pub length_for-sum-requires : goal.length_for-sum-requires
length_for-sum-requires c = (c.requires.few-keys, omega (arith, few c))

pub overflow_add-sum : goal.overflow_add-sum
overflow_add-sum c = omega (arith, few (goal.at.overflow_add-sum c).After-known_at-known, c.length_for-sum.ensures)

pub loop-preserved : goal.loop-preserved
loop-preserved c = λ t d.
    let s = c.loop.invariant t d in
    let l = length-on s.going (bytes (goal.at.loop-preserved c).After-known_at-known) c.requires.few-clients (some_left (goal.at.loop-preserved c).After-known_at-known) _ _ (says (goal.at.loop-preserved c).After-known_at-known) in
    let all = s.total in
    let found = c.length_for-sum.ensures in
    let one_less : c.args.h.records - (c.loop.counter + 1) ≡ c.args.h.records - c.loop.counter - 1 = omega arith in
    rw one_less (record { going = goes_on s.going (bytes (goal.at.loop-preserved c).After-known_at-known) c.requires.few-clients (some_left (goal.at.loop-preserved c).After-known_at-known) _ _ (says (goal.at.loop-preserved c).After-known_at-known); total = omega arith })

pub returns : goal.returns
returns c =
    let w = c.requires in
    let bytes : Bytes c.args.file.now = λ i. (c.type_inv.file i).fits in
    let s = c.loop.invariant in
    let none_left : c.args.h.records - c.loop.counter ≡ 0 = omega arith in
    (λ t d. reckoned-all none_left (s t d), omega (arith, reckoned-few bytes w.decoded (s _ w.decoded)))
