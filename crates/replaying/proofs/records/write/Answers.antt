-- `replaying::records::write` meets its contract. The loop's invariant: what is written, with the records to come, is the replay, and the masks are those of the
-- full view that it has come to. Assumes nothing.
use Prim.Native.Nat.{◌+◌, ◌-◌, ◌<◌}
use mathlib.Core.Path.{◌≡◌}
use native.Mathlib.Omega.{arith}
use lib.ListN.{length}
use Rattle.endian.specs.Endian.{Bytes}
use Rattle.trace.specs.Meaning.{read_whole, RecordSays}
use Rattle.replaying.proofs.Standing.{first-in-form, this, length-on, written-first, written_on, written_all}
use Rattle.replaying.proofs.records.write.Goals as goal
use Rattle.replaying.proofs.records.write.Goals.{After-known_at-known}

-- the bytes of the file are bytes
bytes : (c : goal.After-known_at-known) → Bytes c.args.file.now
bytes c i = (c.type_inv.file i).fits

some_left : (c : goal.After-known_at-known) → 0 < c.args.h.records - c.loop.counter
some_left c = omega (arith, c.loop-test.true)

says : (c : goal.After-known_at-known) → let a = c.args in
    RecordSays a.file.now c.loop.at a.h.keys a.h.clients (read_whole c.known_at-known.result.record c.known_at-known.result.next)
says c =
    let w = c.requires.0 in
    c.known_at-known.ensures _ (first-in-form (c.loop.invariant _ w.decoded).going (some_left c))

-- ---- the needs
pub loop-init : goal.loop-init
loop-init c =
    let all : c.args.h.records - 0 ≡ c.args.h.records = omega arith in
    λ t d. rw all (written-first c.requires.0 t d c.args.buffer.now (c.requires.1 t d))

pub known_at-known-requires : goal.known_at-known-requires
known_at-known-requires c =
    let w = c.requires.0 in
    (_, first-in-form (c.loop.invariant _ w.decoded).going (omega arith))

pub write_one-to-requires : goal.write_one-to-requires
write_one-to-requires c =
    let w = c.requires.0 in
    let s = c.loop.invariant _ w.decoded in
    let more = length-on s.going (bytes (goal.at.write_one-to-requires c).After-known_at-known) w.few-clients (some_left (goal.at.write_one-to-requires c).After-known_at-known) _ _ (says (goal.at.write_one-to-requires c).After-known_at-known) in record { n_le_max_keys = (w.few-keys, omega arith, omega arith, omega (arith, s.room, more)); readable = (s.going.r, (this s.going (bytes (goal.at.write_one-to-requires c).After-known_at-known) w.few-clients (some_left (goal.at.write_one-to-requires c).After-known_at-known) _ _ (says (goal.at.write_one-to-requires c).After-known_at-known)).readable, s.full) }

pub loop-preserved : goal.loop-preserved
loop-preserved c =
    let w = c.requires.0 in
    let same : length c.write_one-to.new.buffer ≡ length c.loop.buffer = omega arith in
    let one_less : c.args.h.records - (c.loop.counter + 1) ≡ c.args.h.records - c.loop.counter - 1 = omega arith in
    λ t d. rw one_less (written_on (c.loop.invariant t d) (bytes (goal.at.loop-preserved c).After-known_at-known) w.few-clients (some_left (goal.at.loop-preserved c).After-known_at-known) _ _ (says (goal.at.loop-preserved c).After-known_at-known) c.write_one-to.ensures.wrote c.write_one-to.ensures.value same)

pub returns : goal.returns
returns c = λ t d.
    let none_left : c.args.h.records - c.loop.counter ≡ 0 = omega arith in
    written_all none_left (c.loop.invariant t d)
