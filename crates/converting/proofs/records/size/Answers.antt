-- `converting::records::size` meets its contract. The loop's invariant: what is reckoned, with the records to come, is the length of the file. Assumes nothing.
use Prim.Native.Nat.{◌+◌, ◌-◌, ◌<◌}
use mathlib.Core.Path.{◌≡◌}
use native.Mathlib.Omega.{arith}
use Rattle.endian.specs.Endian.{Bytes}
use Rattle.trace.specs.Meaning.{read_whole, RecordSays}
use Rattle.converting.specs.Answers.{edition_of}
use Rattle.converting.proofs.Going.{first-in-form, this-parts, reckoned-first, reckoned-on, reckoned-all}
use Rattle.converting.proofs.records.size.Goals as goal
use Rattle.converting.proofs.records.size.Goals.{After-known_at-known}

-- the bytes of the file are bytes
bytes : (c : goal.After-known_at-known) → Bytes c.args.file.now
bytes c i = (c.type_inv.file i).fits

some_left : (c : goal.After-known_at-known) → 0 < c.args.h.records - c.loop.counter
some_left c = omega (arith, c.loop-test.true)

says : (c : goal.After-known_at-known) → let a = c.args in
    RecordSays a.file.now c.loop.at a.h.keys a.h.clients (read_whole c.known_at-known.result.record c.known_at-known.result.next)
says c =
    let w = c.requires in
    c.known_at-known.ensures _ (first-in-form (edition_of c.args.edition) (c.loop.invariant.1 _ w.decoded).going (some_left c))

pub loop-init : goal.loop-init
loop-init c =
    let all : c.args.h.records - 0 ≡ c.args.h.records = omega arith in
    (omega arith, λ t d. rw all (reckoned-first _ c.requires t d))

pub known_at-known-requires : goal.known_at-known-requires
known_at-known-requires c =
    let w = c.requires in
    (_, first-in-form (edition_of c.args.edition) (c.loop.invariant.1 _ w.decoded).going (omega arith))

pub one_length-sum-requires : goal.one_length-sum-requires
one_length-sum-requires c =
    let w = c.requires in
    let l = c.loop.invariant in
    let s = l.1 _ w.decoded in
    (w.few-keys, this-parts (edition_of c.args.edition) s.going (bytes (goal.at.one_length-sum-requires c).After-known_at-known) w.few-clients (some_left (goal.at.one_length-sum-requires c).After-known_at-known) _ _ (says (goal.at.one_length-sum-requires c).After-known_at-known), omega arith, omega arith)

pub loop-preserved : goal.loop-preserved
loop-preserved c =
    let w = c.requires in
    let l = c.loop.invariant in
    let called = c.one_length-sum.ensures in
    let one_less : c.args.h.records - (c.loop.counter + 1) ≡ c.args.h.records - c.loop.counter - 1 = omega arith in (
      omega (arith, called.few, l.0),
      λ t d. rw one_less (reckoned-on (edition_of c.args.edition) (l.1 t d) (bytes (goal.at.loop-preserved c).After-known_at-known) w.few-clients (some_left (goal.at.loop-preserved c).After-known_at-known) _ _ (says (goal.at.loop-preserved c).After-known_at-known) called.reckoned called.on),
    )

pub returns : goal.returns
returns c = let none_left : c.args.h.records - c.loop.counter ≡ 0 = omega arith in λ t d. reckoned-all _ none_left (c.loop.invariant.1 t d)
