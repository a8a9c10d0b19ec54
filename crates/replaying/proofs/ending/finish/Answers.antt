-- `replaying::ending::finish` meets its contract: 16 where SER was told to fail, 17 where the file's length is more than the buffer's. Assumes nothing.
use Prim.Native.Nat.{◌≤◌, ◌<◌}
use mathlib.Core.Path.{◌≡◌, sym, ap, ◌∙◌, subst}
use mathlib.Core.Option.{none}
use native.Mathlib.Omega.{arith}
use lib.ListN.{length}
use Rattle.search.specs.Choose.{map_some}
use Rattle.trace.specs.Result.{refused, taken}
use Rattle.trace.specs.Format.{decode}
use Rattle.levels.specs.Level.{SER}
use Rattle.answer.specs.Answer.{verdict}
use Rattle.answer.specs.Replay.{replay}
use Rattle.answer.specs.Written.{replay_answer}
use Rattle.answer.proofs.Demand3.{accepted-trace}
use Rattle.verdicts.specs.Told.{tell, verdict_of}
use Rattle.replaying.proofs.Answered.{not-serial-replay, short-replay, written-replay, replay-least, put-replay}
use borrow.Author.Rules.{rules}
use Rattle.replaying.proofs.ending.finish.Goals as goal
use Rattle.replaying.proofs.ending.finish.Goals.{After-size-whole}

-- ---- where SER was told to accept, and the length is known

accepts : (c : goal.After-size-whole) → none ≡ map_some tell (verdict SER c.requires.trace)
accepts c = sym (ap verdict_of c.in_default.is) ∙ c.requires.told

-- the file is read as the trace
read : (c : goal.After-size-whole) → decode c.args.file.now ≡ taken c.requires.trace
read c = (accepted-trace _ _ c.requires.accepted).0

size_is : (c : goal.After-size-whole) → c.size-whole.result ≡ length (replay c.requires.trace)
size_is c = c.size-whole.ensures.0 _ (read c)

-- ---- the goals

pub returns-in-Err : goal.returns-in-Err
unfolding replay_answer
returns-in-Err c =
    let a = not-serial-replay c.args.file.now c.args.buffer.now c.requires.trace c.requires.accepted _ (sym (ap verdict_of c.in-Err.is) ∙ c.requires.told) in
    (ap refused c.of_version.ensures ∙ a.said, a.left)

pub returns-then-buffer-whole : goal.returns-then-buffer-whole
unfolding replay_answer
returns-then-buffer-whole c =
    let buffer = c.args.buffer.now in
    let a = short-replay c.args.file.now buffer c.requires.trace c.requires.accepted (accepts (goal.at.returns-then-buffer-whole c).After-size-whole) (subst (λ x. length buffer < x) (size_is (goal.at.returns-then-buffer-whole c).After-size-whole) (search rules)) in
    (ap refused c.of_record.ensures ∙ a.said, a.left)

pub put_head-requires : goal.put_head-requires
put_head-requires c =
    let w = c.requires.in-form in
    let size = size_is (goal.at.put_head-requires c).After-size-whole in
    let least = replay-least c.requires.trace in
    (omega arith, omega (arith, c.size-whole.ensures.1), w.few-keys, w.few-clients, omega (arith, c.requires.few-commits))

pub returns : goal.returns
unfolding replay_answer
returns c =
    let t = c.requires.trace in
    let buffer = c.args.buffer.now in
    let size = size_is (goal.at.returns c).After-size-whole in
    let room : length (replay t) ≤ length buffer = subst (λ x. x ≤ length buffer) size (search rules) in
    let a = written-replay c.args.file.now buffer t c.requires.accepted (accepts (goal.at.returns c).After-size-whole) room in (
      ap taken size ∙ a.said,
      put-replay c.requires.in-form t (read (goal.at.returns c).After-size-whole) size c.requires.all-commits buffer room c.put_head.ensures (c.write.ensures t (read (goal.at.returns c).After-size-whole)) ∙ a.left,
    )
