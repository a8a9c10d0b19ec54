-- `writing::copy_operations` meets its contract. The loop's invariant: the operations passed stand from `at` on, as numbers of eight bytes.
-- Assumes nothing.
use Prim.Native.Nat.{ℕ, ◌+◌, ◌*◌}
use mathlib.Core.Path.{◌≡◌, ap, ◌∙◌}
use mathlib.Core.List.{List}
use native.Mathlib.Omega.{arith}
use Rattle.endian.specs.Endian.{le_bytes, put_at, pieces}
use Rattle.endian.proofs.Laws.{length-le_bytes, length-pieces}
use Rattle.endian.proofs.Put.{put-none, put-piece}
use Rattle.writing.proofs.Operations.{word_at, operations-words}
use Rattle.writing.proofs.copy_operations.Goals as goal

pub loop-i-init : goal.loop-i-init
unfolding pieces
loop-i-init c = put-none _ c.args.at

pub loop-i-preserved : goal.loop-i-preserved
loop-i-preserved c =
    let a = c.args in
    let i = c.loop-i.i in
    let words : ℕ → List ℕ = λ j. word_at a.file.now (a.from + 8 * j) in
    put-piece a.buffer.now a.at i (8 * i) words c.loop-i.invariant (length-pieces i 8 words (λ j. length-le_bytes 8 _)) (omega arith)
    c.put_u64.ensures (ap (le_bytes 8) c.u64_at.ensures)

pub returns : goal.returns
returns c =
    let a = c.args in
    let (keys, few, fit) = c.requires.2 in
    let all : c.loop-i.i ≡ a.count = omega arith in
    c.loop-i.invariant
    ∙ ap (λ i. put_at a.buffer.now a.at (pieces i (λ j. word_at a.file.now (a.from + 8 * j)))) all
    ∙ ap (λ bytes. put_at a.buffer.now a.at bytes) (operations-words a.file.now a.from keys 0 a.count few fit)
