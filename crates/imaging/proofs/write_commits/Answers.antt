-- `imaging::write_commits` meets its contract. The loop's invariant: the commits passed stand behind the first 8 bytes, and the next one's offset is their end.
-- Assumes nothing.
use Prim.Native.Nat.{ℕ, suc, ◌*◌, ◌-◌}
use mathlib.Core.Path.{ap, ◌∙◌}
use native.Mathlib.Omega.{arith}
use native.Mathlib.Numerals.{add-one}
use native.Mathlib.Nat.{mul-zero}
use lib.ListN.{length, take, drop}
use Rattle.endian.specs.Endian.{put_at, pieces}
use Rattle.endian.proofs.Put.{put-none, put-lent}
use Rattle.store.specs.Image.{commit_bytes}
use Rattle.store.specs.Reading.{commit_size}
use Rattle.store.proofs.ImageSizes.{length-commit, length-commits}
use Rattle.imaging.proofs.Sizes.{commits-suc, commit-within}
use Rattle.imaging.proofs.write_commits.Goals as goal

pub loop-i-init : goal.loop-i-init
unfolding pieces
loop-i-init c =
    let a = c.args in
    (omega (arith, mul-zero (commit_size a.n)), λ s kc kv fit k e. put-none a.buffer.now 8)

pub loop-i-preserved : goal.loop-i-preserved
loop-i-preserved c =
    let a = c.args in
    let i = c.loop-i.i in
    let room = commit-within a.n i a.count c.loop-i-test.true in (
      omega (arith, commits-suc a.n i),
      λ s kc kv fit k e.
          let long = length-commit s (suc i) in
          put-lent a.buffer.now 8 i (commit_size a.n * i) c.loop-i.at (λ j. commit_bytes s (suc j)) (c.loop-i.invariant.1 s kc kv fit k e)
          (length-commits s i ∙ ap (λ (m : ℕ). commit_size m * i) k) c.loop-i.invariant.0 (omega arith) (omega arith)
          (c.write_commit-took.ensures.part_after s kc kv fit k (omega arith) (omega arith)
          ∙ ap (λ (t : ℕ). put_at (take (length c.loop-i.buffer - c.loop-i.at) (drop c.loop-i.at c.loop-i.buffer)) 0 (commit_bytes s t)) (add-one i)),
    )
