-- `imaging::write` meets its contract: the first 8 bytes, the commits and the keys, put one behind the other, are the image. Assumes nothing.
use Prim.Native.Nat.{ℕ, ◌+◌}
use mathlib.Core.Path.{ap, ◌∙◌}
use native.Mathlib.Omega.{arith}
use Rattle.endian.specs.Endian.{put_at, pieces}
use Rattle.store.specs.Image.{key_bytes}
use Rattle.imaging.proofs.Sizes.{length_whole}
use Rattle.imaging.proofs.Whole.{put-image}
use Rattle.imaging.proofs.write.Goals as goal

pub returns : goal.returns
returns c =
    let a = c.args in
    λ s kv kk kc ks sound fit k n.
    put-image s a.buffer.now a.whole a.n a.count (c.requires.n_le_max_keys.2 ∙ length_whole s a.keys.now kk a.n a.count k n) k n (omega arith)
    c.write_head.ensures
    (c.write_commits.ensures s kc ks fit k n)
    (c.write_keys.ensures s kv kk sound (omega arith) k
    ∙ ap (λ (m : ℕ). put_at c.write_commits.new.buffer (8 + m) (pieces a.n (key_bytes s))) c.commits_size.ensures.0)
