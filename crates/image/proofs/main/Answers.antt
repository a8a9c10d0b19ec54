-- The image that was judged stands within its buffer.
use Rattle.std.proofs.Common.{sym, arith}
use Rattle.judging.proofs.Longest.{image-within}
use Rattle.image.proofs.main.Goals as goal

pub write_file-requires : goal.write_file-requires
write_file-requires c = omega (arith, image-within _ _ _ (sym c.in-Ok-judge.ensures.answer), c.judge.auto.buffer)
