-- The file that was written stands within its buffer.
use Rattle.std.proofs.Common.{sym, arith}
use Rattle.answer.proofs.Converted.{written-within}
use Rattle.long.proofs.main.Goals as goal

pub write_file-requires : goal.write_file-requires
write_file-requires c = omega (arith, written-within _ _ _ _ (sym c.in-Ok-long.ensures.answer), c.long.auto.buffer)
