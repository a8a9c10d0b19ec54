-- `text::put_field` meets its contract: the label, and the digits behind it. Assumes nothing.
use native.Mathlib.Omega.{arith}
use Rattle.text.proofs.Digits.{length-word}
use Rattle.text.proofs.Put.{put_both}
use Rattle.text.proofs.put_field.Goals as goal

pub put_decimal-requires : goal.put_decimal-requires
put_decimal-requires c =
    omega (arith, length-word c.args.n c.ranges.n.fits)

pub returns : goal.returns
returns c = record { put = put_both c.put_bytes-from.ensures c.put_decimal.ensures; upper_bound = omega (arith, length-word c.args.n c.ranges.n.fits) }
