-- `text::put_decimal` meets its contract: the digits of a tenth, and the last one behind them. Assumes nothing.
use Rattle.std.proofs.Common.{arith}
use Rattle.text.proofs.Digits.{length-one, length_more}
use Rattle.text.proofs.Put.{put-one-digit, put-last-digit}
use Rattle.text.proofs.+put_decimal.Goals as goal

pub bounds-out-at : goal.bounds-out-at
bounds-out-at t c = omega (arith, length-one _ c.if-n-lt10.true)

pub put_decimal-last-requires : goal.put_decimal-last-requires
put_decimal-last-requires t c = (omega arith, omega (arith, length_more _ c.if-n-lt10.false))

pub bounds-out-last : goal.bounds-out-last
bounds-out-last t c = omega (arith, length_more _ c.if-n-lt10.false)

pub returns-then-n-lt10 : goal.returns-then-n-lt10
returns-then-n-lt10 t c = put-one-digit _ _ _ c.if-n-lt10.true (omega (arith, length-one _ c.if-n-lt10.true))

pub returns-else-n-lt10 : goal.returns-else-n-lt10
returns-else-n-lt10 t c =
    let more = c.if-n-lt10.false in
    put-last-digit _ _ _ _ more c.put_decimal-last.ensures (omega (arith, length_more _ more))
