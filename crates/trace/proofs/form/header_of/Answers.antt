-- `trace::form::header_of` meets its contract: the tests are those of decode, in their order; the rest is what its records say. Assumes nothing.
use mathlib.Core.Path.{sym, ap, ◌∙◌}
use native.Mathlib.Omega.{arith}
use Rattle.search.proofs.Steps.{need-met, need-unmet, tests}
use Rattle.trace.specs.Format.{within_limits, decode}
use Rattle.trace.specs.Meaning.{HeaderSays}
use Rattle.trace.proofs.InForm.{is-header_at, headed}
use Rattle.trace.proofs.form.header_of.Goals as goal

pub returns-then-len-lt-HEADER : goal.returns-then-len-lt-HEADER
unfolding HeaderSays decode
returns-then-len-lt-HEADER c = sym (need-unmet _ _ _ (omega tests))

pub returns-then-len-gt-BYTES : goal.returns-then-len-gt-BYTES
unfolding HeaderSays decode
returns-then-len-gt-BYTES c = sym (need-met _ _ _ (omega tests) (need-unmet _ _ _ (omega tests)))

pub returns-then-u32_at-len : goal.returns-then-u32_at-len
unfolding HeaderSays decode
returns-then-u32_at-len c = sym (need-met _ _ _ (omega tests) (need-met _ _ _ (omega tests) (need-unmet _ _ _ (omega tests))))

pub returns-then-u16_at-ne8 : goal.returns-then-u16_at-ne8
unfolding HeaderSays decode
returns-then-u16_at-ne8 c = sym (need-met _ _ _ (omega tests) (need-met _ _ _ (omega tests) (need-met _ _ _ (omega tests) (need-unmet _ _ _ (omega tests)))))

pub returns-then-u16_at-ne1 : goal.returns-then-u16_at-ne1
unfolding HeaderSays decode
returns-then-u16_at-ne1 c = sym (need-met _ _ _ (omega tests) (need-met _ _ _ (omega tests) (need-met _ _ _ (omega tests) (need-met _ _ _ (omega tests) (need-unmet _ _ _ (omega tests))))))

pub returns-then-within_limits : goal.returns-then-within_limits
unfolding HeaderSays
returns-then-within_limits c =
    headed (record {
      long = omega tests;
      short = omega tests;
      own-length = omega tests;
      size = omega tests;
      kind = omega tests;
      limits = sym c.within_limits.ensures ∙ c.if-within_limits.true;
      few-records = omega arith;
      is-header = is-header_at c.args.s.now _ _ _ c.byte_at.ensures.0 c.byte_at-2.ensures.0 c.u16_at-3.ensures;
    })

pub returns-else-within_limits : goal.returns-else-within_limits
unfolding HeaderSays decode
returns-else-within_limits c = sym (need-met _ _ _ (omega tests) (need-met _ _ _ (omega tests) (need-met _ _ _ (omega tests) (need-met _ _ _ (omega tests) (need-met _ _ _ (omega tests) (need-unmet _ _ _ (ap within_limits (sym (is-header_at c.args.s.now _ _ _ c.byte_at.ensures.0 c.byte_at-2.ensures.0 c.u16_at-3.ensures)) ∙ sym c.within_limits.ensures ∙ c.if-within_limits.false)))))))
