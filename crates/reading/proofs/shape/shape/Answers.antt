-- `reading::shape::shape` meets its contract. Assumes nothing.
use mathlib.Core.Path.{sym}
use native.Mathlib.Omega.{arith}
use Rattle.search.proofs.Tests.{T_true, T_false, true-T, same_test}
use Rattle.reading.proofs.Shaped.{shaped-is}
use Rattle.reading.proofs.shape.shape.Goals as goal

pub returns-then-long-lt8 : goal.returns-then-long-lt8
returns-then-long-lt8 c = sym (T_false _ (λ t. let h = ((shaped-is _).0 t).head.long in omega arith))

pub returns-then-u32_at-long : goal.returns-then-u32_at-long
returns-then-u32_at-long c = sym (T_false _ (λ t. let h = ((shaped-is _).0 t).head.whole in omega (arith, c.u32_at.ensures)))

pub returns-then-n-eq0 : goal.returns-then-n-eq0
returns-then-n-eq0 c = sym (T_false _ (λ t. let h = ((shaped-is _).0 t).head.some_key in omega (arith, c.byte_at-n.ensures.0)))

pub returns-then-n-gt-KEYS : goal.returns-then-n-gt-KEYS
returns-then-n-gt-KEYS c = sym (T_false _ (λ t. let h = ((shaped-is _).0 t).head.few-keys in omega (arith, c.byte_at-n.ensures.0)))

pub returns-then-count-gt-COMMITS : goal.returns-then-count-gt-COMMITS
returns-then-count-gt-COMMITS c = sym (T_false _ (λ t. let h = ((shaped-is _).0 t).head.few-commits in omega (arith, c.byte_at-count.ensures.0)))

pub returns-then-u16_at-ne0 : goal.returns-then-u16_at-ne0
returns-then-u16_at-ne0 c = sym (T_false _ (λ t. let h = ((shaped-is _).0 t).head.spare in omega (arith, c.u16_at.ensures)))

pub returns : goal.returns
returns c =
    same_test _ _
    (λ t. (shaped-is _).1 (record {
      head = record {
        long = omega arith;
        whole = omega (arith, c.u32_at.ensures);
        some_key = omega (arith, c.byte_at-n.ensures.0);
        few-keys = omega (arith, c.byte_at-n.ensures.0);
        few-commits = omega (arith, c.byte_at-count.ensures.0);
        spare = omega (arith, c.u16_at.ensures);
      };
      body = c.body_fits.ensures.0 (T_true _ t);
    }))
    (λ t. true-T _ (c.body_fits.ensures.1 ((shaped-is _).0 t).body))
