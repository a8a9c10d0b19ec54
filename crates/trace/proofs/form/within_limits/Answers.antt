-- `trace::form::within_limits` meets its contract: each test is one of the four of within_limits. Assumes nothing.
use Rattle.trace.specs.Meaning.{header_of}
use mathlib.Core.Path.{sym}
use native.Mathlib.Omega.{arith}
use Rattle.search.proofs.Tests.{T_false}
use Rattle.trace.proofs.Tests.{within_limits-is, within_limits-last}
use Rattle.trace.proofs.form.within_limits.Goals as goal

pub returns-then-h-eq0 : goal.returns-then-h-eq0
returns-then-h-eq0 c = sym (T_false _ (λ t. let (some_key, few-keys, some-client, few-clients) = (within_limits-is (header_of c.args.h)).0 t in omega arith))

pub returns-then-h-gt-KEYS : goal.returns-then-h-gt-KEYS
returns-then-h-gt-KEYS c = sym (T_false _ (λ t. let (some_key, few-keys, some-client, few-clients) = (within_limits-is (header_of c.args.h)).0 t in omega arith))

pub returns-then-h-eq0-2 : goal.returns-then-h-eq0-2
returns-then-h-eq0-2 c = sym (T_false _ (λ t. let (some_key, few-keys, some-client, few-clients) = (within_limits-is (header_of c.args.h)).0 t in omega arith))

pub returns : goal.returns
returns c = within_limits-last (header_of c.args.h) (omega arith) (omega arith) (omega arith)
