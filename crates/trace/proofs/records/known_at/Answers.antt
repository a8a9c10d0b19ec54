-- `trace::records::known_at` meets its contract: a record in form goes as far as is read of it, by its kind. Assumes nothing.
use native.Mathlib.Omega.{arith}
use Rattle.trace.proofs.Known.{six-bytes, shift-within, commit-within, short-shift-within, short-shift-end, short-commit-within, short-commit-end, operations-within, shift-known, short-shift-known, short-commit-known, commit-known}
use Rattle.trace.proofs.records.known_at.Goals as goal

pub overflow_add-at : goal.overflow_add-at
overflow_add-at c = omega (arith, six-bytes c.requires.1)

pub byte_at-client-requires : goal.byte_at-client-requires
byte_at-client-requires c = omega (arith, six-bytes c.requires.1)

pub overflow_add-at-2 : goal.overflow_add-at-2
overflow_add-at-2 c = omega (arith, six-bytes c.requires.1)

pub u16_at-kind-requires : goal.u16_at-kind-requires
u16_at-kind-requires c = omega (arith, six-bytes c.requires.1)

pub overflow_add-listing : goal.overflow_add-listing
overflow_add-listing c = omega (arith, shift-within c.requires.1 (omega arith))

pub overflow_mul-result : goal.overflow_mul-result
overflow_mul-result c = omega (arith, shift-within c.requires.1 (omega arith))

pub overflow_add-result : goal.overflow_add-result
overflow_add-result c = omega (arith, shift-within c.requires.1 (omega arith))

pub overflow_add-result-then-kind-eq2 : goal.overflow_add-result-then-kind-eq2
overflow_add-result-then-kind-eq2 c = omega (arith, shift-within c.requires.1 (omega arith))

pub returns-then-kind-eq2 : goal.returns-then-kind-eq2
returns-then-kind-eq2 c = λ clients f. shift-known f (omega arith) c.byte_at-client.ensures.0

pub overflow_add-at-then-kind-eq6 : goal.overflow_add-at-then-kind-eq6
overflow_add-at-then-kind-eq6 c = let f = c.requires.1 in omega (arith, short-shift-within f (omega arith), short-shift-end f (omega arith))

pub u32_at-requires : goal.u32_at-requires
u32_at-requires c = let f = c.requires.1 in omega (arith, short-shift-within f (omega arith), short-shift-end f (omega arith))

pub overflow_add-listing-then-kind-eq6 : goal.overflow_add-listing-then-kind-eq6
overflow_add-listing-then-kind-eq6 c = let f = c.requires.1 in omega (arith, short-shift-within f (omega arith), short-shift-end f (omega arith))

pub u16_at-requires : goal.u16_at-requires
u16_at-requires c = let f = c.requires.1 in omega (arith, short-shift-within f (omega arith), short-shift-end f (omega arith))

pub overflow_add-result-then-kind-eq6 : goal.overflow_add-result-then-kind-eq6
overflow_add-result-then-kind-eq6 c = let f = c.requires.1 in omega (arith, short-shift-within f (omega arith), short-shift-end f (omega arith))

pub returns-then-kind-eq6 : goal.returns-then-kind-eq6
returns-then-kind-eq6 c = λ clients f. short-shift-known f (omega arith) c.byte_at-client.ensures.0 c.u32_at.ensures (omega arith)

pub overflow_add-at-3 : goal.overflow_add-at-3
overflow_add-at-3 c = omega (arith, six-bytes c.requires.1)

pub byte_at-m-requires : goal.byte_at-m-requires
byte_at-m-requires c = omega (arith, six-bytes c.requires.1)

pub overflow_add-masks-2 : goal.overflow_add-masks-2
overflow_add-masks-2 c = omega (arith, operations-within c.requires.1 (λ e. omega arith) (λ e. omega arith))

pub overflow_add-at-4 : goal.overflow_add-at-4
overflow_add-at-4 c = omega (arith, operations-within c.requires.1 (λ e. omega arith) (λ e. omega arith))

pub u32_at-session-requires : goal.u32_at-session-requires
u32_at-session-requires c = omega (arith, operations-within c.requires.1 (λ e. omega arith) (λ e. omega arith))

pub overflow_add-listing-then-kind-eq5 : goal.overflow_add-listing-then-kind-eq5
overflow_add-listing-then-kind-eq5 c = let f = c.requires.1 in omega (arith, short-commit-within f (omega arith), short-commit-end f (omega arith))

pub overflow_add-record : goal.overflow_add-record
overflow_add-record c = let f = c.requires.1 in omega (arith, short-commit-within f (omega arith), short-commit-end f (omega arith))

pub u16_at-requires-then-kind-eq5 : goal.u16_at-requires-then-kind-eq5
u16_at-requires-then-kind-eq5 c = let f = c.requires.1 in omega (arith, short-commit-within f (omega arith), short-commit-end f (omega arith))

pub overflow_add-result-then-kind-eq5 : goal.overflow_add-result-then-kind-eq5
overflow_add-result-then-kind-eq5 c = let f = c.requires.1 in omega (arith, short-commit-within f (omega arith), short-commit-end f (omega arith))

pub returns-then-kind-eq5 : goal.returns-then-kind-eq5
returns-then-kind-eq5 c = λ clients f. short-commit-known f (omega arith) c.byte_at-client.ensures.0 c.byte_at-m.ensures.0 c.u32_at-session.ensures (omega arith)

pub overflow_add-record-2 : goal.overflow_add-record-2
overflow_add-record-2 c = omega (arith, commit-within c.requires.1 (λ e. omega arith, λ e. omega arith, λ e. omega arith))

pub overflow_mul-result-2 : goal.overflow_mul-result-2
overflow_mul-result-2 c = omega (arith, commit-within c.requires.1 (λ e. omega arith, λ e. omega arith, λ e. omega arith))

pub overflow_add-result-2 : goal.overflow_add-result-2
overflow_add-result-2 c = omega (arith, commit-within c.requires.1 (λ e. omega arith, λ e. omega arith, λ e. omega arith))

pub returns : goal.returns
returns c = λ clients f. commit-known f (λ e. omega arith, λ e. omega arith, λ e. omega arith) c.byte_at-client.ensures.0 c.byte_at-m.ensures.0 c.u32_at-session.ensures (omega arith)
