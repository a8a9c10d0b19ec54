-- `reading::shape::versions_fit` meets its contract. The loop's invariant: the versions that were passed fit, each by itself; their
-- writers and readers are kept. Assumes nothing.
use Prim.Native.Nat.{ℕ}
use mathlib.Core.Path.{◌≡◌, refl, sym, ◌∙◌, subst}
use native.Mathlib.Omega.{arith}
use Rattle.endian.specs.Endian.{Bytes}
use Rattle.reading.proofs.Answers.{refused, compared}
use Rattle.reading.proofs.Versions.{Passed, passed_none, passed-more, fits_each, writer-fits, fits-done, done-writers, done-readers}
use Rattle.reading.proofs.shape.versions_fit.Goals as goal

pub loop-i-init : goal.loop-i-init
loop-i-init c = (omega arith, passed_none _ _ _)

pub returns-then-commits-w : goal.returns-then-commits-w
returns-then-commits-w c =
    let a = c.args in
    let i = c.loop-i.i in
    refused (λ v. let l = writer-fits _ _ _ c.requires.0 i refl c.u32_at-w.ensures refl refl (fits_each _ _ _ v i (omega arith)) in absurd (omega arith))

pub loop-i-preserved : goal.loop-i-preserved
loop-i-preserved c =
    let l = c.loop-i in (
      omega (arith, c.size-count.ensures.1),
      passed-more _ _ _ c.requires.0 l.i refl c.u32_at-w.ensures c.u64_at-read.ensures c.requires.1 (omega arith) (sym c.without.ensures ∙ c.if-without-ne0.false)
          l.invariant.1 c.insert-writers.ensures c.union-readers.ensures (omega (arith, c.size-count.ensures.0)),
    )

pub returns-then-size-n : goal.returns-then-size-n
returns-then-size-n c =
    let l = c.loop-i in
    let all : l.i ≡ c.args.n = omega arith in
    refused (λ v. let e = done-writers _ _ _ (λ j. (c.type_inv.image j).fits) c.requires.0 c.args.n (subst (λ (n : ℕ). Passed c.args.image.now c.args.base c.args.commits n l.writers l.readers l.count) all l.invariant.1) v in absurd (omega (arith, c.size.ensures.0)))

pub returns : goal.returns
returns c =
    let l = c.loop-i in
    let all : l.i ≡ c.args.n = omega arith in
    let p = subst (λ (n : ℕ). Passed c.args.image.now c.args.base c.args.commits n l.writers l.readers l.count) all l.invariant.1 in
    let bytes : Bytes c.args.image.now = λ j. (c.type_inv.image j).fits in
    compared _ _ (
      λ e. fits-done _ _ _ bytes c.requires.0 c.args.n p (omega (arith, c.size.ensures.0)) (sym c.size-2.ensures.0 ∙ e),
      λ v. c.size-2.ensures.0 ∙ done-readers _ _ _ bytes c.requires.0 c.args.n p v,
    )
