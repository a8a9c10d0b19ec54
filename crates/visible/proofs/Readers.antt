-- The reads of a trace, found again in the store at its end. Assumes nothing.
use Prim.Native.Nat.{ℕ, zero, suc, ◌+◌}
use native.Mathlib.Omega.{arith}
use mathlib.Core.Path.{◌≡◌, sym, ap, ◌∙◌, subst}
use mathlib.Core.Option.{some}
use mathlib.Core.List.{List}
use Rattle.search.proofs.Tests.{some-none, is_some-some}
use Rattle.store.specs.Store.{Key, VersionNumber, Value, Configuration, version, next_number, read, Commit, Event, commit}
use Rattle.store.specs.Update.{value_of, newest, update, view_before, step, final}
use Rattle.store.specs.History.{Read}
use Rattle.store.specs.Sound.{Sound}
use Rattle.store.proofs.Updated.{read_stays, read-new}
use Rattle.store.proofs.Run.{LegalRun, done, shifts, commits, sound-shifts, sound-commits}
use Rattle.growth.proofs.Made.{legal-made, read-exists}
use Rattle.answer.proofs.Values.{value-kept}
use Rattle.visible.specs.Visible.{commit_numbered}

-- a version that was read keeps its reader and its value
read-on : {g : Configuration} {es : List Event} → LegalRun g es → (b k i : ℕ) (x : Value) → Read g.store b k i → (version g.store k i).value ≡ x
    → Read (final g es).store b k i × ((version (final g es).store k i).value ≡ x)
unfolding final step
read-on done b k i x r e = (r, e)
read-on (shifts f l q) b k i x r e = read-on q b k i x r e
read-on (commits {g = g} {c = c} f l q) b k i x r e =
    read-on q b k i x (read_stays g.store (view_before g c) c b k i r) (value-kept g.store (view_before g c) c k i r.0 ∙ e)

-- a read of x from key k: commit number b from here on is a reader of a version of that value
pub read_of : {g : Configuration} {es : List Event} → Sound g → LegalRun g es → (b : ℕ) (c : Commit) → commit_numbered es b ≡ some c
    → (k : Key) (x : Value) → value_of read c.operations k ≡ some x
    → (i : VersionNumber) × Read (final g es).store (next_number g.store + b) k i × ((version (final g es).store k i).value ≡ x)
unfolding commit_numbered final step update
read_of h done b c e k x v = some-none (sym e)
read_of h (shifts f l q) b c e k x v = read_of (sound-shifts h l) q b c e k x v
read_of h (commits {g = g} {c = c'} {es = es'} f l q) zero c e k x v =
    let same : c' ≡ c = cc in
    let v' : value_of read c'.operations k ≡ some x = ap (λ (d : Commit). value_of read d.operations k) same ∙ v in
    let r = is_some-some _ x v' in
    let i = newest (view_before g c') k in
    let there = read-exists g.store (view_before g c') c' (legal-made h f l) k r in
    let y =
    read-on q (next_number g.store) k i x (read-new g.store (view_before g c') c' k r there)
    (value-kept g.store (view_before g c') c' k i there ∙ sym (l.values k x v')) in
    (i, subst (λ (n : ℕ). Read (final (step g (commit c')) es').store n k i) (omega arith) y.0, y.1)
read_of h (commits {g = g} {c = c'} {es = es'} f l q) (suc b) c e k x v =
    let y = read_of (sound-commits h f l) q b c e k x v in
    (y.0, subst (λ (n : ℕ). Read (final (step g (commit c')) es').store n k y.0) (omega arith) y.1, y.2)
