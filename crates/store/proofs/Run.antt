-- Runs: lists of records each of which is legal on what the one before left. Assumes nothing.
use mathlib.Core.Path.{◌≡◌, refl}
use mathlib.Core.Logic.{◌↔◌}
use mathlib.Core.Option.{none}
use mathlib.Core.List.{List, [], ◌∷◌}
use Prim.Native.Nat.{ℕ, suc, ◌+◌}
use native.Mathlib.Omega.{arith}
use Rattle.search.proofs.Tests.{or_else-none}
use Rattle.store.specs.Store.{Client, View, Configuration, Commit, Event, shift, commit}
use Rattle.store.specs.Update.{update, step, final, first_along}
use Rattle.store.specs.Refusal.{refuses_event}
use Rattle.store.specs.View.{FitsView}
use Rattle.store.specs.Sound.{Sound, WithinKeys}
use Rattle.store.specs.Legal.{LegalShift, LegalCommit}
use Rattle.store.proofs.Sound.{sound-shift, sound-commit}
use Rattle.store.proofs.Legal.{legal-shift, legal-commit}

-- what the form of the records ensures
abbrev pub FitsAll : ℕ → List Event → Type 0
FitsAll keys [] = Unit {0}
FitsAll keys (shift d u ∷ es) = FitsView keys u × FitsAll keys es
FitsAll keys (commit c ∷ es) = WithinKeys keys c × FitsAll keys es

-- each record in turn is legal
pub data LegalRun : Configuration → List Event → Type 0 where
  done : {g : Configuration} → LegalRun g []
  shifts : {g : Configuration} {d : Client} {u : View} {es : List Event} → FitsView g.store.keys u → LegalShift g d u
      → LegalRun (step g (shift d u)) es → LegalRun g (shift d u ∷ es)
  commits : {g : Configuration} {c : Commit} {es : List Event} → WithinKeys g.store.keys c → LegalCommit g c
      → LegalRun (step g (commit c)) es → LegalRun g (commit c ∷ es)

pub sound-shifts : {g : Configuration} {d : Client} {u : View} → Sound g → LegalShift g d u → Sound (step g (shift d u))
sound-shifts {g} {d} {u} h l = sound-shift g d u h l.view

pub sound-commits : {g : Configuration} {c : Commit} → Sound g → WithinKeys g.store.keys c → LegalCommit g c → Sound (step g (commit c))
sound-commits {g} {c} h f l = sound-commit g c h f l.view

pub sound-run : {g : Configuration} {es : List Event} → Sound g → LegalRun g es → Sound (final g es)
unfolding final
sound-run h done = h
sound-run h (shifts f l r) = sound-run (sound-shifts h l) r
sound-run h (commits f l r) = sound-run (sound-commits h f l) r

-- none of codes 9 to 14 is due exactly where the run is legal
pub legal-run : (n : ℕ) (g : Configuration) (es : List Event) → Sound g → FitsAll g.store.keys es → (first_along refuses_event n g es ≡ none) ↔ LegalRun g es
unfolding first_along step update
legal-run n g [] h f = (λ e. done, λ r. refl)
legal-run n g (shift d u ∷ es) h f =
    let w = or_else-none (refuses_event n g (shift d u)) (first_along refuses_event (suc n) (step g (shift d u)) es) in
    let l = legal-shift n g d u h f.0 in (
      λ e. let q = l.0 (w.0 e).0 in shifts f.0 q ((legal-run (suc n) (step g (shift d u)) es (sound-shifts h q) f.1).0 (w.0 e).1),
      λ r. w.1 (into r l (λ q. (legal-run (suc n) (step g (shift d u)) es (sound-shifts h q) f.1).1)),
    )
  where
    into : LegalRun g (shift d u ∷ es) → (refuses_event n g (shift d u) ≡ none) ↔ LegalShift g d u
        → (LegalShift g d u → LegalRun (step g (shift d u)) es → first_along refuses_event (suc n) (step g (shift d u)) es ≡ none)
        → (refuses_event n g (shift d u) ≡ none) × (first_along refuses_event (suc n) (step g (shift d u)) es ≡ none)
    into (shifts _ q r) l ih = (l.1 q, ih q r)
legal-run n g (commit c ∷ es) h f =
    let w = or_else-none (refuses_event n g (commit c)) (first_along refuses_event (suc n) (step g (commit c)) es) in
    let l = legal-commit g c h f.0 n in (
      λ e. let q = l.0 (w.0 e).0 in commits f.0 q ((legal-run (suc n) (step g (commit c)) es (sound-commits h f.0 q) f.1).0 (w.0 e).1),
      λ r. w.1 (into r l (λ q. (legal-run (suc n) (step g (commit c)) es (sound-commits h f.0 q) f.1).1)),
    )
  where
    into : LegalRun g (commit c ∷ es) → (refuses_event n g (commit c) ≡ none) ↔ LegalCommit g c
        → (LegalCommit g c → LegalRun (step g (commit c)) es → first_along refuses_event (suc n) (step g (commit c)) es ≡ none)
        → (refuses_event n g (commit c) ≡ none) × (first_along refuses_event (suc n) (step g (commit c)) es ≡ none)
    into (commits _ q r) l ih = (l.1 q, ih q r)

-- ---- what holds at each commit of a run

-- P holds of each commit, on the configuration that it is made on
abbrev pub Each : (Configuration → Commit → Type 0) → Configuration → List Event → Type 0
Each P g [] = Unit {0}
Each P g (shift d u ∷ es) = Each P (step g (shift d u)) es
Each P g (commit c ∷ es) = P g c × Each P (step g (commit c)) es

-- nothing is asked of a commit
pub each-any : (g : Configuration) (es : List Event) → Each (λ g c. Unit {0}) g es
each-any g [] = tt
each-any g (shift d u ∷ es) = each-any (step g (shift d u)) es
each-any g (commit c ∷ es) = (tt, each-any (step g (commit c)) es)

pub each_both : (P Q : Configuration → Commit → Type 0) (g : Configuration) (es : List Event) → Each P g es → Each Q g es → Each (λ g c. P g c × Q g c) g es
each_both P Q g [] p q = tt
each_both P Q g (shift d u ∷ es) p q = each_both P Q (step g (shift d u)) es p q
each_both P Q g (commit c ∷ es) p q = ((p.0, q.0), each_both P Q (step g (commit c)) es p.1 q.1)

pub each_map : (P Q : Configuration → Commit → Type 0) → ((g : Configuration) (c : Commit) → Sound g → WithinKeys g.store.keys c → LegalCommit g c → P g c → Q g c)
    → {g : Configuration} {es : List Event} → Sound g → LegalRun g es → Each P g es → Each Q g es
each_map P Q f h done p = tt
each_map P Q f h (shifts a l r) p = each_map P Q f (sound-shifts h l) r p
each_map P Q f h (commits a l r) p = (f _ _ h a l p.0, each_map P Q f (sound-commits h a l) r p.1)

-- what a shift keeps, and a commit with P keeps, holds at the end
pub run-keeps : (P : Configuration → Commit → Type 0) (I : Configuration → Type 0)
    → ((g : Configuration) (d : Client) (u : View) → Sound g → LegalShift g d u → I g → I (step g (shift d u)))
    → ((g : Configuration) (c : Commit) → Sound g → WithinKeys g.store.keys c → LegalCommit g c → P g c → I g → I (step g (commit c)))
    → {g : Configuration} {es : List Event} → Sound g → LegalRun g es → Each P g es → I g → I (final g es)
unfolding final
run-keeps P I a b h done p i = i
run-keeps P I a b h (shifts f l r) p i = run-keeps P I a b (sound-shifts h l) r p (a _ _ _ h l i)
run-keeps P I a b h (commits f l r) p i = run-keeps P I a b (sound-commits h f l) r p.1 (b _ _ h f l p.0 i)

-- how many commits a list has
unfoldable pub commits_in : List Event → ℕ
commits_in [] = 0
commits_in (shift d u ∷ es) = commits_in es
commits_in (commit c ∷ es) = suc (commits_in es)

pub final-commits : (g : Configuration) (es : List Event) → (final g es).store.commits ≡ g.store.commits + commits_in es
unfolding final commits_in step update
final-commits g [] = omega arith
final-commits g (shift d u ∷ es) = final-commits (step g (shift d u)) es
final-commits g (commit c ∷ es) = let e = final-commits (step g (commit c)) es in omega arith
