-- A commit fails no clause of a level exactly where all of them hold; which levels imply which, at one commit. Assumes nothing.
use mathlib.Core.Path.{◌≡◌, refl, sym, ap}
use mathlib.Core.Logic.{◌↔◌}
use mathlib.Core.Option.{Option, some, none}
use mathlib.Core.List.{List, [], ◌∷◌}
use Prim.Native.Nat.{ℕ}
use Rattle.search.specs.Choose.{map_some, or_else}
use Rattle.search.proofs.Tests.{both, some-none, map-none, or_else-none}
use Rattle.dependencies.proofs.Implications.{7→6, 6→3, 6→4, 7→3, 7→4, 8→3, 8→4, 8→5, 8→6, 8→7}
use Rattle.store.specs.Store.{View, Store, Configuration, next_number, Commit}
use Rattle.store.specs.Update.{update, view_before}
use Rattle.store.specs.Missing.{Place}
use Rattle.store.specs.View.{IsView}
use Rattle.store.specs.Sound.{SoundStore}
use Rattle.store.specs.History.{history, held}
use Rattle.store.proofs.Links.{reads-written}
use Rattle.levels.specs.Clause.{Clause, monotonic_reads, read_your_writes, monotonic_writes, writes_follow_reads, update_atomic, consistent_prefix, snapshot_isolation, serialisability, missing_by}
use Rattle.levels.specs.Level.{Level, MR, MW, RYW, WFR, CC, PSI, CP, SI, SER, clauses_of, Failure, failure, fails_clauses}
use Rattle.levels.proofs.Clauses.{Says, clause-is}

-- every clause of a list holds
abbrev pub AllSay : Store → View → Commit → List Clause → Type 0
AllSay s u c [] = Unit {0}
AllSay s u c (x ∷ xs) = Says s u c x × AllSay s u c xs

-- a commit passes a level
abbrev pub Passes : Level → Configuration → Commit → Type 0
Passes l g c = AllSay g.store (view_before g c) c (clauses_of l)

pub fails-none : (n : ℕ) (s : Store) (u : View) (c : Commit) → SoundStore s → IsView s u → SoundStore (update s u c)
    → (xs : List Clause) → (fails_clauses n s u c xs ≡ none) ↔ AllSay s u c xs
unfolding fails_clauses
fails-none n s u c h v h' [] = (λ e. tt, λ a. refl)
fails-none n s u c h v h' (x ∷ xs) =
    let w = or_else-none (map_some (failure (next_number s) n x) (missing_by s u c x)) (fails_clauses n s u c xs) in
    let first = both (map-none (failure (next_number s) n x) (missing_by s u c x)) (clause-is s h u v c h' x) in
    let rest = fails-none n s u c h v h' xs in
    (λ e. (first.0 (w.0 e).0, rest.0 (w.0 e).1), λ a. w.1 (first.1 a.0, rest.1 a.1))

-- a failure names the commit at hand
pub fails-number : (n : ℕ) (s : Store) (u : View) (c : Commit) (xs : List Clause) (f : Failure) → fails_clauses n s u c xs ≡ some f → f.commit ≡ next_number s
unfolding fails_clauses map_some or_else
fails-number n s u c [] f e = some-none (sym e)
fails-number n s u c (x ∷ xs) f e = go (missing_by s u c x) (fails-number n s u c xs f) e
  where
    some_inj : {A : Type 0} {a b : A} → ◌≡◌ {A = Option A} (some a) (some b) → a ≡ b
    some_inj q = cc

    go : (o : Option Place) → (fails_clauses n s u c xs ≡ some f → f.commit ≡ next_number s)
        → or_else (map_some (failure (next_number s) n x) o) (fails_clauses n s u c xs) ≡ some f → f.commit ≡ next_number s
    go none ih q = ih q
    go (some p) ih q = sym (ap (λ (y : Failure). y.commit) (some_inj q))

-- ---- the orderings of demand 3, at one commit

module _ (g : Configuration) (c : Commit) where
  pub si→psi : Passes SI g c → Passes PSI g c
  si→psi (mr, (ryw, (ua, (si, _)))) = (mr, (ryw, (7→3 _ _ si, (7→4 _ _ (reads-written g.store) si, (ua, tt)))))

  pub si→cp : Passes SI g c → Passes CP g c
  si→cp (mr, (ryw, (ua, (si, _)))) = (mr, (ryw, (7→6 _ _ si, tt)))

  pub psi→cc : Passes PSI g c → Passes CC g c
  psi→cc (mr, (ryw, (mw, (wfr, (ua, _))))) = (mr, (ryw, (mw, (wfr, tt))))

  pub cp→cc : Passes CP g c → Passes CC g c
  cp→cc (mr, (ryw, (cp, _))) = (mr, (ryw, (6→3 _ _ cp, (6→4 _ _ (reads-written g.store) cp, tt))))

  pub cc→mr : Passes CC g c → Passes MR g c
  cc→mr (mr, _) = (mr, tt)

  pub cc→ryw : Passes CC g c → Passes RYW g c
  cc→ryw (mr, (ryw, _)) = (ryw, tt)

  pub cc→mw : Passes CC g c → Passes MW g c
  cc→mw (mr, (ryw, (mw, _))) = (mw, tt)

  pub cc→wfr : Passes CC g c → Passes WFR g c
  cc→wfr (mr, (ryw, (mw, (wfr, _)))) = (wfr, tt)

  -- serialisability, monotonic reads and read-your-writes together are the strongest
  pub every-clause : Passes SER g c → Passes MR g c → Passes RYW g c → (x : Clause) → Says g.store (view_before g c) c x
  every-clause ser mr ryw monotonic_reads = mr.0
  every-clause ser mr ryw read_your_writes = ryw.0
  every-clause ser mr ryw monotonic_writes = 8→3 _ _ ser.0
  every-clause ser mr ryw writes_follow_reads = 8→4 _ _ (reads-written g.store) ser.0
  every-clause ser mr ryw update_atomic = 8→5 (history g.store) (held (view_before g c)) _ ser.0
  every-clause ser mr ryw consistent_prefix = 8→6 _ _ ser.0
  every-clause ser mr ryw snapshot_isolation = 8→7 _ _ ser.0
  every-clause ser mr ryw serialisability = ser.0

  pub all_say : ((x : Clause) → Says g.store (view_before g c) c x) → (xs : List Clause) → AllSay g.store (view_before g c) c xs
  all_say f [] = tt
  all_say f (x ∷ xs) = (f x, all_say f xs)
