-- When levels fail (01, The words of demand 3). A level fails no earlier than at a exactly where each commit with a number below a
-- passes it; so where passing some levels implies passing another at each commit, that other fails no earlier than the
-- earliest of them. The nine orders of demand 3 follow from the implications at one commit. Assumes nothing.
use Prim.Native.Nat.{ℕ, suc, ◌≤◌, ◌<◌, min}
use native.Mathlib.Omega.{arith}
use native.Mathlib.Decide.{dec_le}
use mathlib.Core.Path.{◌≡◌, refl, sym, ◌∙◌}
use mathlib.Core.Logic.{◌↔◌}
use mathlib.Core.Option.{Option, some, none}
use mathlib.Core.List.{List, [], ◌∷◌}
use Rattle.search.specs.Choose.{or_else}
use Rattle.search.proofs.Tests.{some-none, or_else-none}
use Rattle.store.specs.Store.{CommitNumber, Configuration, opening, next_number, Commit, Event, shift, commit}
use Rattle.store.specs.Update.{update, view_before, step, final, first_along}
use Rattle.store.specs.Sound.{Sound, WithinKeys}
use Rattle.store.proofs.Sound.{sound-opening, sound-update}
use Rattle.store.proofs.Run.{LegalRun, done, shifts, commits, sound-shifts, sound-commits, Each, each_both, each_map, final-commits}
use Rattle.trace.specs.Format.{Trace}
use Rattle.levels.specs.Level.{Level, MR, MW, RYW, WFR, CC, PSI, CP, SI, SER, clauses_of, Failure, fails_clauses, fails_event, first_failure}
use Rattle.levels.proofs.Levels.{Passes, fails-none, fails-number, si→psi, si→cp, psi→cc, cp→cc, cc→mr, cc→mw, cc→ryw, cc→wfr, every-clause, all_say}
use Rattle.answer.specs.Demand3.{failing_commit, fails_at, Accepts}
use Rattle.answer.proofs.Taken.{Taken}

-- what may hold of a commit, on the configuration that it is made on
abbrev pub OfCommit : Type 1
OfCommit = Configuration → Commit → Type 0

-- P, asked only of commits with a number below a
abbrev pub Until : ℕ → OfCommit → OfCommit
Until a P g c = next_number g.store < a → P g c

-- a is at most one more than the last number, and each commit with a number below a has P
abbrev pub EachBelow : ℕ → OfCommit → Configuration → List Event → Type 0
EachBelow a P g es = (a ≤ next_number (final g es).store) × Each (Until a P) g es

-- where the numbers have come to a, nothing is asked any more
each-later : (a : ℕ) (P : OfCommit) (g : Configuration) (es : List Event) → a ≤ next_number g.store → Each (Until a P) g es
unfolding step update
each-later a P g [] l = tt
each-later a P g (shift d u ∷ es) l = each-later a P (step g (shift d u)) es l
each-later a P g (commit c ∷ es) l = (λ m. absurd (omega arith), each-later a P (step g (commit c)) es (omega arith))

-- ---- one level, along any legal run

module _ (l : Level) where
  -- the failure of a commit at record n; the first failure from record n on, and the number that it counts as
  abbrev pub failure-at : ℕ → Configuration → Commit → Option Failure
  failure-at n g c = fails_clauses n g.store (view_before g c) c (clauses_of l)

  abbrev failure-from : ℕ → Configuration → List Event → Option Failure
  failure-from n g es = first_along (fails_event l) n g es

  abbrev fails-from : ℕ → Configuration → List Event → ℕ
  fails-from n g es = failing_commit (failure-from n g es) (final g es).store.commits

  pub no-failure-is : (n : ℕ) (g : Configuration) (c : Commit) → Sound g → WithinKeys g.store.keys c
      → (failure-at n g c ≡ none) ↔ Passes l g c
  no-failure-is n g c h f =
      fails-none n g.store (view_before g c) c h.store (h.views c.client)
      (sound-update g.store (view_before g c) c h.store f.read-keys f.write-keys) (clauses_of l)

  -- no failure is found exactly where each commit passes
  no-failure-each : (n : ℕ) {g : Configuration} {es : List Event} → Sound g → LegalRun g es
      → (failure-from n g es ≡ none) ↔ Each (Passes l) g es
  unfolding first_along fails_event or_else
  no-failure-each n h done = (λ e. tt, λ p. refl)
  no-failure-each n h (shifts f q r) = no-failure-each (suc n) (sound-shifts h q) r
  no-failure-each n {g} h (commits {c = c} {es = es} f q r) =
      let none_both = or_else-none (failure-at n g c) (failure-from (suc n) (step g (commit c)) es) in
      let first = no-failure-is n g c h f in
      let rest = no-failure-each (suc n) (sound-commits h f q) r in
      (λ e. (first.0 (none_both.0 e).0, rest.0 (none_both.0 e).1), λ p. none_both.1 (first.1 p.0, rest.1 p.1))

  -- the level fails no earlier than at a exactly where each commit with a number below a passes
  fails-below : (a n : ℕ) {g : Configuration} {es : List Event} → Sound g → LegalRun g es
      → (a ≤ fails-from n g es) ↔ EachBelow a (Passes l) g es
  unfolding first_along fails_event or_else failing_commit final step update
  fails-below a n h done = (λ x. (x, tt), λ x. x.0)
  fails-below a n h (shifts f q r) = fails-below a (suc n) (sound-shifts h q) r
  fails-below a n {g} h (commits {c = c} {es = es} f q r) =
      go (failure-at n g c) refl (fails-below a (suc n) (sound-commits h f q) r)
    where
      t : ℕ
      t = next_number g.store

      g' : Configuration
      g' = step g (commit c)

      -- by what the commit at hand answers
      go : (o : Option Failure) → failure-at n g c ≡ o → (a ≤ fails-from (suc n) g' es) ↔ EachBelow a (Passes l) g' es
          → (a ≤ failing_commit (or_else o (failure-from (suc n) g' es)) (final g' es).store.commits)
          ↔ EachBelow a (Passes l) g (commit c ∷ es)
      go none e rest = (
        λ x. let y = rest.0 x in (y.0, (λ m. (no-failure-is n g c h f).0 e, y.1)),
        λ x. rest.1 (x.0, x.1.1),
      )
      go (some x) e rest = (
        λ b. let b' : a ≤ t = omega (arith, here) in
            (omega (arith, final-commits g' es), (λ m. absurd (omega arith), each-later a (Passes l) g' es (omega arith))),
        λ b. omega (arith, here, not-above b.1.0 (dec_le a t)),
      )
        where
          here : x.commit ≡ t
          here = fails-number n g.store (view_before g c) c (clauses_of l) x e

          not-above : (t < a → Passes l g c) → Dec (a ≤ t) → a ≤ t
          not-above p (yes m) = m
          not-above p (no m) = some-none (sym e ∙ (no-failure-is n g c h f).1 (p (omega arith)))

-- ---- a taken trace

module _ (t : Trace) (h : Taken t) where
  -- P at each commit of the trace; P at each with a number below a
  abbrev AtEach : OfCommit → Type 0
  AtEach P = Each P (opening t.keys) t.events

  abbrev Below : ℕ → OfCommit → Type 0
  Below a P = EachBelow a P (opening t.keys) t.events

  -- a level accepts exactly where each commit passes it
  pub accepts-each : (l : Level) → Accepts l t ↔ Each (Passes l) (opening t.keys) t.events
  unfolding first_failure
  accepts-each l = no-failure-each l 1 (sound-opening t.keys) h.legal

  -- it fails no earlier than at a exactly where each commit with a number below a passes it
  pub fails-no-earlier : (l : Level) (a : ℕ) → (a ≤ fails_at l t) ↔ EachBelow a (Passes l) (opening t.keys) t.events
  unfolding first_failure
  fails-no-earlier l a = fails-below l a 1 (sound-opening t.keys) h.legal

  weaken : (P Q : OfCommit) → ((g : Configuration) (c : Commit) → P g c → Q g c) → AtEach P → AtEach Q
  weaken P Q f = each_map P Q (λ g c _ _ _. f g c) (sound-opening t.keys) h.legal

  below_both : (a : ℕ) (P Q : OfCommit) → Below a P → Below a Q → Below a (λ g c. P g c × Q g c)
  below_both a P Q p q = (
    p.0,
    weaken (λ g c. Until a P g c × Until a Q g c) (Until a (λ g c. P g c × Q g c)) (λ g c x m. (x.0 m, x.1 m))
        (each_both (Until a P) (Until a Q) (opening t.keys) t.events p.1 q.1),
  )

  -- a level that P implies fails no earlier than at a, where each commit with a number below a has P
  implied-no-earlier : (a : ℕ) (P : OfCommit) (l : Level) → ((g : Configuration) (c : Commit) → P g c → Passes l g c)
      → Below a P → a ≤ fails_at l t
  implied-no-earlier a P l implies p =
      (fails-no-earlier l a).1 (p.0, weaken (Until a P) (Until a (Passes l)) (λ g c x m. implies g c (x m)) p.1)

  -- so a level that implies another fails no later
  pub fails-no-later : (m l : Level) → ((g : Configuration) (c : Commit) → Passes m g c → Passes l g c) → fails_at m t ≤ fails_at l t
  fails-no-later m l implies = implied-no-earlier (fails_at m t) (Passes m) l implies ((fails-no-earlier m (fails_at m t)).0 (omega arith))

  -- ---- the orders of demand 3

  pub si-psi : fails_at SI t ≤ fails_at PSI t
  si-psi = fails-no-later SI PSI si→psi

  pub si-cp : fails_at SI t ≤ fails_at CP t
  si-cp = fails-no-later SI CP si→cp

  pub psi-cc : fails_at PSI t ≤ fails_at CC t
  psi-cc = fails-no-later PSI CC psi→cc

  pub cp-cc : fails_at CP t ≤ fails_at CC t
  cp-cc = fails-no-later CP CC cp→cc

  pub cc-mr : fails_at CC t ≤ fails_at MR t
  cc-mr = fails-no-later CC MR cc→mr

  pub cc-mw : fails_at CC t ≤ fails_at MW t
  cc-mw = fails-no-later CC MW cc→mw

  pub cc-ryw : fails_at CC t ≤ fails_at RYW t
  cc-ryw = fails-no-later CC RYW cc→ryw

  pub cc-wfr : fails_at CC t ≤ fails_at WFR t
  cc-wfr = fails-no-later CC WFR cc→wfr

  -- the three together are the strongest; the earliest of their failures
  abbrev Strongest : OfCommit
  Strongest g c = Passes SER g c × (Passes MR g c × Passes RYW g c)

  abbrev earliest : CommitNumber
  earliest = min (fails_at SER t) (min (fails_at MR t) (fails_at RYW t))

  pub earliest-si : min (fails_at SER t) (min (fails_at MR t) (fails_at RYW t)) ≤ fails_at SI t
  earliest-si =
      let ser : Below earliest (Passes SER) = (fails-no-earlier SER earliest).0 (omega arith) in
      let mr : Below earliest (Passes MR) = (fails-no-earlier MR earliest).0 (omega arith) in
      let ryw : Below earliest (Passes RYW) = (fails-no-earlier RYW earliest).0 (omega arith) in
      implied-no-earlier earliest Strongest SI (λ g c (s, (m, r)). all_say g c (every-clause g c s m r) (clauses_of SI))
      (below_both earliest (Passes SER) (λ g c. Passes MR g c × Passes RYW g c) ser (below_both earliest (Passes MR) (Passes RYW) mr ryw))
