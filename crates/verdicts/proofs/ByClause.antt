-- Each clause on sets of commits: it passes exactly where what it wants and what is lacking have nothing in common; and the set of the failing clauses,
-- made clause by clause. Assumes nothing.
use Rattle.std.specs.Prelude.{Option as CodeOption}
use Prim.Native.Nat.{ℕ, suc, ◌<◌}
use mathlib.Core.Path.{◌≡◌, refl, sym, ◌∙◌, subst}
use mathlib.Core.Logic.{◌⊎◌, inl, inr, ⊎_elim, ◌↔◌}
use mathlib.Core.Option.{none}
use native.Mathlib.Omega.{arith}
use native.Mathlib.Decide.{ℕ_discrete}
use lib.Dec.{T}
use lib.Bits.{bit_and}
use Rattle.search.proofs.Tests.{both}
use Rattle.sets.specs.Set.{Set, has, insert}
use Rattle.sets.proofs.Laws.{has-none, insert-has, has-insert, insert-self}
use Rattle.sets.proofs.Algebra.{empty-is, both_is}
use Rattle.store.specs.Store.{CommitNumber, View, Store, next_number, Commit}
use Rattle.store.specs.Update.{update}
use Rattle.store.specs.History.{history}
use Rattle.growth.proofs.Made.{sound-after}
use Rattle.growth.specs.Sessions.{UpTo}
use Rattle.growth.specs.Views.{Lacking}
use Rattle.growth.specs.Clauses.{LeadsToHeld, LacksOneOf}
use Rattle.growth.proofs.Clauses.{read-your-writes-is, monotonic-writes-is, write-follows-reads-is, update-atomic-is, consistent-prefix-is, snapshot-isolation-is, serialisable-is}
use Rattle.levels.specs.Clause.{Clause, monotonic_reads, read_your_writes, monotonic_writes, writes_follow_reads, update_atomic, consistent_prefix, snapshot_isolation, serialisability, clause_number, missing_by}
use Rattle.levels.proofs.Clauses.{Says, clause-is}
use Rattle.state.specs.declared.Place.{Place}
use Rattle.state.specs.Keeps.{IsSet}
use Rattle.state.specs.Answers.{place_of}
use Rattle.verdicts.specs.declared.Hand.{Hand}
use Rattle.dependencies.specs.History.{SO}
use Rattle.verdicts.specs.Wants.{LacksSome}
use Rattle.verdicts.specs.AtHand.{AtHand}
use Rattle.verdicts.specs.Verdicts.{Asked, Fails, FailingClauses}
use Rattle.verdicts.proofs.FirstFailing.{same-clause, number-range}

-- the other way round
back : {A B : Type 0} → A ↔ B → B ↔ A
back (f, g) = (g, f)

-- the set is W, or it is empty, and no commit of W is lacking
abbrev Gathers : Store → View → Set → (CommitNumber → Type 0) → Type 0
Gathers s u m W = IsSet m W ⊎ ((m ≡ 0) × (¬ LacksOneOf s u W))

-- no commit of W is lacking where the two sets have nothing in common
none-lacking : (s : Store) (u : View) (W : CommitNumber → Type 0) (m lacking : Set) → IsSet lacking (Lacking s u) → (LacksSome s u → Gathers s u m W)
    → (bit_and m lacking ≡ 0) ↔ (¬ LacksOneOf s u W)
none-lacking s u W m lacking is h = let e = empty-is (bit_and m lacking) in (
  λ z (a, w, x). ⊎_elim (λ g. e.0 z a ((both_is m lacking a).1 ((g a).1 w, (is a).1 x))) (λ g. g.1 (a, w, x)) (h (a, x)),
  λ n. e.1 (λ a t.
      let y = (both_is m lacking a).0 t in
      let x = (is a).0 y.1 in
      ⊎_elim (λ g. n (a, (g a).0 y.0, x)) (λ g. has-none a (subst (λ (k : Set). T (has k a)) g.0 y.0)) (h (a, x))),
)

module _ (s : Store) (u : View) (c : Commit) (g : Hand) (h : AtHand s u c g) where
  -- a clause passes where a number is 0
  abbrev Passes : ℕ → Clause → Type 0
  Passes met x = (met ≡ 0) ↔ (missing_by s u c x ≡ none)

  said : (x : Clause) → Says s u c x ↔ (missing_by s u c x ≡ none)
  said x = back (clause-is s h.made.sound u h.made.view c (sound-after s u c h.made) x)

  found-passes : (f : CodeOption Place) (x : Clause) → place_of f ≡ missing_by s u c x → (met : ℕ) → (met ≡ 0) ↔ (place_of f ≡ none) → Passes met x
  found-passes f x e met g = both g (λ z. sym e ∙ z, λ z. e ∙ z)

  set-passes : (x : Clause) (W : CommitNumber → Type 0) (m : Set) → (LacksSome s u → Gathers s u m W) → Says s u c x ↔ (¬ LacksOneOf s u W) → Passes (bit_and m g.wanted.lacking) x
  set-passes x W m is e = both (none-lacking s u W m g.wanted.lacking h.wants.lacking is) (both (back e) (said x))

  -- clause 2 is asked of the view after
  session-passes : Passes (bit_and g.session g.absent) read_your_writes
  session-passes =
      both (none-lacking (update s u c) c.view_after (UpTo (history (update s u c)) (next_number s)) g.session g.absent h.lacking-after (λ _. inl h.session))
      (both (back (read-your-writes-is (update s u c) c.view_after h.view-after (next_number s))) (said read_your_writes))

  lacking-passes : Passes g.wanted.lacking serialisability
  lacking-passes =
      both
      (λ z (a, x). (empty-is g.wanted.lacking).0 z a ((h.wants.lacking a).1 x), λ n. (empty-is g.wanted.lacking).1 (λ a t. n (a, (h.wants.lacking a).0 t)))
      (both (back (serialisable-is s u h.made.view)) (said serialisability))

  -- clauses 3 and 4, where what they want is gathered and where nothing of it is lacking
  before-passes : Asked g.wanted.live monotonic_writes → Passes (bit_and g.wanted.before g.wanted.lacking) monotonic_writes
  before-passes a = set-passes monotonic_writes _ g.wanted.before
      (λ x. ⊎_elim (λ p. inl p.0) (λ q. inr (q.0.0, q.1.0)) (h.wants.past (inl a) x)) (monotonic-writes-is s u h.made.view)

  read-passes : Asked g.wanted.live writes_follow_reads → Passes (bit_and g.wanted.read g.wanted.lacking) writes_follow_reads
  read-passes a = set-passes writes_follow_reads _ g.wanted.read
      (λ x. ⊎_elim (λ p. inl p.1) (λ q. inr (q.0.1, q.1.1)) (h.wants.past (inr a) x)) (write-follows-reads-is s u h.made.view)

  -- where one of them fails, what is before the commits that the view holds was gathered
  pub before-of-3 : Fails s u c g.wanted.live monotonic_writes → LacksSome s u → IsSet g.wanted.before (LeadsToHeld s u (SO (history s)))
  before-of-3 (a, n) x =
      ⊎_elim (λ p. p.0) (λ q. absurd (n ((said monotonic_writes).0 ((monotonic-writes-is s u h.made.view).1 q.1.0)))) (h.wants.past (inl a) x)

  pub before-of-4 : Fails s u c g.wanted.live writes_follow_reads → LacksSome s u → IsSet g.wanted.before (LeadsToHeld s u (SO (history s)))
  before-of-4 (a, n) x =
      ⊎_elim (λ p. p.0) (λ q. absurd (n ((said writes_follow_reads).0 ((write-follows-reads-is s u h.made.view).1 q.1.1)))) (h.wants.past (inr a) x)

-- ---- the set of the failing clauses

-- the failing clauses with numbers below j, among those that are asked for
record FailingBelow (s : Store) (u : View) (c : Commit) (live : Set) (j : ℕ) (m : Set) : Type 0 where
  is : (i : ℕ) → T (has live i) → T (has m i) ↔ ((i < j) × (x : Clause) × (clause_number x ≡ i) × (¬ (missing_by s u c x ≡ none)))

-- what `mark` ensures
abbrev pub Marks : Set → ℕ → ℕ → Set → Type 0
Marks set clause met r = (met ≡ 0 → r ≡ set) × (¬ (met ≡ 0) → r ≡ insert clause set)

module _ {s : Store} {u : View} {c : Commit} {live : Set} where
  none-below-1 : FailingBelow s u c live 1 0
  none-below-1 = record { is = λ i a. (λ t. absurd (has-none i t), λ (l, x, e, n). absurd (omega (arith, number-range x))) }

  marks : (x : Clause) {m r : Set} (met : ℕ) → FailingBelow s u c live (clause_number x) m → (Asked live x → (met ≡ 0) ↔ (missing_by s u c x ≡ none)) → Marks m (clause_number x) met r
      → FailingBelow s u c live (suc (clause_number x)) r
  marks x {m} {r} met below passes is = go (ℕ_discrete met 0)
    where
      Failing : ℕ → ℕ → Type 0
      Failing j i = (i < j) × (y : Clause) × (clause_number y ≡ i) × (¬ (missing_by s u c y ≡ none))

      later : (i : ℕ) → Failing (clause_number x) i → Failing (suc (clause_number x)) i
      later i (l, y, e, n) = (omega arith, y, e, n)

      earlier : (i : ℕ) → ¬ (i ≡ clause_number x) → Failing (suc (clause_number x)) i → Failing (clause_number x) i
      earlier i q (l, y, e, n) = (omega arith, y, e, n)

      -- the clause of the number at hand
      at : (i : ℕ) → i ≡ clause_number x → Failing (suc (clause_number x)) i → ¬ (missing_by s u c x ≡ none)
      at i q (l, y, e, n) = subst (λ (z : Clause). ¬ (missing_by s u c z ≡ none)) (same-clause y x (e ∙ q)) n

      asked : (i : ℕ) → T (has live i) → i ≡ clause_number x → Asked live x
      asked i a q = subst (λ (j : ℕ). T (has live j)) q a

      go : Dec (met ≡ 0) → FailingBelow s u c live (suc (clause_number x)) r
      go (yes z) = rw (is.0 z) (record { is = λ i a. (λ t. later i ((below.is i a).0 t), λ f. (below.is i a).1 (earlier i (λ q. at i q f ((passes (asked i a q)).0 z)) f)) })
      go (no z) = rw (is.1 z) (record { is = λ i a. (λ t. out i a (insert-has (clause_number x) m i t), λ f. into i a f (ℕ_discrete i (clause_number x))) })
        where
          out : (i : ℕ) → T (has live i) → T (has m i) ⊎ (i ≡ clause_number x) → Failing (suc (clause_number x)) i
          out i a (inl t) = later i ((below.is i a).0 t)
          out i a (inr q) = (omega arith, x, sym q, λ e. z ((passes (asked i a q)).1 e))

          into : (i : ℕ) → T (has live i) → Failing (suc (clause_number x)) i → Dec (i ≡ clause_number x) → T (has (insert (clause_number x) m) i)
          into i a f (yes q) = rw q (insert-self (clause_number x) m)
          into i a f (no q) = has-insert (clause_number x) m i ((below.is i a).1 (earlier i q f))

  all-below-9 : {m r : Set} → FailingBelow s u c live 9 m → r ≡ bit_and m live → FailingClauses s u c live r
  all-below-9 {m} {r} h q = rw q (record {
    is = λ x. (
      λ t. let y = (both_is m live (clause_number x)).0 t in (y.1, at x ((h.is (clause_number x) y.1).0 y.0)),
      λ (a, n). (both_is m live (clause_number x)).1 ((h.is (clause_number x) a).1 ((number-range x).1, x, refl, n), a),
    );
  })
    where
      at : (x : Clause) → (clause_number x < 9) × (y : Clause) × (clause_number y ≡ clause_number x) × (¬ (missing_by s u c y ≡ none)) → ¬ (missing_by s u c x ≡ none)
      at x (l, y, e, n) = subst (λ (z : Clause). ¬ (missing_by s u c z ≡ none)) (same-clause y x e) n

-- what the eight marks make, as far as it is asked for
pub failing-is : (s : Store) (u : View) (c : Commit) (g : Hand) → AtHand s u c g → (m1 m2 m3 m4 m5 m6 m7 m8 first : ℕ) → (first ≡ 0) ↔ (place_of g.lost ≡ none)
    → Marks 0 1 first m1 → Marks m1 2 (bit_and g.session g.absent) m2 → Marks m2 3 (bit_and g.wanted.before g.wanted.lacking) m3
    → Marks m3 4 (bit_and g.wanted.read g.wanted.lacking) m4 → Marks m4 5 (bit_and g.wanted.written g.wanted.lacking) m5
    → Marks m5 6 (bit_and g.wanted.prefix g.wanted.lacking) m6 → Marks m6 7 (bit_and g.wanted.snapshot g.wanted.lacking) m7
    → Marks m7 8 g.wanted.lacking m8 → {r : Set} → r ≡ bit_and m8 g.wanted.live → FailingClauses s u c g.wanted.live r
failing-is s u c g h m1 m2 m3 m4 m5 m6 m7 m8 first f1 k1 k2 k3 k4 k5 k6 k7 k8 =
    let w = g.wanted in
    let v = h.made.view in
    all-below-9
    (marks serialisability _ (marks snapshot_isolation _ (marks consistent_prefix _ (marks update_atomic _
    (marks writes_follow_reads _ (marks monotonic_writes _ (marks read_your_writes _ (marks monotonic_reads first none-below-1
    (λ _. found-passes s u c g h g.lost monotonic_reads h.lost-is first f1) k1)
    (λ _. session-passes s u c g h) k2)
    (before-passes s u c g h) k3)
    (read-passes s u c g h) k4)
    (λ a. set-passes s u c g h update_atomic _ w.written (λ x. inl (h.wants.written a x)) (update-atomic-is s u v c)) k5)
    (λ a. set-passes s u c g h consistent_prefix _ w.prefix (λ x. inl (h.wants.prefix a x)) (consistent-prefix-is s u v)) k6)
    (λ a. set-passes s u c g h snapshot_isolation _ w.snapshot (λ x. inl (h.wants.snapshot a x)) (snapshot-isolation-is s u v)) k7)
    (λ _. lacking-passes s u c g h) k8)
