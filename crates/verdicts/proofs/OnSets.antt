-- The sets of commits that the clauses want, from the arrays. Assumes nothing.
use Prim.Native.Nat.{ℕ, ◌+◌, ◌*◌, ◌^◌, ◌<◌, ◌≤◌}
use mathlib.Core.Path.{◌≡◌, subst}
use mathlib.Core.Logic.{inl, inr, ◌↔◌}
use mathlib.Core.List.{List}
use native.Mathlib.Omega.{arith}
use lib.Dec.{T}
use lib.ListN.{get_or}
use Rattle.search.proofs.Tests.{same}
use Rattle.sets.specs.Set.{Set, has, without, width, single, lowest}
use Rattle.sets.proofs.Laws.{has-none, has-lt, lowest-least}
use Rattle.relations.specs.Relation.{Plus}
use Rattle.dependencies.specs.History.{SO, Holds}
use Rattle.store.specs.Store.{Key, CommitNumber, View, Store, Commit}
use Rattle.store.specs.Update.{writes}
use Rattle.store.specs.Sound.{SoundStore}
use Rattle.store.specs.History.{history, held}
use Rattle.growth.specs.Made.{Writer}
use Rattle.growth.specs.Links.{FromWrite}
use Rattle.growth.specs.Sessions.{ReadUpTo}
use Rattle.growth.specs.Views.{Lacking}
use Rattle.growth.specs.Clauses.{LeadsToHeld, LacksOneOf}
use Rattle.growth.specs.Ordered.{Ordered}
use Rattle.growth.proofs.Ordered.{SO-rises, WR-rises}
use Rattle.state.specs.Places.{numbers, before_place, read_place}
use Rattle.state.specs.Rows.{InRows}
use Rattle.state.specs.Keeps.{IsSet, KeepsKeys, KeepsCommits, KeepsOperations, Step}
use Rattle.state.proofs.Sets.{is_set-as, is_set-without}
use Rattle.state.proofs.Ranks.{writes-rank}
use Rattle.paths.specs.Path.{LeadsInto}
use Rattle.views.specs.Writing.{WriterBelow}
use Rattle.verdicts.specs.Sources.{InKeys}
use Rattle.verdicts.specs.Wants.{LacksSome, Wants}

-- a key is written where its rank is in the set
pub writes-ranked : {c : Commit} {ranks : Set} {values : List ℕ} → KeepsOperations c ranks values → (k : Key) → T (writes c k) ↔ T (has ranks (2 * k + 1))
writes-ranked h k = rw (writes-rank h k) same

module _ (s : Store) (u : View) (seen : Set) (h : IsSet seen (Holds (history s) (held u))) where
  -- the writers of the store of which the view holds nothing
  pub lacking-is : (keys : List ℕ) (n all : ℕ) → s.keys ≡ n → SoundStore s → KeepsKeys s keys → IsSet all (WriterBelow keys n) → IsSet (without all seen) (Lacking s u)
  lacking-is keys n all e sound kept is = is_set-without all seen (is_set-as all writer is) h
    where
      writer : (a : CommitNumber) → WriterBelow keys n a ↔ Writer (history s) a
      writer a = (
        λ (k, l, x). (k, (kept.writers k (rw e l) a).0 x),
        λ (k, (i, w)). let l = sound.only-keys k i w.0 in (k, rw (← e) l, (kept.writers k l a).1 (i, w)),
      )

  -- the rows of a link, gathered over what the view holds
  rows_are : (R : ℕ → ℕ → Type 0) (rows : List ℕ) (from r : ℕ) → seen < 2 ^ 64 → ((t : CommitNumber) → t < numbers → IsSet (get_or rows (from + t) 0) (λ a. R a t))
      → IsSet r (InRows rows from seen) → IsSet r (LeadsToHeld s u R)
  rows_are R rows from r l row = is_set-as r (λ a. (
    λ (t, x, y). (t, (h t).0 x, (row t (has-lt width seen t l x) a).0 y),
    λ (t, x, y). let z = (h t).1 x in (t, z, (row t (has-lt width seen t l z) a).1 y),
  ))

  pub before-is : (commits : List ℕ) (r : ℕ) → seen < 2 ^ 64 → KeepsCommits s commits → IsSet r (InRows commits (before_place 0) seen) → IsSet r (LeadsToHeld s u (SO (history s)))
  before-is commits r l kept = rows_are (SO (history s)) commits (before_place 0) r l kept.before

  pub read_is : (commits : List ℕ) (r : ℕ) → seen < 2 ^ 64 → KeepsCommits s commits → IsSet r (InRows commits (read_place 0) seen) → IsSet r (LeadsToHeld s u (ReadUpTo (history s)))
  read_is commits r l kept = rows_are (ReadUpTo (history s)) commits (read_place 0) r l kept.read

  -- links that lead from smaller numbers to larger lead from nothing that is lacking to what the view holds, where that is below all of it
  rising-held : (R : ℕ → ℕ → Type 0) → ((a t : CommitNumber) → R a t → a < t) → (lacking : Set) → IsSet lacking (Lacking s u) → 0 < lacking → lacking < 2 ^ 64
      → seen < single (lowest lacking) → ¬ LacksOneOf s u (LeadsToHeld s u R)
  rising-held R rises lacking is p l b (a, (t, x, r), y) =
      let low : t < lowest lacking = has-lt (lowest lacking) seen t b ((h t).1 x) in
      let high : lowest lacking ≤ a = lowest-least lacking p l a ((is a).1 y) in
      let up : a < t = rises a t r in
      omega arith

  -- so do SO, and what was read by a commit or by one before it in SO
  pub past-held : SoundStore s → Ordered s → (lacking : Set) → IsSet lacking (Lacking s u) → 0 < lacking → lacking < 2 ^ 64 → seen < single (lowest lacking)
      → (¬ LacksOneOf s u (LeadsToHeld s u (SO (history s)))) × (¬ LacksOneOf s u (LeadsToHeld s u (ReadUpTo (history s))))
  past-held sound o lacking is p l b = (
    rising-held (SO (history s)) (SO-rises s sound o) lacking is p l b,
    rising-held (ReadUpTo (history s)) read-rises lacking is p l b,
  )
    where
      read-rises : (a t : CommitNumber) → ReadUpTo (history s) a t → a < t
      read-rises a t (r, inl e, w) = let x : a < r = WR-rises s sound o a r w in omega arith
      read-rises a t (r, inr q, w) = let x : a < r = WR-rises s sound o a r w in let y : r < t = SO-rises s sound o r t q in omega arith

  -- the writers of the keys written
  pub written_is : (c : Commit) (keys : List ℕ) (ranks : Set) (values : List ℕ) (n r : ℕ) → s.keys ≡ n → SoundStore s → KeepsKeys s keys → KeepsOperations c ranks values
      → IsSet r (InKeys keys ranks n) → IsSet r (FromWrite s c)
  written_is c keys ranks values n r e sound kept ops = is_set-as r (λ a. (
    λ (k, l, (x, y)). (k, (writes-ranked ops k).1 x, (kept.writers k (rw e l) a).0 y),
    λ (k, x, (i, w)). let l = sound.only-keys k i w.0 in (k, rw (← e) l, ((writes-ranked ops k).0 x, (kept.writers k l a).1 (i, w))),
  ))

  -- those that lead to what the view holds
  pub leading-is : (kind r : ℕ) → IsSet r (LeadsInto kind s seen) → IsSet r (LeadsToHeld s u (Plus (Step kind s)))
  leading-is kind r = is_set-as r (λ a. (λ (t, x, y). (t, (h t).0 x, y), λ (t, x, y). (t, (h t).1 x, y)))

-- where nothing is lacking nothing is asked
pub wants-nothing : (s : Store) (u : View) (c : Commit) (live lacking : Set) → IsSet lacking (Lacking s u) → lacking ≡ 0
    → Wants s u c (record { live = live; lacking = 0; before = 0; read = 0; written = 0; prefix = 0; snapshot = 0 })
wants-nothing s u c live lacking h e = record {
  lacking = zero;
  past = λ a x. absurd (none x);
  written = λ a x. absurd (none x);
  prefix = λ a x. absurd (none x);
  snapshot = λ a x. absurd (none x);
}
  where
    zero : IsSet 0 (Lacking s u)
    zero = subst (λ (m : Set). IsSet m (Lacking s u)) e h

    none : LacksSome s u → ⊥
    none (a, x) = has-none a ((zero a).1 x)
