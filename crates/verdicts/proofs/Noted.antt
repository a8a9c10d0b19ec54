-- Failures written down: at one level, and at all levels one after the other. Assumes nothing.
use Rattle.std.specs.Prelude.{Option as CodeOption, Some, None}
use Prim.Native.Nat.{ℕ, ◌+◌, ◌^◌, ◌≤◌, ◌<◌}
use mathlib.Core.Path.{◌≡◌, refl, sym, ◌∙◌}
use mathlib.Core.Logic.{◌≢◌}
use mathlib.Core.Option.{Option, some, none}
use mathlib.Core.List.{List}
use native.Mathlib.Omega.{arith}
use native.Mathlib.Decide.{ℕ_discrete}
use lib.Bits.{bit_and}
use lib.ListN.{get_or, set, length-set}
use lib.Seq.{get_or-set_same, get_or-set_other}
use Rattle.search.specs.Choose.{map_some, or_else}
use Rattle.sets.specs.Set.{Set, lowest}
use Rattle.store.specs.Store.{View, Store, next_number, Commit}
use Rattle.levels.specs.Clause.{Clause, clause_number, missing_by}
use Rattle.levels.specs.Level.{Level, clauses_of, Failure, failure, fails_clauses}
use Rattle.state.specs.declared.Place.{Place}
use Rattle.state.specs.Answers.{place_of}
use Rattle.verdicts.specs.Verdicts.{level_count, level_at, numbers_of, record_place, key_place, version_place, VerdictsRoom, KeepsVerdict, KeepsVerdicts, ClausesIn, Live, Fails, FailingClauses, written_down, NotesLevel}
use Rattle.verdicts.proofs.FirstFailing.{number-range, level-fails}

-- ---- four words

module _ (v : List ℕ) (room : VerdictsRoom v) (i : ℕ) (l : i < level_count) (a b c d : ℕ) where
  one : List ℕ
  one = set v i a

  two : List ℕ
  two = set one (record_place i) b

  three : List ℕ
  three = set two (key_place i) c

  four : List ℕ
  four = set three (version_place i) d

  one-long : VerdictsRoom one
  unfolding one
  one-long = length-set v i a ∙ room

  two-long : VerdictsRoom two
  unfolding two
  two-long = length-set one (record_place i) b ∙ one-long

  three-long : VerdictsRoom three
  unfolding three
  three-long = length-set two (key_place i) c ∙ two-long

  first_word : get_or four i 0 ≡ a
  unfolding one two three four
  first_word =
      get_or-set_other three (version_place i) i d 0 (λ e. omega arith) ∙ get_or-set_other two (key_place i) i c 0 (λ e. omega arith)
      ∙ get_or-set_other one (record_place i) i b 0 (λ e. omega arith) ∙ get_or-set_same v i a 0 (omega arith)

  second_word : get_or four (record_place i) 0 ≡ b
  unfolding two three four
  second_word =
      get_or-set_other three (version_place i) (record_place i) d 0 (λ e. omega arith) ∙ get_or-set_other two (key_place i) (record_place i) c 0 (λ e. omega arith)
      ∙ get_or-set_same one (record_place i) b 0 (omega (arith, one-long))

  third-word : get_or four (key_place i) 0 ≡ c
  unfolding three four
  third-word = get_or-set_other three (version_place i) (key_place i) d 0 (λ e. omega arith) ∙ get_or-set_same two (key_place i) c 0 (omega (arith, two-long))

  fourth-word : get_or four (version_place i) 0 ≡ d
  unfolding four
  fourth-word = get_or-set_same three (version_place i) d 0 (omega (arith, three-long))

-- the other words stay
other-words : (v : List ℕ) (i clause n : ℕ) (f : CodeOption Place) (q : ℕ) → q ≢ i → q ≢ record_place i → q ≢ key_place i → q ≢ version_place i → get_or (written_down v i clause n f) q 0 ≡ get_or v q 0
unfolding written_down
other-words v i clause n None q a b c d = refl
other-words v i clause n (Some p) q a b c d =
    get_or-set_other (set (set (set v i clause) (record_place i) n) (key_place i) p.key.0) (version_place i) q p.version.0 0 d ∙ get_or-set_other (set (set v i clause) (record_place i) n) (key_place i) q p.key.0 0 c
    ∙ get_or-set_other (set v i clause) (record_place i) q n 0 b ∙ get_or-set_other v i q clause 0 a

other-levels : (v : List ℕ) (i clause n : ℕ) (f : CodeOption Place) → i < level_count → (j : ℕ) → j < level_count → j ≢ i → (old : Option Failure) → KeepsVerdict v j old → KeepsVerdict (written_down v i clause n f) j old
unfolding KeepsVerdict
other-levels v i clause n f l j m d none h = stays j (λ e. omega arith) (λ e. omega arith) (λ e. omega arith) (λ e. omega arith) ∙ h
  where
    stays : (q : ℕ) → q ≢ i → q ≢ record_place i → q ≢ key_place i → q ≢ version_place i → get_or (written_down v i clause n f) q 0 ≡ get_or v q 0
    stays = other-words v i clause n f
other-levels v i clause n f l j m d (some x) (h0, h1, h2, h3) = (
  stays j (λ e. omega arith) (λ e. omega arith) (λ e. omega arith) (λ e. omega arith) ∙ h0,
  stays (record_place j) (λ e. omega arith) (λ e. omega arith) (λ e. omega arith) (λ e. omega arith) ∙ h1,
  stays (key_place j) (λ e. omega arith) (λ e. omega arith) (λ e. omega arith) (λ e. omega arith) ∙ h2,
  stays (version_place j) (λ e. omega arith) (λ e. omega arith) (λ e. omega arith) (λ e. omega arith) ∙ h3,
)
  where
    stays : (q : ℕ) → q ≢ i → q ≢ record_place i → q ≢ key_place i → q ≢ version_place i → get_or (written_down v i clause n f) q 0 ≡ get_or v q 0
    stays = other-words v i clause n f

-- the words of the level are what was found
this-level : (v : List ℕ) (i n t : ℕ) (x : Clause) (f : CodeOption Place) → VerdictsRoom v → i < level_count → get_or v i 0 ≡ 0
    → KeepsVerdict (written_down v i (clause_number x) n f) i (map_some (failure t n x) (place_of f))
unfolding KeepsVerdict written_down map_some one two three four
this-level v i n t x None room l e = e
this-level v i n t x (Some p) room l e = (
  first_word v room i l (clause_number x) n p.key.0 p.version.0,
  second_word v room i l (clause_number x) n p.key.0 p.version.0,
  third-word v room i l (clause_number x) n p.key.0 p.version.0,
  fourth-word v room i l (clause_number x) n p.key.0 p.version.0,
)

-- ---- one level

pub or_else-end : {A : Type 0} (o : Option A) → or_else o none ≡ o
unfolding or_else
or_else-end none = refl
or_else-end (some a) = refl

-- a level whose first word is 0 has not failed
unfailed : (v : List ℕ) (i : ℕ) (old new : Option Failure) → KeepsVerdict v i old → get_or v i 0 ≡ 0 → or_else old new ≡ new
unfolding KeepsVerdict or_else
unfailed v i none new h e = refl
unfailed v i (some f) new h e = absurd (omega (arith, number-range f.clause, h.0))

-- and one whose first word is another keeps its failure
failed : (v : List ℕ) (i : ℕ) (old new : Option Failure) → KeepsVerdict v i old → get_or v i 0 ≢ 0 → or_else old new ≡ old
unfolding KeepsVerdict or_else
failed v i none new h n = absurd (n h)
failed v i (some f) new h n = refl

pub keeps-failure : (v : List ℕ) (i : ℕ) (new : Option Failure) → get_or v i 0 ≢ 0 → NotesLevel i new v v
keeps-failure v i new n = record { here = λ old h. rw (failed v i old new h n) h; there = λ j l d old h. h; stays-failed = λ j l e. e }

pub nothing-new : (v : List ℕ) (i : ℕ) {new : Option Failure} → new ≡ none → NotesLevel i new v v
nothing-new v i {new} e = rw e (record { here = λ old h. rw (or_else-end old) h; there = λ j l d old h. h; stays-failed = λ j l e. e })

pub takes-failure : (n : ℕ) (s : Store) (u : View) (c : Commit) (live failing : Set) → FailingClauses s u c live failing → (i : ℕ) → i < level_count → ClausesIn i live
    → {struck clause : ℕ} (f : CodeOption Place) {before after : List ℕ} → VerdictsRoom before → get_or before i 0 ≡ 0
    → struck ≡ bit_and (numbers_of (clauses_of (level_at i))) failing → 0 < struck → struck < 2 ^ 64 → clause ≡ lowest struck
    → ((x : Clause) → clause_number x ≡ clause → Fails s u c live x → place_of f ≡ missing_by s u c x) → after ≡ written_down before i clause n f
    → NotesLevel i (fails_clauses n s u c (clauses_of (level_at i))) before after
takes-failure n s u c live failing h i l asked {struck} {clause} f {before} {after} room e q p w m found is = record {
  here = λ old k. rw (unfailed before i old (fails_clauses n s u c (clauses_of (level_at i))) k e, first.3, ← found x number first.2, is, ← number) (this-level before i n (next_number s) x f room l e);
  there = λ j b d old k. rw is (other-levels before i clause n f l j b d old k);
  stays-failed = λ j b z. at j b z (ℕ_discrete j i);
}
  where
    first : (x : Clause) × (clause_number x ≡ lowest struck) × Fails s u c live x × (fails_clauses n s u c (clauses_of (level_at i)) ≡ map_some (failure (next_number s) n x) (missing_by s u c x))
    first = level-fails n s u c live failing h i asked struck q p w

    at : (j : ℕ) → j < level_count → get_or after j 0 ≡ 0 → Dec (j ≡ i) → get_or before j 0 ≡ 0
    at j b z (yes x) = rw x e
    at j b z (no x) = sym (rw is (other-words before i clause n f j x (λ y. omega arith) (λ y. omega arith) (λ y. omega arith))) ∙ z

    x : Clause
    x = first.0

    number : clause_number x ≡ clause
    number = first.1 ∙ sym m

-- ---- all levels

-- for proofs alone: the levels below l have been noted
pub record Noted (news : ℕ → Option Failure) (l : ℕ) (before after : List ℕ) : Type 0 where
  pub done : (i : ℕ) → i < l → (old : Option Failure) → KeepsVerdict before i old → KeepsVerdict after i (or_else old (news i))
  pub waits : (i : ℕ) → i < level_count → l ≤ i → (old : Option Failure) → KeepsVerdict before i old → KeepsVerdict after i old

pub noted-on : {news : ℕ → Option Failure} {l : ℕ} {before between after : List ℕ} → Noted news l before between → l < level_count → NotesLevel l (news l) between after
    → Noted news (l + 1) before after
noted-on {news} {l} {before} {between} {after} h m n = record {
  done = λ i b old k. at i b old k (ℕ_discrete i l);
  waits = λ i b c old k. n.there i b (λ e. omega arith) old (h.waits i b (omega arith) old k);
}
  where
    at : (i : ℕ) → i < l + 1 → (old : Option Failure) → KeepsVerdict before i old → Dec (i ≡ l) → KeepsVerdict after i (or_else old (news i))
    at i b old k (yes e) = rw e (n.here old (h.waits l m (omega arith) old (rw e at k)))
    at i b old k (no d) = n.there i (omega arith) d (or_else old (news i)) (h.done i (omega arith) old k)

-- and no level that had failed is unfailed again
pub live_on : {i : ℕ} {new : Option Failure} {before after : List ℕ} (live : Set) → NotesLevel i new before after → Live before live → Live after live
live_on live n h j l e = h j l (n.stays-failed j l e)

pub noted-all : (fails : Level → Option Failure) {l : ℕ} {before after : List ℕ} → Noted (λ i. fails (level_at i)) l before after → level_count ≤ l → VerdictsRoom after
    → (fs : Level → Option Failure) → KeepsVerdicts fs before → KeepsVerdicts (λ m. or_else (fs m) (fails m)) after
noted-all fails {l} h b e fs k = record { room = e; verdict = λ i m. h.done i (omega arith) (fs (level_at i)) (k.verdict i m) }
