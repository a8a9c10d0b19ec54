-- What the judge answers of a shift is what the spec answers: one lemma for each answer. Assumes nothing.
use Rattle.std.specs.Prelude.{Result, Ok, Err, MatchResult, IsErrAnd}
use Prim.Native.Nat.{ℕ, ◌+◌, ◌*◌, ◌<◌}
use mathlib.Core.Path.{◌≡◌, refl, sym, ap, ◌∙◌}
use mathlib.Core.Option.{Option, some, none}
use mathlib.Core.List.{List, [], ◌∷◌}
use native.Mathlib.Omega.{arith}
use lib.ListN.{length, get_or}
use Rattle.search.specs.Choose.{map_some, or_else, first_some}
use Rattle.search.proofs.Tests.{some-none, map-none, first_some-none}
use Rattle.store.specs.Limits.{max_keys, max_clients}
use Rattle.store.specs.Store.{Client, View, Store, Configuration, shift}
use Rattle.store.specs.Missing.{Place, missing}
use Rattle.store.specs.Refusal.{Refusal, bad_mask, half_held, all_of, lost, refuse_key, refuse_place, refuses_event}
use Rattle.state.specs.declared.Refusal.{Refusal as Answer}
use Rattle.state.specs.declared.Place.{Place as Placed}
use Rattle.state.specs.Answers.{refusal_of}
use Rattle.state.specs.Keeps.{KeepsMasks}
use Rattle.views.specs.Viewed.{ViewedAs, NewMasks}
use Rattle.trace.specs.Entry.{Listed, listed_or, over}
use Rattle.shifts.specs.Outcomes.{outcome_of, mask_refusal, SightSays, ShiftGiven}

-- ---- codes 10 and 11, in this order, and none of them

module _ (i : ℕ) (s : Store) (u : View) {a : Refusal} where
  pub bad-refused : {k : ℕ} → bad_mask s u ≡ some k → a ≡ refuse_key 10 i k → mask_refusal i s u ≡ some a
  unfolding mask_refusal first_some map_some or_else
  bad-refused e q = rw (e, q)

  pub half-refused : {p : Place} → bad_mask s u ≡ none → half_held s u ≡ some p → a ≡ refuse_place 11 i p → mask_refusal i s u ≡ some a
  unfolding mask_refusal first_some map_some or_else
  half-refused e h q = rw (e, h, q)

pub masks-good : (i : ℕ) (s : Store) (u : View) → bad_mask s u ≡ none → half_held s u ≡ none → mask_refusal i s u ≡ none
unfolding mask_refusal first_some map_some or_else
masks-good i s u e h = rw (e, h)

-- where no mask is bad, code 11 is due where a commit is held in part
pub sight-is : (i : ℕ) (s : Store) (u : View) → bad_mask s u ≡ none → (v : Result ℕ Placed) → ViewedAs s u v → (r : Result ℕ Answer) {made : Placed → Answer → Type 0}
    → ((p : Placed) (a : Answer) → made p a → refusal_of a ≡ refuse_place 11 i (record { key = p.key.0; version = p.version.0 }))
    → MatchResult v (λ m. r ≡ Ok m) (λ p. IsErrAnd r (made p)) → SightSays i s u r
sight-is i s u good (Ok m) x r is e = rw e (masks-good i s u good x.0, x.1)
sight-is i s u good (Err p) x (Ok m) is e = absurd e
sight-is i s u good (Err p) x (Err a) is e = half-refused i s u good x (is p a e)

pub good-masks : (i : ℕ) (s : Store) (u : View) → mask_refusal i s u ≡ none → (bad_mask s u ≡ none) × (half_held s u ≡ none)
unfolding mask_refusal
good-masks i s u e =
    let n = (first_some-none (map_some (refuse_key 10 i) (bad_mask s u) ∷ map_some (refuse_place 11 i) (half_held s u) ∷ [])).0 e in
    ((map-none (refuse_key 10 i) (bad_mask s u)).0 n.0, (map-none (refuse_place 11 i) (half_held s u)).0 n.1.0)

-- the first of two answers, or a third
pub third-or : {A : Type 0} (a b c : Option A) → first_some (a ∷ b ∷ c ∷ []) ≡ or_else (first_some (a ∷ b ∷ [])) c
unfolding first_some or_else
third-or (some x) b c = refl
third-or none (some x) c = refl
third-or none none (some x) = refl
third-or none none none = refl

-- ---- and code 12

module _ (i : ℕ) (g : Configuration) (d : Client) (u : View) where
  shift-refusal : refuses_event i g (shift d u) ≡ or_else (mask_refusal i g.store u) (map_some (refuse_place 12 i) (lost g.store (g.views d) u))
  unfolding refuses_event mask_refusal
  shift-refusal = third-or _ _ _

  pub refused-masks : {a : Refusal} → mask_refusal i g.store u ≡ some a → some a ≡ refuses_event i g (shift d u)
  unfolding or_else
  refused-masks e = sym (rw e at shift-refusal)

  pub refused-12 : {a : Refusal} {p : Place} → mask_refusal i g.store u ≡ none → missing g.store (all_of (g.views d)) u ≡ some p → a ≡ refuse_place 12 i p
      → some a ≡ refuses_event i g (shift d u)
  unfolding or_else map_some lost
  refused-12 e h q = rw q (sym (rw (e, h) at shift-refusal))

  pub not-refused : mask_refusal i g.store u ≡ none → missing g.store (all_of (g.views d)) u ≡ none → none ≡ refuses_event i g (shift d u)
  unfolding or_else map_some lost
  not-refused e h = sym (rw (e, h) at shift-refusal)

-- a refusal is not that the record is taken
pub not_taken : {X : Type 0} (r : Result (Unit {0}) Answer) {a : Refusal} → outcome_of r ≡ some a → r ≡ Ok tt → X
not_taken r e t = some-none (sym e ∙ ap outcome_of t)

-- ---- what is given, as each call asks it

-- the client's view, as the array has it
pub row-given : (g : Configuration) (u : View) (client n : ℕ) (versions keys views seen : List ℕ) → client < max_clients → ShiftGiven g u n versions keys views seen
    → (k : ℕ) → k < n → get_or views (max_keys * client + k) 0 ≡ g.views client k
row-given g u client n versions keys views seen b h k l = h.in-views.rows client b k (omega (arith, h.keys-are))

-- the masks of the record, and the client's view
pub masks-given : (g : Configuration) (u : View) (client n : ℕ) (versions keys views seen fresh : List ℕ) → client < max_clients → ShiftGiven g u n versions keys views seen → KeepsMasks n u fresh
    → NewMasks g.store (g.views client) u n versions keys views (max_keys * client) (get_or seen client 0) fresh
masks-given g u client n versions keys views seen fresh b h f = record {
  arrays = record {
    number = h.keys-are;
    sound = h.sound.store;
    few = h.few;
    in-versions = h.in-versions;
    in-keys = h.in-keys;
    in-masks = row-given g u client n versions keys views seen b h;
  };
  ordered = h.ordered;
  view = h.sound.views client;
  seen-is = h.in-views.holds client b;
  in-fresh = f;
  fits = h.fits;
}

-- what a record lists, once it is put over its client's view
pub masks-filled : (u : View) (l : Listed) (n : ℕ) (row : ℕ → ℕ) (fresh : List ℕ) → length fresh ≡ max_keys → ((k : ℕ) → k < n → row k ≡ u k)
    → ((k : ℕ) → k < n → get_or fresh k 0 ≡ listed_or (l k) (row k)) → KeepsMasks n (over u l) fresh
unfolding over
masks-filled u l n row fresh long same put = record { room = long; masks = λ k below. put k below ∙ ap (listed_or (l k)) (same k below) }
