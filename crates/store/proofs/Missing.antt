-- What the search for a missing version answers: nothing exactly where each version that the rule wants is in the view. Assumes nothing.
use mathlib.Core.Path.{◌≡◌, refl, ap, ◌∙◌}
use mathlib.Core.Bool.{not}
use mathlib.Core.Logic.{◌↔◌}
use mathlib.Core.Option.{Option, some, none}
use Prim.Native.Nat.{ℕ, ◌<◌}
use lib.Dec.{T, T_not, not_T}
use Rattle.search.specs.Choose.{map_some}
use Rattle.search.specs.Search.{any, least}
use Rattle.search.proofs.Tests.{and_left, and_right, and_both, stable, map-none}
use Rattle.search.proofs.Search.{any-in, any_out, any-is, Least, found, missed, least-is, least-none, least-found}
use Rattle.sets.specs.Set.{has}
use Rattle.store.specs.Store.{Key, VersionNumber, View, Store, count}
use Rattle.store.specs.Missing.{Rule, lacks, missing_at, at_key, missing}
use Rattle.store.specs.Links.{somewhere}
use Rattle.store.specs.Sound.{SoundStore}

module _ (s : Store) (want : Rule) (u : View) where
  -- each version that is wanted is in the view
  abbrev pub Met : Type 0
  Met = (k i : ℕ) → k < s.keys → i < count s k → T (want k i) → T (has (u k) i)

  -- a key where a version is missing has a least one
  not_none : (k : Key) → T (any (count s k) (lacks want u k)) → missing_at s want u k ≡ none → ⊥
  not_none k t e =
      let x = any_out (count s k) (lacks want u k) t in
      (least-none (count s k) (lacks want u k)).0 ((map-none (λ (i : ℕ). record { key = k; version = i }) (least (count s k) (lacks want u k))).0 e) x.0 x.1 x.2

  pub missing-none : (missing s want u ≡ none) ↔ Met
  unfolding missing at_key
  missing-none = go (least s.keys (λ k. any (count s k) (lacks want u k))) (least-is s.keys (λ k. any (count s k) (lacks want u k)))
    where
      go : (o : Option Key) → Least s.keys (λ k. any (count s k) (lacks want u k)) o → (at_key (missing_at s want u) o ≡ none) ↔ Met
      go none (missed h) = (
        λ e k i l m w. stable (has (u k) i) (λ n. h k l (any-in (count s k) (lacks want u k) i m (and_both (want k i) (not (has (u k) i)) w (not_T (has (u k) i) n)))),
        λ f. refl,
      )
      go (some k) (found l t h) =
          let x = any_out (count s k) (lacks want u k) t in (
            λ e. absurd (not_none k t e),
            λ f. absurd (T_not (has (u k) x.0) (and_right (want k x.0) (not (has (u k) x.0)) x.2) (f k x.0 l x.1 (and_left (want k x.0) (not (has (u k) x.0)) x.2))),
          )

-- a search over all versions of a store
pub somewhere-is : (s : Store) → SoundStore s → {P : ℕ → ℕ → Type 0} (f : Rule) → ((k i : ℕ) → T (f k i) ↔ P k i)
    → T (somewhere s f) ↔ ((k : Key) × (i : VersionNumber) × (i < count s k) × P k i)
somewhere-is s h f e =
    let t = any-is s.keys (λ k. any (count s k) (λ i. f k i)) (λ k. any-is (count s k) (λ i. f k i) (λ i. e k i)) in
    (λ x. let y = t.0 x in (y.0, y.2.0, y.2.1, y.2.2), λ (k, i, l, p). t.1 (k, h.only-keys k i l, (i, l, p)))

-- ---- the place that is answered

module _ (s : Store) (want : Rule) (u : View) where
  -- nothing is missing at a key
  abbrev pub MetAt : Key → Type 0
  MetAt k = (i : ℕ) → i < count s k → T (want k i) → T (has (u k) i)

  -- a version that is wanted and lacking, with nothing missing at the keys and versions before it, is the first
  pub missing-found : (k i : ℕ) → k < s.keys → i < count s k → T (want k i) → ¬ T (has (u k) i)
      → ((l : ℕ) → l < k → MetAt l) → ((j : ℕ) → j < i → T (want k j) → T (has (u k) j)) → missing s want u ≡ some (record { key = k; version = i })
  unfolding missing at_key map_some
  missing-found k i lk li w n before earlier =
      let here : T (lacks want u k i) = and_both (want k i) (not (has (u k) i)) w (not_T (has (u k) i) n) in
      let key = least-found s.keys (λ l. any (count s l) (lacks want u l)) k lk (any-in (count s k) (lacks want u k) i li here) (λ l m t. none-at l (before l m) t) in
      let place = least-found (count s k) (lacks want u k) i li here (λ j m t. held_at k j (earlier j m) t) in
      ap (at_key (missing_at s want u)) key ∙ ap (map_some (λ j. record { key = k; version = j })) place
    where
      held_at : (l j : ℕ) → (T (want l j) → T (has (u l) j)) → T (lacks want u l j) → ⊥
      held_at l j f t = T_not (has (u l) j) (and_right (want l j) (not (has (u l) j)) t) (f (and_left (want l j) (not (has (u l) j)) t))

      none-at : (l : ℕ) → MetAt l → T (any (count s l) (lacks want u l)) → ⊥
      none-at l m t = let x = any_out (count s l) (lacks want u l) t in held_at l x.0 (m x.0 x.1) x.2
