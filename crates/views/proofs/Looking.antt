-- The search for the first missing version, key by key: at a key the versions that may be missing are a set, and the search looks at its numbers in
-- order. Assumes nothing.
use Rattle.std.proofs.Common.{◌≡◌, ℕ, suc, ◌-◌, ◌/◌, ◌^◌, ◌<◌, ◌≤◌, T, ◌≢◌, sym, ap, ◌∙◌, subst, pow-suc, arith, pow_pos}
use mathlib.Core.Option.{some, none}
use Rattle.search.proofs.Tests.{stable}
use Rattle.sets.specs.Set.{Gives, has, below, lowest, single, without}
use Rattle.sets.proofs.Laws.{has-none, has-below, below-has, has-lowest, lowest-least, single-only}
use Rattle.sets.proofs.Algebra.{without_is, without-word}
use Rattle.store.specs.Store.{Key, View, Store, count, Commit}
use Rattle.store.specs.Update.{writes, update}
use Rattle.store.specs.Missing.{Rule, missing}
use Rattle.store.specs.Refusal.{all_of}
use Rattle.store.specs.View.{IsView}
use Rattle.store.proofs.Missing.{MetAt, missing-none, missing-found}
use Rattle.store.proofs.Updated.{count-written}
use Rattle.views.proofs.Tests.{has-as}

-- for proofs alone: at key k the search has yet to look at the versions `left`: all are lacking, and each that is wanted and lacking is among them
pub record Looking (s : Store) (want : Rule) (u : View) (k left : ℕ) : Type 0 where
  pub word : left < 2 ^ 64
  pub within : (i : ℕ) → T (has left i) → (i < count s k) × (¬ T (has (u k) i))
  pub waits : (i : ℕ) → i < count s k → T (want k i) → ¬ T (has (u k) i) → T (has left i)

module _ (s : Store) (want : Rule) (u : View) (k : Key) where
  -- all versions that the mask lacks
  pub looking-all : {full mask left : ℕ} → full < 2 ^ 64 → full ≡ below (count s k) → mask ≡ u k → left ≡ without full mask → Looking s want u k left
  looking-all {full} {mask} {left} b e f q = rw q (record {
    word = without-word full mask b;
    within = λ i t. let w = (without_is full mask i).0 t in (below-has (count s k) i (has-as i e w.0), λ h. w.1 (has-as i (sym f) h));
    waits = λ i l t n. (without_is full mask i).1 (has-as i (sym e) (has-below (count s k) i l), λ h. n (has-as i f h));
  })

  module _ {left : ℕ} (h : Looking s want u k left) where
    -- none is left
    pub looking-done : left ≡ 0 → MetAt s want u k
    looking-done e i l t = stable (has (u k) i) (λ n. has-none i (has-as i e (h.waits i l t n)))

    -- the lowest is not wanted
    pub looking-on : {v rest : ℕ} → Gives left v rest → (v < count s k → ¬ T (want k v)) → Looking s want u k rest
    looking-on {v} g n = record {
      word = rw g.others (without-word left (single v) h.word);
      within = λ i t. h.within i ((without_is left (single v) i).0 (has-as i g.others t)).0;
      waits = λ i l t m. has-as i (sym g.others) ((without_is left (single v) i).1
          (h.waits i l t m, λ x. n (h.within v g.held).0 (subst (λ (j : ℕ). T (want k j)) (single-only v i x) t)));
    }

    -- it is wanted: the first
    pub looking-first : {v : ℕ} → T (has left v) → ((j : ℕ) → T (has left j) → v ≤ j) → (v < count s k → T (want k v)) → k < s.keys → ((l : ℕ) → l < k → MetAt s want u l)
        → some (record { key = k; version = v }) ≡ missing s want u
    looking-first {v} held least t l before =
        let w = h.within v held in
        sym (missing-found s want u k v l w.0 (t w.0) w.1 before (λ j m y. stable (has (u k) j) (λ n. earlier j m (h.waits j (omega (arith, w.0)) y n))))
      where
        earlier : (j : ℕ) → j < v → T (has left j) → ⊥
        earlier j m x = let g : v ≤ j = least j x in omega arith

    pub looking-found : left ≢ 0 → {v : ℕ} → v ≡ lowest left → (v < count s k → T (want k v)) → k < s.keys → ((l : ℕ) → l < k → MetAt s want u l)
        → some (record { key = k; version = v }) ≡ missing s want u
    looking-found p {v} low =
        let some_left : 0 < left = omega arith in
        looking-first (rw low (has-lowest left some_left h.word)) (λ j x. rw low (lowest-least left some_left h.word j x))

module _ (s : Store) (u : View) (k : Key) where
  -- the versions of another view that the mask lacks
  pub looking-lost : (old : View) → IsView s old → {view mask left : ℕ} → view < 2 ^ 64 → view ≡ old k → mask ≡ u k → left ≡ without view mask → Looking s (all_of old) u k left
  looking-lost old v {view} {mask} {left} b e f q = rw q (record {
    word = without-word view mask b;
    within = λ i t. let w = (without_is view mask i).0 t in (v.exist k i (has-as i e w.0), λ h. w.1 (has-as i (sym f) h));
    waits = λ i l t n. (without_is view mask i).1 (has-as i (sym e) t, λ h. n (has-as i f h));
  })

  -- the lowest of them is wanted
  pub lost-wanted : (old : View) (mask : ℕ) {view left v : ℕ} → view < 2 ^ 64 → view ≡ old k → left ≡ without view mask → left ≢ 0 → v ≡ lowest left → T (all_of old k v)
  lost-wanted old mask {view} {left} {v} b e q p low =
      has-as v e ((without_is view mask v).0 (has-as v q (rw low (has-lowest left (omega arith) (rw q (without-word view mask b)))))).0

-- half of the full mask of a key that the commit writes is the mask before the commit
pub half-before : (s : Store) (u : View) (c : Commit) (k : Key) → T (writes c k) → {full : ℕ} → full ≡ below (count (update s u c) k) → full / 2 ≡ below (count s k)
half-before s u c k w {full} e =
    let f : full ≡ 2 ^ suc (count s k) - 1 = e ∙ ap below (count-written s u c k w) in
    omega (arith, pow-suc 2 (count s k), pow_pos (count s k))

-- nothing is missing at any key
pub missing-nowhere : (s : Store) (want : Rule) (u : View) (n : ℕ) → s.keys ≡ n → ((l : ℕ) → l < n → MetAt s want u l) → none ≡ missing s want u
missing-nowhere s want u n e h = sym ((missing-none s want u).1 (λ k i l. h k (omega arith) i))
