-- A pass over the entries for those that precede one in its session, and over the entries for SO. Assumes nothing.
use Prim.Native.Nat.{ℕ, ◌+◌, ◌<◌}
use mathlib.Core.Path.{◌≡◌, sym, ap, ◌∙◌, subst}
use mathlib.Core.Logic.{◌⊎◌, inl, inr, ◌↔◌}
use mathlib.Core.List.{List}
use native.Mathlib.Omega.{arith}
use native.Mathlib.Decide.{ℕ_discrete}
use lib.Dec.{T}
use Rattle.sets.specs.Set.{Set, has, insert}
use Rattle.sets.proofs.Laws.{insert-has, has-insert, insert-self}
use Rattle.endian.specs.Endian.{le_at}
use Rattle.store.specs.Store.{CommitNumber}
use Rattle.reading.specs.Parts.{entry_place, client_at, session_at}
use Rattle.reading.specs.Gains.{Precedes, InSession}

-- the entries before entry a that precede
abbrev pub FoundBelow : List ℕ → ℕ → ℕ → ℕ → ℕ → Set → Type 0
FoundBelow b step client session a found = (x : ℕ) → T (has found x) ↔ ((0 < x) × (x < a) × Precedes b (entry_place step x) client session)

module _ (b : List ℕ) (step client session : ℕ) where
  module _ (a place found : ℕ) (e : place ≡ entry_place step a) (h : FoundBelow b step client session a found) where
    pub found_take : {more : ℕ} → 0 < a → Precedes b place client session → more ≡ insert a found → FoundBelow b step client session (a + 1) more
    found_take {more} p here q x = (λ t. out (insert-has a found x (subst (λ (m : ℕ). T (has m x)) q t)), λ y. subst (λ (m : ℕ). T (has m x)) (sym q) (into y (ℕ_discrete x a)))
      where
        out : T (has found x) ⊎ (x ≡ a) → (0 < x) × (x < a + 1) × Precedes b (entry_place step x) client session
        out (inl t) = let (u, v, w) = (h x).0 t in (u, omega arith, w)
        out (inr z) = (omega arith, omega arith, subst (λ (y : ℕ). Precedes b y client session) (e ∙ ap (entry_place step) (sym z)) here)

        into : (0 < x) × (x < a + 1) × Precedes b (entry_place step x) client session → Dec (x ≡ a) → T (has (insert a found) x)
        into (u, v, w) (yes z) = subst (λ (y : ℕ). T (has (insert a found) y)) (sym z) (insert-self a found)
        into (u, v, w) (no z) = has-insert a found x ((h x).1 (u, omega arith, w))

    pub found-skip : {more : ℕ} → ¬ Precedes b place client session → more ≡ found → FoundBelow b step client session (a + 1) more
    found-skip {more} n q x = (λ t. let (u, v, w) = (h x).0 (subst (λ (m : ℕ). T (has m x)) q t) in (u, omega arith, w), λ y. subst (λ (m : ℕ). T (has m x)) (sym q) (into y (ℕ_discrete x a)))
      where
        into : (0 < x) × (x < a + 1) × Precedes b (entry_place step x) client session → Dec (x ≡ a) → T (has found x)
        into (u, v, w) (yes z) = absurd (n (subst (λ (y : ℕ). Precedes b y client session) (ap (entry_place step) z ∙ sym e) w))
        into (u, v, w) (no z) = (h x).1 (u, omega arith, w)

-- all of them, the client and the number being those of entry t
pub found-done : (b : List ℕ) (step count t a found : ℕ) {at client session : ℕ} → at ≡ entry_place step t → client ≡ le_at b at 1 → session ≡ le_at b (at + 4) 4
    → a ≡ count + 1 → FoundBelow b step client session a found → (x : ℕ) → T (has found x) ↔ InSession b step count x t
found-done b step count t a found {at} {client} {session} e c n l h x = (
  λ y. let (u, v, w) = (h x).0 y in ((u, omega arith), (w.0 ∙ own-client, subst (λ (z : ℕ). le_at b (entry_place step x + 4) 4 < z) own-session w.1)),
  λ ((u, v), w). (h x).1 (u, omega arith, (w.0 ∙ sym own-client, subst (λ (z : ℕ). le_at b (entry_place step x + 4) 4 < z) (sym own-session) w.1)),
)
  where
    own-client : client ≡ client_at b step t
    own-client = c ∙ ap (λ (p : ℕ). le_at b p 1) e

    own-session : session ≡ session_at b step t
    own-session = n ∙ ap (λ (p : ℕ). le_at b (p + 4) 4) e

-- ---- SO

-- the links to the entries before entry t
abbrev pub SessionLinks : List ℕ → ℕ → ℕ → ℕ → CommitNumber → CommitNumber → Type 0
SessionLinks b step count t a c = (0 < c) × (c < t) × InSession b step count a c
