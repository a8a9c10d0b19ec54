-- Each client's view holds what its own commits wrote and read: so it is at the opening, a shift keeps it, and so does a commit that
-- passes clauses 1 and 2. With this a commit owns, as Acyclic asks. Assumes nothing.
use Prim.Native.Nat.{ℕ, ◌<◌}
use native.Mathlib.Omega.{arith}
use mathlib.Core.Path.{◌≡◌, sym, ap, ◌∙◌, subst}
use mathlib.Core.Logic.{◌⊎◌, inl, inr}
use Rattle.dependencies.specs.History.{History, as-writer, as-reader, Held}
use Rattle.dependencies.proofs.Growth.{OwnWrite, OwnRead, Grown, Owns}
use Rattle.dependencies.proofs.Opening.{Opening}

-- `views d` is the view of client d; the opening transaction has no client
pub record Owned (H : History) (views : ℕ → Held) : Type 0 where
  pub writes-held : (a k i : ℕ) → 0 < a → H.wrote a k i → views (H.client_of a) k i
  pub reads_held : (a k i : ℕ) → 0 < a → H.read a k i → views (H.client_of a) k i

-- the view of each client holds at least as much as before
abbrev pub Grow : (ℕ → Held) → (ℕ → Held) → Type 0
Grow views views' = (d k i : ℕ) → views d k i → views' d k i

pub owned-opening : (H : History) (views : ℕ → Held) → Opening H → Owned H views
owned-opening H views o = record {
  writes-held = λ a k i p w. let e : a ≡ 0 = (o.only-first a k i w).0 in absurd (omega arith);
  reads_held = λ a k i p r. absurd (o.no-readers a k i r);
}

pub owned-shift : (H : History) (views views' : ℕ → Held) → Grow views views' → Owned H views → Owned H views'
owned-shift H views views' grow o = record {
  writes-held = λ a k i p w. grow _ k i (o.writes-held a k i p w);
  reads_held = λ a k i p r. grow _ k i (o.reads_held a k i p r);
}

-- a commit t by client c
module _ (H H' : History) (views : ℕ → Held) (t c : ℕ) (is-client : H'.client_of t ≡ c) (o : Owned H views) where
  pub owned-owns : Owns H H' (views c) t
  owned-owns = record {
    own-writes = λ a s k i w. subst (λ (d : ℕ). views d k i) (s.2 ∙ is-client) (o.writes-held a k i s.1 w);
    own-reads = λ a s k i r. subst (λ (d : ℕ). views d k i) (s.2 ∙ is-client) (o.reads_held a k i s.1 r);
  }

  module _ (writes : ℕ → Type 0) (g : Grown H H' (views c) t writes) (views' : ℕ → Held) (grow : Grow views views') where
    -- what the view of an earlier commit's client held it holds after t
    held-earlier : (a k i : ℕ) → a < t → views (H.client_of a) k i → views' (H'.client_of a) k i
    held-earlier a k i l h = subst (λ (d : ℕ). views' d k i) (sym (g.client-kept a l)) (grow _ k i h)

    held-own : (a k i : ℕ) → a ≡ t → views' c k i → views' (H'.client_of a) k i
    held-own a k i e h = subst (λ (d : ℕ). views' d k i) (sym (ap H'.client_of e ∙ is-client)) h

    -- clause 1 makes the views grow; by clause 2 the client's view after holds what t wrote
    pub owned-commit : ((k i : ℕ) → H'.wrote t k i → views' c k i) → Owned H' views'
    owned-commit own = record {
      writes-held = λ a k i p w. write a k i p w (g.written_after a k i w);
      reads_held = λ a k i p r. read a k i p (g.read-after a k i r);
    }
      where
        write : (a k i : ℕ) → 0 < a → H'.wrote a k i → H.wrote a k i ⊎ OwnWrite H writes t a k i → views' (H'.client_of a) k i
        write a k i p w (inl x) = held-earlier a k i (g.stored-before a (as-writer x)) (o.writes-held a k i p x)
        write a k i p w (inr x) = held-own a k i x.0 (own k i (subst (λ (b : ℕ). H'.wrote b k i) x.0 w))

        read : (a k i : ℕ) → 0 < a → H.read a k i ⊎ OwnRead (views c) t a k i → views' (H'.client_of a) k i
        read a k i p (inl x) = held-earlier a k i (g.stored-before a (as-reader x)) (o.reads_held a k i p x)
        read a k i p (inr x) = held-own a k i x.0 (grow c k i x.1)
