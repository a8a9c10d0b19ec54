-- Histories that agree on who wrote and who read what, and on the sessions of their commits, have the same links. Assumes nothing.
use Prim.Native.Nat.{ℕ, ◌<◌}
use mathlib.Core.Path.{◌≡◌, sym, ◌∙◌, subst₂}
use mathlib.Core.Logic.{inl, inr}
use Rattle.relations.proofs.Walks.{then_maybe-map}
use Rattle.dependencies.specs.History.{History, Stored, as-writer, as-reader, SO, session-order, WR, write_read, WW, write-write, RW, read-write, PlainLink, by-SO, by-WR, by-WW, PrefixStep, SnapshotStep}
use Rattle.growth.specs.Sessions.{UpTo, ReadUpTo}

-- what the first history tells the second tells too
pub record Agrees (H H' : History) : Type 0 where
  pub wrote : (t k i : ℕ) → H.wrote t k i → H'.wrote t k i
  pub read : (t k i : ℕ) → H.read t k i → H'.read t k i
  pub client : (t : ℕ) → Stored H t → 0 < t → H.client_of t ≡ H'.client_of t
  pub session : (t : ℕ) → Stored H t → 0 < t → H.session_of t ≡ H'.session_of t

module _ {H H' : History} (g : Agrees H H') where
  pub stored-agrees : (t : ℕ) → Stored H t → Stored H' t
  stored-agrees t (as-writer {k} {i} w) = as-writer (g.wrote t k i w)
  stored-agrees t (as-reader {k} {i} r) = as-reader (g.read t k i r)

  pub SO-agrees : (a b : ℕ) → SO H a b → SO H' a b
  SO-agrees a b (session-order x y p q e l) =
      session-order (stored-agrees a x) (stored-agrees b y) p q (sym (g.client a x p) ∙ e ∙ g.client b y q) (subst₂ (λ (m n : ℕ). m < n) (g.session a x p) (g.session b y q) l)

  pub WR-agrees : (a b : ℕ) → WR H a b → WR H' a b
  WR-agrees a b (write_read {k} {i} w r) = write_read (g.wrote a k i w) (g.read b k i r)

  WW-agrees : (a b : ℕ) → WW H a b → WW H' a b
  WW-agrees a b (write-write {k} {i} {j} w v l) = write-write (g.wrote a k i w) (g.wrote b k j v) l

  RW-agrees : (a b : ℕ) → RW H a b → RW H' a b
  RW-agrees a b (read-write {k} {i} {j} r w l d) = read-write (g.read a k i r) (g.wrote b k j w) l d

  plain-agrees : (a b : ℕ) → PlainLink H a b → PlainLink H' a b
  plain-agrees a b (by-SO l) = by-SO (SO-agrees a b l)
  plain-agrees a b (by-WR l) = by-WR (WR-agrees a b l)
  plain-agrees a b (by-WW l) = by-WW (WW-agrees a b l)

  pub prefix-agrees : (a b : ℕ) → PrefixStep H a b → PrefixStep H' a b
  prefix-agrees a b (inl s) = inl (then_maybe-map SO-agrees RW-agrees s)
  prefix-agrees a b (inr (inl s)) = inr (inl (then_maybe-map WR-agrees RW-agrees s))
  prefix-agrees a b (inr (inr s)) = inr (inr (WW-agrees a b s))

  pub snapshot-agrees : (a b : ℕ) → SnapshotStep H a b → SnapshotStep H' a b
  snapshot-agrees a b s = then_maybe-map plain-agrees RW-agrees s

  pub up-to-agrees : (t a : ℕ) → UpTo H t a → UpTo H' t a
  up-to-agrees t a (inl e) = inl e
  up-to-agrees t a (inr l) = inr (SO-agrees a t l)

  pub read-up-to-agrees : (a t : ℕ) → ReadUpTo H a t → ReadUpTo H' a t
  read-up-to-agrees a t (r, x, l) = (r, up-to-agrees t r x, WR-agrees a r l)
