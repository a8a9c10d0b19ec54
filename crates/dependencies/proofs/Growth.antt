-- One commit, as the proofs about rings see it: what is known of the history H before commit t, of the history H' after it, and of the
-- view U that t was made on. These are hypotheses; the store discharges them. Assumes nothing.
use Prim.Native.Nat.{ℕ, ◌<◌, ◌≤◌}
use mathlib.Core.Path.{◌≡◌}
use mathlib.Core.Logic.{◌⊎◌}
use Rattle.dependencies.specs.History.{History, StoredBelow, Stored, Held, Holds, AllOf}
use Rattle.dependencies.proofs.Implications.{ReadsWritten}

-- a is t, which wrote the key; version i is later than every version of it before t
abbrev pub OwnWrite : History → (ℕ → Type 0) → ℕ → ℕ → ℕ → ℕ → Type 0
OwnWrite H writes t a k i = (a ≡ t) × writes k × ((b j : ℕ) → H.wrote b k j → j < i)

-- a is t; version i is the newest of the key that the view holds
abbrev pub OwnRead : Held → ℕ → ℕ → ℕ → ℕ → Type 0
OwnRead U t a k i = (a ≡ t) × U k i × ((j : ℕ) → U k j → j ≤ i)

-- a stands in the store before t, and t's client made it
abbrev pub SameClient : History → History → ℕ → ℕ → Type 0
SameClient H H' t a = Stored H a × (0 < a) × (H.client_of a ≡ H'.client_of t)

-- H' is H after commit t, made on the view U, which writes the keys `writes`
pub record Grown (H H' : History) (U : Held) (t : ℕ) (writes : ℕ → Type 0) : Type 0 where
  -- t is a new number
  pub stored-before : StoredBelow t H
  -- commits before t keep their client and session number
  pub client-kept : (a : ℕ) → a < t → H'.client_of a ≡ H.client_of a
  pub session-kept : (a : ℕ) → a < t → H'.session_of a ≡ H.session_of a
  -- what is written or read after t was so before, or by t
  pub written_after : (a k i : ℕ) → H'.wrote a k i → H.wrote a k i ⊎ OwnWrite H writes t a k i
  pub read-after : (a k i : ℕ) → H'.read a k i → H.read a k i ⊎ OwnRead U t a k i
  -- "a key has at most one" write
  pub one-write : (k i j : ℕ) → H'.wrote t k i → H'.wrote t k j → i ≡ j
  -- what was read before t, and what the view holds, was written before t
  pub reads-written : ReadsWritten H
  pub view-written : (k i : ℕ) → U k i → (b : ℕ) × H.wrote b k i
  -- a view holds "all versions of a writer if it holds one"
  pub atomic : (a : ℕ) → Holds H U a → AllOf H U a
  -- "Its session number is above every number of that client that appears in the store as writer or reader."
  pub session-grows : (a : ℕ) → SameClient H H' t a → H.session_of a < H'.session_of t

-- the view holds what the client's earlier commits wrote and read (clauses 1 and 2, kept commit by commit)
pub record Owns (H H' : History) (U : Held) (t : ℕ) : Type 0 where
  pub own-writes : (a : ℕ) → SameClient H H' t a → AllOf H U a
  pub own-reads : (a : ℕ) → SameClient H H' t a → (k i : ℕ) → H.read a k i → U k i
