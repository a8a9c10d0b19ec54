-- "To be shown on every taken trace" (02, E14). Assumes nothing.
use Rattle.std.specs.Prelude.{ℕ, suc, ◌<◌, ◌≡◌, ◌↔◌, List, T}
use Rattle.std.proofs.Math.Option.{some}
use Rattle.sets.specs.Set.{has}
use Rattle.store.specs.Store.{Key, CommitNumber, Value, read, Commit}
use Rattle.store.specs.Update.{value_of}
use Rattle.store.specs.History.{history}
use Rattle.trace.specs.Result.{taken}
use Rattle.trace.specs.Format.{Trace}
use Rattle.levels.specs.Level.{MR, RYW, UA, SER}
use Rattle.growth.specs.Made.{WriterOf, Writer}
use Rattle.answer.specs.Answer.{final_store, accept}
use Rattle.answer.specs.Demand3.{Accepts}
use Rattle.ordering.specs.Links.{IsCommit}
use Rattle.visible.specs.Visible.{visible, row, commit_numbered, LastVisible}

-- commit b of a trace sees commit a: a is visible to it
abbrev pub Sees : Trace → CommitNumber → CommitNumber → Type 0
Sees t b a = T (visible (final_store t) a b)

-- b is the number of a commit of the trace
abbrev pub CommitOf : Trace → CommitNumber → Type 0
CommitOf t b = IsCommit (final_store t).commits b

-- one client made both
abbrev pub SameClient : Trace → CommitNumber → CommitNumber → Type 0
SameClient t a b = (final_store t).client_of a ≡ (final_store t).client_of b

-- the commit wrote the key; it is a "writing" one: it wrote some key
abbrev pub Writes : Trace → CommitNumber → Key → Type 0
Writes t a k = WriterOf (history (final_store t)) k a

abbrev pub Writing : Trace → CommitNumber → Type 0
Writing t a = Writer (history (final_store t)) a

pub record VisibilityClaim (t : Trace) : Type 0 where
  -- "bit c set exactly if commit c is visible to it"
  pub bits : (a b : CommitNumber) → T (has (row (final_store t) b) a) ↔ Sees t b a
  -- what is visible is an earlier commit, and "bit 0 never"
  pub earlier : (a b : CommitNumber) → CommitOf t b → Sees t b a → (0 < a) × (a < b)
  -- "each read returns the value of the last visible writer of its key, or 0": a read of key k that commit b + 1 of the trace has
  pub reads-last : (b : ℕ) (c : Commit) → commit_numbered t.events b ≡ some c → (k : Key) (x : Value) → value_of read c.operations k ≡ some x
      → LastVisible (final_store t) (suc b) k x
  -- "If MR accepts, what one commit saw, later commits of that client see."
  pub mr-sees : Accepts MR t → (a b c : CommitNumber) → CommitOf t b → CommitOf t c → b < c → SameClient t b c → Sees t b a → Sees t c a
  -- "If RYW accepts, a client's commits see its earlier writing ones."
  pub ryw-sees : Accepts RYW t → (a b : CommitNumber) → CommitOf t a → CommitOf t b → a < b → SameClient t a b → Writing t a → Sees t b a
  -- "If UA accepts, of two writers of a key the later sees the earlier."
  pub ua-sees : Accepts UA t → (a b : CommitNumber) (k : Key) → CommitOf t a → a < b → Writes t a k → Writes t b k → Sees t b a
  -- "If SER accepts, every earlier writing commit is visible."
  pub ser-sees : Accepts SER t → (a b : CommitNumber) → CommitOf t a → CommitOf t b → a < b → Writing t a → Sees t b a

-- of the bytes of any file
abbrev pub Visibility : List ℕ → Type 0
Visibility bytes = (t : Trace) → accept bytes ≡ taken t → VisibilityClaim t
