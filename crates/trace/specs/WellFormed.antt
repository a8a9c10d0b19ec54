-- What the form of a record ensures of the operations and masks that it has. Assumes nothing.
use Rattle.std.specs.Prelude.{ℕ, suc, ◌+◌, ◌*◌, ◌^◌, ◌≤◌, ◌<◌, List, [], ◌∷◌}
use Rattle.store.specs.Store.{Client, View, Configuration, Operation, Commit, Event, shift, commit}
use Rattle.store.specs.View.{FitsView}
use Rattle.trace.specs.Entry.{Entry, event}
use Rattle.trace.specs.Encode.{access_number}

-- ---- operations

-- the place of an operation in the order "by key and then kind, a read before a write"
abbrev pub rank : Operation → ℕ
rank o = 2 * o.key + access_number o.access

-- an operation of a key of the store, with a value of 32 bits, of rank `low` or more
pub record FitsOperation (keys low : ℕ) (o : Operation) : Type 0 where
  pub of-the-store : o.key < keys
  pub value-fits : o.value < 2 ^ 32
  pub no_lower : low ≤ rank o

-- "Operations rise strictly by key and then kind"
abbrev pub Rise : ℕ → ℕ → List Operation → Type 0
Rise keys low [] = Unit {0}
Rise keys low (o ∷ os) = FitsOperation keys low o × Rise keys (suc (rank o)) os

-- ---- records, of a file with so many keys and clients

-- "client not below the header's" is refused
pub record FitsShift (keys clients : ℕ) (d : Client) (u : View) : Type 0 where
  pub client-below : d < clients
  pub view-fits : FitsView keys u

-- "session numbers are u32"
pub record FitsCommit (keys clients : ℕ) (c : Commit) : Type 0 where
  pub client-below : c.client < clients
  pub session-fits : c.session < 2 ^ 32
  pub rising : Rise keys 0 c.operations
  pub view-fits : FitsView keys c.view_after

-- what a record means
abbrev pub FitsEvent : ℕ → ℕ → Event → Type 0
FitsEvent keys clients (shift d u) = FitsShift keys clients d u
FitsEvent keys clients (commit c) = FitsCommit keys clients c

-- every client's view has masks that are words, and none beyond the keys
abbrev pub ViewsFit : ℕ → Configuration → Type 0
ViewsFit keys g = (d : Client) → FitsView keys (g.views d)

-- what a record says: wherever it stands among such views, it means what fits
abbrev pub FitsEntry : ℕ → ℕ → Entry → Type 0
FitsEntry keys clients r = (g : Configuration) → ViewsFit keys g → FitsEvent keys clients (event g r)
