-- What a record of the trace file says, and what it means where it stands. A record lists masks of its client's view: those of kinds 2
-- and 3 list every key (01, The trace file), those of kinds 5 and 6 some. "State one meaning of a record for all four kinds" (02, E6): it
-- is taken here and nowhere else; store and levels know events alone. Assumes nothing.
use Rattle.std.proofs.Math.Option.{Option, some, none}
use Rattle.std.specs.Prelude.{List, [], ◌∷◌}
use Rattle.sets.specs.Set.{Set}
use Rattle.store.specs.Store.{Key, Client, SessionNumber, View, Configuration, Operation, Commit, Event, shift, commit}
use Rattle.store.specs.Update.{step}

-- the masks that a record lists, key by key; none at a key that it does not list
abbrev pub Listed : Type 0
Listed = Key → Option Set

-- what a record says: a client's view shifts to the masks listed, or a client commits operations under a session number, with the masks
-- listed for its view after
pub data Entry : Type 0 where
  shifting : Client → Listed → Entry
  committing : Client → SessionNumber → List Operation → Listed → Entry

-- "K masks": every key is listed
abbrev pub every : View → Listed
every u k = some (u k)

-- a mask that is listed stands for the one before it
unfoldable pub listed_or : Option Set → Set → Set
listed_or (some m) before = m
listed_or none before = before

-- a view with what is listed put over it: a key that is not listed keeps its mask
unfoldable pub over : View → Listed → View
over u l k = listed_or (l k) (u k)

-- the view that a record means: the masks that it lists go over its client's view in the configuration
abbrev pub view_meant : Configuration → Client → Listed → View
view_meant g d l = over (g.views d) l

-- the commit that it means
abbrev pub commit_meant : Configuration → Client → SessionNumber → List Operation → Listed → Commit
commit_meant g d n os l = record { client = d; session = n; operations = os; view_after = view_meant g d l }

-- what a record means, of whichever kind
unfoldable pub event : Configuration → Entry → Event
event g (shifting d l) = shift d (view_meant g d l)
event g (committing d n os l) = commit (commit_meant g d n os l)

-- what records mean, "run in turn .. each on what the one before left" (01, The words of demand 3)
unfoldable pub events_of : Configuration → List Entry → List Event
events_of g [] = []
events_of g (r ∷ rs) = event g r ∷ events_of (step g (event g r)) rs
