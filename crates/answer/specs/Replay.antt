-- "The replay of a trace" (01, The words of demand 3), as a file. Assumes nothing.
use Rattle.std.specs.Prelude.{ℕ, List, [], ◌∷◌, ◌++◌}
use Rattle.sets.specs.Set.{below}
use Rattle.store.specs.Store.{View, Store, Configuration, opening, count, Commit, Event, shift, commit}
use Rattle.store.specs.Update.{step, store_after, final}
use Rattle.trace.specs.Format.{Trace}
use Rattle.trace.specs.Encode.{encode}

-- "A full view holds every version of each key"
abbrev pub full_view : Store → View
full_view s k = below (count s k)

-- "a kind 2 shift of that client to a full view": before a commit, of the store it is made on
abbrev pub full_shift : Configuration → Commit → Event
full_shift g c = shift c.client (full_view g.store)

-- "then kind 3 with the same client, session number and operations, and a full view after": of the store with its own versions
abbrev pub full_commit : Configuration → Commit → Commit
full_commit g c = record {
  client = c.client;
  session = c.session;
  operations = c.operations;
  view_after = full_view (store_after (step g (full_shift g c)) c);
}

-- what the replay has for a record: both for a commit; "The old shifts are left out"
unfoldable pub replay_step : Configuration → Event → List Event
replay_step g (shift d u) = []
replay_step g (commit c) = full_shift g c ∷ commit (full_commit g c) ∷ []

-- "For each commit in order", each on what the replay so far has left
unfoldable pub replay_events : Configuration → List Event → List Event
replay_events g [] = []
replay_events g (e ∷ es) = replay_step g e ++ replay_events (final g (replay_step g e)) es

-- "The replay of a trace has the same keys and clients."
unfoldable pub replay_trace : Trace → Trace
replay_trace t = record { keys = t.keys; clients = t.clients; events = replay_events (opening t.keys) t.events }

-- the replay as a file: "length and count are those of its own records"
unfoldable pub replay : Trace → List ℕ
replay t = encode (replay_trace t)
