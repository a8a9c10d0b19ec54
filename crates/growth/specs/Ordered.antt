-- Commit numbers are in order: along a session, along the versions of a key, and from the writer of a version to its readers. It holds of every store
-- that a taken trace makes (crates/growth/proofs/Ordered.antt). Assumes nothing.
use Rattle.std.specs.Prelude.{ℕ, ◌<◌, ◌≡◌}
use Rattle.store.specs.Store.{Key, CommitNumber, Store, next_number}
use Rattle.store.specs.History.{Wrote, Read}

pub record Ordered (s : Store) : Type 0 where
  -- of two commits of a client, with operations or without, the later has the larger session number; so no two entries of the log have equal client and number
  pub sessions-rise : (a b : CommitNumber) → 0 < a → a < b → b < next_number s → s.client_of a ≡ s.client_of b → s.session_of a < s.session_of b
  -- version 0 is by the opening transaction
  pub first-by-opening : (k : Key) → k < s.keys → Wrote s 0 k 0
  -- later versions of a key are by later commits
  pub writers-rise : (a b k i j : ℕ) → Wrote s a k i → Wrote s b k j → i < j → a < b
  -- a version is read by later commits than its writer
  pub readers-follow : (a b k i : ℕ) → Wrote s a k i → Read s b k i → a < b
