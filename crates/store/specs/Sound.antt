-- What holds of every store and every view that a taken trace makes, from the opening on. Contracts say it of the store that the arrays keep.
-- Assumes nothing.
use Rattle.std.specs.Prelude.{ℕ, ◌≤◌, ◌<◌, T}
use Rattle.store.specs.Store.{Key, Client, Store, Configuration, count, next_number, Commit}
use Rattle.store.specs.Update.{reads, writes}
use Rattle.store.specs.History.{Wrote, Read}
use Rattle.store.specs.View.{IsView, FitsView}

-- numbers and lengths in a store
pub record SoundStore (s : Store) : Type 0 where
  pub writers : (t k i : ℕ) → Wrote s t k i → t < next_number s
  pub readers : (t k i : ℕ) → Read s t k i → t < next_number s
  pub some-version : (k : Key) → k < s.keys → 0 < count s k
  pub few : (k : Key) → count s k ≤ next_number s
  pub only-keys : (k i : ℕ) → i < count s k → k < s.keys

-- a store, and each client's view of it
pub record Sound (g : Configuration) : Type 0 where
  pub store : SoundStore g.store
  pub views : (d : Client) → IsView g.store (g.views d)

-- what the form of a commit ensures: its operations are of keys of the store, and its view after has no mask beyond them
pub record WithinKeys (keys : ℕ) (c : Commit) : Type 0 where
  pub read-keys : (k : Key) → T (reads c k) → k < keys
  pub write-keys : (k : Key) → T (writes c k) → k < keys
  pub after : FitsView keys c.view_after
