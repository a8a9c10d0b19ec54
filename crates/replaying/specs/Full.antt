-- A full view as the writer of a replay keeps it, and what it writes for a record. Assumes nothing.
use Rattle.std.specs.Prelude.{ℕ, suc, ◌+◌, ◌*◌, ◌≤◌, ◌≡◌, List}
use Rattle.search.specs.Choose.{choose}
use Rattle.sets.specs.Set.{Set, has}
use Rattle.endian.specs.Endian.{put_at}
use Rattle.store.specs.Store.{Key, Store, Configuration, count, Event}
use Rattle.store.specs.Update.{final}
use Rattle.trace.specs.Format.{shift_length, commit_length}
use Rattle.trace.specs.Encode.{events_bytes}
use Rattle.trace.specs.declared.records.Record.{Record}
use Rattle.trace.specs.declared.records.Record.TheVariants.{Shift, Commit}
use Rattle.answer.specs.Replay.{full_view, replay_step}
use Rattle.state.specs.Rows.{RowAt}

-- the masks are those of the full view of a store; no key has more versions than the opening one and one by each commit
pub record Full (s : Store) (n : ℕ) (masks : List ℕ) : Type 0 where
  pub row : RowAt n masks 0 (full_view s)
  pub few : (k : Key) → count s k ≤ suc s.commits

-- what the replay has for a record, made on r, was put into the buffer, and the masks are those of the full view that it leaves
pub record Wrote (n : ℕ) (r : Configuration) (e : Event) (at : ℕ) (before after masks : List ℕ) : Type 0 where
  pub put : after ≡ put_at before at (events_bytes n (replay_step r e))
  pub full : Full (final r (replay_step r e)).store n masks

-- the mask of a key after a commit with operations of these ranks: with one version more where the key was written
abbrev pub grown_mask : Set → Key → Set → Set
grown_mask ranks k m = choose (has ranks (2 * k + 1)) (2 * m + 1) m

-- how many bytes the replay has for a record: a shift and a commit for a commit
abbrev pub replay_length : ℕ → Record → ℕ
replay_length n (Shift client l) = 0
replay_length n (Commit client count session operations l) = shift_length n + commit_length n count
