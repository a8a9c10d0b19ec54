-- What the operations of a commit change: in the arrays, at one key; and in the store, first by the reads and then by the writes.
-- Assumes nothing.
use Rattle.std.specs.Prelude.{ℕ, ◌+◌, ◌*◌, ◌%◌, ◌^◌, List, slice_index, slice_set}
use Rattle.sets.specs.Set.{Set, insert, union, highest}
use Rattle.store.specs.Limits.{max_keys}
use Rattle.store.specs.Store.{Key, VersionNumber, CommitNumber, View, Store, read, write, Commit}
use Rattle.store.specs.Update.{value_of, newest_visible, note_read, append}
use Rattle.state.specs.Places.{per_key, full_place, writers_place}

-- ---- in the arrays

-- commit t among the readers at a place
abbrev pub reader_added : List ℕ → ℕ → CommitNumber → List ℕ
reader_added versions at t = slice_set versions at (insert t (slice_index versions at))

-- a version put where its head belongs, with no readers
abbrev pub version_added : List ℕ → ℕ → ℕ → List ℕ
version_added versions at head = slice_set (slice_set versions at head) (per_key * max_keys + at) 0

-- a version more in the set at a place
abbrev pub version_owned : List ℕ → ℕ → Set → List ℕ
version_owned versions at bit = slice_set versions at (union (slice_index versions at) bit)

-- the bit of the next version of a key, as a set: one more than the mask of all versions; and its number
abbrev pub free_bit : List ℕ → Key → Set
free_bit keys k = (slice_index keys (full_place k) + 1) % 2 ^ 64

abbrev pub free : List ℕ → Key → VersionNumber
free keys k = highest (free_bit keys k)

-- a version more in the full mask of a key, and commit t among its writers
abbrev pub key_grown : List ℕ → Key → Set → CommitNumber → List ℕ
key_grown keys k bit t = slice_set (slice_set keys (full_place k) (union (slice_index keys (full_place k)) bit)) (writers_place k) (insert t (slice_index keys (writers_place k)))

-- ---- in the store

-- "Reads add the commit to that version's readers": commit t on view u
abbrev pub reads_noted : Store → View → Commit → CommitNumber → Store
reads_noted s u c t = record {
  keys = s.keys;
  versions = λ k. note_read (value_of read c.operations k) (newest_visible s u k).version t (s.versions k);
  client_of = s.client_of;
  session_of = s.session_of;
  view_of = s.view_of;
  commits = s.commits;
}

-- "writes append (value, commit, no readers)"
abbrev pub writes_appended : Store → Commit → CommitNumber → Store
writes_appended s c t = record {
  keys = s.keys;
  versions = λ k. append (value_of write c.operations k) t (s.versions k);
  client_of = s.client_of;
  session_of = s.session_of;
  view_of = s.view_of;
  commits = s.commits;
}
