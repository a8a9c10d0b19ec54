-- What the contracts of the image's writer cite besides the image itself: its first 8 bytes, and its size from the judge's full masks.
-- Assumes nothing.
use Rattle.std.specs.Prelude.{ℕ, zero, suc, ◌+◌, ◌*◌, List, ◌++◌, get_or}
use Rattle.sets.specs.Set.{size}
use Rattle.endian.specs.Endian.{le_bytes}
use Rattle.store.specs.Reading.{commit_size}
use Rattle.state.specs.Places.{full_place}

-- "u32 length, keys u8, commits u8, two zeros"
abbrev pub head_bytes : ℕ → ℕ → ℕ → List ℕ
head_bytes whole n commits = le_bytes 4 whole ++ (le_bytes 1 n ++ (le_bytes 1 commits ++ le_bytes 2 0))

-- the first n keys: "Per key: u32 number of versions, then 16 bytes each"; the full mask of a key has a member for each version
unfoldable pub keys_size : List ℕ → ℕ → ℕ
keys_size keys zero = 0
keys_size keys (suc k) = keys_size keys k + (4 + 16 * size (get_or keys (full_place k) 0))

-- the whole: the first 8 bytes, "Per commit 8 bytes" and the n masks that follow them, and the keys
abbrev pub whole_size : List ℕ → ℕ → ℕ → ℕ
whole_size keys n commits = 8 + commit_size n * commits + keys_size keys n
