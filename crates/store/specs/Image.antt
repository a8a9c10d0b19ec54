-- "The image" (01), byte for byte. Assumes nothing.
use Rattle.std.specs.Prelude.{ℕ, suc, ◌+◌, ◌≤◌, ◌<◌, List, ◌++◌, length}
use Rattle.endian.specs.Endian.{le_bytes, pieces}
use Rattle.store.specs.Masks.{view_bytes}
use Rattle.store.specs.Store.{Key, CommitNumber, Version, Store, count, version}

-- "16 bytes each: value u32, writer u8, three zeros, readers u64 with bit c for commit c"
unfoldable pub version_bytes : Version → List ℕ
version_bytes v = le_bytes 4 v.value ++ (le_bytes 1 v.writer ++ (le_bytes 3 0 ++ le_bytes 8 v.readers))

-- "Per key: u32 number of versions, then 16 bytes each"
unfoldable pub key_bytes : Store → Key → List ℕ
key_bytes s k = le_bytes 4 (count s k) ++ pieces (count s k) (λ i. version_bytes (version s k i))

-- "Per commit 8 bytes: client u8, three zeros, session number u32." "K masks by rising key follow each commit's 8 bytes, the view u that it was judged
-- from" (02, E8)
unfoldable pub commit_bytes : Store → CommitNumber → List ℕ
commit_bytes s t = le_bytes 1 (s.client_of t) ++ (le_bytes 3 0 ++ (le_bytes 4 (s.session_of t) ++ view_bytes s.keys (s.view_of t)))

-- what follows the first 8 bytes: the commits in order, then the keys
unfoldable pub image_body : Store → List ℕ
image_body s = pieces s.commits (λ i. commit_bytes s (suc i)) ++ pieces s.keys (key_bytes s)

-- "u32 length, keys u8, commits u8, two zeros", and the rest
unfoldable pub image : Store → List ℕ
image s = le_bytes 4 (8 + length (image_body s)) ++ (le_bytes 1 s.keys ++ (le_bytes 1 s.commits ++ (le_bytes 2 0 ++ image_body s)))

-- "client u8": the client of each commit has room in a byte
abbrev pub ClientsFit : Store → Type 0
ClientsFit s = (t : CommitNumber) → 0 < t → t ≤ s.commits → s.client_of t < 256
