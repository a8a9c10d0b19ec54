-- "Sizes of a rack" (01), with the keys of 02 (E2): the limits of a store, named once. Assumes nothing.
use Rattle.std.specs.Prelude.{ℕ, ◌+◌, ◌*◌}

-- "Keys go from 16 to 32"
abbrev pub max_keys : ℕ
max_keys = 32

-- "clients 1 to 16"
abbrev pub max_clients : ℕ
max_clients = 16

-- "commits 0 to 63"
abbrev pub max_commits : ℕ
max_commits = 63

-- a commit's number is below this: the opening transaction's is 0, and those of the commits follow
abbrev pub numbers : ℕ
numbers = max_commits + 1

-- a key has at most so many versions: the opening one, and one by each commit
abbrev pub per_key : ℕ
per_key = max_commits + 1

-- "file 12 to 65,536 bytes"
abbrev pub min_bytes : ℕ
min_bytes = 12

abbrev pub max_bytes : ℕ
max_bytes = 65536

-- the image: "The limit is then 49,536 bytes for 32 keys" (02, E8): its first 8, for each commit 8 and 8 for each key, and for each key 4 and 16 for each
-- of its versions
abbrev pub max_image : ℕ
max_image = 8 + max_commits * (8 + 8 * max_keys) + max_keys * (4 + 16 * per_key)

-- the file of a replay, "65,532, still inside 65,536" (02, E2): its first 12, and for each commit a shift (6, and 8 for each key) and a commit (10,
-- 8 for each of at most two operations a key, and 8 for each key)
abbrev pub max_replay : ℕ
max_replay = min_bytes + max_commits * (16 + 32 * max_keys)
