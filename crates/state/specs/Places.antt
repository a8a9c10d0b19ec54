-- Where things stand in the arrays of the judge, and how long each array is. An array holds several tables of equal rows, one after the other;
-- whatever follows from a limit is said here, and by the constants of src/lib.rt that stand for the same places. Assumes nothing.
use Rattle.std.specs.Prelude.{ℕ, ◌+◌, ◌*◌, ◌/◌, ◌%◌, ◌^◌}
use Rattle.store.specs.Limits.{max_keys, max_clients}
pub use Rattle.store.specs.Limits.{per_key, numbers}
use Rattle.store.specs.Store.{Key, VersionNumber, CommitNumber, Client}

-- versions: the heads, then the readers; then a row for each commit number, of the versions that the commit wrote
abbrev pub head_place : Key → VersionNumber → ℕ
head_place k i = per_key * k + i

abbrev pub readers_place : Key → VersionNumber → ℕ
readers_place k i = per_key * max_keys + head_place k i

abbrev pub owned_place : CommitNumber → Key → ℕ
owned_place t k = 2 * (per_key * max_keys) + (max_keys * t + k)

abbrev pub versions_length : ℕ
versions_length = 2 * (per_key * max_keys) + numbers * max_keys

-- keys: the full masks, then the sets of writers
abbrev pub full_place : Key → ℕ
full_place k = k

abbrev pub writers_place : Key → ℕ
writers_place k = max_keys + k

abbrev pub keys_length : ℕ
keys_length = 2 * max_keys

-- views: a row for each client; then a row for each commit number, of the view that the commit was judged from
abbrev pub view_place : ℕ → Key → ℕ
view_place row k = max_keys * row + k

abbrev pub stored_row : CommitNumber → ℕ
stored_row t = max_clients + t

abbrev pub client_rows : ℕ
client_rows = max_clients * max_keys

abbrev pub views_length : ℕ
views_length = (max_clients + numbers) * max_keys

-- seen: a set for each client
abbrev pub seen_length : ℕ
seen_length = max_clients

-- sessions: the commits of each client, the writers that they read from, and the least session number that is free
abbrev pub commits_place : Client → ℕ
commits_place d = d

abbrev pub drawn_place : Client → ℕ
drawn_place d = max_clients + d

abbrev pub bar_place : Client → ℕ
bar_place d = 2 * max_clients + d

abbrev pub sessions_length : ℕ
sessions_length = 3 * max_clients

-- commits: the log, the commits before each in SO, and the writers that each and those read from
abbrev pub log_place : CommitNumber → ℕ
log_place t = t

abbrev pub before_place : CommitNumber → ℕ
before_place t = numbers + t

abbrev pub read_place : CommitNumber → ℕ
read_place t = 2 * numbers + t

abbrev pub commits_length : ℕ
commits_length = 3 * numbers

-- links: for clause 6 and then for clause 7, the commits with a link to each; then for each key what its readers bring along; then for each commit a row of
-- what is noted of its links, and the last commit whose links are entered in what stands before
abbrev pub link_place : ℕ → CommitNumber → ℕ
link_place kind t = numbers * kind + t

abbrev pub lead_place : ℕ → Key → ℕ
lead_place kind k = 2 * numbers + (max_keys * kind + k)

abbrev pub note_parts : ℕ
note_parts = 5

abbrev pub note_place : ℕ → CommitNumber → ℕ
note_place part t = 2 * numbers + 2 * max_keys + (note_parts * t + part)

abbrev pub entered_place : ℕ
entered_place = 2 * numbers + 2 * max_keys + note_parts * numbers

abbrev pub links_length : ℕ
links_length = 2 * numbers + 2 * max_keys + note_parts * numbers + 1

-- the record at hand: the masks of its view, and the values of its operations by rank, two for each key
abbrev pub fresh_length : ℕ
fresh_length = max_keys

abbrev pub values_length : ℕ
values_length = 2 * max_keys

-- two numbers in one word: the low half, and the high half
abbrev pub packed : ℕ → ℕ → ℕ
packed low high = low + 2 ^ 32 * high

-- the writer in the head of a version: the high half, a commit number
unfoldable pub writer_in : ℕ → ℕ
writer_in head = head / 2 ^ 32 % numbers
