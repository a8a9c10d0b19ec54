-- A trace written as a file of kinds 1, 2 and 3 (01, The trace file). Assumes nothing.
use Rattle.std.specs.Prelude.{ℕ, ◌+◌, List, [], ◌∷◌, ◌++◌, length}
use Rattle.endian.specs.Endian.{le_bytes}
use Rattle.store.specs.Limits.{min_bytes}
use Rattle.store.specs.Store.{Access, read, write, Operation, Event, shift, commit}
unfoldable pub use Rattle.store.specs.Masks.{view_bytes}
use Rattle.trace.specs.Format.{Trace, shift_length, commit_length}

-- "0 read or 1 write"
abbrev pub access_number : Access → ℕ
access_number read = 0
access_number write = 1

-- "0 read or 1 write, key u8, zero u16, value u32"
unfoldable pub operation_bytes : Operation → List ℕ
operation_bytes o = le_bytes 1 (access_number o.access) ++ (le_bytes 1 o.key ++ (le_bytes 2 0 ++ le_bytes 4 o.value))

unfoldable pub operations_bytes : List Operation → List ℕ
operations_bytes [] = []
operations_bytes (o ∷ os) = operation_bytes o ++ operations_bytes os

-- "u16 length of the whole record, u16 kind, body"
unfoldable pub event_bytes : ℕ → Event → List ℕ
event_bytes keys (shift d u) =
    le_bytes 2 (shift_length keys) ++ (le_bytes 2 2 ++ (le_bytes 1 d ++ (le_bytes 1 0 ++ view_bytes keys u)))
event_bytes keys (commit c) =
    le_bytes 2 (commit_length keys (length c.operations))
    ++ (le_bytes 2 3 ++ (le_bytes 1 c.client ++ (le_bytes 1 (length c.operations) ++ (le_bytes 4 c.session
    ++ (operations_bytes c.operations ++ view_bytes keys c.view_after)))))

unfoldable pub events_bytes : ℕ → List Event → List ℕ
events_bytes keys [] = []
events_bytes keys (e ∷ es) = event_bytes keys e ++ events_bytes keys es

-- ---- the file, as its first 12 bytes and the bytes of its records, whoever lists them

-- "Bytes 0 to 3: length of the whole file, these four included"; then "Kind 1, header, length 8, first and only there: keys u8, clients u8,
-- count u16 of records that follow"
unfoldable pub file_head : ℕ → ℕ → ℕ → ℕ → List ℕ
file_head whole keys clients records =
    le_bytes 4 whole ++ (le_bytes 2 8 ++ (le_bytes 2 1 ++ (le_bytes 1 keys ++ (le_bytes 1 clients ++ le_bytes 2 records))))

-- "Then records": so many, with these bytes
abbrev pub file_of : ℕ → ℕ → ℕ → List ℕ → List ℕ
file_of keys clients records body = file_head (min_bytes + length body) keys clients records ++ body

-- a trace, each of its records in full
unfoldable pub encode : Trace → List ℕ
encode t = file_of t.keys t.clients (length t.events) (events_bytes t.keys t.events)
