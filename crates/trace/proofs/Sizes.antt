-- How long the file of a trace is, record by record. Assumes nothing.
use Prim.Native.Nat.{ℕ, ◌+◌, ◌*◌}
use mathlib.Core.Path.{◌≡◌, refl, ap, ap₂, ◌∙◌}
use mathlib.Core.List.{List, [], ◌∷◌}
use native.Mathlib.Omega.{arith}
use lib.ListN.{length, length-append}
use Rattle.endian.proofs.Laws.{length-le_bytes, length-le_bytes-append}
use Rattle.store.specs.Limits.{min_bytes}
use Rattle.store.specs.Store.{Operation, Event, shift, commit}
use Rattle.store.proofs.Masks.{length-view_bytes}
use Rattle.trace.specs.Format.{Trace, shift_length, commit_length}
use Rattle.trace.specs.Encode.{operation_bytes, operations_bytes, event_bytes, events_bytes, file_head, file_of, encode}

pub length-operation_bytes : (o : Operation) → length (operation_bytes o) ≡ 8
unfolding operation_bytes
length-operation_bytes o = simp (length-le_bytes-append, length-le_bytes)

pub length-operations_bytes : (os : List Operation) → length (operations_bytes os) ≡ 8 * length os
unfolding operations_bytes
length-operations_bytes [] = refl
length-operations_bytes (o ∷ os) =
    let first = length-operation_bytes o in
    let rest = length-operations_bytes os in
    length-append (operation_bytes o) (operations_bytes os) ∙ omega arith

-- the length of a record: "6 + 8K", "10 + 8m + 8K"
abbrev pub event_length : ℕ → Event → ℕ
event_length keys (shift d u) = shift_length keys
event_length keys (commit c) = commit_length keys (length c.operations)

pub length-event_bytes : (keys : ℕ) (e : Event) → length (event_bytes keys e) ≡ event_length keys e
unfolding event_bytes
length-event_bytes keys (shift d u) = simp (length-le_bytes-append, length-view_bytes) (omega arith)
length-event_bytes keys (commit c) = simp (length-le_bytes-append, length-append, length-operations_bytes, length-view_bytes) (omega arith)

-- the length of records in turn
unfoldable pub events_length : ℕ → List Event → ℕ
events_length keys [] = 0
events_length keys (e ∷ es) = event_length keys e + events_length keys es

pub length-events_bytes : (keys : ℕ) (es : List Event) → length (events_bytes keys es) ≡ events_length keys es
unfolding events_bytes events_length
length-events_bytes keys [] = refl
length-events_bytes keys (e ∷ es) = length-append (event_bytes keys e) (events_bytes keys es) ∙ ap₂ ◌+◌ (length-event_bytes keys e) (length-events_bytes keys es)

-- four bytes of length and a header of eight
pub length-file_head : (whole keys clients records : ℕ) → length (file_head whole keys clients records) ≡ min_bytes
unfolding file_head
length-file_head whole keys clients records = simp (length-le_bytes-append, length-le_bytes)

-- and the bytes of the records
pub length-file_of : (keys clients records : ℕ) (body : List ℕ) → length (file_of keys clients records body) ≡ min_bytes + length body
length-file_of keys clients records body =
    length-append (file_head (min_bytes + length body) keys clients records) body ∙ ap (λ n. n + length body) (length-file_head (min_bytes + length body) keys clients records)

pub length-encode : (t : Trace) → length (encode t) ≡ min_bytes + events_length t.keys t.events
unfolding encode
length-encode t = length-file_of t.keys t.clients (length t.events) (events_bytes t.keys t.events) ∙ ap (λ n. min_bytes + n) (length-events_bytes t.keys t.events)
