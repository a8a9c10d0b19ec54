-- The file of a trace, in full or in either edition, is a list of bytes, whatever the trace. Assumes nothing.
use Prim.Native.Nat.{ℕ, ◌+◌}
use mathlib.Core.Bool.{Bool}
use mathlib.Core.List.{List, [], ◌∷◌}
use lib.ListN.{length}
use Rattle.endian.specs.Endian.{Bytes, le_bytes}
use Rattle.endian.proofs.Laws.{bytes-none, bytes-append, bytes-le_bytes, bytes-le_bytes-append, bytes-pieces}
use Rattle.search.specs.Choose.{choose}
use Rattle.search.proofs.Choose.{choose-ind}
use Rattle.sets.specs.Set.{has}
use Rattle.store.specs.Limits.{min_bytes}
use Rattle.store.specs.Store.{Key, View, Configuration, opening, Operation, Event, shift, commit}
use Rattle.store.specs.Update.{step}
use Rattle.store.proofs.Masks.{view-bytes}
use Rattle.trace.specs.Listed.{listed_bytes, touched}
use Rattle.trace.specs.Format.{Trace}
use Rattle.trace.specs.Encode.{operation_bytes, operations_bytes, view_bytes, event_bytes, events_bytes, file_head, file_of, encode}
use Rattle.trace.specs.Edition.{Edition, long, short, changed, short_shift_bytes, short_commit_bytes, record_bytes, records_bytes, encode_in}

operation-bytes : (o : Operation) → Bytes (operation_bytes o)
unfolding operation_bytes
operation-bytes o = bytes-le_bytes-append _ _ _ (bytes-le_bytes-append _ _ _ (bytes-le_bytes-append _ _ _ (bytes-le_bytes _ _)))

operations-bytes : (os : List Operation) → Bytes (operations_bytes os)
unfolding operations_bytes
operations-bytes [] = bytes-none
operations-bytes (o ∷ os) = bytes-append (operation_bytes o) (operations_bytes os) (operation-bytes o) (operations-bytes os)

event-bytes : (keys : ℕ) (e : Event) → Bytes (event_bytes keys e)
unfolding event_bytes
event-bytes keys (shift d u) = bytes-le_bytes-append _ _ _ (bytes-le_bytes-append _ _ _ (bytes-le_bytes-append _ _ _ (bytes-le_bytes-append _ _ _ (view-bytes keys u))))
event-bytes keys (commit c) =
    bytes-le_bytes-append _ _ _ (bytes-le_bytes-append _ _ _ (bytes-le_bytes-append _ _ _ (bytes-le_bytes-append _ _ _ (bytes-le_bytes-append _ _ _
    (bytes-append (operations_bytes c.operations) (view_bytes keys c.view_after) (operations-bytes c.operations) (view-bytes keys c.view_after))))))

events-bytes : (keys : ℕ) (es : List Event) → Bytes (events_bytes keys es)
unfolding events_bytes
events-bytes keys [] = bytes-none
events-bytes keys (e ∷ es) = bytes-append (event_bytes keys e) (events_bytes keys es) (event-bytes keys e) (events-bytes keys es)

head_bytes : (whole keys clients records : ℕ) → Bytes (file_head whole keys clients records)
unfolding file_head
head_bytes whole keys clients records =
    bytes-le_bytes-append _ _ _ (bytes-le_bytes-append _ _ _ (bytes-le_bytes-append _ _ _ (bytes-le_bytes-append _ _ _ (bytes-le_bytes-append _ _ _ (bytes-le_bytes _ _)))))

file-bytes : (keys clients records : ℕ) (body : List ℕ) → Bytes body → Bytes (file_of keys clients records body)
file-bytes keys clients records body b = bytes-append (file_head (min_bytes + length body) keys clients records) body (head_bytes (min_bytes + length body) keys clients records) b

pub encode-bytes : (t : Trace) → Bytes (encode t)
unfolding encode
encode-bytes t = file-bytes t.keys t.clients (length t.events) (events_bytes t.keys t.events) (events-bytes t.keys t.events)

-- ---- in either edition

listed-bytes : (keys : ℕ) (f : Key → Bool) (u : View) → Bytes (listed_bytes keys f u)
unfolding listed_bytes
listed-bytes keys f u =
    bytes-pieces keys (λ k. choose (f k) (le_bytes 8 (u k)) []) (λ k. choose-ind Bytes (f k) (le_bytes 8 (u k)) [] (λ t. bytes-le_bytes 8 (u k)) (λ t. bytes-none))

record-bytes : (x : Edition) (keys : ℕ) (g : Configuration) (e : Event) → Bytes (record_bytes x keys g e)
unfolding record_bytes short_shift_bytes short_commit_bytes
record-bytes long keys g e = event-bytes keys e
record-bytes short keys g (shift d u) =
    bytes-le_bytes-append _ _ _ (bytes-le_bytes-append _ _ _ (bytes-le_bytes-append _ _ _ (bytes-le_bytes-append _ _ _ (bytes-le_bytes-append _ _ _
    (listed-bytes keys (has (changed keys (g.views d) u)) u)))))
record-bytes short keys g (commit c) =
    bytes-le_bytes-append _ _ _ (bytes-le_bytes-append _ _ _ (bytes-le_bytes-append _ _ _ (bytes-le_bytes-append _ _ _ (bytes-le_bytes-append _ _ _
    (bytes-append (operations_bytes c.operations) _ (operations-bytes c.operations) (listed-bytes keys (touched c.operations) c.view_after))))))

records-bytes : (x : Edition) (keys : ℕ) (g : Configuration) (es : List Event) → Bytes (records_bytes x keys g es)
unfolding records_bytes
records-bytes x keys g [] = bytes-none
records-bytes x keys g (e ∷ es) = bytes-append (record_bytes x keys g e) (records_bytes x keys (step g e) es) (record-bytes x keys g e) (records-bytes x keys (step g e) es)

pub encode_in-bytes : (x : Edition) (t : Trace) → Bytes (encode_in x t)
unfolding encode_in
encode_in-bytes x t = file-bytes t.keys t.clients (length t.events) (records_bytes x t.keys (opening t.keys) t.events) (records-bytes x t.keys (opening t.keys) t.events)
