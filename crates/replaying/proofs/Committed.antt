-- What is written for a record: nothing for a shift, and for a commit the two records of its replay, put one behind the other. Assumes nothing.
use Prim.Native.Nat.{ℕ, ◌+◌, ◌≤◌}
use mathlib.Core.Path.{◌≡◌, sym, ap, ◌∙◌}
use mathlib.Core.List.{List, ◌++◌, append-nil}
use lib.ListN.{length}
use Rattle.endian.specs.Endian.{put_at}
use Rattle.endian.proofs.Put.{put-none, put_next}
use Rattle.store.specs.Store.{View, Configuration, Commit, commit}
use Rattle.store.specs.Update.{final}
use Rattle.trace.specs.Entry.{event}
use Rattle.trace.specs.Format.{operations_at, shift_length}
use Rattle.trace.specs.Meaning.{entry_of}
use Rattle.trace.specs.declared.records.Listing.{Listing}
use Rattle.trace.specs.declared.records.Record.{Record}
use Rattle.trace.specs.declared.records.Record.TheVariants as Record-is
use Rattle.trace.specs.Encode.{event_bytes, events_bytes}
use Rattle.trace.proofs.Sizes.{length-event_bytes}
use Rattle.answer.specs.Replay.{full_shift, full_commit, replay_step}
use Rattle.replaying.specs.Full.{Full, Wrote}

-- the shift and then the commit are what the replay has for a commit
pub put_both : (n : ℕ) (r : Configuration) (c : Commit) (d : List ℕ) (at : ℕ) {next : ℕ} {one two : List ℕ} → next ≡ at + shift_length n → next ≤ length d
    → one ≡ put_at d at (event_bytes n (full_shift r c)) → two ≡ put_at one next (event_bytes n (commit (full_commit r c)))
    → two ≡ put_at d at (events_bytes n (replay_step r (commit c)))
unfolding replay_step events_bytes
put_both n r c d at {next} e room p q =
    let first = event_bytes n (full_shift r c) in
    let second = event_bytes n (commit (full_commit r c)) in
    put_next d at (shift_length n) next first second p (length-event_bytes n (full_shift r c)) (sym e) room q
    ∙ ap (λ (l : List ℕ). put_at d at (first ++ l)) (sym (append-nil second))

-- ---- the record at hand

-- nothing is written for a shift
pub wrote-shift : (n : ℕ) (file : List ℕ) {x : Record} {client : ℕ} {l : Listing} → x ≡ Record-is.Shift client l → (g r : Configuration) (at : ℕ) (buffer full : List ℕ)
    → Full r.store n full → Wrote n r (event g (entry_of file n x)) at buffer buffer full
unfolding entry_of event replay_step events_bytes final
wrote-shift n file e g r at buffer full f = rw e (record { put = put-none buffer at; full = f })

-- for a commit, what is written for what it means
pub wrote-commit : (n : ℕ) (file : List ℕ) {x : Record} {client count session operations : ℕ} {l : Listing} → x ≡ Record-is.Commit client count session operations l
    → (g r : Configuration) (at : ℕ) {buffer after full : List ℕ}
    → ((u : View) → Wrote n r (commit (record { client = client; session = session; operations = operations_at file operations count; view_after = u })) at buffer after full)
    → Wrote n r (event g (entry_of file n x)) at buffer after full
unfolding entry_of event
wrote-commit n file e g r at w = rw e (w _)
