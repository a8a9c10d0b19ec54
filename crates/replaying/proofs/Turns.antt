-- What the replay has for a record of a file in form. Assumes nothing.
use Prim.Native.Nat.{ℕ, ◌+◌}
use mathlib.Core.Path.{◌≡◌, refl, sym, ap, ap₂, ◌∙◌}
use mathlib.Core.List.{List, [], ◌∷◌, ◌++◌, append_assoc}
use native.Mathlib.Omega.{arith}
use lib.ListN.{length, length-append}
use Rattle.store.specs.Store.{Configuration, Event}
use Rattle.store.specs.Update.{step, update, final}
use Rattle.trace.specs.Entry.{event}
use Rattle.trace.specs.Format.{commits_with}
use Rattle.trace.specs.Encode.{event_bytes, events_bytes}
use Rattle.trace.specs.Meaning.{entry_of}
use Rattle.trace.specs.declared.records.Record.{Record}
use Rattle.trace.specs.declared.records.Record.TheVariants.{Shift, Commit}
use Rattle.trace.proofs.Decoded.{length-operations_at}
use Rattle.trace.proofs.Sizes.{events_length, length-events_bytes}
use Rattle.answer.specs.Replay.{replay_step, replay_events}
use Rattle.replaying.specs.Full.{replay_length}

-- ---- what the replay has for a record

-- bytes of records, one list behind another
events-append : (n : ℕ) (es fs : List Event) → events_bytes n (es ++ fs) ≡ events_bytes n es ++ events_bytes n fs
unfolding events_bytes
events-append n [] fs = refl
events-append n (e ∷ es) fs = ap (λ (l : List ℕ). event_bytes n e ++ l) (events-append n es fs) ∙ sym (append_assoc (event_bytes n e) (events_bytes n es) (events_bytes n fs))

-- how long it is
pub length-step : (file : List ℕ) (n : ℕ) (r g : Configuration) (x : Record) → events_length n (replay_step r (event g (entry_of file n x))) ≡ replay_length n x
unfolding replay_step event entry_of events_length
length-step file n r g (Shift client l) = refl
length-step file n r g (Commit client count session operations l) = let m = length-operations_at file operations count in omega arith

module _ (n : ℕ) (r : Configuration) {es others : List Event} (e : Event) (is-first : es ≡ e ∷ others) where
  abbrev after : Configuration
  after = final r (replay_step r e)

  -- the bytes to come are its own and those of the others
  pub bytes-first : events_bytes n (replay_events r es) ≡ events_bytes n (replay_step r e) ++ events_bytes n (replay_events after others)
  unfolding replay_events
  bytes-first = ap (λ (l : List Event). events_bytes n (replay_events r l)) is-first ∙ events-append n (replay_step r e) (replay_events after others)

  -- and so are their lengths
  pub length-first : events_length n (replay_events r es) ≡ events_length n (replay_step r e) + events_length n (replay_events after others)
  length-first =
      sym (length-events_bytes n (replay_events r es)) ∙ ap length bytes-first ∙ length-append (events_bytes n (replay_step r e)) (events_bytes n (replay_events after others))
      ∙ ap₂ ◌+◌ (length-events_bytes n (replay_step r e)) (length-events_bytes n (replay_events after others))

-- as many commits are made as the record has
pub commits-step : (file : List ℕ) (n : ℕ) (r g : Configuration) (x : Record) → (final r (replay_step r (event g (entry_of file n x)))).store.commits ≡ commits_with (entry_of file n x) r.store.commits
unfolding replay_step final step update event entry_of
commits-step file n r g (Shift client l) = refl
commits-step file n r g (Commit client count session operations l) = refl
