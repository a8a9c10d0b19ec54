-- What was written as a replay reads back as demand 3 says, and is no longer than the limits make it. Assumes nothing.
use Prim.Native.Nat.{ℕ, ◌≤◌}
use mathlib.Core.Path.{◌≡◌, refl, sym, ap, ◌∙◌, subst}
use mathlib.Core.Option.{Option, some, none}
use mathlib.Core.List.{List}
use lib.ListN.{length, take}
use Rattle.search.specs.Choose.{map_some}
use Rattle.endian.specs.Endian.{Bytes}
use Rattle.trace.specs.Result.{refused, taken}
use Rattle.trace.specs.Format.{Trace}
use Rattle.trace.proofs.Result.{refused-taken, taken-injective, on_taken-taken}
use Rattle.trace.proofs.Decoded.{decoded-well-formed}
use Rattle.levels.specs.Level.{SER, Failure}
use Rattle.answer.specs.Output.{Output}
use Rattle.answer.specs.Answer.{unless, accept, verdict}
use Rattle.answer.specs.Replay.{replay}
use Rattle.answer.specs.Demand3.{Accepts, SameOutcome}
use Rattle.answer.specs.Written.{not_serial, serial_replay, written, replay_answer, replay_after, ReplayFits, ReadsBack}
use Rattle.answer.proofs.Output.{answered-made, stands-written}
use Rattle.answer.proofs.Demand3.{accepted-trace, demand3}
use Rattle.answer.proofs.ReplayFile.{replay-longest}

-- what is made where SER accepts
pub serial-written : (t : Trace) → Accepts SER t → serial_replay t ≡ taken (record { told = length (replay t); bytes = replay t })
unfolding serial_replay unless map_some
serial-written t a = rw a refl

-- and where it does not
pub not-serial : (t : Trace) (f : Failure) → verdict SER t ≡ some f → serial_replay t ≡ refused (not_serial f)
unfolding serial_replay unless map_some
not-serial t f e = rw e refl

-- something is made only where SER accepts
serial-accepts : (t : Trace) (o : Output ℕ) → serial_replay t ≡ taken o → Accepts SER t × (o ≡ record { told = length (replay t); bytes = replay t })
serial-accepts t o e = go (verdict SER t) refl
  where
    go : (v : Option Failure) → verdict SER t ≡ v → Accepts SER t × (o ≡ record { told = length (replay t); bytes = replay t })
    go (some f) is = refused-taken (sym (not-serial t f is) ∙ e)
    go none is = (is, taken-injective (sym e ∙ serial-written t is))

-- where n bytes were answered, they are the replay of a trace that SER accepts, and there was room for them
record Wrote (bytes : List ℕ) (room n : ℕ) : Type 0 where
  trace : Trace
  accepted : accept bytes ≡ taken trace
  serial : Accepts SER trace
  made : written bytes ≡ taken (record { told = length (replay trace); bytes = replay trace })
  size : length (replay trace) ≡ n
  fits : length (replay trace) ≤ room

wrote : (bytes : List ℕ) (room n : ℕ) → replay_answer bytes room ≡ taken n → Wrote bytes room n
unfolding replay_answer written
wrote bytes room n e =
    let (o, made, told, fits) = answered-made 17 (written bytes) room n e in
    let (t, read, serial) = on_taken-taken (accept bytes) serial_replay made in
    let (accepts, is) = serial-accepts t o serial in
    record {
      trace = t;
      accepted = read;
      serial = accepts;
      made = made ∙ ap taken is;
      size = ap (λ (x : Output ℕ). x.told) (sym is) ∙ told;
      fits = subst (λ (x : Output ℕ). length x.bytes ≤ room) is fits;
    }

-- ---- what is promised of what was written

pub reads-back : (bytes : List ℕ) → Bytes bytes → (buffer : List ℕ) → ReadsBack bytes (length buffer) (replay_after bytes buffer)
reads-back bytes b buffer n e =
    let w = wrote bytes (length buffer) n e in
    let file : take n (replay_after bytes buffer) ≡ replay w.trace =
    ap (λ (m : ℕ). take m (replay_after bytes buffer)) (sym w.size) ∙ stands-written (written bytes) buffer _ w.made w.fits in
    (w.trace, w.accepted, subst (SameOutcome w.trace) (sym file) ((demand3 bytes b w.trace w.accepted).ser-replay w.serial))

-- it has its place within the buffer
pub written-within : (bytes : List ℕ) (room n : ℕ) → replay_answer bytes room ≡ taken n → n ≤ room
written-within bytes room n e = let w = wrote bytes room n e in subst (λ (m : ℕ). m ≤ room) w.size w.fits

-- and is no longer than the limits make it
pub replay-fits : (bytes : List ℕ) → Bytes bytes → ReplayFits bytes
replay-fits bytes b t e = replay-longest t (decoded-well-formed bytes b t (accepted-trace bytes t e).0)
