-- The replay as a file, for a trace that serialisability accepts: it is well-formed, so it reads back as the replay; it is taken,
-- and its outcome is that of the trace. Assumes nothing.
use mathlib.Core.Path.{◌≡◌, refl, sym, ap, ◌∙◌}
use mathlib.Core.Option.{Option, none}
use Prim.Native.Nat.{◌≤◌}
use native.Mathlib.Omega.{arith}
use lib.ListN.{length}
use Rattle.store.specs.Limits.{max_bytes}
use Rattle.store.specs.Store.{opening_store, opening}
use Rattle.store.specs.Refusal.{Refusal}
use Rattle.store.specs.Image.{image}
use Rattle.store.proofs.Sound.{sound-opening}
use Rattle.store.proofs.Run.{legal-run, Each}
use Rattle.trace.specs.Result.{Result, taken, on_taken}
use Rattle.trace.specs.Format.{Trace, decode}
use Rattle.trace.proofs.WellFormed.{WellFormed}
use Rattle.trace.proofs.RoundTrip.{decode-encode}
use Rattle.levels.specs.Level.{SER}
use Rattle.levels.proofs.Levels.{Passes}
use Rattle.answer.specs.Answer.{meaningless, unless, accept}
use Rattle.answer.specs.Replay.{replay_trace, replay}
use Rattle.answer.specs.Demand3.{Accepts, SameOutcome}
use Rattle.answer.proofs.Taken.{Taken}
use Rattle.answer.proofs.Orders.{accepts-each}
use Rattle.answer.proofs.Replayed.{Replays, replays, replay-commits}
use Rattle.answer.proofs.ReplayFile.{replay-fitting, replay-records, replay-longest}

-- ---- the replay of a taken trace

-- none of codes 9 to 14 is due for a taken trace
taken-meaningful : (t : Trace) → Taken t → meaningless t ≡ none
unfolding opening_store opening
taken-meaningful t h = (legal-run 1 (opening t.keys) t.events (sound-opening t.keys) h.fits).1 h.legal

module _ (t : Trace) (w : WellFormed t) (h : Taken t) (ser : Each (Passes SER) (opening t.keys) t.events) where
  -- the run of its records, beside the run of the trace
  run : Replays (opening t.keys) (opening t.keys) t.events
  unfolding opening_store opening
  run =
      replays (opening t.keys) (opening t.keys) t.events refl (sound-opening t.keys) (sound-opening t.keys)
      (omega (arith, w.few-commits)) h.legal ser

  -- its records are in form, and each is legal in its turn
  pub replay-legal : Taken (replay_trace t)
  unfolding replay_trace opening_store opening
  replay-legal = record { fits = run.fits; legal = run.legal }

  -- it is well-formed
  pub replay-well-formed : WellFormed (replay_trace t)
  unfolding replay_trace
  replay-well-formed =
      let fitting = replay-fitting t.keys t.clients (opening t.keys) t.events w.fitting replay-legal.fits in
      let few = w.few-commits in
      let commits = replay-commits (opening t.keys) t.events in
      let records = replay-records (opening t.keys) t.events in
      record {
        some_key = w.some_key;
        few-keys = w.few-keys;
        some-client = w.some-client;
        few-clients = w.few-clients;
        few-records = omega arith;
        few-commits = omega arith;
        fitting = fitting;
      }

  -- and its file is not too long
  replay-short : length (replay t) ≤ max_bytes
  replay-short = let most = replay-longest t w in omega arith

  -- so its file reads back as it
  pub replay-decoded : decode (replay t) ≡ taken (replay_trace t)
  unfolding replay
  replay-decoded = decode-encode (replay_trace t) replay-well-formed replay-short

  -- and is taken
  pub replay-taken : accept (replay t) ≡ taken (replay_trace t)
  unfolding accept on_taken unless
  replay-taken =
      ap (λ (x : Result Trace). on_taken x (λ r. unless (meaningless r) r)) replay-decoded
      ∙ ap (λ (x : Option Refusal). unless x (replay_trace t)) (taken-meaningful (replay_trace t) replay-legal)

  -- it ends in the same store, hence in the same image, and every level accepts it
  pub replay-outcome : SameOutcome t (replay t)
  unfolding replay_trace
  replay-outcome = record {
    taken_as = replay-taken;
    same_store = sym run.same_store;
    same-image = ap image (sym run.same_store);
    all-accept = λ l. (accepts-each (replay_trace t) replay-legal l).1 (run.passes l);
  }

-- "the same commits in the same order, each made from a full view and left with one, are taken too, give the same store and the
-- same image byte for byte, and pass all ten"
pub ser-replay : (t : Trace) → WellFormed t → Taken t → Accepts SER t → SameOutcome t (replay t)
ser-replay t w h a = replay-outcome t w h ((accepts-each t h SER).0 a)
