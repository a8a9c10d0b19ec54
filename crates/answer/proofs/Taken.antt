-- What is known of a taken trace, whatever its bytes were: its records are in form and each is legal in its turn. Assumes nothing.
use Rattle.store.specs.Store.{opening}
use Rattle.store.specs.Update.{final}
use Rattle.store.specs.Sound.{Sound}
use Rattle.store.proofs.Sound.{sound-opening}
use Rattle.store.proofs.Run.{FitsAll, LegalRun, sound-run}
use Rattle.trace.specs.Format.{Trace}

pub record Taken (t : Trace) : Type 0 where
  pub fits : FitsAll t.keys t.events
  pub legal : LegalRun (opening t.keys) t.events

-- the store that it ends in, and every client's view of it, are sound
pub sound-final : (t : Trace) → Taken t → Sound (final (opening t.keys) t.events)
sound-final t h = sound-run (sound-opening t.keys) h.legal
