-- What holds of every image, whatever its bytes (02, E9). Assumes nothing.
use Rattle.std.specs.Prelude.{ℕ, ◌≡◌, ◌↔◌, List, T}
use Rattle.endian.specs.Endian.{Bytes}
use Rattle.store.specs.Store.{CommitNumber}
use Rattle.store.specs.Image.{image}
use Rattle.trace.specs.Result.{taken}
use Rattle.trace.specs.Format.{Trace}
use Rattle.levels.specs.Level.{SER}
use Rattle.answer.specs.Answer.{final_store, accept}
use Rattle.answer.specs.Demand3.{Accepts}
use Rattle.ordering.specs.Judge.{Shown, order}
use Rattle.ordering.specs.Claim.{HasOrder, HasRing, Holds}
use Rattle.store.specs.Reading.{store_of}
use Rattle.reading.specs.Shape.{well_shaped}
use Rattle.arranging.specs.Answer.{shown_for}

-- the bytes are the image that is written for a file that is taken as the trace t
abbrev pub ImageOf : Trace → List ℕ → Type 0
ImageOf t bytes = (file : List ℕ) × Bytes file × (accept file ≡ taken t) × (bytes ≡ image (final_store t))

pub record ImageClaim (bytes : List ℕ) : Type 0 where
  -- what is shown is an order that gives what the image says, the lowest-numbered ready commit first each time; or a ring that names no commit twice, and
  -- then there is no such order
  pub shown : (s : Shown) → shown_for bytes ≡ taken s → Holds (store_of bytes) s
  -- there is an order exactly where there is no ring
  pub either : T (well_shaped bytes) → HasOrder (store_of bytes) ↔ (¬ HasRing (store_of bytes))
  -- an image that was written for a trace is not misshapen
  pub of-trace : (t : Trace) → ImageOf t bytes → (s : Shown) × (shown_for bytes ≡ taken s)
  -- "Images from a trace that SER accepts must get 0."
  pub of-accepted : (t : Trace) → ImageOf t bytes → Accepts SER t → (xs : List CommitNumber) × (shown_for bytes ≡ taken (order xs))
