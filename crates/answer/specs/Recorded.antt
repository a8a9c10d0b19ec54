-- What holds of the store that a taken trace ends in, and of its image (02, E8). Assumes nothing.
use Rattle.std.specs.Prelude.{ℕ, ◌≡◌, List}
use Rattle.store.specs.Image.{image}
use Rattle.store.specs.StoredView.{StoredViews}
use Rattle.store.specs.Reading.{store_of, FitsImage}
use Rattle.trace.specs.Result.{taken}
use Rattle.trace.specs.Format.{Trace}
use Rattle.answer.specs.Answer.{final_store, accept}

pub record Recorded (t : Trace) : Type 0 where
  -- "each is a view of the store as it was before that commit"
  pub views : StoredViews (final_store t)
  -- the image has room for the whole store, and read back it says all of it: keys, versions, clients, session numbers, views
  pub fits : FitsImage (final_store t)
  pub says : store_of (image (final_store t)) ≡ final_store t

-- of the bytes of any file
abbrev pub ImageSays : List ℕ → Type 0
ImageSays bytes = (t : Trace) → accept bytes ≡ taken t → Recorded t
