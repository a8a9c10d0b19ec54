-- From what records say to what they mean: an event that is written in full means itself, there are as many events as records, and the
-- events of records that fit do. Assumes nothing.
use Prim.Native.Nat.{ℕ, suc, ◌+◌}
use mathlib.Core.Path.{◌≡◌, refl, ap, ap₂, subst}
use mathlib.Core.List.{List, [], ◌∷◌, map}
use native.Mathlib.Omega.{arith}
use lib.Dec.{eqb}
use lib.ListN.{length}
use Rattle.search.proofs.Choose.{choose-ind}
use Rattle.store.specs.Store.{Configuration, opening, opening_store, Event, shift, commit}
use Rattle.store.specs.Update.{step}
use Rattle.store.specs.View.{FitsView}
use Rattle.store.specs.Sound.{Sound}
use Rattle.store.proofs.Sound.{sound-opening}
use Rattle.store.proofs.Run.{commits_in}
use Rattle.trace.specs.Entry.{Entry, shifting, committing, every, listed_or, over, event, events_of}
use Rattle.trace.specs.Format.{commits_with}
use Rattle.trace.specs.WellFormed.{FitsEvent, ViewsFit}

-- ---- records that list every key

-- what the record of kind 2 or 3 says that is written for an event
abbrev pub in_full : Event → Entry
in_full (shift d u) = shifting d (every u)
in_full (commit c) = committing c.client c.session c.operations (every c.view_after)

-- wherever it stands, it means that event
pub event-in_full : (g : Configuration) (e : Event) → event g (in_full e) ≡ e
unfolding event over listed_or
event-in_full g (shift d u) = refl
event-in_full g (commit c) = refl

pub events_of-in_full : (g : Configuration) (es : List Event) → events_of g (map in_full es) ≡ es
unfolding events_of
events_of-in_full g [] = refl
events_of-in_full g (e ∷ es) = ap₂ ◌∷◌ (event-in_full g e) (events_of-in_full (step g (event g (in_full e))) es)

-- ---- numbers of records and of commits

pub length-events_of : (g : Configuration) (rs : List Entry) → length (events_of g rs) ≡ length rs
unfolding events_of
length-events_of g [] = refl
length-events_of g (r ∷ rs) = ap suc (length-events_of (step g (event g r)) rs)

-- the commits up to and with a record, and those after it
pub commits_with-commits_in : (g : Configuration) (r : Entry) (es : List Event) (commits : ℕ) → commits_with r commits + commits_in es ≡ commits + commits_in (event g r ∷ es)
unfolding commits_in event
commits_with-commits_in g (shifting d l) es commits = refl
commits_with-commits_in g (committing d n os l) es commits = omega arith

-- ---- what fits

-- the views of a sound configuration fit
pub sound-fits : {g : Configuration} {keys : ℕ} → Sound g → g.store.keys ≡ keys → ViewsFit keys g
sound-fits {g} sound keys-are d =
    let view = sound.views d in
    subst (λ (keys : ℕ). FitsView keys (g.views d)) keys-are (record { word = view.word; beyond = view.beyond })

-- and so those at the opening
pub opening-fits : (keys : ℕ) → ViewsFit keys (opening keys)
unfolding opening opening_store
opening-fits keys = sound-fits (sound-opening keys) refl

-- and after an event that fits
pub step_fits : (keys clients : ℕ) (g : Configuration) (e : Event) → ViewsFit keys g → FitsEvent keys clients e → ViewsFit keys (step g e)
unfolding step
step_fits keys clients g (shift d u) v f x = choose-ind (FitsView keys) (eqb x d) u (g.views x) (λ t. f.view-fits) (λ t. v x)
step_fits keys clients g (commit c) v f x = choose-ind (FitsView keys) (eqb x c.client) c.view_after (g.views x) (λ t. f.view-fits) (λ t. v x)
