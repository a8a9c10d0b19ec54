-- The store of a taken trace, and its image: what holds of the stored views, and that the image says the whole store. Assumes nothing.
use Prim.Native.Nat.{ℕ, ◌^◌, ◌≤◌, ◌<◌}
use mathlib.Core.Path.{◌≡◌}
use mathlib.Core.Option.{some}
use mathlib.Core.List.{List, [], ◌∷◌}
use native.Mathlib.Omega.{arith}
use Rattle.endian.specs.Endian.{Bytes}
use Rattle.store.specs.Limits.{max_clients, max_commits}
use Rattle.store.specs.Store.{Configuration, opening_store, opening, write, Commit, Event, shift, commit}
use Rattle.store.specs.Update.{value_of, view_before, update, step}
use Rattle.store.specs.Sound.{Sound, WithinKeys}
use Rattle.store.specs.Legal.{LegalCommit}
use Rattle.store.specs.Reading.{FitsImage}
use Rattle.store.proofs.Sound.{sound-opening}
use Rattle.store.proofs.Run.{sound-commits, Each, run-keeps, final-commits}
use Rattle.store.proofs.StoredView.{stored-views}
use Rattle.store.proofs.FitsImage.{fits-opening, fits-update}
use Rattle.store.proofs.Reading.{store_of-image}
use Rattle.trace.specs.Format.{Trace}
use Rattle.trace.proofs.WellFormed.{FitsEvents, WellFormed}
use Rattle.trace.proofs.Decoded.{decoded-well-formed}
use Rattle.trace.proofs.Fits.{value_of-fits}
use Rattle.answer.specs.Answer.{final_store}
use Rattle.answer.specs.Recorded.{ImageSays}
use Rattle.answer.proofs.Taken.{Taken}
use Rattle.answer.proofs.Demand3.{accepted-trace, taken-run}

-- ---- an image has room for the store

-- what the form of a commit ensures of the numbers that the store takes from it
record Fitting (c : Commit) : Type 0 where
  client : c.client < max_clients
  session : c.session < 2 ^ 32
  values : (k x : ℕ) → value_of write c.operations k ≡ some x → x < 2 ^ 32

each-fitting : (keys clients : ℕ) (g : Configuration) (es : List Event) → clients ≤ max_clients → FitsEvents keys clients es → Each (λ g c. Fitting c) g es
each-fitting keys clients g [] few f = tt
each-fitting keys clients g (shift d u ∷ es) few f = each-fitting keys clients (step g (shift d u)) es few f.1
each-fitting keys clients g (commit c ∷ es) few f = (
  record {
    client = omega (arith, f.0.client-below);
    session = f.0.session-fits;
    values = λ k x e. value_of-fits write keys 0 c.operations k x f.0.rising e;
  },
  each-fitting keys clients (step g (commit c)) es few f.1,
)

-- as long as there are no more commits than the limit
abbrev FitsWhileFew : Configuration → Type 0
FitsWhileFew g = g.store.commits ≤ max_commits → FitsImage g.store

fits-commit : (g : Configuration) (c : Commit) → Sound g → WithinKeys g.store.keys c → LegalCommit g c → Fitting c → FitsWhileFew g → FitsWhileFew (step g (commit c))
unfolding step update
fits-commit g c sound within legal fitting before few =
    let view = sound.views c.client in
    fits-update g.store (view_before g c) c (before (omega arith)) (sound-commits sound within legal).store few
    (record { word = view.word; beyond = view.beyond }) fitting.client fitting.session fitting.values

fits-final : (t : Trace) → WellFormed t → Taken t → FitsImage (final_store t)
unfolding step opening opening_store
fits-final t w h =
    run-keeps (λ g c. Fitting c) FitsWhileFew (λ g d u _ _ i. i) (λ g c s f l p i. fits-commit g c s f l p i)
    (sound-opening t.keys) h.legal (each-fitting t.keys t.clients (opening t.keys) t.events w.few-clients w.fitting)
    (λ few. fits-opening t.keys w.few-keys)
    (let e = final-commits (opening t.keys) t.events in let few = w.few-commits in omega arith)

-- ---- of the bytes of any file

pub image-says : (bytes : List ℕ) → Bytes bytes → ImageSays bytes
image-says bytes b t e =
    let read = accepted-trace bytes t e in
    let w = decoded-well-formed bytes b t read.0 in
    let h = taken-run t w read.1 in
    let fits = fits-final t w h in
    record { views = stored-views t.keys h.legal; fits = fits; says = store_of-image (final_store t) fits }
