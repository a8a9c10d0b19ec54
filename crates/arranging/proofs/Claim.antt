-- What holds of every image. Assumes nothing.
use Prim.Native.Nat.{ℕ, ◌<◌}
use mathlib.Core.Path.{◌≡◌, refl, sym, ap, ◌∙◌, subst}
use mathlib.Core.List.{List, [], ◌∷◌}
use native.Mathlib.Omega.{arith}
use lib.Dec.{T}
use Rattle.search.proofs.Tests.{T?, T_true, T_false}
use Rattle.store.specs.Store.{CommitNumber, Configuration, opening_store, opening, Event, shift, commit}
use Rattle.store.specs.Update.{update, step, final}
use Rattle.store.specs.Refusal.{refuse}
use Rattle.store.specs.Image.{image}
use Rattle.store.specs.Reading.{store_of}
use Rattle.trace.specs.Result.{Result, refused, taken}
use Rattle.trace.specs.Format.{Trace}
use Rattle.trace.proofs.WellFormed.{WellFormed as WellFormedTrace}
use Rattle.trace.proofs.Decoded.{decoded-well-formed}
use Rattle.levels.specs.Level.{SER}
use Rattle.answer.specs.Answer.{final_store}
use Rattle.answer.specs.Demand3.{Accepts}
use Rattle.answer.proofs.Taken.{Taken}
use Rattle.answer.proofs.Demand3.{accepted-trace, taken-run}
use Rattle.answer.proofs.Recorded.{image-says}
use Rattle.ordering.specs.Judge.{Shown, order, judge_bare}
use Rattle.ordering.specs.Claim.{Holds}
use Rattle.ordering.proofs.Judge.{judge-bare, order-exactly}
use Rattle.ordering.proofs.Taken.{taken-well-formed}
use Rattle.ordering.proofs.Accepted.{accepted-image}
use Rattle.reading.specs.Shape.{well_shaped}
use Rattle.reading.proofs.Shaped.{shaped-store}
use Rattle.arranging.specs.Answer.{shown_for}
use Rattle.arranging.specs.Claim.{ImageOf, ImageClaim}
use Rattle.arranging.proofs.Answered.{misshapen, shaped-for}
use Rattle.arranging.proofs.Written.{image-shaped}

-- a trace keeps its keys
final-keys : (g : Configuration) (es : List Event) → (final g es).store.keys ≡ g.store.keys
unfolding final step update
final-keys g [] = refl
final-keys g (shift d u ∷ es) = final-keys (step g (shift d u)) es
final-keys g (commit c ∷ es) = final-keys (step g (commit c)) es

-- ---- the image that is written for a trace

module _ (t : Trace) (bytes : List ℕ) (of : ImageOf t bytes) where
  formed : WellFormedTrace t
  formed = decoded-well-formed of.0 of.1 t (accepted-trace of.0 t of.2).0

  legal : Taken t
  legal = taken-run t formed (accepted-trace of.0 t of.2).1

  written : shown_for bytes ≡ taken (judge_bare (final_store t))
  unfolding opening opening_store
  written =
      let says = image-says of.0 of.1 t of.2 in
      let some_key : 0 < (final_store t).keys = omega (arith, final-keys (opening t.keys) t.events, formed.some_key) in
      let shaped = image-shaped (final_store t) says.fits (taken-well-formed t formed legal) some_key in
      ap shown_for of.3 ∙ shaped-for (image (final_store t)) (T_true (well_shaped (image (final_store t))) shaped)
      ∙ ap (λ s. taken (judge_bare s)) says.says

  shown-accepted : Accepts SER t → (xs : List CommitNumber) × (shown_for bytes ≡ taken (order xs))
  shown-accepted accepts =
      let x = accepted-image t formed legal accepts in
      (x.0, written ∙ ap taken x.1)

-- ---- every image

pub image-claim : (bytes : List ℕ) → ImageClaim bytes
image-claim b = record {
  shown = λ s e. go s e (T? (well_shaped b));
  either = λ t. order-exactly (store_of b) (shaped-store b t);
  of-trace = λ t of. (judge_bare (final_store t), written t b of);
  of-accepted = λ t of. shown-accepted t b of;
}
  where
    same-shown : {s s' : Shown} → ◌≡◌ {A = Result Shown} (taken s) (taken s') → s ≡ s'
    same-shown q = cc

    no-taken : {s : Shown} {X : Type 0} → ◌≡◌ {A = Result Shown} (refused (refuse 20 0)) (taken s) → X
    no-taken q = let z : ◌≡◌ {A = ℕ} 0 1 = cc in absurd (omega arith)

    go : (s : Shown) → shown_for b ≡ taken s → Dec (T (well_shaped b)) → Holds (store_of b) s
    go s e (yes t) = subst (Holds (store_of b)) (same-shown (sym (shaped-for b (T_true (well_shaped b) t)) ∙ e)) (judge-bare (store_of b) (shaped-store b t))
    go s e (no n) = no-taken (sym (misshapen b (T_false (well_shaped b) n)) ∙ e)
