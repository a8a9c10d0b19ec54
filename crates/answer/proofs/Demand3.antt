-- Demand 3, whole: of the bytes of every trace that is taken. Assumes nothing.
use Prim.Native.Nat.{ℕ}
use mathlib.Core.Path.{◌≡◌, refl, ◌∙◌, subst}
use mathlib.Core.Option.{Option, some, none}
use mathlib.Core.List.{List}
use Rattle.endian.specs.Endian.{Bytes}
use Rattle.store.specs.Store.{opening_store, opening}
use Rattle.store.specs.Refusal.{Refusal}
use Rattle.store.proofs.Sound.{sound-opening}
use Rattle.store.proofs.Run.{legal-run}
use Rattle.trace.specs.Result.{Result, refused, taken, on_taken}
use Rattle.trace.specs.Format.{Trace, decode}
use Rattle.trace.proofs.Result.{refused-taken}
use Rattle.trace.proofs.WellFormed.{WellFormed}
use Rattle.trace.proofs.Decoded.{decoded-well-formed}
use Rattle.trace.proofs.Fits.{well-formed-fits}
use Rattle.answer.specs.Answer.{meaningless, unless, accept}
use Rattle.answer.specs.Demand3.{Demand3}
use Rattle.answer.proofs.Taken.{Taken}
use Rattle.answer.proofs.Orders.{si-psi, si-cp, psi-cc, cp-cc, cc-mr, cc-mw, cc-ryw, cc-wfr, earliest-si}
use Rattle.answer.proofs.Rings.{si-rings, ser-rings}
use Rattle.answer.proofs.ReplayTaken.{ser-replay}
use Rattle.answer.proofs.SerialRun.{ser-serial}

-- a trace that is taken has been read from its bytes, and none of codes 9 to 14 is due
pub accepted-trace : (bytes : List ℕ) (t : Trace) → accept bytes ≡ taken t → (decode bytes ≡ taken t) × (meaningless t ≡ none)
unfolding accept on_taken unless
accepted-trace bytes t e = read (decode bytes) refl e
  where
    meant : (r : Trace) (o : Option Refusal) → meaningless r ≡ o → decode bytes ≡ taken r → unless o r ≡ taken t → (decode bytes ≡ taken t) × (meaningless t ≡ none)
    meant r (some x) m d q = refused-taken q
    meant r none m d q =
        let same : r ≡ t = cc in
        (d ∙ q, subst (λ (x : Trace). meaningless x ≡ none) same m)

    read : (x : Result Trace) → decode bytes ≡ x → on_taken x (λ r. unless (meaningless r) r) ≡ taken t → (decode bytes ≡ taken t) × (meaningless t ≡ none)
    read (refused r) d q = refused-taken q
    read (taken r) d q = meant r (meaningless r) refl d q

-- such a trace is well-formed, and each of its records is legal
pub taken-run : (t : Trace) → WellFormed t → meaningless t ≡ none → Taken t
unfolding opening opening_store
taken-run t w m =
    let f = well-formed-fits t w in
    record { fits = f; legal = (legal-run 1 (opening t.keys) t.events (sound-opening t.keys) f).0 m }

pub demand3 : (bytes : List ℕ) → Bytes bytes → Demand3 bytes
demand3 bytes b t e =
    let read = accepted-trace bytes t e in
    let w = decoded-well-formed bytes b t read.0 in
    let h = taken-run t w read.1 in
    record {
      si-psi = si-psi t h;
      si-cp = si-cp t h;
      psi-cc = psi-cc t h;
      cp-cc = cp-cc t h;
      cc-mr = cc-mr t h;
      cc-mw = cc-mw t h;
      cc-ryw = cc-ryw t h;
      cc-wfr = cc-wfr t h;
      earliest-si = earliest-si t h;
      si-rings = si-rings t h;
      ser-rings = ser-rings t h;
      ser-replay = ser-replay t w h;
      ser-serial = ser-serial t w h;
    }
