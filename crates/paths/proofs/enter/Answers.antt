-- `paths::enter` meets its contract. Assumes nothing.
use Prim.Native.Nat.{ℕ, ◌+◌, ◌*◌}
use native.Mathlib.Omega.{arith}
use Rattle.growth.specs.Links.{FromSession, FromRead, FromWrite, ToLater}
use Rattle.state.specs.Keeps.{IsSet, KeepsOperations}
use Rattle.paths.proofs.Noted.{part_at}
use Rattle.paths.proofs.enter.Goals as goal

pub returns : goal.returns
returns c =
    let called = c.add in
    let links = c.args.links.now in
    let t = c.args.t.0 in
    let at : ℕ = 192 + 5 * t in record {
      kept = λ s u e h number keys kept.
          called.ensures.kept s u e h.values h.made number keys
          (part_at (λ (w : ℕ). KeepsOperations e w h.values) links 4 t (at + 4) _ number (omega arith) h.operations)
          (part_at (λ (w : ℕ). IsSet w (FromSession s e)) links 0 t at _ number (omega arith) h.from-session)
          (part_at (λ (w : ℕ). IsSet w (FromRead s u e)) links 1 t (at + 1) _ number (omega arith) h.from-reads)
          (part_at (λ (w : ℕ). IsSet w (FromWrite s e)) links 2 t (at + 2) _ number (omega arith) h.from-writes)
          (part_at (λ (w : ℕ). IsSet w (ToLater s u e)) links 3 t (at + 3) _ number (omega arith) h.to-later)
          kept;
      notes = called.ensures.notes;
    }
