-- `imaging::write_key` meets its contract. The loop's invariant: the versions passed stand behind the key's first 4 bytes. Assumes nothing.
use Prim.Native.Nat.{ℕ, ◌+◌, ◌*◌}
use mathlib.Core.Path.{◌≡◌, refl, sym, ap, ◌∙◌}
use mathlib.Core.List.{List, ◌++◌}
use native.Mathlib.Omega.{arith}
use lib.ListN.{get_or}
use Rattle.endian.specs.Endian.{le_bytes, put_at, pieces}
use Rattle.endian.proofs.Laws.{length-le_bytes}
use Rattle.endian.proofs.Put.{put-none, put_next, put-piece}
use Rattle.store.specs.Store.{version}
use Rattle.store.specs.Image.{version_bytes, key_bytes}
use Rattle.state.specs.Places.{head_place, readers_place}
use Rattle.imaging.proofs.Words.{version-kept}
use Rattle.store.proofs.ImageSizes.{length-versions}
use Rattle.imaging.proofs.write_key.Goals as goal

pub loop-i-init : goal.loop-i-init
unfolding pieces
loop-i-init c = λ s kept sound few e. put-none _ 4

pub loop-i-preserved : goal.loop-i-preserved
loop-i-preserved c =
    let a = c.args in
    let p = c.put_u32.new.d in
    let vs = a.versions.now in
    let i = c.loop-i.i in
    let head = le_bytes 8 (get_or vs (head_place a.k.0 i) 0) in
    let readers = le_bytes 8 (get_or vs (readers_place a.k.0 i) 0) in
    let to = 4 + 16 * i in
    let both =
    put_next c.loop-i.part to 8 (to + 8) head readers c.put_u64.ensures (length-le_bytes 8 _) refl (omega arith)
    c.put_u64-in-loop-i.ensures in
    λ s kept sound few e.
    put-piece p 4 i (16 * i) (λ j. version_bytes (version s a.k.0 j)) (c.loop-i.invariant s kept sound few e) (length-versions s a.k.0 i) (omega arith)
    both (version-kept s vs a.k.0 i kept sound few (omega (arith, c.loop-i-test.true)))

pub returns-clause-part_after : goal.returns-clause-part_after
unfolding key_bytes
returns-clause-part_after c =
    let a = c.args in
    let d = a.part.now in
    let p = c.put_u32.new.d in
    let all : c.loop-i.i ≡ a.n = omega arith in
    λ s kept sound few e.
    let f : ℕ → List ℕ = λ j. version_bytes (version s a.k.0 j) in
    put_next d 0 4 4 (le_bytes 4 a.n) (pieces a.n f) c.put_u32.ensures (length-le_bytes 4 a.n) refl (omega arith)
    (c.loop-i.invariant s kept sound few e ∙ ap (λ j. put_at p 4 (pieces j f)) all)
    ∙ ap (λ m. put_at d 0 (le_bytes 4 m ++ pieces m f)) (sym e)
