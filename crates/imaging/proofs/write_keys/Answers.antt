-- `imaging::write_keys` meets its contract. The loop's invariant: the keys passed stand from `start` on, and the next one's offset is their end. Assumes nothing.
use Prim.Native.Nat.{◌+◌, ◌*◌, ◌≤◌, ◌<◌}
use mathlib.Core.Path.{◌≡◌, sym, ap, ◌∙◌}
use native.Mathlib.Omega.{arith}
use native.Mathlib.Numerals.{add-one}
use lib.ListN.{length, get_or, take}
use lib.Seq.{length-take-le}
use Rattle.std.proofs.lemmas.List.{get_or-take}
use Rattle.sets.specs.Set.{size}
use Rattle.endian.specs.Endian.{pieces}
use Rattle.endian.proofs.Put.{put-none, put-lent}
use Rattle.store.specs.Store.{count}
use Rattle.store.specs.Image.{key_bytes}
use Rattle.store.proofs.ImageSizes.{length-key}
use Rattle.imaging.specs.Parts.{keys_size}
use Rattle.sets.proofs.Counting.{full-count}
use Rattle.imaging.proofs.Sizes.{keys_size-suc, key-within, length-keys}
use Rattle.imaging.proofs.write_keys.Goals as goal
use Rattle.imaging.proofs.write_keys.Goals.{In-loop-k}

pub loop-k-init : goal.loop-k-init
unfolding keys_size pieces
loop-k-init c = (omega arith, λ s kv kk sound few e. put-none c.args.buffer.now c.args.start)

-- the next key is one of them
among : (c : goal.In-loop-k) → c.loop-k.k < c.args.n
among c = omega (arith, length-take-le c.args.n c.args.keys.now (omega arith))

-- its full mask is gone over
full : (c : goal.In-loop-k) → let a = c.args in size (get_or (take a.n a.keys.now) c.loop-k.k 0) ≡ size (get_or a.keys.now c.loop-k.k 0)
full c = let a = c.args in ap size (get_or-take a.n a.keys.now c.loop-k.k 0 (among c))

-- it has its bytes within the buffer
within : (c : goal.In-loop-k) → c.loop-k.at + (4 + 16 * size (get_or c.args.keys.now c.loop-k.k 0)) ≤ length c.loop-k.buffer
within c = let a = c.args in omega (arith, key-within a.keys.now c.loop-k.k a.n (among c))

pub slice_bounds-write_key-count : goal.slice_bounds-write_key-count
slice_bounds-write_key-count c = omega (arith, within c)

pub slice_bounds-write_key-start : goal.slice_bounds-write_key-start
slice_bounds-write_key-start c = omega (arith, within c)

pub write_key-took-requires : goal.write_key-took-requires
write_key-took-requires c = let l = (goal.at.write_key-took-requires c).In-loop-k in omega (arith, among l, full l, within l)

pub overflow_add-at : goal.overflow_add-at
overflow_add-at c = let l = (goal.at.overflow_add-at c).In-loop-k in omega (arith, full l, within l)

pub loop-k-preserved : goal.loop-k-preserved
loop-k-preserved c =
    let a = c.args in
    let keys = a.keys.now in
    let k = c.loop-k.k in
    let l = (goal.at.loop-k-preserved c).In-loop-k in
    let one = among l in
    let mask = c.size.ensures.0 ∙ full l in
    let room = within l in (
      omega (arith, ap (keys_size keys) (add-one k), keys_size-suc keys k),
      λ s kv kk sound few e.
          let here : k < s.keys = omega arith in
          let all : size (get_or keys k 0) ≡ count s k = full-count (get_or keys k 0) (count s k) (kk.full k here) in
          let long = length-key s k in
          put-lent a.buffer.now a.start k (keys_size keys k) c.loop-k.at (key_bytes s) (c.loop-k.invariant.1 s kv kk sound few e)
          (length-keys s keys kk k (omega arith)) c.loop-k.invariant.0 (omega arith) (omega arith)
          (c.write_key-took.ensures.part_after s kv sound few (sym (mask ∙ all))),
    )
