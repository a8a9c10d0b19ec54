-- `writing::put_short_commit` meets its contract: the first six bytes, the session number, the operations and the masks of their keys, put one
-- behind the other, are a record of kind 5. Assumes nothing.
use Prim.Native.Nat.{ℕ, ◌*◌, ◌≤◌, ◌<◌}
use mathlib.Core.Path.{◌≡◌, subst}
use native.Mathlib.Omega.{arith}
use mathlib.Core.List.{List}
use lib.Dec.{T}
use Rattle.search.proofs.Tests.{true-T}
use Rattle.sets.specs.Set.{has, size}
use Rattle.store.specs.Store.{Operation}
use Rattle.trace.specs.Listed.{keys_in}
use Rattle.trace.specs.Format.{operations_at}
use Rattle.trace.specs.WellFormed.{Rise}
use Rattle.trace.proofs.Decoded.{operations-read, length-operations_at}
use Rattle.trace.proofs.Listed.{touched-key}
use Rattle.trace.proofs.Touched.{touched-size}
use Rattle.writing.proofs.Operations.{operations-few}
use Rattle.writing.proofs.Records.{put-short-commit}
use Rattle.writing.proofs.put_short_commit.Goals as goal
use Rattle.writing.proofs.put_short_commit.Goals.{After-touched_keys-listed}

abbrev os : (c : goal.After-touched_keys-listed) → List Operation
os c = let a = c.args in operations_at a.file.now a.operations a.count

rises : (c : goal.After-touched_keys-listed) → Rise c.args.n 0 (os c)
rises c =
    let a = c.args in
    operations-read a.file.now (λ i. (c.type_inv.file i).fits) a.count a.operations a.n 0 (true-T _ c.requires.count_in_bounds.1)

-- the operations are few
few : (c : goal.After-touched_keys-listed) → c.args.count ≤ 2 * c.args.n
few c =
    omega (arith, operations-few c.args.file.now c.args.operations c.args.n 0 c.args.count (omega arith) c.requires.count_in_bounds.1)

-- their keys are of the store, and as many as differ from the one before
below : (c : goal.After-touched_keys-listed) → (k : ℕ) → T (has c.touched_keys-listed.result k) → k < c.args.n
below c k t = (touched-key c.args.n 0 (os c) k (rises c) (subst T (c.touched_keys-listed.ensures k) t)).0

many : (c : goal.After-touched_keys-listed) → size c.touched_keys-listed.result ≡ keys_in (os c)
many c = touched-size c.args.n (os c) c.touched_keys-listed.result c.requires.n_le_max_keys.0 (omega (arith, c.touched_keys-listed.type_inv)) (rises c) c.touched_keys-listed.ensures

pub put_start-requires : goal.put_start-requires
put_start-requires c = omega (arith, few (goal.at.put_start-requires c).After-touched_keys-listed, many (goal.at.put_start-requires c).After-touched_keys-listed, c.size.ensures.0)

pub put_listed-requires : goal.put_listed-requires
put_listed-requires c = (omega (arith, many (goal.at.put_listed-requires c).After-touched_keys-listed, c.size.ensures.0), (_, below (goal.at.put_listed-requires c).After-touched_keys-listed, c.requires.n_le_max_keys.2))

pub returns : goal.returns
returns c =
    let a = c.args in
    let copied = os (goal.at.returns c).After-touched_keys-listed in
    let all = c.size.ensures.0 in
    let own = many (goal.at.returns c).After-touched_keys-listed in record {
      value = omega arith;
      buffer_after = λ u row.
          put-short-commit a.buffer.now a.at a.n a.count (record { client = a.client; session = a.session; operations = copied; view_after = u }) c.touched_keys-listed.result
          (length-operations_at a.file.now a.operations a.count) c.touched_keys-listed.ensures c.requires.count_in_bounds.2 (omega arith)
          c.put_start.ensures c.put_u32.ensures c.copy_operations.ensures (c.put_listed.ensures a.n u (below (goal.at.returns c).After-touched_keys-listed) row);
    }
