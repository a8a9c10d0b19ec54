-- A commit read from its record: its operations and its client's view in the arrays. Assumes nothing.
use Prim.Native.Nat.{ℕ, ◌*◌, ◌<◌}
use mathlib.Core.Path.{◌≡◌, ap, ◌∙◌}
use mathlib.Core.List.{List}
use native.Mathlib.Omega.{arith}
use native.Mathlib.Nat.{add-zero}
use lib.ListN.{length, get_or}
use Rattle.search.specs.Choose.{when}
use Rattle.sets.specs.Set.{Set, has}
use Rattle.store.specs.Limits.{max_keys, max_clients}
use Rattle.store.specs.Store.{Configuration, read, write, Operation, Commit}
use Rattle.store.specs.Update.{value_of, view_before}
use Rattle.trace.specs.Format.{operations_at}
use Rattle.trace.specs.Sorted.{SortedAs, ValuesFit}
use Rattle.state.specs.Keeps.{RowIs, KeepsOperations}
use Rattle.commits.specs.Records.{Recorded}

-- its operations, sorted
pub operations-read : (file : List ℕ) (start m : ℕ) (ranks : Set) (values : List ℕ) (c : Commit) → SortedAs file start m ranks values → c.operations ≡ operations_at file start m
    → length values ≡ 2 * max_keys → ValuesFit values → KeepsOperations c ranks values
operations-read file start m ranks values c sorted same long small = record {
  room = long;
  reads = λ k. ap (λ (o : List Operation). value_of read o k) same ∙ sorted read k ∙ ap (λ (x : ℕ). when (has ranks x) (get_or values x 0)) (add-zero (2 * k));
  writes = λ k. ap (λ (o : List Operation). value_of write o k) same ∙ sorted write k;
  value-fits = small;
}

-- the client's view, as the array has it
pub row_kept : (g : Configuration) (c : Commit) (clients n : ℕ) (versions keys views seen sessions commits links : List ℕ) → Recorded g c clients n versions keys views seen sessions commits links
    → RowIs n views c.client (view_before g c)
row_kept g c clients n versions keys views seen sessions commits links r k l =
    let b : c.client < max_clients = let x = r.fits.client-below in let y = r.few-clients in omega arith in
    r.keeps.in-views.rows c.client b k (let e = r.keys-are in omega arith)
