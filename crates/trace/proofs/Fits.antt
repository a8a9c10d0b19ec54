-- The form of a trace ensures what a store asks of its records before it looks at their meaning. Assumes nothing.
use Prim.Native.Nat.{ℕ, suc, ◌^◌, ◌<◌}
use mathlib.Core.Path.{◌≡◌, sym, subst}
use mathlib.Core.Bool.{◌&&◌}
use mathlib.Core.Option.{Option, some}
use mathlib.Core.List.{List, [], ◌∷◌}
use lib.Dec.{T, eqb, eqb→eq}
use Rattle.search.specs.Choose.{is_some}
use Rattle.search.proofs.Choose.{choose-ind}
use Rattle.search.proofs.Tests.{and_right, some-none}
use Rattle.store.specs.Store.{Key, Value, Access, read, write, Operation, Commit, Event, shift, commit}
use Rattle.store.specs.Update.{same_access, value_of}
use Rattle.store.specs.Sound as Store
use Rattle.store.proofs.Run.{FitsAll}
use Rattle.trace.specs.Format.{Trace}
use Rattle.trace.specs.WellFormed.{rank, Rise, FitsCommit}
use Rattle.trace.proofs.WellFormed.{FitsEvents, WellFormed}

-- a key at which the operations have a value is a key of the store
value_of-key : (a : Access) (keys low : ℕ) (os : List Operation) (k : Key) → Rise keys low os → T (is_some (value_of a os k)) → k < keys
unfolding value_of is_some
value_of-key a keys low [] k rise t = absurd t
value_of-key a keys low (o ∷ os) k rise t =
    choose-ind (λ (x : Option Value). T (is_some x) → k < keys) (same_access a o.access && eqb o.key k) (some o.value) (value_of a os k)
    (λ here s. subst (λ (j : Key). j < keys) (eqb→eq o.key k (and_right (same_access a o.access) (eqb o.key k) here)) rise.0.of-the-store)
    (λ elsewhere. value_of-key a keys (suc (rank o)) os k rise.1) t

-- and such a value has 32 bits
pub value_of-fits : (a : Access) (keys low : ℕ) (os : List Operation) (k : Key) (v : Value) → Rise keys low os → value_of a os k ≡ some v → v < 2 ^ 32
unfolding value_of
value_of-fits a keys low [] k v rise e = some-none (sym e)
value_of-fits a keys low (o ∷ os) k v rise e =
    choose-ind (λ (x : Option Value). x ≡ some v → v < 2 ^ 32) (same_access a o.access && eqb o.key k) (some o.value) (value_of a os k)
    (λ here q. let same : o.value ≡ v = cc in subst (λ (x : Value). x < 2 ^ 32) same rise.0.value-fits)
    (λ elsewhere. value_of-fits a keys (suc (rank o)) os k v rise.1) e

pub commit-fits : (keys clients : ℕ) (c : Commit) → FitsCommit keys clients c → Store.WithinKeys keys c
commit-fits keys clients c f = record {
  read-keys = λ k. value_of-key read keys 0 c.operations k f.rising;
  write-keys = λ k. value_of-key write keys 0 c.operations k f.rising;
  after = f.view-fits;
}

events-fit : (keys clients : ℕ) (es : List Event) → FitsEvents keys clients es → FitsAll keys es
events-fit keys clients [] f = tt
events-fit keys clients (shift d u ∷ es) f = (f.0.view-fits, events-fit keys clients es f.1)
events-fit keys clients (commit c ∷ es) f = (commit-fits keys clients c f.0, events-fit keys clients es f.1)

-- the records of a well-formed trace fit its keys
pub well-formed-fits : (t : Trace) → WellFormed t → FitsAll t.keys t.events
well-formed-fits t w = events-fit t.keys t.clients t.events w.fitting
