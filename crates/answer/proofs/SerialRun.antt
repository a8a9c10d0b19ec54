-- The serial run by hand (02, E11) of a trace that serialisability accepts: at each commit the table has the value of each key's newest version, and these are
-- the versions that the commit's view sees. Assumes nothing.
use Prim.Native.Nat.{ℕ, suc, ◌+◌, ◌*◌, ◌-◌, ◌≤◌}
use mathlib.Core.Path.{◌≡◌, refl, sym, ap, ◌∙◌, subst, fun_ext}
use mathlib.Core.Bool.{Bool, true, false, ◌&&◌, ◌||◌}
use mathlib.Core.Option
use mathlib.Core.Option.{Option, some, none}
use mathlib.Core.List.{List, [], ◌∷◌}
use native.Mathlib.Omega.{arith}
use native.Mathlib.Decide.{ℕ_discrete}
use lib.Dec.{T, eqb, ltb, eqb_refl, not_T}
use lib.ListN.{length, get_or}
use Rattle.search.specs.Choose.{choose}
use Rattle.search.proofs.Choose.{choose-ind, choose_yes, choose_no, choose-other, need-yes}
use Rattle.search.proofs.Tests.{and_left, and_right, and_both, eq_is, eq_test, is_some-some, some-none}
use Rattle.store.specs.Store.{Key, Value, opening_version, Configuration, opening_store, opening, count, version, Access, read, write, Operation, Commit, Event}
use Rattle.store.specs.Update.{same_access, value_of, newest, at_number, view_before, store_after, step, final}
use Rattle.store.specs.Sound.{Sound, WithinKeys}
use Rattle.store.specs.Legal.{LegalCommit}
use Rattle.store.proofs.Sound.{sound-opening}
use Rattle.store.proofs.Run.{LegalRun, done, shifts, commits, sound-shifts, sound-commits, Each}
use Rattle.trace.specs.Format.{Trace}
use Rattle.trace.specs.Encode.{access_number}
use Rattle.trace.specs.WellFormed.{rank, Rise}
use Rattle.trace.proofs.WellFormed.{FitsEvents, WellFormed}
use Rattle.levels.specs.Level.{SER}
use Rattle.levels.proofs.Levels.{Passes}
use Rattle.answer.specs.Answer.{final_store}
use Rattle.answer.specs.Demand3.{Accepts}
use Rattle.answer.specs.SerialRun.{Table, all_zero, finds, reads_find, puts, writes_put, serial_run, newest_values}
use Rattle.answer.proofs.Taken.{Taken}
use Rattle.answer.proofs.Orders.{accepts-each}
use Rattle.answer.proofs.FullView.{newest-of-all}
use Rattle.answer.proofs.Values.{newest-update}

-- ---- operations one by one, and the value at a key

-- the operation is of this kind and key
abbrev is_at : Access → Operation → Key → Bool
is_at a o k = same_access a o.access && eqb o.key k

same-access : (a b : Access) → T (same_access a b) → a ≡ b
same-access read read t = refl
same-access read write t = absurd t
same-access write read t = absurd t
same-access write write t = refl

rank-at : (a : Access) (o : Operation) (k : Key) → T (is_at a o k) → rank o ≡ 2 * k + access_number a
rank-at a o k t =
    let key : o.key ≡ k = (eq_is o.key k).0 (and_right (same_access a o.access) (eqb o.key k) t) in
    let kind = ap access_number (same-access a o.access (and_left (same_access a o.access) (eqb o.key k) t)) in
    omega arith

module _ (a : Access) (keys : ℕ) where
  -- operations of rank `low` or more have values only there
  value-rank : (low : ℕ) (os : List Operation) (k : Key) (x : Value) → Rise keys low os → value_of a os k ≡ some x → low ≤ 2 * k + access_number a
  unfolding value_of
  value-rank low [] k x rise e = some-none (sym e)
  value-rank low (o ∷ os) k x rise e =
      choose-ind (λ (v : Option Value). v ≡ some x → low ≤ 2 * k + access_number a) (is_at a o k) (some o.value) (value_of a os k)
      (λ t q. omega (arith, rise.0.no_lower, rank-at a o k t))
      (λ n q. omega (arith, rise.0.no_lower, value-rank (suc (rank o)) os k x rise.1 q)) e

  module _ (low : ℕ) (o : Operation) (os : List Operation) (k : Key) (rise : Rise keys low (o ∷ os)) where
    -- "a key has at most one of each": where the first is of this kind and key, the rest have none
    value-once : T (is_at a o k) → value_of a os k ≡ none
    value-once t = go (value_of a os k) refl
      where
        go : (v : Option Value) → value_of a os k ≡ v → v ≡ none
        go none e = refl
        go (some x) e = absurd (omega (arith, value-rank (suc (rank o)) os k x rise.1 e, rank-at a o k t))

    -- so a value of the rest is a value of all
    value-later : (x : Value) → value_of a os k ≡ some x → value_of a (o ∷ os) k ≡ some x
    unfolding value_of
    value-later x e = choose_no (is_at a o k) (some o.value) (value_of a os k) (not_T (is_at a o k) (λ t. some-none (sym e ∙ value-once t))) ∙ e

-- the reads find their values where the table has them
reads-find : (m : Table) (keys low : ℕ) (os : List Operation) → Rise keys low os → ((k : Key) (x : Value) → value_of read os k ≡ some x → m k ≡ x)
    → T (reads_find m os)
unfolding reads_find value_of
reads-find m keys low [] rise f = tt
reads-find m keys low (o ∷ os) rise f =
    and_both (finds m o) (reads_find m os) (first o.access refl)
    (reads-find m keys (suc (rank o)) os rise.1 (λ k x e. f k x (value-later read keys low o os k rise x e)))
  where
    first : (a : Access) → o.access ≡ a → T (same_access write a || eqb (m o.key) o.value)
    first write e = tt
    first read e =
        let here : T (is_at read o o.key) = subst (λ (a : Access). T (same_access read a && eqb o.key o.key)) (sym e) (eqb_refl o.key) in
        eq_test (m o.key) o.value (f o.key o.value (choose_yes (is_at read o o.key) (some o.value) (value_of read os o.key) here))

-- the writes leave what was written at a key, and elsewhere what was there
writes-put : (m : Table) (keys low : ℕ) (os : List Operation) (k : Key) → Rise keys low os → writes_put m os k ≡ Option.get_or (value_of write os k) (m k)
unfolding writes_put value_of choose
writes-put m keys low [] k rise = refl
writes-put m keys low (o ∷ os) k rise = writes-put (puts m o) keys (suc (rank o)) os k rise.1 ∙ go o.access refl (ℕ_discrete o.key k)
  where
    go : (a : Access) → o.access ≡ a → Dec (o.key ≡ k)
        → Option.get_or (value_of write os k) (choose (same_access write a) (at_number o.key o.value m) m k)
        ≡ Option.get_or (choose (same_access write a && eqb o.key k) (some o.value) (value_of write os k)) (m k)
    go read e d = refl
    go write e (yes q) =
        let here : T (is_at write o k) = subst (λ (a : Access). T (same_access write a && eqb o.key k)) (sym e) (eq_test o.key k q) in
        ap (λ (v : Option Value). Option.get_or v (at_number o.key o.value m k)) (value-once write keys low o os k rise here)
        ∙ choose_yes (eqb k o.key) o.value (m k) (eq_test k o.key (sym q))
        ∙ ap (λ (v : Option Value). Option.get_or v (m k)) (sym (choose_yes (eqb o.key k) (some o.value) (value_of write os k) (eq_test o.key k q)))
    go write e (no n) =
        ap (Option.get_or (value_of write os k)) (choose-other k o.key o.value (m k) (λ q. n (sym q)))
        ∙ ap (λ (v : Option Value). Option.get_or v (m k)) (sym (choose-other o.key k (some o.value) (value_of write os k) n))

-- ---- one commit that passes clause 8

module _ (g : Configuration) (c : Commit) (keys : ℕ) (rise : Rise keys 0 c.operations) where
  -- it sees the newest version of each key that it reads, so its reads find their values
  finds-newest : Sound g → WithinKeys g.store.keys c → LegalCommit g c → Passes SER g c → T (reads_find (newest_values g.store) c.operations)
  finds-newest h f l (ser, _) =
      reads-find (newest_values g.store) keys 0 c.operations rise (λ k x e.
      let key = f.read-keys k (is_some-some (value_of read c.operations k) x e) in
      let last = newest-of-all g.store (view_before g c) (h.views c.client) k key (h.store.some-version k key) (λ i m. ser _ k i (m, refl)) in
      let place : count g.store k - 1 ≡ newest (view_before g c) k = omega arith in
      ap (λ (i : ℕ). (version g.store k i).value) place ∙ sym (l.values k x e))

  -- and the writes of any commit leave the newest values of the store after it
  leaves-newest : writes_put (newest_values g.store) c.operations ≡ newest_values (store_after g c)
  leaves-newest = fun_ext (λ k. writes-put (newest_values g.store) keys 0 c.operations k rise ∙ sym (newest-update g.store (view_before g c) c k))

-- ---- the run

-- at first each key's newest version is the opening one, of value 0
newest-opening : (keys : ℕ) → newest_values (opening_store keys) ≡ all_zero
unfolding opening_store choose
newest-opening keys = fun_ext (λ k. go (ltb k keys))
  where
    go : (b : Bool) → ◌≡◌ {A = ℕ} (get_or (choose b (opening_version ∷ []) []) (length (choose b (opening_version ∷ []) []) - 1) opening_version).value 0
    go true = refl
    go false = refl

-- from the newest values of one store on, to those of the last
serial-from : (keys clients : ℕ) {g : Configuration} {es : List Event} → Sound g → LegalRun g es → FitsEvents keys clients es → Each (Passes SER) g es
    → serial_run (newest_values g.store) es ≡ some (newest_values (final g es).store)
unfolding serial_run final step
serial-from keys clients h done w p = refl
serial-from keys clients h (shifts f l r) w p = serial-from keys clients (sound-shifts h l) r w.1 p
serial-from keys clients {g} h (commits {c = c} {es = es} f l r) w p =
    need-yes (reads_find (newest_values g.store) c.operations) none _ (finds-newest g c keys w.0.rising h f l p.0)
    ∙ ap (λ (m : Table). serial_run m es) (leaves-newest g c keys w.0.rising)
    ∙ serial-from keys clients (sound-commits h f l) r w.1 p.1

-- "Each read finds its value there, and the table ends with each key's newest version."
pub ser-serial : (t : Trace) → WellFormed t → Taken t → Accepts SER t → serial_run all_zero t.events ≡ some (newest_values (final_store t))
unfolding opening
ser-serial t w h accepts =
    ap (λ (m : Table). serial_run m t.events) (sym (newest-opening t.keys))
    ∙ serial-from t.keys t.clients (sound-opening t.keys) h.legal w.fitting ((accepts-each t h SER).0 accepts)
