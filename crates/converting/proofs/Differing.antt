-- The keys at which two views differ, found one after the other. Assumes nothing.
use Prim.Native.Nat.{ℕ, ◌+◌, ◌<◌}
use mathlib.Core.Path.{◌≡◌, refl, sym, ap, ◌∙◌}
use mathlib.Core.Logic.{◌≢◌}
use mathlib.Core.List.{List}
use native.Mathlib.Nat.{zero-add}
use native.Mathlib.Numerals.{add-one}
use lib.ListN.{get_or}
use borrow.Author.Tests.{eq-eqb, ne_eqb}
use Rattle.search.specs.Choose.{choose}
use Rattle.sets.specs.Set.{Set, insert, set_of}
use Rattle.store.specs.Store.{View}
use Rattle.trace.specs.Edition.{changed}
use Rattle.state.specs.Rows.{RowAt}

pub changed-none : (before u : View) → 0 ≡ changed 0 before u
unfolding changed set_of
changed-none before u = refl

module _ (n base : ℕ) (views fresh : List ℕ) {k : ℕ} (below : k < n) (before u : View) (row : RowAt n views base before) (own : RowAt n fresh 0 u) where
  mask : get_or fresh k 0 ≡ u k
  mask = ap (λ (i : ℕ). get_or fresh i 0) (sym (zero-add k)) ∙ own k below

  -- one that differs
  pub changed-here : {listed after : Set} → get_or fresh k 0 ≢ get_or views (base + k) 0 → listed ≡ changed k before u → after ≡ insert k listed → after ≡ changed (k + 1) before u
  unfolding changed set_of choose
  changed-here differs is after_is =
      let other : u k ≢ before k = λ e. differs (mask ∙ e ∙ sym (row k below)) in
      after_is ∙ ap (insert k) is ∙ rw (add-one k, ne_eqb (u k) (before k) other) refl

  -- one that does not
  pub changed-not : {listed after : Set} → get_or fresh k 0 ≡ get_or views (base + k) 0 → listed ≡ changed k before u → after ≡ listed → after ≡ changed (k + 1) before u
  unfolding changed set_of choose
  changed-not same is after_is =
      let equal : u k ≡ before k = sym mask ∙ same ∙ row k below in
      after_is ∙ is ∙ rw (add-one k, eq-eqb (u k) (before k) equal) refl
