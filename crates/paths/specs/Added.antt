-- What adding a commit changes in the array of links, word by word. Assumes nothing.
use Rattle.std.specs.Prelude.{ℕ, zero, suc, ◌+◌, ◌*◌, ◌<◌, ◌≡◌, List, T, length, get_or}
use Rattle.sets.specs.Set.{Set, has, union}
use Rattle.store.specs.Store.{Key, CommitNumber}
use Rattle.state.specs.Places.{link_place, lead_place}

-- a is brought along by a reader of a key below n that is written
abbrev pub BroughtBelow : ℕ → List ℕ → Set → ℕ → CommitNumber → Type 0
BroughtBelow kind links ranks n a = (k : Key) × (k < n) × (T (has ranks (2 * k + 1)) × T (has (get_or links (lead_place kind k) 0) a))

-- the words at some places gain a set, at place j the set g where P j g, and the others stay
pub record Joined (P : ℕ → Set → Type 0) (before after : List ℕ) : Type 0 where
  pub long : length after ≡ length before
  pub gains : (j : ℕ) (g : Set) → P j g → get_or after j 0 ≡ union (get_or before j 0) g
  pub stays : (j : ℕ) → ((g : Set) → ¬ P j g) → get_or after j 0 ≡ get_or before j 0

-- the set for each kind
abbrev pub of_kind : Set → Set → ℕ → Set
of_kind first into zero = first
of_kind first into (suc kind) = into

-- the two places of a number, one for each kind, gain the set for their kind
abbrev pub GainsAt : (ℕ → ℕ → ℕ) → Set → Set → ℕ → ℕ → Set → Type 0
GainsAt place first into x j g = (kind : ℕ) × (kind < 2) × (j ≡ place kind x) × (g ≡ of_kind first into kind)

-- the rows of the commits of a set
abbrev pub RowsOf : Set → Set → Set → ℕ → Set → Type 0
RowsOf over first into j g = (t : CommitNumber) × T (has over t) × GainsAt link_place first into t j g

-- what the readers bring along, of the keys below n that are read
abbrev pub LeadsOf : Set → ℕ → Set → Set → ℕ → Set → Type 0
LeadsOf ranks n first into j g = (k : Key) × (k < n) × (T (has ranks (2 * k)) × GainsAt lead_place first into k j g)
