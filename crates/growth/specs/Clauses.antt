-- The commits that a clause wants of a view, and that one of them is lacking. Assumes nothing.
use Rattle.std.specs.Prelude.{ℕ}
use Rattle.dependencies.specs.History.{Holds}
use Rattle.store.specs.Store.{CommitNumber, View, Store}
use Rattle.store.specs.History.{history, held}
use Rattle.growth.specs.Views.{Lacking}

-- clauses 3, 6 and 7: from a R leads to a commit of which the view holds a version
abbrev pub LeadsToHeld : Store → View → (ℕ → ℕ → Type 0) → CommitNumber → Type 0
LeadsToHeld s u R a = (t : CommitNumber) × Holds (history s) (held u) t × R a t

-- a commit of W is lacking
abbrev pub LacksOneOf : Store → View → (CommitNumber → Type 0) → Type 0
LacksOneOf s u W = (a : CommitNumber) × W a × Lacking s u a
