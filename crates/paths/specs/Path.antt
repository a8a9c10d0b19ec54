-- What the functions on paths answer, of the store that the arrays keep. Assumes nothing.
use Rattle.std.specs.Prelude.{ℕ, T}
use Rattle.sets.specs.Set.{Set, has}
use Rattle.relations.specs.Relation.{Plus}
use Rattle.store.specs.Store.{CommitNumber, Store}
use Rattle.state.specs.Keeps.{Step}

-- a leads to a commit of the set by one or more steps of clause 6 (kind 0) or clause 7 (kind 1): "'+' means one or more links"
abbrev pub LeadsInto : ℕ → Store → Set → CommitNumber → Type 0
LeadsInto kind s set a = (t : CommitNumber) × T (has set t) × Plus (Step kind s) a t
