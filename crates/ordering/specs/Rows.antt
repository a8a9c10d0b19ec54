-- Links between commits as rows of words, which is how code has them: row c is the set of the commits with a link to c. Assumes nothing.
use Rattle.std.specs.Prelude.{◌≡◌, List, get_or}
use Rattle.sets.specs.Set.{Set, has}
use Rattle.relations.specs.Relation.{Relation}
use Rattle.store.specs.Store.{CommitNumber}

-- the links that rows say
abbrev pub links_in : List Set → Relation
links_in rows a c = has (get_or rows c 0) a

-- the rows keep the links r
abbrev pub KeepLinks : List Set → Relation → Type 0
KeepLinks rows r = (a c : CommitNumber) → links_in rows a c ≡ r a c
