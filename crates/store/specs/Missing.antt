-- The one search for a missing version: "the search stops at the first missing version, by key and then version" (01, Clauses
-- and levels). Codes 11 and 12 and all eight clauses are this search with another rule. Assumes nothing.
use Rattle.std.specs.Prelude.{Bool, ◌&&◌, not}
use Rattle.std.proofs.Math.Option.{Option, some, none}
use Rattle.search.specs.Choose.{map_some}
use Rattle.search.specs.Search.{any, least}
use Rattle.sets.specs.Set.{has}
use Rattle.store.specs.Store.{Key, VersionNumber, View, Store, count}

-- a version of a key, as answers name it
pub record Place : Type 0 where
  pub key : Key
  pub version : VersionNumber

-- a rule: does it want this version of this key?
abbrev pub Rule : Type 0
Rule = Key → VersionNumber → Bool

-- "'Missing' names the version that the rule wants": wanted, and not in the view
abbrev pub lacks : Rule → View → Rule
lacks want u k i = want k i && not (has (u k) i)

-- the least version of a key that is missing
abbrev pub missing_at : Store → Rule → View → Key → Option Place
missing_at s want u k = map_some (λ i. record { key = k; version = i }) (least (count s k) (lacks want u k))

-- that of the least key where one is missing
unfoldable pub at_key : (Key → Option Place) → Option Key → Option Place
at_key f none = none
at_key f (some k) = f k

-- the first missing version, by key and then version
unfoldable pub missing : Store → Rule → View → Option Place
missing s want u = at_key (missing_at s want u) (least s.keys (λ k. any (count s k) (lacks want u k)))
