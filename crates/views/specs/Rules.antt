-- The rules of the clauses as the code asks them, by a set of commits or of operations; and the arrays that a search is made in. Assumes nothing.
use Rattle.std.specs.Prelude.{◌≡◌, ℕ, ◌+◌, ◌*◌, ◌≤◌, List}
use Rattle.sets.specs.Set.{Set, has}
use Rattle.store.specs.Limits.{max_commits}
use Rattle.store.specs.Store.{View, Store, version}
use Rattle.store.specs.Missing.{Rule}
use Rattle.store.specs.Sound.{SoundStore}
use Rattle.state.specs.Keeps.{KeepsVersions, KeepsKeys}
use Rattle.state.specs.Rows.{RowAt}
use Rattle.views.specs.Words.{meets}

-- each version by a commit of the set
abbrev pub by_writer : Store → Set → Rule
by_writer s set k i = has set (version s k i).writer

-- each version that a commit of the set read
abbrev pub by_reader : Store → Set → Rule
by_reader s set k i = meets set (version s k i).readers

-- each version of a key that is written: rank 2 * k + 1 is in the set of ranks
abbrev pub of_written : Set → Rule
of_written ranks k i = has ranks (2 * k + 1)

-- the arrays keep a sound store of n keys, and a view of any kind from `base` on
pub record StoreAndView (s : Store) (u : View) (n : ℕ) (versions keys masks : List ℕ) (base : ℕ) : Type 0 where
  pub number : s.keys ≡ n
  pub sound : SoundStore s
  pub few : s.commits ≤ max_commits
  pub in-versions : KeepsVersions s versions
  pub in-keys : KeepsKeys s keys
  pub in-masks : RowAt n masks base u
