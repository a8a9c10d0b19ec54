-- "Code 20 is a misshapen image" (02, E9), as far as it is about what an image says and not about its bytes: "version 0 not (0, opening), writer or
-- reader number not among the commits, one commit twice as writer or twice as reader of a key, two entries of equal client and number".
-- Assumes nothing.
use Rattle.std.specs.Prelude.{ℕ, suc, Bool, ◌&&◌, ◌||◌, not, eqb, ltb, leb}
use Rattle.std.specs.Int.Bits.{bit_and}
use Rattle.search.specs.Search.{any}
use Rattle.sets.specs.Set.{Set, single, below, without}
use Rattle.store.specs.Limits.{max_commits}
use Rattle.store.specs.Store.{Key, VersionNumber, CommitNumber, Store, count, version}
use Rattle.ordering.specs.Links.{is_commit}

-- every number below n passes
unfoldable pub every : ℕ → (ℕ → Bool) → Bool
every n f = not (any n (λ i. not (f i)))

-- the numbers of n commits: 1 to n
abbrev pub commit_set : ℕ → Set
commit_set n = without (below (suc n)) (single 0)

-- not "version 0 not (0, opening)": there is a version 0, of value 0 and by the opening transaction
abbrev pub opens_right : Store → Key → Bool
opens_right s k = ltb 0 (count s k) && (eqb (version s k 0).value 0 && eqb (version s k 0).writer 0)

-- not "writer .. not among the commits": the opening transaction wrote version 0 alone
abbrev pub writer_known : Store → Key → VersionNumber → Bool
writer_known s k i = eqb i 0 || is_commit s.commits (version s k i).writer

-- not "reader number not among the commits"
abbrev pub readers_known : Store → Key → VersionNumber → Bool
readers_known s k i = eqb (without (version s k i).readers (commit_set s.commits)) 0

-- not "one commit twice as writer": the writer of version j wrote no earlier version of the key
abbrev pub writer_new : Store → Key → VersionNumber → Bool
writer_new s k j = every j (λ i. not (eqb (version s k i).writer (version s k j).writer))

-- not "or twice as reader of a key": no reader of version j is a reader of an earlier one
abbrev pub readers_new : Store → Key → VersionNumber → Bool
readers_new s k j = every j (λ i. eqb (bit_and (version s k i).readers (version s k j).readers) 0)

abbrev pub version_fits : Store → Key → VersionNumber → Bool
version_fits s k i = (writer_known s k i && readers_known s k i) && (writer_new s k i && readers_new s k i)

-- not "two entries of equal client and number": no earlier commit has the client and the number of commit b
abbrev pub entry_new : Store → CommitNumber → Bool
entry_new s b = every b (λ a. not (is_commit s.commits a && (eqb (s.client_of a) (s.client_of b) && eqb (s.session_of a) (s.session_of b))))

-- "commits 0 to 63" (01, Sizes of a rack), and each entry and each version as it should be
unfoldable pub well_formed : Store → Bool
well_formed s =
    (leb s.commits max_commits && every (suc s.commits) (entry_new s))
    && every s.keys (λ k. opens_right s k && every (count s k) (version_fits s k))
