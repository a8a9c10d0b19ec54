-- The versions that a view holds and another lacks, and the commits that wrote them. Assumes nothing.
use Rattle.std.specs.Prelude.{◌≡◌, ℕ, ◌+◌, ◌<◌, ◌≤◌, T, ◌↔◌, List, length, slice_index}
use Rattle.sets.specs.Set.{Set, has, without}
use Rattle.dependencies.specs.History.{Holds}
use Rattle.store.specs.Limits.{max_keys, max_commits}
use Rattle.store.specs.Store.{Key, VersionNumber, CommitNumber, View, Store, count, version}
use Rattle.store.specs.History.{history, held}
use Rattle.store.specs.Sound.{SoundStore}
use Rattle.state.specs.Keeps.{IsSet, KeepsVersions}

-- ---- in the store

-- what a holds and b does not
abbrev pub minus : View → View → View
minus a b k = without (a k) (b k)

-- the store, which the array keeps, has each version that d holds, and by a commit
pub record Versions (s : Store) (d : View) (n : ℕ) (versions : List ℕ) : Type 0 where
  pub number : s.keys ≡ n
  pub sound : SoundStore s
  pub few : s.commits ≤ max_commits
  pub in-versions : KeepsVersions s versions
  pub exist : (k i : ℕ) → T (has (d k) i) → i < count s k
  pub by-commit : (k i : ℕ) → T (has (d k) i) → 0 < (version s k i).writer

-- t wrote a version that d does not hold
abbrev pub HoldsOther : Store → View → CommitNumber → Type 0
HoldsOther s d = Holds (history s) (λ k i. ¬ T (has (d k) i))

-- the commits with a version in d, and those of them with another version
pub record Parted (s : Store) (d : View) (all half : Set) : Type 0 where
  pub whose : IsSet all (Holds (history s) (held d))
  pub halves : IsSet half (λ t. Holds (history s) (held d) t × HoldsOther s d t)

-- some commits with a version in d are gathered, and those of them with another version; their versions are no longer among those that are left
pub record Parting (s : Store) (d : View) (n : ℕ) (left : List ℕ) (all half : Set) : Type 0 where
  pub still : (k : Key) → k < n → (i : VersionNumber) → T (has (slice_index left k) i) ↔ (T (has (d k) i) × (¬ T (has all (version s k i).writer)))
  pub whose : (t : CommitNumber) → T (has all t) → Holds (history s) (held d) t
  pub halves : IsSet half (λ t. T (has all t) × HoldsOther s d t)

-- each commit with a version of key k in d is gathered
abbrev pub PartedAt : Store → View → Set → Key → Type 0
PartedAt s d all k = (i : VersionNumber) → T (has (d k) i) → T (has all (version s k i).writer)

-- ---- in the arrays

-- each of the first n words is what one row has and another does not, and all are empty where `any` is
pub record Subtracted (masks : List ℕ) (base : ℕ) (others : List ℕ) (other n : ℕ) (left : List ℕ) (any : Set) : Type 0 where
  pub long : length left ≡ max_keys
  pub each : (k : Key) → k < n → slice_index left k ≡ without (slice_index masks (base + k)) (slice_index others (other + k))
  pub empty : any ≡ 0 → (k : Key) → k < n → slice_index left k ≡ 0

-- the versions in a row, of the first n keys, are taken out
pub record RowTaken (versions : List ℕ) (row n : ℕ) (before after : List ℕ) : Type 0 where
  pub long : length after ≡ length before
  pub each : (k : Key) → k < n → slice_index after k ≡ without (slice_index before k) (slice_index versions (row + k))

-- a version of key k that the row has and the words lack; of some key below n
abbrev pub LackedAt : List ℕ → ℕ → List ℕ → Key → VersionNumber → Type 0
LackedAt versions row left k i = T (has (without (slice_index versions (row + k)) (slice_index left k)) i)

abbrev pub LackedBelow : List ℕ → ℕ → List ℕ → ℕ → VersionNumber → Type 0
LackedBelow versions row left n i = (k : Key) × (k < n) × LackedAt versions row left k i
