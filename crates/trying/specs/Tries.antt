-- What is tried, on the history that the arrays tell. Assumes nothing.
use Rattle.std.specs.Prelude.{ℕ, zero, suc, ◌+◌, ◌*◌, ◌<◌, ◌≡◌, ◌⊎◌, List, T, get_or}
use Rattle.sets.specs.Set.{Set, has, single, without}
use Rattle.dependencies.specs.History.{History, SO, WR, WW, RW, PrefixStep, SnapshotStep}
use Rattle.store.specs.Store.{Key, VersionNumber, CommitNumber}
use Rattle.trying.specs.Recorded.{versions_of, Exists, writer_at, readers_at, client_in, session_in}
use Rattle.trying.specs.declared.Ends.{Ends}

-- ---- commits by their versions

-- version i of key k is chosen: the masks at `base` hold it, and the ranks have a write of the key; t is its writer, or one of its readers that are asked for
abbrev pub ChosenAt : List ℕ → List ℕ → ℕ → Set → Set → Key → VersionNumber → CommitNumber → Type 0
ChosenAt versions masks base ranks readers k i t =
    (T (has (get_or masks (base + k) 0) i) × T (has ranks (2 * k + 1))) × ((writer_at versions k i ≡ t) ⊎ (T (has (readers_at versions k i) t) × T (has readers t)))

abbrev pub Chosen : List ℕ → List ℕ → List ℕ → ℕ → Set → Set → ℕ → CommitNumber → Type 0
Chosen versions keys masks base ranks readers n t = (k : Key) × (i : VersionNumber) × Exists keys n k i × ChosenAt versions masks base ranks readers k i t

-- ---- links to members of sets, one set for each kind of link

pub data LinksTo (H : History) (ends : Ends) (a : CommitNumber) : Type 0 where
  to-session : {b : CommitNumber} → T (has ends.session b) → SO H a b → LinksTo H ends a
  to-reader : {b : CommitNumber} → T (has ends.reader b) → WR H a b → LinksTo H ends a
  to-writer : {b : CommitNumber} → T (has ends.writer b) → WW H a b → LinksTo H ends a
  to-overwriter : {b : CommitNumber} → T (has ends.overwriter b) → RW H a b → LinksTo H ends a

-- a later version of the key than i is by a member of the set
abbrev pub LaterBy : List ℕ → List ℕ → Key → VersionNumber → Set → Type 0
LaterBy versions keys k i set = (j : VersionNumber) × (i < j) × (j < versions_of keys k) × T (has set (writer_at versions k j))

-- a link of a that starts at version i of key k: WR or WW, where a wrote it
abbrev pub StartsByWrite : List ℕ → List ℕ → Ends → CommitNumber → Key → VersionNumber → Type 0
StartsByWrite versions keys ends a k i =
    (writer_at versions k i ≡ a) × (((b : CommitNumber) × T (has (readers_at versions k i) b) × T (has ends.reader b)) ⊎ LaterBy versions keys k i ends.writer)

-- RW, where a read it, "unless the same"
abbrev pub StartsByRead : List ℕ → List ℕ → Ends → CommitNumber → Key → VersionNumber → Type 0
StartsByRead versions keys ends a k i = T (has (readers_at versions k i) a) × LaterBy versions keys k i (without ends.overwriter (single a))

abbrev pub StartsAt : List ℕ → List ℕ → Ends → CommitNumber → Key → VersionNumber → Type 0
StartsAt versions keys ends a k i = StartsByWrite versions keys ends a k i ⊎ StartsByRead versions keys ends a k i

abbrev pub Starts : List ℕ → List ℕ → Ends → ℕ → CommitNumber → Type 0
Starts versions keys ends n a = (k : Key) × (i : VersionNumber) × Exists keys n k i × StartsAt versions keys ends a k i

-- SO from a to the member b of the set, where `stored` are the commits in the store
abbrev pub Precedes : List ℕ → Set → Set → CommitNumber → CommitNumber → Type 0
Precedes commits stored set a b =
    T (has set b) × ((T (has stored a) × T (has stored b)) × (((0 < a) × (0 < b)) × ((client_in commits a ≡ client_in commits b) × (session_in commits a < session_in commits b))))

-- ---- steps

-- a link of the path of clause 6, or of clause 7
abbrev pub StepOf : ℕ → History → CommitNumber → CommitNumber → Type 0
StepOf zero H = PrefixStep H
StepOf (suc kind) H = SnapshotStep H

-- a link of that kind leads to a member of the set
abbrev pub StepsTo : ℕ → History → Set → CommitNumber → Type 0
StepsTo kind H near a = (b : CommitNumber) × StepOf kind H a b × T (has near b)
