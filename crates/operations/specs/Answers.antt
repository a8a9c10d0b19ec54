-- What is answered of the operations of a commit, made as commit t on view u of a store. Assumes nothing.
use Rattle.std.specs.Prelude.{◌≡◌, ℕ, List, Result, Ok, Err}
use Rattle.store.specs.Store.{CommitNumber, View, Store, next_number, Commit}
use Rattle.store.specs.Update.{update}
use Rattle.store.specs.Refusal.{wrong_read}
use Rattle.growth.specs.Links.{FromRead, FromWrite, ToLater}
use Rattle.growth.specs.Ordered.{Ordered}
use Rattle.state.specs.declared.WrongRead.{WrongRead}
use Rattle.state.specs.Answers.{sighting_of}
use Rattle.state.specs.Keeps.{IsSet, KeepsVersions, KeepsKeys}
use Rattle.operations.specs.Change.{reads_noted}
use Rattle.operations.specs.declared.Sources.{Sources}
use Rattle.operations.specs.declared.Links.{Links}

-- of its reads: the one that is wrong; or that none is, and then the versions have them noted, and the sets are whose versions are read and who wrote later ones
abbrev pub ReadsSay : Store → View → Commit → CommitNumber → List ℕ → List ℕ → Result Sources WrongRead → Type 0
ReadsSay s u c t versions keys (Err r) = sighting_of (Err r) ≡ wrong_read s u c
ReadsSay s u c t versions keys (Ok r) =
    (sighting_of (Ok tt) ≡ wrong_read s u c) × KeepsVersions (reads_noted s u c t) versions
    × (KeepsKeys s keys → Ordered s → IsSet r.from (FromRead s u c) × IsSet r.over (ToLater s u c))

-- of all of them: the read that is wrong; or that none is, and then the arrays keep the store after the commit, and the sets are those of its links
abbrev pub LinkedSays : Store → View → Commit → CommitNumber → List ℕ → List ℕ → Result Links WrongRead → Type 0
LinkedSays s u c t versions keys (Err r) = sighting_of (Err r) ≡ wrong_read s u c
LinkedSays s u c t versions keys (Ok r) =
    (sighting_of (Ok tt) ≡ wrong_read s u c) × (t ≡ next_number s → KeepsVersions (update s u c) versions × KeepsKeys (update s u c) keys)
    × (Ordered s → IsSet r.from (FromRead s u c) × IsSet r.earlier (FromWrite s c) × IsSet r.over (ToLater s u c))
