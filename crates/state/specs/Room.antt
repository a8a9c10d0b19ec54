-- The room of the arrays: each is as long as specs/Places.antt says. A function that is lent some of them asks for the room of each of these; one
-- that is lent all in which a configuration is kept asks for Room. Assumes nothing.
use Rattle.std.specs.Prelude.{ℕ, ◌≡◌, List, length}
use Rattle.state.specs.Places.{versions_length, keys_length, client_rows, views_length, seen_length, sessions_length, commits_length, links_length, fresh_length, values_length}

-- ---- each array

abbrev pub VersionsRoom : List ℕ → Type 0
VersionsRoom versions = length versions ≡ versions_length

abbrev pub KeysRoom : List ℕ → Type 0
KeysRoom keys = length keys ≡ keys_length

abbrev pub ViewsRoom : List ℕ → Type 0
ViewsRoom views = length views ≡ views_length

-- the rows of the clients alone
abbrev pub ClientRowsRoom : List ℕ → Type 0
ClientRowsRoom views = length views ≡ client_rows

abbrev pub SeenRoom : List ℕ → Type 0
SeenRoom seen = length seen ≡ seen_length

abbrev pub SessionsRoom : List ℕ → Type 0
SessionsRoom sessions = length sessions ≡ sessions_length

abbrev pub CommitsRoom : List ℕ → Type 0
CommitsRoom commits = length commits ≡ commits_length

abbrev pub LinksRoom : List ℕ → Type 0
LinksRoom links = length links ≡ links_length

-- the masks of the record at hand, and the values of its operations
abbrev pub FreshRoom : List ℕ → Type 0
FreshRoom fresh = length fresh ≡ fresh_length

abbrev pub ValuesRoom : List ℕ → Type 0
ValuesRoom values = length values ≡ values_length

-- ---- all in which a configuration is kept

pub record Room (versions keys views seen sessions commits links : List ℕ) : Type 0 where
  pub of-versions : VersionsRoom versions
  pub of-keys : KeysRoom keys
  pub of-views : ViewsRoom views
  pub of-seen : SeenRoom seen
  pub of-sessions : SessionsRoom sessions
  pub of-commits : CommitsRoom commits
  pub of-links : LinksRoom links
