-- The parts of a record, and what is at hand where it is written. Assumes nothing.
use Rattle.std.specs.Prelude.{ℕ, ◌<◌, List}
use Rattle.store.specs.Limits.{max_clients}
use Rattle.store.specs.Store.{Client, Configuration}
use Rattle.trace.specs.Entry.{view_meant}
use Rattle.trace.specs.Meaning.{listing_of, OperationsFit, ListingFits}
use Rattle.trace.specs.declared.records.Listing.{Listing}
use Rattle.trace.specs.declared.records.Record.{Record}
use Rattle.trace.specs.declared.records.Record.TheVariants.{Shift, Commit}
use Rattle.state.specs.Keeps.{RowIs}
use Rattle.state.specs.Rows.{RowAt}

abbrev pub client_in : Record → Client
client_in (Shift client l) = client
client_in (Commit client count session operations l) = client

abbrev pub listing_in : Record → Listing
listing_in (Shift client l) = l
listing_in (Commit client count session operations l) = l

-- they lie within the file, and the client is below the limit
abbrev pub PartsFit : List ℕ → ℕ → Record → Type 0
PartsFit s n (Shift client l) = (client < max_clients) × ListingFits s n l
PartsFit s n (Commit client count session operations l) = (client < max_clients) × ListingFits s n l × OperationsFit s n operations count

-- no record that is written has more bytes; a bound that need not be reached
abbrev pub longest_record : ℕ
longest_record = 2048

-- the row of `views` from `base` on is the view of the record's client, and `fresh` the one that the record means
pub record Meant (g : Configuration) (file : List ℕ) (n : ℕ) (x : Record) (views : List ℕ) (base : ℕ) (fresh : List ℕ) : Type 0 where
  pub before : RowAt n views base (g.views (client_in x))
  pub after : RowAt n fresh 0 (view_meant g (client_in x) (listing_of file n (listing_in x)))

-- the views of all clients stand in their rows
abbrev pub ViewRows : Configuration → ℕ → List ℕ → Type 0
ViewRows g n views = (d : Client) → d < max_clients → RowIs n views d (g.views d)
