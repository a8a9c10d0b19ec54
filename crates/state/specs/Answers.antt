-- What the answers of the searches mean. Assumes nothing.
use Rattle.std.specs.Prelude.{ℕ, Option as CodeOption, Some, None, Result, Ok, Err}
use Rattle.std.proofs.Math.Option.{Option, some, none}
use Rattle.store.specs.Missing.{Place}
use Rattle.store.specs.Update.{Visible}
use Rattle.store.specs.Refusal.{Refusal, Sighting}
use Rattle.state.specs.declared.Key.{Key}
use Rattle.state.specs.declared.Place.{Place as Placed}
use Rattle.state.specs.declared.Refusal.{Refusal as Refused}
use Rattle.state.specs.declared.Visible.{Visible as Seen}
use Rattle.state.specs.declared.WrongRead.{WrongRead}

-- the version that is named
abbrev pub place_of : CodeOption Placed → Option Place
place_of (Some p) = some (record { key = p.key.0; version = p.version.0 })
place_of None = none

-- the key that is named
abbrev pub key_of : CodeOption Key → Option ℕ
key_of (Some k) = some k.0
key_of None = none

-- the version that is seen
abbrev pub visible_of : Seen → Visible
visible_of v = record { value = v.value; version = v.version.0; writer = v.writer.0 }

-- the read that is named
abbrev pub sighting_of : Result (Unit {0}) WrongRead → Option Sighting
sighting_of (Err r) = some (record { key = r.key.0; sees = visible_of r.sees })
sighting_of (Ok _) = none

-- the refusal that is answered
abbrev pub refusal_of : Refused → Refusal
refusal_of r = record { code = r.code; at_record = r.record; key = r.key.0; version = r.version.0; writer = r.writer.0 }
