-- Each row of the table of specs/Examples.antt holds, by computation. Assumes nothing.
use mathlib.Core.Path.{◌≡◌, refl}
use mathlib.Core.List.{map}
use lib.ListN.{set}
use Rattle.search.specs.Choose.{choose}
use Rattle.search.specs.Search.{any}
use Rattle.sets.specs.Set.{without}
use Rattle.endian.specs.Endian.{le_at}
use Rattle.store.specs.Reading.{key_place, versions_at, store_of}
use Rattle.ordering.specs.Shape.{every, well_formed}
use Rattle.reading.specs.Shape.{sizes_right, clients_known, spares_zero, well_shaped}
use Rattle.reading.specs.Examples.{sample, Change, changes}

pub changes-as-said : map (λ (c : Change). well_shaped (set sample c.place c.byte)) changes ≡ map (λ (c : Change). c.shaped) changes
unfolding well_shaped sizes_right clients_known spares_zero well_formed every any without le_at key_place versions_at store_of choose
changes-as-said = refl
