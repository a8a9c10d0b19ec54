-- `views::missing::least_by_reader` meets its contract: what the closure answers is what the rule says. Assumes nothing.
use Rattle.std.proofs.Common.{◌≡◌, not, eqb, get_or, ◌∙◌, rules}
use lib.Bits.{bit_and}
use Rattle.state.specs.Places.{readers_place}
use Rattle.views.proofs.Words.{read-by}
use Rattle.views.proofs.missing.least_by_reader.Goals as goal

pub returns : goal.returns
returns c = λ s u h. c.least.ensures s u _ h.number h.in-keys h.in-masks (λ k v b l p.
    let e : b ≡ not (eqb (bit_and c.args.set (get_or c.args.versions.now (readers_place k.0 v.0) 0)) 0) = search rules in
    e ∙ read-by s u _ _ _ _ _ h _ _ l _)
