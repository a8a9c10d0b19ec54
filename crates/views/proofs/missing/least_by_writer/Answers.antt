-- `views::missing::least_by_writer` meets its contract: what the closure answers is what the rule says. Assumes nothing.
use Rattle.std.proofs.Common.{◌≡◌, get_or, refl, ◌∙◌, rules}
use Rattle.sets.specs.Set.{has}
use Rattle.state.specs.Places.{head_place, writer_in}
use Rattle.views.proofs.Words.{written-by}
use Rattle.views.proofs.missing.least_by_writer.Goals as goal

pub returns : goal.returns
returns c = λ s u h. c.least.ensures s u _ h.number h.in-keys h.in-masks (λ k v b l p.
    let e : b ≡ has c.args.set (writer_in (get_or c.args.versions.now (head_place k.0 v.0) 0)) = search rules in
    e ∙ written-by s u _ _ _ _ _ h _ _ l _ refl)
