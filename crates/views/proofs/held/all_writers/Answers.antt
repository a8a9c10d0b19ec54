-- `views::held::all_writers` meets its contract. The loop's invariant: the set has the commits that wrote one of the keys passed. Assumes nothing.
use Rattle.std.proofs.Common.{◌+◌, ◌-◌, ◌<◌, ap, ◌∙◌, drop, arith, get_or-drop, get_or-take, length-take}
use Rattle.sets.specs.Set.{union}
use Rattle.store.specs.Limits.{max_keys}
use Rattle.state.proofs.Below.{key_more}
use Rattle.views.specs.Writing.{WriterAt}
use Rattle.views.proofs.held.all_writers.Goals as goal

pub loop-writers-preserved : goal.loop-writers-preserved
loop-writers-preserved c =
    let keys = c.args.keys.now in
    let k = c.loop-writers.writers-index in
    let rows = max_keys + c.args.n - max_keys in
    let here : k < rows = omega (arith, length-take rows (drop max_keys keys)) in
    let item = get_or-take rows (drop max_keys keys) k 0 here ∙ get_or-drop max_keys keys k 0 in
    key_more (WriterAt keys) _ c.loop-writers.invariant _ (λ t. (λ x. x, λ x. x)) (c.union-all.ensures ∙ ap (union c.loop-writers.all) item)
