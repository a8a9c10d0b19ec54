-- `replaying::view::with_next` meets its contract: the mask that is added is there or not. Assumes nothing.
use Rattle.replaying.proofs.Grown.{next-mask}
use Rattle.replaying.proofs.view.with_next.Goals as goal

pub returns : goal.returns
returns c = next-mask c.args.more c.args.mask c.requires.1
