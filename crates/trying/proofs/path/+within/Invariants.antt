-- The measure of `trying::path::within`: how many links. Assumes nothing.
use Rattle.trying.proofs.path.+within.Given as goal

abbrev pub decreases-within : goal.decreases-within
decreases-within l = l.links
