-- `writing::put_listed` meets its contract. The loop's invariant: the masks of the keys passed stand from `at` on. Assumes nothing.
use Rattle.writing.proofs.Listing.{PutListed}
use Rattle.writing.proofs.put_listed.Given as goal

abbrev pub invariant-loop-k : goal.invariant-loop-k
invariant-loop-k l = PutListed l.initial.buffer l.at l.masks l.base l.listed l.buffer l.to l.k-iterator.0
