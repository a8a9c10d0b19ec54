-- `listing::put_line` meets its contract: the word, the numbers and the line feed, one behind the other. Assumes nothing.
use Rattle.text.proofs.Put.{put_both}
use Rattle.listing.proofs.put_line.Goals as goal

pub returns-clause-put : goal.returns-clause-put
returns-clause-put c = put_both c.put_bytes-named.ensures (put_both c.put_numbers-listed.ensures.put c.put_bytes.ensures)
