-- "Code 20 is a misshapen image" (02, E9), over any bytes. Assumes nothing.
use Rattle.std.specs.Prelude.{ℕ, suc, ◌+◌, ◌*◌, Bool, ◌&&◌, List, eqb, ltb, leb, length}
use Rattle.endian.specs.Endian.{le_at}
use Rattle.store.specs.Limits.{max_keys, max_clients, max_commits}
use Rattle.ordering.specs.Shape.{every, well_formed}
use Rattle.store.specs.Reading.{image_keys, image_commits, commit_place, key_place, store_of}

-- not "wrong length or sizes": the first 8 bytes are there; the length that they give is that of the bytes; 1 to 32 keys and 0 to 63
-- commits; the entries and the keys fill the bytes exactly. The place behind the last key is a sum of numbers, which nothing wraps
unfoldable pub sizes_right : List ℕ → Bool
sizes_right b =
    (leb 8 (length b) && eqb (le_at b 0 4) (length b))
    && ((ltb 0 (image_keys b) && leb (image_keys b) max_keys) && (leb (image_commits b) max_commits && eqb (key_place b (image_keys b)) (length b)))

-- not "client above 15"
unfoldable pub clients_known : List ℕ → Bool
clients_known b = every (image_commits b) (λ i. ltb (le_at b (commit_place b (suc i)) 1) max_clients)

-- not "spare not zero": the two zeros behind the numbers of keys and commits, the three behind each client, the three behind each writer
unfoldable pub spares_zero : List ℕ → Bool
spares_zero b =
    (eqb (le_at b 6 2) 0 && every (image_commits b) (λ i. eqb (le_at b (commit_place b (suc i) + 1) 3) 0))
    && every (image_keys b) (λ k. every (le_at b (key_place b k) 4) (λ i. eqb (le_at b (key_place b k + 4 + 16 * i + 5) 3) 0))

-- and what the image says is well formed: not "version 0 not (0, opening), writer or reader number not among the commits, one commit twice as writer or
-- twice as reader of a key, two entries of equal client and number". "Stored masks are not part of this test."
unfoldable pub well_shaped : List ℕ → Bool
well_shaped b = (sizes_right b && clients_known b) && (spares_zero b && well_formed (store_of b))
