-- What the contracts of the writer of records cite besides the format itself: how a record begins. Assumes nothing.
use Rattle.std.specs.Prelude.{ℕ, List, ◌++◌}
use Rattle.endian.specs.Endian.{le_bytes}

-- "u16 length of the whole record, u16 kind", and the two bytes behind them: keys and clients of kind 1, the client and a zero of kind 2,
-- the client and the number of operations of kind 3
abbrev pub start_bytes : ℕ → ℕ → ℕ → ℕ → List ℕ
start_bytes size kind first second = le_bytes 2 size ++ (le_bytes 2 kind ++ (le_bytes 1 first ++ le_bytes 1 second))
