-- Bytes put into a lent buffer, and the place behind them. Assumes nothing.
use Rattle.std.specs.Prelude.{ℕ, ◌+◌, ◌≤◌, ◌≡◌, List, length}
use Rattle.endian.specs.Endian.{put_at}

-- the buffer afterwards: the bytes from `at` up to `end`, and else what stood there before
pub record Put (before : List ℕ) (at : ℕ) (bytes : List ℕ) (after : List ℕ) (end : ℕ) : Type 0 where
  pub stands : after ≡ put_at before at bytes
  pub behind : end ≡ at + length bytes
  pub within : end ≤ length before

-- a number of 64 bits has at most so many digits
abbrev pub most_digits : ℕ
most_digits = 20
