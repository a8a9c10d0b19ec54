-- What reading to the end answers. Assumes nothing.
use Rattle.std.specs.Prelude.{ℕ, ◌≤◌, List, length, Result, Ok, Err}
use Rattle.streams.specs.declared.Failed.{Failed}

-- so many bytes were read
abbrev pub bytes_read : Result ℕ Failed → ℕ
bytes_read (Ok n) = n
bytes_read (Err f) = 0

-- they stand at the start of the buffer
abbrev pub Within : Result ℕ Failed → List ℕ → Type 0
Within r buffer = bytes_read r ≤ length buffer
