-- Why reading and writing end: a turn moves a byte, or is one of so many that move none. Assumes nothing.
use Prim.Native.Nat.{ℕ, ◌+◌, ◌-◌, ◌*◌}

-- PATIENCE in src/lib.rt
abbrev pub patience : ℕ
patience = 360000

-- at most so many turns are left where `done` of `whole` bytes are moved, and `left` turns may move none before the next byte
abbrev pub turns : ℕ → ℕ → ℕ → ℕ
turns whole done left = (whole - done) * (patience + 1) + left
