-- Little-endian numbers in a list of bytes, bytes put into a list in the place of others, and lists made piece by piece. Assumes nothing.
use Rattle.std.specs.Prelude.{ℕ, zero, suc, ◌+◌, ◌*◌, ◌/◌, ◌%◌, ◌<◌, List, [], ◌∷◌, ◌++◌, length, get_or, take, drop}

-- every element is a byte (a place past the end counts as 0)
abbrev pub Bytes : List ℕ → Type 0
Bytes s = (i : ℕ) → get_or s i 0 < 256

-- the number whose n bytes stand at `at`, least byte first; a byte past the end counts as 0
unfoldable pub le_at : List ℕ → ℕ → ℕ → ℕ
le_at s at zero = 0
le_at s at (suc n) = get_or s at 0 + 256 * le_at s (at + 1) n

-- the n bytes of v, least byte first
unfoldable pub le_bytes : ℕ → ℕ → List ℕ
le_bytes zero v = []
le_bytes (suc n) v = v % 256 ∷ le_bytes n (v / 256)

-- d with bs in the place of as many bytes from `at`
abbrev pub put_at : List ℕ → ℕ → List ℕ → List ℕ
put_at d at bs = take at d ++ bs ++ drop (at + length bs) d

-- the pieces of the numbers below n, in turn
unfoldable pub pieces : ℕ → (ℕ → List ℕ) → List ℕ
pieces zero f = []
pieces (suc n) f = pieces n f ++ f n
