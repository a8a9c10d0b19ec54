-- Laws of little-endian numbers, over their width, and of lists made of pieces. Assumes nothing.
use Prim.Native.Nat.{ℕ, zero, suc, ◌+◌, ◌*◌, ◌/◌, ◌%◌, ◌^◌, ◌≤◌, ◌<◌}
use mathlib.Core.Path.{◌≡◌, refl, sym, ap, ◌∙◌}
use mathlib.Core.List.{List, [], ◌∷◌, ◌++◌, append_assoc, append-nil}
use native.Mathlib.Omega.{arith}
use native.Mathlib.Decide.{ℕ_discrete}
use native.Mathlib.Nat.{add-zero, zero-add, add_assoc, mul_assoc, mul-zero, mul-suc, one-mul, suc-add, mod-lt, mod-one, div-one, pow-suc, pow-succ', one-le-pow, div-div-eq-div-mul}
use lib.Arith.{mod-mul, digits_mod, digits_div}
use lib.Dec.{lit<}
use lib.ListN.{length, length-append, get_or-append}
use lib.Seq.{get_or-append-add, get_or-append_seam}
use Rattle.endian.specs.Endian.{Bytes, le_at, le_bytes, pieces}

-- ---- how long the bytes are, and that they are bytes

pub length-le_bytes : (n v : ℕ) → length (le_bytes n v) ≡ n
unfolding le_bytes
length-le_bytes zero v = refl
length-le_bytes (suc n) v = ap suc (length-le_bytes n (v / 256))

-- a number in front of something
pub length-le_bytes-append : (n v : ℕ) (b : List ℕ) → length (le_bytes n v ++ b) ≡ n + length b
length-le_bytes-append n v b = length-append (le_bytes n v) b ∙ ap (λ k. k + length b) (length-le_bytes n v)

pub bytes-none : Bytes []
bytes-none i = lit< tt

pub bytes-append : (s t : List ℕ) → Bytes s → Bytes t → Bytes (s ++ t)
bytes-append [] t hs ht i = ht i
bytes-append (x ∷ s) t hs ht zero = hs zero
bytes-append (x ∷ s) t hs ht (suc i) = bytes-append s t (λ j. hs (suc j)) ht i

pub bytes-le_bytes : (n v : ℕ) → Bytes (le_bytes n v)
unfolding le_bytes
bytes-le_bytes zero v i = bytes-none i
bytes-le_bytes (suc n) v zero = mod-lt v (lit< tt)
bytes-le_bytes (suc n) v (suc i) = bytes-le_bytes n (v / 256) i

pub bytes-le_bytes-append : (n v : ℕ) (b : List ℕ) → Bytes b → Bytes (le_bytes n v ++ b)
bytes-le_bytes-append n v b h = bytes-append (le_bytes n v) b (bytes-le_bytes n v) h

-- ---- a number in two parts

-- the part above the lowest byte
above-lowest : (m x : ℕ) → 256 ^ suc m * x ≡ 256 * (256 ^ m * x)
above-lowest m x = rw (pow-succ' 256 m, mul_assoc)

-- a number of m + k bytes is one of m and one of k
pub le_at-add : (s : List ℕ) (m k at : ℕ) → le_at s at (m + k) ≡ le_at s at m + 256 ^ m * le_at s (at + m) k
unfolding le_at
le_at-add s zero k at = simp (zero-add, add-zero, one-mul)
le_at-add s (suc m) k at =
    let rest = le_at-add s m k (at + 1) in
    let place : at + suc m ≡ at + 1 + m = omega arith in
    rw (suc-add m k, place, above-lowest m (le_at s (at + 1 + m) k)) (omega arith)

pub le_bytes-add : (m k v : ℕ) → le_bytes (m + k) v ≡ le_bytes m v ++ le_bytes k (v / 256 ^ m)
unfolding le_bytes
le_bytes-add zero k v = simp (zero-add, div-one)
le_bytes-add (suc m) k v =
    rw (suc-add m k, pow-succ' 256 m, ← div-div-eq-div-mul v 256 (256 ^ m))
    (ap (λ (l : List ℕ). v % 256 ∷ l) (le_bytes-add m k (v / 256)))

-- the lowest byte of a number apart
mod-lowest : (m v : ℕ) → v % 256 ^ suc m ≡ v / 256 % 256 ^ m * 256 + v % 256
mod-lowest m v = rw pow-suc (mod-mul v (one-le-pow m 256 (lit< tt)) (lit< tt))

-- only what fits into the bytes counts
pub le_bytes-mod : (m v : ℕ) → le_bytes m (v % 256 ^ m) ≡ le_bytes m v
unfolding le_bytes
le_bytes-mod zero v = refl
le_bytes-mod (suc m) v =
    let high = v / 256 % 256 ^ m in
    let byte : v % 256 < 256 = mod-lt v (lit< tt) in
    rw (mod-lowest m v, digits_mod high {m = 256} {r = v % 256} byte, digits_div high {m = 256} {r = v % 256} byte)
    (ap (λ (l : List ℕ). v % 256 ∷ l) (le_bytes-mod m (v / 256)))

-- a number of m bytes and one of k bytes are a number of m + k bytes
pub le_bytes-joined : (m k low high v : ℕ) → low < 256 ^ m → v ≡ high * 256 ^ m + low → le_bytes (m + k) v ≡ le_bytes m low ++ le_bytes k high
le_bytes-joined m k low high v fits e =
    let below : v % 256 ^ m ≡ low = ap (λ x. x % 256 ^ m) e ∙ digits_mod high fits in
    let above : v / 256 ^ m ≡ high = ap (λ x. x / 256 ^ m) e ∙ digits_div high fits in
    le_bytes-add m k v ∙ ap (λ l. l ++ le_bytes k (v / 256 ^ m)) (sym (le_bytes-mod m v) ∙ ap (le_bytes m) below) ∙ ap (λ x. le_bytes m low ++ le_bytes k x) above

-- two bytes are a number of two bytes
pub le_bytes-counts : (low high : ℕ) → low < 256 → le_bytes 2 (low + 256 * high) ≡ le_bytes 1 low ++ le_bytes 1 high
le_bytes-counts low high fits = le_bytes-joined 1 1 low high (low + 256 * high) fits (omega arith)

-- ---- what is read

-- a number that was read is written as its first m bytes and the k behind them
pub le_bytes-le_at-add : (s : List ℕ) (m k at place : ℕ) → le_at s at m < 256 ^ m → at + m ≡ place
    → le_bytes (m + k) (le_at s at (m + k)) ≡ le_bytes m (le_at s at m) ++ le_bytes k (le_at s place k)
le_bytes-le_at-add s m k at place fits e =
    rw (← e) (le_bytes-joined m k (le_at s at m) (le_at s (at + m) k) (le_at s at (m + k)) fits (le_at-add s m k at ∙ omega arith))

-- n bytes are a number below 256 ^ n
pub le_at-lt : (s : List ℕ) → Bytes s → (n at : ℕ) → le_at s at n < 256 ^ n
unfolding le_at
le_at-lt s h zero at = lit< tt
le_at-lt s h (suc n) at = rw pow-suc (omega (arith, h at, le_at-lt s h n (at + 1)))

-- reading beyond what stands in front
pub le_at-past : (p s : List ℕ) (i n : ℕ) → le_at (p ++ s) (length p + i) n ≡ le_at s i n
unfolding le_at
le_at-past p s i zero = refl
le_at-past p s i (suc n) = rw (get_or-append-add p s i 0, add_assoc (length p) i 1, le_at-past p s (i + 1) n)

-- what stands behind is not read
pub le_at-within : (s q : List ℕ) (at n : ℕ) → at + n ≤ length s → le_at (s ++ q) at n ≡ le_at s at n
unfolding le_at
le_at-within s q at zero h = refl
le_at-within s q at (suc n) h = rw (get_or-append s q 0 at (omega arith), le_at-within s q (at + 1) n (omega arith))

-- what was written reads back
pub le_at-le_bytes : (n v : ℕ) (p q : List ℕ) → le_at (p ++ (le_bytes n v ++ q)) (length p) n ≡ v % 256 ^ n
unfolding le_at le_bytes
le_at-le_bytes zero v p q = sym (mod-one v)
le_at-le_bytes (suc n) v p q =
    let byte = v % 256 in
    let behind = le_bytes n (v / 256) ++ q in
    let longer : length (p ++ (byte ∷ [])) ≡ length p + 1 = length-append p (byte ∷ []) in
    let rest = rw (append_assoc, longer) at (le_at-le_bytes n (v / 256) (p ++ (byte ∷ [])) q) in
    rw (get_or-append_seam p byte behind 0, mod-lowest n v) (omega arith)

-- ---- pieces

-- n pieces of length w
pub length-pieces : (n w : ℕ) (f : ℕ → List ℕ) → ((k : ℕ) → length (f k) ≡ w) → length (pieces n f) ≡ w * n
unfolding pieces
length-pieces zero w f h = sym (mul-zero w)
length-pieces (suc n) w f h = length-append (pieces n f) (f n) ∙ rw (length-pieces n w f h, h n, mul-suc w n)

pub bytes-pieces : (n : ℕ) (f : ℕ → List ℕ) → ((k : ℕ) → Bytes (f k)) → Bytes (pieces n f)
unfolding pieces
bytes-pieces zero f h i = bytes-none i
bytes-pieces (suc n) f h i = bytes-append (pieces n f) (f n) (bytes-pieces n f h) (h n) i

-- the first of them, and the others
pub pieces-first : (n : ℕ) (f : ℕ → List ℕ) → pieces (suc n) f ≡ f 0 ++ pieces n (λ k. f (suc k))
unfolding pieces
pieces-first zero f = sym (append-nil (f 0))
pieces-first (suc n) f = ap (λ (l : List ℕ). l ++ f (suc n)) (pieces-first n f) ∙ append_assoc (f 0) (pieces n (λ k. f (suc k))) (f (suc n))

one-piece-more : (n k : ℕ) (f : ℕ → List ℕ) (rest : List ℕ) → pieces n f ≡ pieces k f ++ (f k ++ rest) → pieces (suc n) f ≡ pieces k f ++ (f k ++ (rest ++ f n))
unfolding pieces
one-piece-more n k f rest e =
    ap (λ (l : List ℕ). l ++ f n) e ∙ append_assoc (pieces k f) (f k ++ rest) (f n) ∙ ap (λ (l : List ℕ). pieces k f ++ l) (append_assoc (f k) rest (f n))

last-piece : (n k : ℕ) (f : ℕ → List ℕ) → k ≡ n → pieces (suc n) f ≡ pieces k f ++ (f k ++ [])
unfolding pieces
last-piece n k f e = rw (e, append-nil (f n))

-- piece k stands behind the pieces before it
pub pieces-split : (n k : ℕ) (f : ℕ → List ℕ) → k < n → (rest : List ℕ) × (pieces n f ≡ pieces k f ++ (f k ++ rest))
pieces-split zero k f h = absurd (omega arith)
pieces-split (suc n) k f h = last-or-earlier (ℕ_discrete k n) (pieces-split n k f)
  where
    last-or-earlier : Dec (k ≡ n) → (k < n → (rest : List ℕ) × (pieces n f ≡ pieces k f ++ (f k ++ rest)))
        → (rest : List ℕ) × (pieces (suc n) f ≡ pieces k f ++ (f k ++ rest))
    last-or-earlier (yes e) earlier = ([], last-piece n k f e)
    last-or-earlier (no ne) earlier = let (rest, e) = earlier (omega arith) in (rest ++ f n, one-piece-more n k f rest e)
