-- Laws of bytes put into a list in the place of others, over their number. Assumes nothing.
use Prim.Native.Nat.{ℕ, ◌+◌, ◌-◌, ◌/◌, ◌%◌, ◌^◌, ◌≤◌}
use mathlib.Core.Path.{◌≡◌, refl, sym, ap, ◌∙◌, subst}
use mathlib.Core.List.{List, [], ◌++◌, append_assoc, append-nil}
use native.Mathlib.Omega.{arith}
use native.Mathlib.Nat.{le_of_eq, add-zero, zero-add, add_assoc}
use native.Mathlib.Numerals.{add-one}
use lib.ListN.{length, take, drop, length-append, length-drop, take-append-drop, drop_of_length-le}
use lib.Seq.{take_all, take_at, drop-append-add, drop-drop, length-take-le}
use borrow.Rule.Slice.PartMut.{put_mid}
use Rattle.std.proofs.lemmas.List.{drop-append-le}
use Rattle.endian.specs.Endian.{le_bytes, put_at, pieces}
use Rattle.endian.proofs.Laws.{length-le_bytes, le_bytes-add, le_bytes-mod}

-- no bytes change nothing
pub put-none : (d : List ℕ) (at : ℕ) → d ≡ put_at d at []
put-none d at = rw (add-zero at, append-nil (take at d)) (sym (take-append-drop at d))

module _ (d : List ℕ) (at : ℕ) where
  -- the list stays as long as it was
  pub length-put : (a : List ℕ) → at + length a ≤ length d → length (put_at d at a) ≡ length d
  length-put a h = simp (length-append, length-take-le at d (omega arith), length-drop) (omega arith)

  -- bytes, and other bytes behind them
  pub put-put : (a b : List ℕ) → at + length a ≤ length d → put_at (put_at d at a) (at + length a) b ≡ put_at d at (a ++ b)
  put-put a b h =
      let front = take at d ++ a in
      let rest = drop (at + length a) d in
      let l : length front ≡ at + length a = simp (length-append, length-take-le at d (omega arith)) in
      let e : drop (at + length a + length b) (front ++ rest) ≡ drop (at + length a + length b) d =
      ap (λ k. drop (k + length b) (front ++ rest)) (sym l) ∙ drop-append-add front rest (length b) ∙ drop-drop (length b) (at + length a) d in
      rw (take_at front rest (at + length a) l, e, append_assoc (take at d) a b, length-append a b, ← add_assoc at (length a) (length b))

  -- the same, with the number of the first bytes given
  pub put_then : (a b : List ℕ) (k : ℕ) → length a ≡ k → at + k ≤ length d → put_at (put_at d at a) (at + k) b ≡ put_at d at (a ++ b)
  put_then a b k e h =
      subst (λ (j : ℕ). put_at (put_at d at a) (at + j) b ≡ put_at d at (a ++ b)) e (put-put a b (omega arith))

  -- a number of m + k bytes is put as one of m and one of k
  pub put-number : (m k v : ℕ) → at + m ≤ length d
      → put_at (put_at d at (le_bytes m (v % 256 ^ m))) (at + m) (le_bytes k (v / 256 ^ m)) ≡ put_at d at (le_bytes (m + k) v)
  put-number m k v h =
      rw (le_bytes-mod m v, le_bytes-add m k v) (put_then (le_bytes m v) (le_bytes k (v / 256 ^ m)) m (length-le_bytes m v) h)

  -- bytes put at the start of the part from `at` on
  put-in-part : (a : List ℕ) → at + length a ≤ length d → take at d ++ put_at (drop at d) 0 a ≡ put_at d at a
  put-in-part a h = rw (zero-add (length a), drop-drop (length a) at d, append_assoc (take at d) a (drop (at + length a) d))

  -- the part from `at` on was lent, came back with bytes at its start, and is put back
  pub part-back : (a : List ℕ) → at + length a ≤ length d
      → take at d ++ (put_at (take (length d - at) (drop at d)) 0 a ++ drop (length d - at) (drop at d)) ≡ put_at d at a
  part-back a h =
      let l : length (drop at d) ≤ length d - at = le_of_eq (length-drop at d) in
      rw (take_all (length d - at) (drop at d) l, drop_of_length-le (drop at d) l, append-nil (put_at (drop at d) 0 a)) (put-in-part a h)

-- what is put at the start of the first n places of a list is put at the start of the list
pub put-front : (n : ℕ) (d a : List ℕ) → length a ≤ n → n ≤ length d → put_at (take n d) 0 a ++ drop n d ≡ put_at d 0 a
put-front n d a few room =
    append_assoc a (drop (0 + length a) (take n d)) (drop n d)
    ∙ ap (λ (l : List ℕ). a ++ l)
    (sym (drop-append-le (0 + length a) (take n d) (drop n d) (omega (arith, length-take-le n d room))) ∙ ap (drop (0 + length a)) (take-append-drop n d))

-- ---- one behind the other

-- bytes put behind those that stand there
pub put_next : (d : List ℕ) (at k place : ℕ) (a b : List ℕ) {present after : List ℕ}
    → present ≡ put_at d at a → length a ≡ k → at + k ≡ place → place ≤ length d
    → after ≡ put_at present place b → after ≡ put_at d at (a ++ b)
put_next d at k place a b stands long e room put =
    put ∙ ap (λ l. put_at l place b) stands ∙ ap (λ p. put_at (put_at d at a) p b) (sym e) ∙ put_then d at a b k long (omega arith)

-- a turn of a loop: one piece more, behind the i pieces that stand there
pub put-piece : (d : List ℕ) (at i w : ℕ) (f : ℕ → List ℕ) {present after piece : List ℕ}
    → present ≡ put_at d at (pieces i f) → length (pieces i f) ≡ w → at + w ≤ length d
    → after ≡ put_at present (at + w) piece → piece ≡ f i
    → after ≡ put_at d at (pieces (i + 1) f)
unfolding pieces
put-piece d at i w f {present} stands long room put is =
    put_next d at w (at + w) (pieces i f) (f i) stands long refl room (put ∙ ap (λ l. put_at present (at + w) l) is)
    ∙ ap (λ j. put_at d at (pieces j f)) (sym (add-one i))

-- the same where the part from the end of the pieces on was lent, and came back with the piece at its start
pub put-lent : (d : List ℕ) (start k w at : ℕ) (f : ℕ → List ℕ) {present part : List ℕ}
    → present ≡ put_at d start (pieces k f) → length (pieces k f) ≡ w → at ≡ start + w → at ≤ length d → at + length (f k) ≤ length present
    → part ≡ put_at (take (length present - at) (drop at present)) 0 (f k)
    → put_mid at (length present - at) present part ≡ put_at d start (pieces (k + 1) f)
put-lent d start k w at f {present} stands long end within room back =
    put-piece d start k w f stands long (omega arith)
    (ap (put_mid at (length present - at) present) back ∙ part-back present at (f k) room ∙ ap (λ p. put_at present p (f k)) end)
    refl
