-- What stands at a place of a file: a list of bytes with something before it and something after it. Readers of a written file
-- are proved by taking what stands there apart, piece by piece, so that none of them speaks of the rest. Assumes nothing.
use Prim.Native.Nat.{ℕ, ◌+◌, ◌*◌, ◌%◌, ◌^◌, ◌≤◌, ◌<◌}
use mathlib.Core.Path.{◌≡◌, refl, sym, ap, ◌∙◌, subst}
use mathlib.Core.List.{List, [], ◌++◌, append_assoc, append-nil}
use native.Mathlib.Omega.{arith}
use native.Mathlib.Nat.{mod-eq_of_lt}
use lib.ListN.{length, length-append}
use Rattle.endian.specs.Endian.{le_at, le_bytes, pieces}
use Rattle.endian.proofs.Laws.{length-le_bytes, le_at-le_bytes, length-pieces, pieces-split}

-- the bytes b stand at `at` in s
pub record Stands (s : List ℕ) (at : ℕ) (b : List ℕ) : Type 0 where
  pub before : List ℕ
  pub after : List ℕ
  pub place : length before ≡ at
  pub split : s ≡ before ++ (b ++ after)

-- a file stands at its own start
pub stands-whole : (s : List ℕ) → Stands s 0 s
stands-whole s = record { before = []; after = []; place = refl; split = sym (append-nil s) }

-- between what is before and what is after
pub stands-between : (p b q : List ℕ) → Stands (p ++ (b ++ q)) (length p) b
stands-between p b q = record { before = p; after = q; place = refl; split = refl }

-- the same place in other words
pub stands_at : {s b : List ℕ} {at place : ℕ} → at ≡ place → Stands s at b → Stands s place b
stands_at e h = record { before = h.before; after = h.after; place = h.place ∙ e; split = h.split }

module _ {s : List ℕ} {at : ℕ} where
  -- the same bytes in other words
  pub stands-as : {b c : List ℕ} → b ≡ c → Stands s at b → Stands s at c
  stands-as e h = subst (λ (l : List ℕ). Stands s at l) e h

  -- it ends within the file
  pub stands-within : {b : List ℕ} → Stands s at b → at + length b ≤ length s
  stands-within {b} h =
      let whole : length s ≡ length h.before + (length b + length h.after) =
      ap length h.split ∙ length-append h.before (b ++ h.after) ∙ ap (λ k. length h.before + k) (length-append b h.after) in
      let front = h.place in
      omega arith

  -- the first part of what stands there
  pub stands-first : (a b : List ℕ) → Stands s at (a ++ b) → Stands s at a
  stands-first a b h = record {
    before = h.before;
    after = b ++ h.after;
    place = h.place;
    split = h.split ∙ ap (λ (l : List ℕ). h.before ++ l) (append_assoc a b h.after);
  }

  -- the second part, behind the first
  pub stands-second : (a b : List ℕ) → Stands s at (a ++ b) → Stands s (at + length a) b
  stands-second a b h = record {
    before = h.before ++ a;
    after = h.after;
    place = length-append h.before a ∙ ap (λ k. k + length a) h.place;
    split = h.split ∙ ap (λ (l : List ℕ). h.before ++ l) (append_assoc a b h.after) ∙ sym (append_assoc h.before a (b ++ h.after));
  }

-- ---- numbers and pieces

module _ {s : List ℕ} {at : ℕ} where
  -- what stands behind a number
  pub stands-behind : (n v : ℕ) (b : List ℕ) (place : ℕ) → at + n ≡ place → Stands s at (le_bytes n v ++ b) → Stands s place b
  stands-behind n v b place e h = stands_at (ap (λ k. at + k) (length-le_bytes n v) ∙ e) (stands-second (le_bytes n v) b h)

  -- one of several pieces of one length
  pub stands-piece : (n w k : ℕ) (f : ℕ → List ℕ) → ((j : ℕ) → length (f j) ≡ w) → k < n → Stands s at (pieces n f) → Stands s (at + w * k) (f k)
  stands-piece n w k f l h all =
      let (rest, e) = pieces-split n k f h in
      stands-first (f k) rest
      (stands_at (ap (λ j. at + j) (length-pieces k w f l))
      (stands-second (pieces k f) (f k ++ rest) (stands-as e all)))

  -- a number that stands there is read there
  pub read_number : (n v : ℕ) → Stands s at (le_bytes n v) → le_at s at n ≡ v % 256 ^ n
  read_number n v h =
      ap (λ (l : List ℕ). le_at l at n) h.split ∙ ap (λ k. le_at (h.before ++ (le_bytes n v ++ h.after)) k n) (sym h.place)
      ∙ le_at-le_bytes n v h.before h.after

  -- as it is, where its width is enough
  pub read-fitting : (n v : ℕ) → v < 256 ^ n → Stands s at (le_bytes n v) → le_at s at n ≡ v
  read-fitting n v fits h = read_number n v h ∙ mod-eq_of_lt fits

  -- also with something behind it
  pub read_first : (n v : ℕ) (b : List ℕ) → v < 256 ^ n → Stands s at (le_bytes n v ++ b) → le_at s at n ≡ v
  read_first n v b fits h = read-fitting n v fits (stands-first (le_bytes n v) b h)

-- one of several numbers of one width reads back
pub le_at-pieces : (n w k : ℕ) (g : ℕ → ℕ) (p q : List ℕ) → k < n
    → le_at (p ++ (pieces n (λ j. le_bytes w (g j)) ++ q)) (length p + w * k) w ≡ g k % 256 ^ w
le_at-pieces n w k g p q h =
    read_number w (g k) (stands-piece n w k (λ j. le_bytes w (g j)) (λ j. length-le_bytes w (g j)) h (stands-between p _ q))
