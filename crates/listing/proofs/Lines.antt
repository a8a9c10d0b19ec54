-- The line of an order or a ring, and the numbers of it put one behind the other. Assumes nothing.
use Prim.Native.Nat.{ℕ, ◌+◌, ◌≤◌, ◌<◌}
use mathlib.Core.Path.{◌≡◌, refl, sym, ap, ◌∙◌, subst}
use mathlib.Core.List.{List, [], ◌∷◌, ◌++◌, map, append_assoc, append-nil}
use native.Mathlib.Omega.{arith}
use native.Mathlib.Numerals.{add-one}
use lib.ListN.{length, get_or, take}
use lib.Seq.{take-suc, take-length}
use Rattle.search.proofs.Steps.{tests, need-met}
use Rattle.text.specs.Ascii.{ascii, space, line_feed}
use Rattle.text.specs.Decimal.{decimal}
use Rattle.text.specs.Lines.{number, line}
use Rattle.text.specs.Put.{Put}
use Rattle.text.proofs.Put.{put_both}
use Rattle.store.specs.Limits.{max_commits}
use Rattle.ordering.specs.Judge as Judge
use Rattle.ordering.specs.Judge.{shown_commits}
use Rattle.placing.specs.Answers.{shown_as}
use Rattle.listing.specs.Line.{shown_line, numbers_text, longest_line, line_in, line_for}

-- the numbers, and one more
numbers-last : (xs : List ℕ) (x : ℕ) → numbers_text (xs ++ (x ∷ [])) ≡ numbers_text xs ++ (space ∷ decimal x)
unfolding numbers_text
numbers-last [] x = append-nil (space ∷ decimal x)
numbers-last (y ∷ xs) x = ap (λ (t : List ℕ). (space ∷ decimal y) ++ t) (numbers-last xs x) ∙ sym (append_assoc (space ∷ decimal y) (numbers_text xs) (space ∷ decimal x))

-- a turn of the loop
pub put-next-number : (commits : List ℕ) (i : ℕ) {before present after : List ℕ} {at to end : ℕ} → Put before at (numbers_text (take i commits)) present to → i < length commits
    → Put present to (space ∷ decimal (get_or commits i 0)) after end → Put before at (numbers_text (take (i + 1) commits)) after end
put-next-number commits i {before} {present} {after} {at} {to} {end} p l q =
    subst (λ (t : List ℕ). Put before at t after end)
    (sym (ap (λ (k : ℕ). numbers_text (take k commits)) (add-one i) ∙ ap numbers_text (take-suc commits i 0 l) ∙ numbers-last (take i commits) (get_or commits i 0))) (put_both p q)

-- ---- the line

line-numbers : (x : ℕ) (xs : List ℕ) → line (number x ∷ map number xs) ≡ decimal x ++ (numbers_text xs ++ (line_feed ∷ []))
unfolding numbers_text
line-numbers x [] = refl
line-numbers x (y ∷ xs) =
    ap (λ (t : List ℕ). decimal x ++ (space ∷ t)) (line-numbers y xs)
    ∙ ap (λ (t : List ℕ). decimal x ++ (space ∷ t)) (sym (append_assoc (decimal y) (numbers_text xs) (line_feed ∷ [])))

abbrev word_line : List ℕ → List ℕ → List ℕ
word_line w [] = w ++ (line_feed ∷ [])
word_line w (x ∷ xs) = w ++ (space ∷ line (number x ∷ map number xs))

word-line-is : (w xs : List ℕ) → w ++ (numbers_text xs ++ (line_feed ∷ [])) ≡ word_line w xs
unfolding numbers_text
word-line-is w [] = refl
word-line-is w (x ∷ xs) =
    ap (λ (t : List ℕ). w ++ (space ∷ t)) (append_assoc (decimal x) (numbers_text xs) (line_feed ∷ []) ∙ sym (line-numbers x xs))

-- where it fits
line-fits : (name commits : List ℕ) (n room : ℕ) → longest_line ≤ room → n ≤ length commits → n ≤ max_commits
    → name ++ (numbers_text (take n commits) ++ (line_feed ∷ [])) ≡ line_in room name commits n
unfolding line_in
line-fits name commits n room w l m = need-met _ _ _ (omega tests) (need-met _ _ _ (omega tests) (need-met _ _ _ (omega tests) refl))

fits : (name xs : List ℕ) (room : ℕ) → longest_line ≤ room → length xs ≤ max_commits → line_in room name xs (length xs) ≡ name ++ (numbers_text xs ++ (line_feed ∷ []))
fits name xs room wide few = sym (line-fits name xs (length xs) room wide (omega arith) few) ∙ ap (λ (t : List ℕ). name ++ (numbers_text t ++ (line_feed ∷ []))) (take-length xs)

-- so what is written for an order or a ring, with its own commits, is its line
pub line-is : (s : Judge.Shown) (room : ℕ) → longest_line ≤ room → length (shown_commits s) ≤ max_commits → line_for room (shown_as s) (shown_commits s) ≡ shown_line s
line-is (Judge.order xs) room wide few = fits (ascii "order") xs room wide few ∙ word-line-is (ascii "order") xs ∙ order-line xs
  where
    order-line : (ys : List ℕ) → word_line (ascii "order") ys ≡ shown_line (Judge.order ys)
    order-line [] = refl
    order-line (y ∷ ys) = refl
line-is (Judge.ring xs) room wide few = fits (ascii "ring") xs room wide few ∙ word-line-is (ascii "ring") xs ∙ ring-line xs
  where
    ring-line : (ys : List ℕ) → word_line (ascii "ring") ys ≡ shown_line (Judge.ring ys)
    ring-line [] = refl
    ring-line (y ∷ ys) = refl
