-- An order or a ring as a line of text: `order` and the numbers of the commits, or `ring` and those of the ring, "in decimal with a space before each". Assumes
-- nothing.
use Rattle.std.specs.Prelude.{ℕ, ◌+◌, ◌*◌, List, [], ◌∷◌, ◌++◌, map, leb, length, take}
use Rattle.search.specs.Choose.{need}
use Rattle.text.specs.Ascii.{ascii, space, line_feed}
use Rattle.text.specs.Decimal.{decimal}
use Rattle.text.specs.Lines.{word, number, line}
use Rattle.text.specs.Put.{most_digits}
use Rattle.store.specs.Limits.{max_commits}
use Rattle.ordering.specs.Judge as Judge
use Rattle.placing.specs.declared.Shown.{Shown}
use Rattle.placing.specs.declared.Shown.TheVariants.{Order, Ring}

-- order 1 2
abbrev pub shown_line : Judge.Shown → List ℕ
shown_line (Judge.order xs) = line (word "order" ∷ map number xs)
shown_line (Judge.ring xs) = line (word "ring" ∷ map number xs)

-- ---- how it is written

-- the numbers, a space before each
unfoldable pub numbers_text : List ℕ → List ℕ
numbers_text [] = []
numbers_text (x ∷ xs) = (space ∷ decimal x) ++ numbers_text xs

abbrev pub longest_word : ℕ
longest_word = 5

abbrev pub longest_number : ℕ
longest_number = 1 + most_digits

-- the word, 63 numbers and a line feed
abbrev pub longest_line : ℕ
longest_line = longest_word + (longest_number * max_commits + 1)

-- a word and the first n commits as a line in so much room, or nothing where it does not fit
unfoldable pub line_in : ℕ → List ℕ → List ℕ → ℕ → List ℕ
line_in room name commits n =
    need (leb longest_line room) []
    (need (leb n (length commits)) []
    (need (leb n max_commits) []
    (name ++ (numbers_text (take n commits) ++ (line_feed ∷ [])))))

-- the line of what is shown, given its commits; proofs/Lines.antt shows that it is `shown_line`
abbrev pub line_for : ℕ → Shown → List ℕ → List ℕ
line_for room (Order n) commits = line_in room (ascii "order") commits n
line_for room (Ring n) commits = line_in room (ascii "ring") commits n
