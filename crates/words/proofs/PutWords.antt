-- The words of an answer, put into a list in the place of others. Assumes nothing.
use Prim.Native.Nat.{ℕ, ◌+◌, ◌≤◌}
use mathlib.Core.Path.{◌≡◌, refl, ap, ◌∙◌}
use mathlib.Core.Option.{Option, some, none}
use mathlib.Core.List.{List, [], ◌∷◌, ◌++◌, append_assoc, append-nil}
use native.Mathlib.Omega.{arith}
use lib.ListN.{length, length-append}
use Rattle.endian.specs.Endian.{put_at}
use Rattle.endian.proofs.Put.{put_next}
use Rattle.trace.specs.Result.{Result}
use Rattle.verdicts.specs.Told.{Told}
use Rattle.placing.specs.declared.Shown.{Shown}
use Rattle.words.specs.Layout.{answer_length, verdict_words, all_verdict_words, words_of, code_of, shown_code, shown_words}

-- a verdict has four
four-words : (v : Option Told) → length (verdict_words v) ≡ 4
four-words none = refl
four-words (some f) = refl

-- five verdicts in turn
pub five-put : (l : List ℕ) (at : ℕ) (v w x y z : Option Told) → at + 20 ≤ length l → {l1 l2 l3 l4 l5 : List ℕ}
    → l1 ≡ put_at l at (verdict_words v) → l2 ≡ put_at l1 (at + 4) (verdict_words w) → l3 ≡ put_at l2 (at + 8) (verdict_words x)
    → l4 ≡ put_at l3 (at + 12) (verdict_words y) → l5 ≡ put_at l4 (at + 16) (verdict_words z)
    → l5 ≡ put_at l at (verdict_words v ++ verdict_words w ++ verdict_words x ++ verdict_words y ++ verdict_words z)
five-put l at v w x y z room p1 p2 p3 p4 p5 =
    let a = verdict_words v in
    let b = verdict_words w in
    let c = verdict_words x in
    let d = verdict_words y in
    let e = verdict_words z in
    let n1 : length a ≡ 4 = four-words v in
    let n2 : length (a ++ b) ≡ 8 = length-append a b ∙ (let m = four-words w in omega arith) in
    let n3 : length ((a ++ b) ++ c) ≡ 12 = length-append (a ++ b) c ∙ (let m = four-words x in omega arith) in
    let n4 : length (((a ++ b) ++ c) ++ d) ≡ 16 = length-append ((a ++ b) ++ c) d ∙ (let m = four-words y in omega arith) in
    let q2 = put_next l at 4 (at + 4) a b p1 n1 refl (omega arith) p2 in
    let q3 = put_next l at 8 (at + 8) (a ++ b) c q2 n2 refl (omega arith) p3 in
    let q4 = put_next l at 12 (at + 12) ((a ++ b) ++ c) d q3 n3 refl (omega arith) p4 in
    put_next l at 16 (at + 16) (((a ++ b) ++ c) ++ d) e q4 n4 refl (omega arith) p5

five-words : (v w x y z : Option Told) → length (verdict_words v ++ verdict_words w ++ verdict_words x ++ verdict_words y ++ verdict_words z) ≡ 20
five-words v w x y z = simp (length-append, four-words v, four-words w, four-words x, four-words y, four-words z)

ten-lists : (a b c d e f g h i j : List ℕ) → (a ++ b ++ c ++ d ++ e) ++ (f ++ g ++ h ++ i ++ j) ≡ a ++ (b ++ (c ++ (d ++ (e ++ (f ++ (g ++ (h ++ (i ++ (j ++ [])))))))))
ten-lists a b c d e f g h i j = simp (append_assoc, append-nil)

-- all ten
pub ten-put : (l : List ℕ) (a b c d e f g h i j : Option Told) → answer_length ≤ length l → {l1 l2 : List ℕ}
    → l1 ≡ put_at l 4 (verdict_words a ++ verdict_words b ++ verdict_words c ++ verdict_words d ++ verdict_words e)
    → l2 ≡ put_at l1 24 (verdict_words f ++ verdict_words g ++ verdict_words h ++ verdict_words i ++ verdict_words j)
    → l2 ≡ put_at l 4 (all_verdict_words (a ∷ b ∷ c ∷ d ∷ e ∷ f ∷ g ∷ h ∷ i ∷ j ∷ []))
ten-put l a b c d e f g h i j room p q =
    put_next l 4 20 24 _ _ p (five-words a b c d e) refl (omega arith) q ∙ ap (put_at l 4) (ten-lists (verdict_words a) (verdict_words b) (verdict_words c) (verdict_words d) (verdict_words e) (verdict_words f) (verdict_words g) (verdict_words h) (verdict_words i) (verdict_words j))

-- the first four words of what was judged, and the verdicts behind them
pub judged-put : (l : List ℕ) (a b c d : ℕ) (ws : List ℕ) → answer_length ≤ length l → {l1 l2 : List ℕ} → l1 ≡ put_at l 0 (a ∷ b ∷ c ∷ d ∷ []) → l2 ≡ put_at l1 4 ws
    → l2 ≡ put_at l 0 (a ∷ b ∷ c ∷ d ∷ ws)
judged-put l a b c d ws room p q = put_next l 0 4 4 (a ∷ b ∷ c ∷ d ∷ []) ws p refl refl (omega arith) q

-- the words of an answer are those of what it is told as
pub told-words : {A : Type 0} (found : A → List ℕ) {t u : Result A} → u ≡ t → (l after : List ℕ) (r : ℕ) → r ≡ code_of u → after ≡ put_at l 0 (words_of found u)
    → (r ≡ code_of t) × (after ≡ put_at l 0 (words_of found t))
told-words found e l after r p q = (p ∙ ap code_of e, q ∙ ap (λ x. put_at l 0 (words_of found x)) e)

-- the same of the answer for an image, whose codes are not those of a refusal alone
pub told-shown : {t u : Result Shown} → u ≡ t → (l after : List ℕ) (r : ℕ) → r ≡ shown_code u → after ≡ put_at l 0 (shown_words u)
    → (r ≡ shown_code t) × (after ≡ put_at l 0 (shown_words t))
told-shown e l after r p q = (p ∙ ap shown_code e, q ∙ ap (λ x. put_at l 0 (shown_words x)) e)
