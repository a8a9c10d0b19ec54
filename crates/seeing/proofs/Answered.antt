-- What the definitions answer in each of the cases that the call comes to, from what the judge answered. Assumes nothing.
use Prim.Native.Nat.{ℕ, suc, ◌≤◌, ◌<◌}
use mathlib.Core.Path.{◌≡◌, refl, sym, ap, ◌∙◌, subst}
use mathlib.Core.List.{List, [], ◌∷◌}
use native.Mathlib.Omega.{arith}
use lib.Dec.{T}
use lib.ListN.{length, take}
use Rattle.search.proofs.Choose.{need-taken}
use Rattle.sets.specs.Set.{Set}
use Rattle.endian.specs.Endian.{Bytes, put_at}
use Rattle.endian.proofs.Laws.{length-pieces}
use Rattle.store.specs.Store.{Store}
use Rattle.store.specs.Refusal.{Refusal, refuse}
use Rattle.store.specs.Image.{image}
use Rattle.store.specs.Reading.{image_commits, store_of}
use Rattle.trace.specs.Result.{Result, refused, taken, on_taken}
use Rattle.trace.specs.Format.{Trace}
use Rattle.trace.proofs.Result.{refused-taken, taken-injective, on_taken-taken}
use Rattle.answer.specs.Output.{Output, answer_in}
use Rattle.answer.specs.Answer.{final_store, accept, Report, report, judged, answer, image_after}
use Rattle.answer.specs.Recorded.{ImageSays}
use Rattle.answer.proofs.Output.{Ends, ends-short, ends-written, answered-made, stands-written}
use Rattle.reading.specs.Shape.{well_shaped}
use Rattle.arranging.specs.Answer.{shown_for}
use Rattle.arranging.proofs.Claim.{image-claim}
use Rattle.judging.specs.Answers.{Judged, judged_of, told_answer}
use Rattle.visible.specs.Visible.{row, rows}
use Rattle.seeing.specs.Answer.{reported, visibility_answer, table_after}

-- what is answered for a file, and what then stands in the table
pub record Answers (bytes : List ℕ) (room : ℕ) (table : List Set) (told : Result Judged) (after : List Set) : Type 0 where
  pub said : told ≡ visibility_answer bytes room (length table)
  pub left : after ≡ table_after bytes room table

length-rows : (s : Store) → length (rows s) ≡ s.commits
unfolding rows
length-rows s = length-pieces s.commits 1 (λ i. row s (suc i) ∷ []) (λ i. refl) ∙ omega arith

-- ---- what the judge told

-- what was judged is of a trace that was taken, and there was room for its image
pub record JudgedOf (bytes : List ℕ) (room : ℕ) (j : Judged) (t : Trace) : Type 0 where
  pub accepted : accept bytes ≡ taken t
  pub commits : j.commits ≡ (final_store t).commits
  pub whole : j.image_length ≡ length (image (final_store t))
  pub fits : length (image (final_store t)) ≤ room

pub judged-of : (bytes : List ℕ) (room : ℕ) (j : Judged) → told_answer bytes room ≡ taken j → (t : Trace) × JudgedOf bytes room j t
unfolding told_answer answer judged report
judged-of bytes room j e =
    let (r, said, is-judged) = on_taken-taken (answer bytes room) (λ (r : Report). taken (judged_of r)) e in
    let (o, made, told, fits) = answered-made 15 (judged bytes) room r said in
    let (t, read, is_made) = on_taken-taken (accept bytes) (λ (t : Trace). taken (record { told = report t; bytes = image (final_store t) })) made in
    (t, known r o t told (taken-injective is-judged) (taken-injective is_made) read fits)
  where
    known : (r : Report) (o : Output Report) (t : Trace) → o.told ≡ r → judged_of r ≡ j → record { told = report t; bytes = image (final_store t) } ≡ o
        → accept bytes ≡ taken t → length o.bytes ≤ room → JudgedOf bytes room j t
    known r o t told is-judged is_made read fits =
        let is-report : report t ≡ r = ap (λ (x : Output Report). x.told) is_made ∙ told in
        let same : judged_of (report t) ≡ j = ap judged_of is-report ∙ is-judged in record {
          accepted = read;
          commits = ap (λ (x : Judged). x.commits) (sym same);
          whole = ap (λ (x : Judged). x.image_length) (sym same);
          fits = subst (λ (x : Output Report). length x.bytes ≤ room) (sym is_made) fits;
        }

-- ---- the image that then stands in the buffer

module _ (bytes : List ℕ) {room : ℕ} {j : Judged} (t : Trace) (of : JudgedOf bytes room j t) where
  pub image-there : (buffer : List ℕ) → room ≡ length buffer → take j.image_length (image_after bytes buffer) ≡ image (final_store t)
  unfolding judged on_taken
  image-there buffer e =
      ap (λ (n : ℕ). take n (image_after bytes buffer)) of.whole
      ∙ stands-written (judged bytes) buffer (record { told = report t; bytes = image (final_store t) }) (rw of.accepted refl) (omega (arith, of.fits, e))

  pub image-shaped : {stands : List ℕ} → Bytes bytes → stands ≡ image (final_store t) → T (well_shaped stands)
  unfolding shown_for
  image-shaped b q =
      let (shown, f) = (image-claim (image (final_store t))).of-trace t (bytes, b, of.accepted, refl) in
      subst (λ (x : List ℕ). T (well_shaped x)) (sym q) (need-taken (well_shaped (image (final_store t))) _ _ refused-taken f).0

  pub store_said : {stands : List ℕ} → ImageSays bytes → stands ≡ image (final_store t) → store_of stands ≡ final_store t
  store_said says q = ap store_of q ∙ (says t of.accepted).says

  pub commits-said : {stands : List ℕ} → ImageSays bytes → stands ≡ image (final_store t) → image_commits stands ≡ j.commits
  unfolding store_of
  commits-said says q = ap (λ (x : Store). x.commits) (store_said says q) ∙ sym of.commits

-- ---- the answers

module _ (bytes : List ℕ) (room : ℕ) (table : List Set) where
  answers : {told : Result Judged} {after : List Set} → Ends 21 (reported bytes room) table told after → Answers bytes room table told after
  unfolding visibility_answer
  answers e = record { said = e.said; left = e.left }

  -- "after every refusal of the judge": it is the answer, however many rows there are
  pub judge-first : (r : Refusal) → told_answer bytes room ≡ refused r → (most : ℕ) → visibility_answer bytes room most ≡ refused r
  unfolding visibility_answer answer_in reported on_taken
  judge-first r e most = rw e refl

  module _ (j : Judged) (e : told_answer bytes room ≡ taken j) (t : Trace) (of : JudgedOf bytes room j t) where
    abbrev output : Output Judged
    output = record { told = j; bytes = rows (final_store t) }

    made : reported bytes room ≡ taken output
    unfolding reported on_taken
    made = rw (e, of.accepted) refl

    long : length (rows (final_store t)) ≡ j.commits
    long = length-rows (final_store t) ∙ sym of.commits

    -- code 21
    pub short-answer : length table < j.commits → Answers bytes room table (refused (refuse 21 0)) table
    short-answer l = answers (ends-short 21 table output made (omega (arith, long)))

    -- the rows of the store that the image says were put into the table
    pub whole-answer : {after : List Set} {said : Store} → said ≡ final_store t → j.commits ≤ length table → after ≡ put_at table 0 (rows said) → Answers bytes room table (taken j) after
    whole-answer q l f =
        let a = answers (ends-written 21 table output made (omega (arith, long))) in
        record { said = a.said; left = f ∙ ap (λ (x : Store). put_at table 0 (rows x)) q ∙ a.left }
