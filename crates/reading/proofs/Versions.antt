-- A pass over the versions of a key: what was tested of each, and the sets and the count that were kept. Assumes nothing.
use Prim.Native.Nat.{ℕ, suc, ◌+◌, ◌*◌, ◌≤◌, ◌<◌}
use mathlib.Core.Path.{◌≡◌, refl, sym, ap, ap₂, ◌∙◌}
use mathlib.Core.Logic.{◌↔◌}
use mathlib.Core.List.{List}
use native.Mathlib.Omega.{arith}
use native.Mathlib.Numerals.{add-one}
use native.Mathlib.Decide.{ℕ_discrete}
use lib.Bits.{bit_and}
use Rattle.sets.specs.Set.{single, insert, union, without, size}
use Rattle.sets.proofs.Algebra.{single-word}
use Rattle.endian.specs.Endian.{Bytes, le_at}
use Rattle.endian.proofs.Laws.{le_at-lt}
use Rattle.store.specs.Limits.{max_commits}
use Rattle.ordering.specs.Shape.{commit_set}
use Rattle.reading.specs.Parts.{writer_at, readers_at, VersionsFit}
use Rattle.reading.proofs.Ones.{gathered, counted, gathered-suc, counted-suc, ones-count, counted-singles, singles-apart}
use Rattle.reading.proofs.Entries.{byte-and-zeros, byte-alone}

-- what is tested of one version
pub record OneFits (b : List ℕ) (base commits i : ℕ) : Type 0 where
  pub spare : le_at b (base + 16 * i + 5) 3 ≡ 0
  pub writer : writer_at b base i ≤ commits
  pub readers : without (readers_at b base i) (commit_set commits) ≡ 0

-- the first n passed the tests, and what was kept of them
pub record Passed (b : List ℕ) (base commits n writers readers count : ℕ) : Type 0 where
  pub each : (i : ℕ) → i < n → OneFits b base commits i
  pub all-writers : writers ≡ gathered n (λ i. single (writer_at b base i))
  pub all-readers : readers ≡ gathered n (readers_at b base)
  pub all-counted : count ≡ counted n (readers_at b base)

one-writer-more : (i : ℕ) (w : ℕ → ℕ) → insert (w i) (gathered i (λ j. single (w j))) ≡ gathered (i + 1) (λ j. single (w j))
unfolding union
one-writer-more i w = sym (gathered-suc i (λ j. single (w j))) ∙ ap (λ (n : ℕ). gathered n (λ j. single (w j))) (sym (add-one i))

pub passed_none : (b : List ℕ) (base commits : ℕ) → Passed b base commits 0 0 0 0
unfolding gathered counted
passed_none b base commits = record { each = λ i l. absurd (omega arith); all-writers = refl; all-readers = refl; all-counted = refl }

module _ (b : List ℕ) (base commits : ℕ) where
  -- ---- one version

  -- the place of a version's writer, its spare bytes and its readers, counted from the version's own
  spare-place : (i : ℕ) → base + 16 * i + 4 + 1 ≡ base + 16 * i + 5
  spare-place i = omega arith

  module _ (few : commits ≤ max_commits) (i : ℕ) {at w read among : ℕ} (e : at ≡ base + 16 * i) (f : w ≡ le_at b (at + 4) 4) (g : read ≡ le_at b (at + 8) 8) (s : among ≡ commit_set commits) where
    small-writer : (le_at b (base + 16 * i + 4) 4 < suc commits) ↔ ((writer_at b base i < suc commits) × (le_at b (base + 16 * i + 4 + 1) 3 ≡ 0))
    small-writer = byte-and-zeros b (base + 16 * i + 4) (suc commits) (omega arith)

    writer-read : w ≡ le_at b (base + 16 * i + 4) 4
    writer-read = f ∙ ap (λ (p : ℕ). le_at b (p + 4) 4) e

    readers-read : read ≡ readers_at b base i
    readers-read = g ∙ ap (λ (p : ℕ). le_at b (p + 8) 8) e

    pub one-fits : w ≤ commits → without read among ≡ 0 → OneFits b base commits i
    one-fits l h =
        let x = small-writer.0 (omega (arith, writer-read)) in record {
          spare = ap (λ (p : ℕ). le_at b p 3) (sym (spare-place i)) ∙ x.1;
          writer = omega (arith, x.0);
          readers = ap₂ without (sym readers-read) (sym s) ∙ h;
        }

    pub writer-fits : OneFits b base commits i → w ≤ commits
    writer-fits h = let l = h.writer in omega (arith, writer-read, small-writer.1 (omega arith, ap (λ (p : ℕ). le_at b p 3) (spare-place i) ∙ h.spare))

    -- the writer, where it fits
    pub writer-is : OneFits b base commits i → w ≡ writer_at b base i
    writer-is h =
        let z : le_at b (base + 16 * i + 4 + 1) 3 ≡ 0 = ap (λ (p : ℕ). le_at b p 3) (spare-place i) ∙ h.spare in
        writer-read ∙ whole z
      where
        whole : le_at b (base + 16 * i + 4 + 1) 3 ≡ 0 → le_at b (base + 16 * i + 4) 4 ≡ writer_at b base i
        whole z = byte-alone b (base + 16 * i + 4) z

    pub passed-more : {writers readers count writers' readers' count' : ℕ} → w ≤ commits → without read among ≡ 0 → Passed b base commits i writers readers count
        → writers' ≡ insert w writers → readers' ≡ union readers read → count' ≡ count + size read → Passed b base commits (i + 1) writers' readers' count'
    passed-more l h p q r t =
        let here = one-fits l h in record {
          each = λ j m. go here j m (ℕ_discrete j i);
          all-writers = q ∙ ap₂ insert (writer-is here) p.all-writers ∙ one-writer-more i (writer_at b base);
          all-readers = r ∙ ap₂ union p.all-readers readers-read ∙ sym (gathered-suc i (readers_at b base)) ∙ ap (λ (n : ℕ). gathered n (readers_at b base)) (sym (add-one i));
          all-counted = t ∙ ap₂ (λ (x y : ℕ). x + size y) p.all-counted readers-read ∙ sym (counted-suc i (readers_at b base)) ∙ ap (λ (n : ℕ). counted n (readers_at b base)) (sym (add-one i));
        }
      where
        go : OneFits b base commits i → (j : ℕ) → j < i + 1 → Dec (j ≡ i) → OneFits b base commits j
        go here j m (yes x) = rw x here
        go here j m (no x) = p.each j (omega arith)

  -- ---- all of them

  pub fits_each : {n : ℕ} → VersionsFit b base n commits → (i : ℕ) → i < n → OneFits b base commits i
  fits_each v i l = record { spare = v.spare i l; writer = v.writer i l; readers = v.readers i l }

  module _ (bytes : Bytes b) (few : commits ≤ max_commits) (n : ℕ) {writers readers count : ℕ} (p : Passed b base commits n writers readers count) where
    writers_apart : (size (gathered n (λ i. single (writer_at b base i))) ≡ counted n (λ i. single (writer_at b base i))) ↔ ((i j : ℕ) → i < j → j < n → bit_and (single (writer_at b base i)) (single (writer_at b base j)) ≡ 0)
    writers_apart = ones-count (λ i. single (writer_at b base i)) n (λ i l. single-word (writer_at b base i) (omega (arith, (p.each i l).writer))) n (omega arith)

    readers_apart : (size (gathered n (readers_at b base)) ≡ counted n (readers_at b base)) ↔ ((i j : ℕ) → i < j → j < n → bit_and (readers_at b base i) (readers_at b base j) ≡ 0)
    readers_apart = ones-count (readers_at b base) n (λ i l. le_at-lt b bytes 8 (base + 16 * i + 8)) n (omega arith)

    writers-size : size writers ≡ size (gathered n (λ i. single (writer_at b base i)))
    writers-size = ap size p.all-writers

    pub fits-done : size writers ≡ n → size readers ≡ count → VersionsFit b base n commits
    fits-done w r = record {
      spare = λ i l. (p.each i l).spare;
      writer = λ i l. (p.each i l).writer;
      readers = λ i l. (p.each i l).readers;
      writes-once = λ i j l m. (singles-apart (writer_at b base i) (writer_at b base j)).0 (writers_apart.0 (sym writers-size ∙ w ∙ sym (counted-singles n (writer_at b base))) i j l m);
      reads-once = readers_apart.0 (ap size (sym p.all-readers) ∙ r ∙ p.all-counted);
    }

    pub done-writers : VersionsFit b base n commits → size writers ≡ n
    done-writers v =
        writers-size ∙ writers_apart.1 (λ i j l m. (singles-apart (writer_at b base i) (writer_at b base j)).1 (v.writes-once i j l m)) ∙ counted-singles n (writer_at b base)

    pub done-readers : VersionsFit b base n commits → size readers ≡ count
    done-readers v = ap size p.all-readers ∙ readers_apart.1 v.reads-once ∙ sym p.all-counted
