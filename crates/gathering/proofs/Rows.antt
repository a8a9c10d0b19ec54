-- A row that is gathered from an image is that of the store that it says, and rows that are put into a table in turn. Assumes nothing.
use Prim.Native.Nat.{ℕ, suc, ◌+◌, ◌-◌, ◌*◌, ◌≤◌, ◌<◌}
use mathlib.Core.Path.{◌≡◌, refl, sym, ap, ap₂, ◌∙◌, subst}
use mathlib.Core.Logic.{◌↔◌}
use mathlib.Core.List.{List, [], ◌∷◌, ◌++◌}
use native.Mathlib.Omega.{arith}
use native.Mathlib.Decide.{dec_lt}
use native.Mathlib.Nat.{mul-zero, mul-suc, mul-le-mul_left}
use native.Mathlib.Numerals.{add-one}
use lib.Dec.{T}
use lib.ListN.{length, set, take, drop}
use lib.Seq.{sets-eq}
use Rattle.search.proofs.Tests.{same_test}
use Rattle.sets.specs.Set.{Set, has, without}
use Rattle.sets.proofs.Laws.{single-has, single-only}
use Rattle.sets.proofs.Algebra.{without_is, same-sets}
use Rattle.endian.specs.Endian.{put_at, pieces}
use Rattle.endian.proofs.Laws.{length-pieces}
use Rattle.endian.proofs.Put.{put-none, length-put, put-piece, put-front}
use Rattle.store.specs.Store.{Key, CommitNumber, Store}
use Rattle.store.specs.Reading.{image_keys, image_commits, commit_place, key_place, store_of}
use Rattle.store.specs.Sound.{SoundStore}
use Rattle.ordering.specs.Links.{IsCommit}
use Rattle.ordering.proofs.Shape.{WellFormed, bare-sound}
use Rattle.reading.proofs.Says.{says-commits, says-count, says-within, within-said, says-writer, says-only, says-view}
use Rattle.reading.proofs.Shaped.{Shaped, shaped-formed}
use Rattle.visible.specs.Visible.{visible, row, rows}
use Rattle.visible.proofs.Visible.{visible-is, row_is}
use Rattle.gathering.specs.Places.{Gathers, WroteSeen, KeyReads}

-- ---- the places of the masks

-- where the masks of commit i + 1 stand, an entry and its masks taking `step` bytes
abbrev pub masks_place : ℕ → ℕ → ℕ
masks_place step i = 16 + step * i

pub masks-first : (step : ℕ) → 16 ≡ masks_place step 0
masks-first step = omega (arith, mul-zero step)

pub masks-next : (step i : ℕ) {masks : ℕ} → masks ≡ masks_place step i → masks + step ≡ masks_place step (i + 1)
masks-next step i e = omega (arith, e, mul-suc step i, ap (λ (j : ℕ). step * j) (add-one i))

-- they stand before the keys
pub masks-within : (n i commits long : ℕ) {masks : ℕ} → i < commits → masks ≡ masks_place (8 + 8 * n) i → 8 + (8 + 8 * n) * commits ≤ long → masks + 8 * n ≤ long
masks-within n i commits long l e h =
    let m : (8 + 8 * n) * suc i ≤ (8 + 8 * n) * commits = mul-le-mul_left (8 + 8 * n) l in
    omega (arith, e, mul-suc (8 + 8 * n) i)

pub masks-place : (b : List ℕ) (n i : ℕ) {masks : ℕ} → n ≡ image_keys b → masks ≡ masks_place (8 + 8 * n) i → masks ≡ commit_place b (suc i) + 8
masks-place b n i k e =
    let before : suc i - 1 ≡ i = omega arith in
    let place : commit_place b (suc i) ≡ 8 + (8 + 8 * n) * i = ap₂ (λ (x y : ℕ). 8 + (8 + 8 * x) * y) (sym k) before in
    omega (arith, e, place)

-- ---- a row

module _ (b : List ℕ) (h : Shaped b) where
  abbrev s : Store
  s = store_of b

  w : WellFormed s
  w = shaped-formed b h

  sound : SoundStore s
  sound = bare-sound s w

  pub keys-read : (k : Key) → k < image_keys b → KeyReads b (key_place b k)
  keys-read k l =
      let f = h.body.keys k l in
      let few = h.head.few-commits in record {
        within = f.within;
        few = omega (arith, sound.few k, says-count b k l, says-commits b);
        writer = λ i m. omega (arith, f.versions.writer i m);
      }

  module _ (t : CommitNumber) (c : IsCommit (image_commits b) t) where
    -- the masks of commit t stand from here on
    abbrev masks : ℕ
    masks = commit_place b t + 8

    abbrev Seen : CommitNumber → Type 0
    Seen a = WroteSeen b masks (image_keys b) a

    -- the commits that wrote a version that t saw: those that are visible to it, and the opening transaction
    seen-is : (a : CommitNumber) → (Seen a × (¬ T (has 1 a))) ↔ T (visible s a t)
    seen-is a = (out, into)
      where
        positive : (¬ T (has 1 a)) → 0 < a
        positive n = above (dec_lt 0 a)
          where
            above : Dec (0 < a) → 0 < a
            above (yes p) = p
            above (no q) = let e : 0 ≡ a = omega arith in absurd (n (subst (λ (z : ℕ). T (has 1 z)) e (single-has 0)))

        out : Seen a × (¬ T (has 1 a)) → T (visible s a t)
        out ((k, l, (i, m, x, q)), n) =
            (visible-is s sound a t).1 (
              positive n,
              (k, i, subst (λ (z : Set). T (has z i)) (sym (says-view b t c k l)) x, (says-within b k l i m, says-writer b k l i m ∙ sym q)),
            )

        into : T (visible s a t) → Seen a × (¬ T (has 1 a))
        into x =
            let (p, (k, i, y, (m, q))) = (visible-is s sound a t).0 x in
            let l = says-only b k i m in
            let m' = within-said b k l i m in
            ((k, l, (i, m', subst (λ (z : Set). T (has z i)) (says-view b t c k l) y, sym q ∙ says-writer b k l i m')), λ z. let e = single-only 0 a z in absurd (omega arith))

    -- so the row is what was found, but for that
    pub row-found : {place n found word : ℕ} → place ≡ commit_place b t + 8 → n ≡ image_keys b → Gathers found (WroteSeen b place n) → word ≡ without found 1
        → word ≡ row (store_of b) t
    row-found {place} {n} {found} {word} e k g f =
        f ∙ same-sets (without found 1) (row s t) (λ a. same_test (has (without found 1) a) (has (row s t) a) (out a) (into a))
      where
        found-is : Gathers found Seen
        found-is = subst (λ (x : ℕ). Gathers found (WroteSeen b x (image_keys b))) e (subst (λ (x : ℕ). Gathers found (WroteSeen b place x)) k g)

        out : (a : CommitNumber) → T (has (without found 1) a) → T (has (row s t) a)
        out a x = let (y, z) = (without_is found 1 a).0 x in (row_is s sound a t).1 ((seen-is a).0 ((found-is.says a).0 y, z))

        into : (a : CommitNumber) → T (has (row s t) a) → T (has (without found 1) a)
        into a x = let (y, z) = (seen-is a).1 ((row_is s sound a t).0 x) in (without_is found 1 a).1 ((found-is.says a).1 y, z)

-- ---- rows in a table

-- the first i rows of a store stand at the start of a table that was d before
abbrev pub Filled : Store → List Set → ℕ → List Set → Type 0
Filled s d i table = table ≡ put_at d 0 (pieces i (λ j. row s (suc j) ∷ []))

pub filled_none : (s : Store) (d : List Set) → Filled s d 0 d
unfolding pieces
filled_none s d = put-none d 0

pub filled-length : (s : Store) (d : List Set) (i : ℕ) {table : List Set} → i ≤ length d → Filled s d i table → length table ≡ length d
filled-length s d i l e = ap length e ∙ length-put d 0 (pieces i (λ j. row s (suc j) ∷ [])) (omega (arith, length-pieces i 1 (λ j. row s (suc j) ∷ []) (λ j. refl)))

-- one row set
set-put : (table : List Set) (i word : ℕ) → i < length table → set table i word ≡ put_at table (0 + i) (word ∷ [])
set-put table i word l =
    let here : i ≡ 0 + i = omega arith in
    sets-eq (word ∷ []) table i (omega arith) ∙ ap (λ (p : ℕ). put_at table p (word ∷ [])) here

pub filled_more : (s : Store) (d : List Set) (i word : ℕ) {table more : List Set} → i < length d → Filled s d i table → more ≡ set table i word → word ≡ row s (suc i)
    → Filled s d (i + 1) more
filled_more s d i word {table} l f e r =
    let long : length table ≡ length d = filled-length s d i (omega arith) f in
    put-piece d 0 i i (λ j. row s (suc j) ∷ []) f (length-pieces i 1 (λ j. row s (suc j) ∷ []) (λ j. refl) ∙ omega arith) (omega arith)
    (e ∙ set-put table i word (omega arith)) (ap (λ (m : ℕ). m ∷ []) r)

-- all n of them, in the first n places
pub filled-all : (b : List ℕ) (d : List Set) (n i : ℕ) {table : List Set} → n ≤ length d → n ≡ image_commits b → i ≡ n → Filled (store_of b) (take n d) i table
    → table ++ drop n d ≡ put_at d 0 (rows (store_of b))
unfolding rows store_of
filled-all b d n i room e all f =
    let few = length-pieces i 1 (λ j. row (store_of b) (suc j) ∷ []) (λ j. refl) in
    ap (λ (t : List Set). t ++ drop n d) f
    ∙ put-front n d (pieces i (λ j. row (store_of b) (suc j) ∷ [])) (omega arith) room
    ∙ ap (λ (m : ℕ). put_at d 0 (pieces m (λ j. row (store_of b) (suc j) ∷ []))) (all ∙ e)
