-- What an image says, part by part: the equations that a reader of specs/Reading.antt (crate store) expects. Assumes nothing.
use Prim.Native.Nat.{ℕ, zero, suc, ◌+◌, ◌*◌, ◌<◌}
use mathlib.Core.Path.{◌≡◌, refl, sym, ap, ◌∙◌, subst}
use mathlib.Core.List.{List, []}
use native.Mathlib.Omega.{arith}
use native.Mathlib.Decide.{dec_lt}
use lib.Dec.{T, ltb, leb}
use lib.ListN.{length, get_or}
use Rattle.search.proofs.Choose.{choose_yes, choose_no}
use Rattle.search.proofs.Tests.{and_is, not_is, lt-is, le_is}
use Rattle.endian.specs.Endian.{le_at}
use Rattle.store.specs.Store.{Key, CommitNumber, Version, View, opening_version, count, version}
use Rattle.store.specs.Masks.{view_at}
use Rattle.ordering.specs.Links.{IsCommit}
use Rattle.store.specs.Reading.{image_keys, image_commits, commit_place, is_commit, key_place, version_at, versions_at, key_at, store_of}
use Rattle.reading.specs.Parts.{writer_at, readers_at}

module _ (b : List ℕ) where
  length-versions : (at n : ℕ) → length (versions_at b at n) ≡ n
  unfolding versions_at
  length-versions at zero = refl
  length-versions at (suc n) = ap suc (length-versions (at + 16) n)

  get_d-versions : (at n i : ℕ) → i < n → get_or (versions_at b at n) i opening_version ≡ version_at b (at + 16 * i)
  unfolding versions_at
  get_d-versions at zero i l = absurd (omega arith)
  get_d-versions at (suc n) zero l = let e : at ≡ at + 16 * 0 = omega arith in ap (version_at b) e
  get_d-versions at (suc n) (suc i) l =
      let e : at + 16 + 16 * i ≡ at + 16 * suc i = omega arith in
      get_d-versions (at + 16) n i (omega arith) ∙ ap (version_at b) e

  pub says-keys : (store_of b).keys ≡ image_keys b
  unfolding store_of
  says-keys = refl

  pub says-commits : (store_of b).commits ≡ image_commits b
  unfolding store_of
  says-commits = refl

  -- ---- versions

  says-versions : (k : Key) → k < image_keys b → (store_of b).versions k ≡ key_at b (key_place b k)
  unfolding store_of
  says-versions k l = choose_yes (ltb k (image_keys b)) _ _ ((lt-is k (image_keys b)).1 l)

  pub says-count : (k : Key) → k < image_keys b → count (store_of b) k ≡ le_at b (key_place b k) 4
  says-count k l = ap length (says-versions k l) ∙ length-versions (key_place b k + 4) (le_at b (key_place b k) 4)

  pub says-version : (k : Key) (i : ℕ) → k < image_keys b → i < le_at b (key_place b k) 4 → version (store_of b) k i ≡ version_at b (key_place b k + 4 + 16 * i)
  says-version k i l m =
      ap (λ (vs : List Version). get_or vs i opening_version) (says-versions k l) ∙ get_d-versions (key_place b k + 4) (le_at b (key_place b k) 4) i m

  module _ (k : Key) (l : k < image_keys b) where
    pub says-key : k < (store_of b).keys
    says-key = subst (λ (x : ℕ). k < x) (sym says-keys) l

    pub says-within : (i : ℕ) → i < le_at b (key_place b k) 4 → i < count (store_of b) k
    says-within i m = subst (λ (x : ℕ). i < x) (sym (says-count k l)) m

    pub within-said : (i : ℕ) → i < count (store_of b) k → i < le_at b (key_place b k) 4
    within-said i m = subst (λ (x : ℕ). i < x) (says-count k l) m

    pub says-value : (i : ℕ) → i < le_at b (key_place b k) 4 → (version (store_of b) k i).value ≡ le_at b (key_place b k + 4 + 16 * i) 4
    says-value i m = ap (λ v. v.value) (says-version k i l m)

    pub says-writer : (i : ℕ) → i < le_at b (key_place b k) 4 → (version (store_of b) k i).writer ≡ writer_at b (key_place b k + 4) i
    says-writer i m = ap (λ v. v.writer) (says-version k i l m)

    pub says-readers : (i : ℕ) → i < le_at b (key_place b k) 4 → (version (store_of b) k i).readers ≡ readers_at b (key_place b k + 4) i
    says-readers i m = ap (λ v. v.readers) (says-version k i l m)

  -- versions of its keys alone
  pub says-only : (k i : ℕ) → i < count (store_of b) k → k < image_keys b
  unfolding store_of
  says-only k i l = go (dec_lt k (image_keys b))
    where
      go : Dec (k < image_keys b) → k < image_keys b
      go (yes m) = m
      go (no n) =
          let none : count (store_of b) k ≡ 0 = ap length (choose_no (ltb k (image_keys b)) (key_at b (key_place b k)) [] ((not_is (ltb k (image_keys b)) (lt-is k (image_keys b))).1 n)) in
          absurd (omega (arith, l, none))

  -- ---- commits

  is-commit : (t : CommitNumber) → IsCommit (image_commits b) t → T (is_commit b t)
  is-commit t c = (and_is (ltb 0 t) (leb t (image_commits b)) (lt-is 0 t) (le_is t (image_commits b))).1 c

  pub says-commit : (t : CommitNumber) → IsCommit (image_commits b) t → IsCommit (store_of b).commits t
  says-commit t c = subst (λ (x : ℕ). IsCommit x t) (sym says-commits) c

  pub commit-said : (t : CommitNumber) → IsCommit (store_of b).commits t → IsCommit (image_commits b) t
  commit-said t c = subst (λ (x : ℕ). IsCommit x t) says-commits c

  pub says-client : (t : CommitNumber) → IsCommit (image_commits b) t → (store_of b).client_of t ≡ le_at b (commit_place b t) 1
  unfolding store_of
  says-client t c = choose_yes (is_commit b t) _ _ (is-commit t c)

  pub says-session : (t : CommitNumber) → IsCommit (image_commits b) t → (store_of b).session_of t ≡ le_at b (commit_place b t + 4) 4
  unfolding store_of
  says-session t c = choose_yes (is_commit b t) _ _ (is-commit t c)

  -- a mask of the view that it was judged from
  pub says-view : (t : CommitNumber) → IsCommit (image_commits b) t → (k : Key) → k < image_keys b → (store_of b).view_of t k ≡ le_at b (commit_place b t + 8 + 8 * k) 8
  unfolding store_of view_at
  says-view t c k l =
      ap (λ (u : View). u k) (choose_yes (is_commit b t) _ _ (is-commit t c)) ∙ choose_yes (ltb k (image_keys b)) _ _ ((lt-is k (image_keys b)).1 l)
