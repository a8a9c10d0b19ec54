-- An image read back is the store that it was made of, where the store has no more than an image has room for. Assumes nothing.
use Prim.Native.Nat.{ℕ, zero, suc, ◌+◌, ◌-◌, ◌*◌, ◌≤◌, ◌<◌}
use mathlib.Core.Path.{◌≡◌, refl, sym, ap, ap₂, ◌∙◌, subst, fun_ext}
use mathlib.Core.List.{List, [], ◌∷◌, ◌++◌}
use native.Mathlib.Omega.{arith}
use native.Mathlib.Decide.{dec_lt}
use lib.Dec.{T, ltb, leb}
use lib.ListN.{length, get_or, length-append}
use Rattle.search.specs.Choose.{choose}
use Rattle.search.proofs.Choose.{choose_yes, choose_no}
use Rattle.search.proofs.Tests.{same, and_is, not_is, lt-is, le_is, T?}
use Rattle.endian.specs.Endian.{le_at, le_bytes, pieces}
use Rattle.endian.proofs.Laws.{pieces-first, pieces-split}
use Rattle.endian.proofs.Stands.{Stands, stands-whole, stands_at, stands-as, stands-first, stands-second, stands-behind, stands-piece, read_first, read-fitting}
use Rattle.store.specs.Store.{Key, CommitNumber, Version, opening_version, no_view, Store, count}
use Rattle.store.specs.Image.{version_bytes, key_bytes, commit_bytes, image_body, image}
use Rattle.store.specs.Masks.{view_bytes, view_at}
use Rattle.store.specs.Reading.{image_keys, image_commits, commit_size, commit_place, is_commit, key_place, version_at, versions_at, key_at, store_of, FitsVersion, FitsImage}
use Rattle.store.proofs.Masks.{view-back}
use Rattle.store.proofs.ImageSizes.{length-version, length-commit, length-commits, length-key}

-- ---- versions

version-back : (b : List ℕ) (at : ℕ) (v : Version) → FitsVersion v → Stands b at (version_bytes v) → version_at b at ≡ v
unfolding version_bytes
version-back b at v fits h =
    let from-writer = stands-behind 4 _ _ (at + 4) refl h in
    let from-zeros = stands-behind 1 _ _ (at + 5) (omega arith) from-writer in
    let from-readers = stands-behind 3 _ _ (at + 8) (omega arith) from-zeros in
    λ i. record {
      value = read_first 4 _ _ fits.value h i;
      writer = read_first 1 _ _ fits.writer from-writer i;
      readers = read-fitting 8 _ fits.readers from-readers i;
    }

versions-back : (b : List ℕ) (vs : List Version) (at : ℕ) → ((i : ℕ) → i < length vs → FitsVersion (get_or vs i opening_version))
    → Stands b at (pieces (length vs) (λ i. version_bytes (get_or vs i opening_version))) → versions_at b at (length vs) ≡ vs
unfolding versions_at
versions-back b [] at fits h = refl
versions-back b (v ∷ vs) at fits h =
    let parts = stands-as (pieces-first (length vs) (λ i. version_bytes (get_or (v ∷ vs) i opening_version))) h in
    ap₂ (λ (x : Version) (xs : List Version). x ∷ xs) (version-back b at v (fits 0 (omega arith)) (stands-first _ _ parts))
    (versions-back b vs (at + 16) (λ i l. fits (suc i) (omega arith)) (stands_at (ap (λ (n : ℕ). at + n) (length-version v)) (stands-second (version_bytes v) _ parts)))

-- a list without places is empty
empty : (vs : List Version) → ¬ (0 < length vs) → [] ≡ vs
empty [] n = refl
empty (v ∷ vs) n = absurd (n (omega arith))

module _ (s : Store) (fits : FitsImage s) where
  abbrev b : List ℕ
  b = image s

  abbrev start : ℕ
  start = 8 + commit_size s.keys * s.commits

  -- ---- the first 8 bytes, and what stands behind them

  from-keys : Stands b 4 (le_bytes 1 s.keys ++ (le_bytes 1 s.commits ++ (le_bytes 2 0 ++ image_body s)))
  unfolding image
  from-keys = stands-behind 4 _ _ 4 refl (stands-whole (image s))

  pub from-commits : Stands b 5 (le_bytes 1 s.commits ++ (le_bytes 2 0 ++ image_body s))
  from-commits = stands-behind 1 _ _ 5 refl from-keys

  pub body : Stands b 8 (image_body s)
  body = stands-behind 2 _ _ 8 refl (stands-behind 1 _ _ 6 refl from-commits)

  pub keys-back : image_keys b ≡ s.keys
  keys-back = read_first 1 _ _ (omega (arith, fits.few-keys)) from-keys

  pub commits-back : image_commits b ≡ s.commits
  commits-back = read_first 1 _ _ (omega (arith, fits.few-commits)) from-commits

  -- ---- the commits

  place_of : (i : ℕ) → commit_place b (suc i) ≡ 8 + commit_size s.keys * i
  place_of i =
      let before : suc i - 1 ≡ i = omega arith in
      ap₂ (λ (n : ℕ) (j : ℕ). 8 + commit_size n * j) keys-back before

  pub commit-stands : (i : ℕ) → i < s.commits → Stands b (commit_place b (suc i)) (commit_bytes s (suc i))
  unfolding image_body
  commit-stands i l =
      stands_at (sym (place_of i))
      (stands-piece s.commits (commit_size s.keys) i (λ j. commit_bytes s (suc j)) (λ j. length-commit s (suc j)) l (stands-first _ _ body))

  is-commit : (t : CommitNumber) → T (is_commit b t) → (0 < t) × (t ≤ s.commits)
  is-commit t h =
      let (p, l) = (and_is (ltb 0 t) (leb t (image_commits b)) (lt-is 0 t) (le_is t (image_commits b))).0 h in
      (p, subst (λ (n : ℕ). t ≤ n) commits-back l)

  no-commit : (t : CommitNumber) → ¬ T (is_commit b t) → 0 < t → s.commits < t
  no-commit t n p = go (dec_lt s.commits t)
    where
      go : Dec (s.commits < t) → s.commits < t
      go (yes l) = l
      go (no m) =
          absurd (n ((and_is (ltb 0 t) (leb t (image_commits b)) (lt-is 0 t) (le_is t (image_commits b))).1 (p, subst (λ (n : ℕ). t ≤ n) (sym commits-back) (omega arith))))

  -- a table by commit number, of which each commit has an entry
  table-back : {A : Type 0} (f : CommitNumber → A) (none : A) (g : CommitNumber → A) → ((i : ℕ) → i < s.commits → f (suc i) ≡ g (suc i))
      → ((t : CommitNumber) → (0 < t → s.commits < t) → g t ≡ none) → (t : CommitNumber) → choose (is_commit b t) (f t) none ≡ g t
  table-back f none g entry outside t = go (T? (is_commit b t))
    where
      entry_at : (n : CommitNumber) → (0 < n) × (n ≤ s.commits) → f n ≡ g n
      entry_at zero (p, l) = absurd (omega arith)
      entry_at (suc i) (p, l) = entry i (omega arith)

      go : Dec (T (is_commit b t)) → choose (is_commit b t) (f t) none ≡ g t
      go (yes h) = choose_yes (is_commit b t) (f t) none h ∙ entry_at t (is-commit t h)
      go (no n) = choose_no (is_commit b t) (f t) none ((not_is (is_commit b t) same).1 n) ∙ sym (outside t (no-commit t n))

  pub client-back : (i : ℕ) → i < s.commits → le_at b (commit_place b (suc i)) 1 ≡ s.client_of (suc i)
  unfolding commit_bytes
  client-back i l = read_first 1 _ _ (omega (arith, fits.client (suc i))) (commit-stands i l)

  from-session : (i : ℕ) → i < s.commits → Stands b (commit_place b (suc i) + 4) (le_bytes 4 (s.session_of (suc i)) ++ view_bytes s.keys (s.view_of (suc i)))
  unfolding commit_bytes
  from-session i l =
      let at = commit_place b (suc i) in
      stands-behind 3 _ _ (at + 4) (omega arith) (stands-behind 1 _ _ (at + 1) refl (commit-stands i l))

  session-back : (i : ℕ) → i < s.commits → le_at b (commit_place b (suc i) + 4) 4 ≡ s.session_of (suc i)
  session-back i l = read_first 4 _ _ (fits.session (suc i)) (from-session i l)

  stored-view-back : (i : ℕ) → i < s.commits → view_at b (commit_place b (suc i) + 8) (image_keys b) ≡ s.view_of (suc i)
  stored-view-back i l =
      let at = commit_place b (suc i) in
      ap (view_at b (at + 8)) keys-back
      ∙ view-back b (at + 8) s.keys (s.view_of (suc i)) (fits.view (suc i)) (stands-behind 4 _ _ (at + 8) (omega arith) (from-session i l))

  -- ---- the keys

  keys-stand : Stands b start (pieces s.keys (key_bytes s))
  unfolding image_body
  keys-stand = stands_at (ap (λ (n : ℕ). 8 + n) (length-commits s s.commits)) (stands-second (pieces s.commits (λ i. commit_bytes s (suc i))) _ body)

  pub key-stands : (k : Key) → k < s.keys → Stands b (start + length (pieces k (key_bytes s))) (key_bytes s k)
  key-stands k l =
      let (rest, e) = pieces-split s.keys k (key_bytes s) l in
      stands-first (key_bytes s k) rest (stands-second (pieces k (key_bytes s)) (key_bytes s k ++ rest) (stands-as e keys-stand))

  pub count-back : (k : Key) (at : ℕ) → Stands b at (key_bytes s k) → le_at b at 4 ≡ count s k
  unfolding key_bytes
  count-back k at h = read_first 4 _ _ (fits.few-versions k) h

  pub key-place : (k : Key) → k ≤ s.keys → key_place b k ≡ start + length (pieces k (key_bytes s))
  unfolding key_place pieces
  key-place zero l = ap₂ (λ (n : ℕ) (m : ℕ). 8 + commit_size n * m) keys-back commits-back ∙ omega arith
  key-place (suc k) l =
      let before = key-place k (omega arith) in
      let counted : le_at b (key_place b k) 4 ≡ count s k = count-back k (key_place b k) (stands_at (sym before) (key-stands k l)) in
      let more = length-append (pieces k (key_bytes s)) (key_bytes s k) in
      let long = length-key s k in
      omega arith

  key_back : (k : Key) → k < s.keys → key_at b (key_place b k) ≡ s.versions k
  unfolding key_bytes
  key_back k l =
      let here = stands_at (sym (key-place k (omega arith))) (key-stands k l) in
      ap (versions_at b (key_place b k + 4)) (count-back k (key_place b k) here)
      ∙ versions-back b (s.versions k) (key_place b k + 4) (fits.version-fits k) (stands-behind 4 _ _ (key_place b k + 4) refl here)

  key-or-none : (k : Key) → choose (ltb k (image_keys b)) (key_at b (key_place b k)) [] ≡ s.versions k
  key-or-none k = go (dec_lt k (image_keys b))
    where
      go : Dec (k < image_keys b) → choose (ltb k (image_keys b)) (key_at b (key_place b k)) [] ≡ s.versions k
      go (yes l) =
          choose_yes (ltb k (image_keys b)) (key_at b (key_place b k)) [] ((lt-is k (image_keys b)).1 l)
          ∙ key_back k (subst (λ (n : ℕ). k < n) keys-back l)
      go (no n) =
          choose_no (ltb k (image_keys b)) (key_at b (key_place b k)) [] ((not_is (ltb k (image_keys b)) (lt-is k (image_keys b))).1 n)
          ∙ empty (s.versions k) (λ p. n (subst (λ (n : ℕ). k < n) (sym keys-back) (fits.only-keys k 0 p)))

  -- ---- the store

  pub store_of-image : store_of b ≡ s
  unfolding store_of
  store_of-image = λ i. record {
    keys = keys-back i;
    versions = fun_ext key-or-none i;
    client_of = fun_ext (table-back (λ t. le_at b (commit_place b t) 1) 0 s.client_of client-back fits.no-client) i;
    session_of = fun_ext (table-back (λ t. le_at b (commit_place b t + 4) 4) 0 s.session_of session-back fits.no-session) i;
    view_of = fun_ext (table-back (λ t. view_at b (commit_place b t + 8) (image_keys b)) no_view s.view_of stored-view-back fits.no-view) i;
    commits = commits-back i;
  }
