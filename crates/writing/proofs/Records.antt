-- The parts of a record, put one behind the other, are the record. Assumes nothing.
use Prim.Native.Nat.{ℕ, ◌+◌, ◌*◌, ◌≤◌, ◌<◌}
use mathlib.Core.Path.{◌≡◌, refl, ap, ◌∙◌, fun_ext}
use mathlib.Core.Bool.{Bool}
use mathlib.Core.List.{List, ◌++◌, append_assoc}
use native.Mathlib.Omega.{arith}
use lib.ListN.{length, length-append}
use Rattle.sets.specs.Set.{Set, has}
use Rattle.endian.specs.Endian.{le_bytes, put_at}
use Rattle.endian.proofs.Laws.{length-le_bytes, length-le_bytes-append, le_bytes-counts}
use Rattle.endian.proofs.Put.{put_next}
use Rattle.store.specs.Limits.{min_bytes}
use Rattle.store.specs.Store.{Client, View, Operation, Commit, shift, commit}
use Rattle.trace.specs.Listed.{listed_bytes, touched}
use Rattle.trace.specs.Format.{shift_length, commit_length, short_shift_length, short_commit_length}
use Rattle.trace.specs.Encode.{operations_bytes, view_bytes, event_bytes, file_head}
use Rattle.trace.specs.Edition.{short_shift_bytes, short_commit_bytes}
use Rattle.trace.proofs.Sizes.{length-operations_bytes}
use Rattle.writing.specs.Start.{start_bytes}

-- the first bytes are six
length-start : (size kind first second : ℕ) → length (start_bytes size kind first second) ≡ 6
length-start size kind first second = simp (length-le_bytes-append, length-le_bytes)

module _ (d : List ℕ) (at : ℕ) where
  -- the first six bytes are put as three numbers
  pub put-start : (size kind first second : ℕ) {one two three : List ℕ} → at + 6 ≤ length d → first < 256
      → one ≡ put_at d at (le_bytes 2 size) → two ≡ put_at one (at + 2) (le_bytes 2 kind) → three ≡ put_at two (at + 4) (le_bytes 2 (first + 256 * second))
      → three ≡ put_at d at (start_bytes size kind first second)
  put-start size kind first second room small e f g =
      let two = put_next d at 2 (at + 2) (le_bytes 2 size) (le_bytes 2 kind) e (length-le_bytes 2 size) refl (omega arith) f in
      put_next d at 4 (at + 4) (le_bytes 2 size ++ le_bytes 2 kind) (le_bytes 2 (first + 256 * second)) two (simp (length-append, length-le_bytes)) refl (omega arith) g
      ∙ ap (λ l. put_at d at l) (rw (le_bytes-counts first second small) (simp append_assoc))

  -- kind 2: the first six bytes and the masks
  pub put-shift : (keys : ℕ) (client : Client) (u : View) {one two : List ℕ} → at + shift_length keys ≤ length d
      → one ≡ put_at d at (start_bytes (shift_length keys) 2 client 0) → two ≡ put_at one (at + 6) (view_bytes keys u)
      → two ≡ put_at d at (event_bytes keys (shift client u))
  unfolding event_bytes
  put-shift keys client u room e f =
      let start = start_bytes (shift_length keys) 2 client 0 in
      put_next d at 6 (at + 6) start (view_bytes keys u) e (length-start _ _ _ _) refl (omega arith) f ∙ ap (λ l. put_at d at l) (simp append_assoc)

  -- a commit of either edition: the first six bytes, the session number, the operations and the masks
  put-parts : (size kind client m session : ℕ) (os : List Operation) (masks : List ℕ) {one two three four : List ℕ} → length os ≡ m → at + (10 + 8 * m) ≤ length d
      → one ≡ put_at d at (start_bytes size kind client m) → two ≡ put_at one (at + 6) (le_bytes 4 session) → three ≡ put_at two (at + 10) (operations_bytes os)
      → four ≡ put_at three (at + (10 + 8 * m)) masks
      → four ≡ put_at d at (le_bytes 2 size ++ (le_bytes 2 kind ++ (le_bytes 1 client ++ (le_bytes 1 m ++ (le_bytes 4 session ++ (operations_bytes os ++ masks))))))
  put-parts size kind client m session os masks many room e f g h =
      let start = start_bytes size kind client m in
      let number = le_bytes 4 session in
      let operations = operations_bytes os in
      let long : length (start ++ number ++ operations) ≡ 10 + 8 * m = simp (length-append, length-le_bytes, length-operations_bytes, many) in
      let two = put_next d at 6 (at + 6) start number e (length-start _ _ _ _) refl (omega arith) f in
      let three = put_next d at 10 (at + 10) (start ++ number) operations two (simp (length-append, length-le_bytes)) refl (omega arith) g in
      put_next d at (10 + 8 * m) (at + (10 + 8 * m)) (start ++ number ++ operations) masks three long refl (omega arith) h
      ∙ ap (λ l. put_at d at l) (simp append_assoc)

  -- kind 3
  pub put-commit : (keys m : ℕ) (c : Commit) {one two three four : List ℕ} → length c.operations ≡ m → at + commit_length keys m ≤ length d
      → one ≡ put_at d at (start_bytes (commit_length keys m) 3 c.client m) → two ≡ put_at one (at + 6) (le_bytes 4 c.session)
      → three ≡ put_at two (at + 10) (operations_bytes c.operations) → four ≡ put_at three (at + (10 + 8 * m)) (view_bytes keys c.view_after)
      → four ≡ put_at d at (event_bytes keys (commit c))
  unfolding event_bytes
  put-commit keys m c many room e f g h =
      put-parts (commit_length keys m) 3 c.client m c.session c.operations (view_bytes keys c.view_after) many (omega arith) e f g h ∙ ap (λ l. put_at d at l) (rw many refl)

  -- kind 5, whose masks are those of the keys in a set
  pub put-short-commit : (keys m : ℕ) (c : Commit) (listed : Set) {size : ℕ} {one two three four : List ℕ} → length c.operations ≡ m → ((k : ℕ) → has listed k ≡ touched c.operations k)
      → at + short_commit_length m c.operations ≤ length d → size ≡ short_commit_length m c.operations
      → one ≡ put_at d at (start_bytes size 5 c.client m) → two ≡ put_at one (at + 6) (le_bytes 4 c.session)
      → three ≡ put_at two (at + 10) (operations_bytes c.operations) → four ≡ put_at three (at + (10 + 8 * m)) (listed_bytes keys (has listed) c.view_after)
      → four ≡ put_at d at (short_commit_bytes keys c)
  unfolding short_commit_bytes
  put-short-commit keys m c listed many same room all e f g h =
      let masks = listed_bytes keys (touched c.operations) c.view_after in
      let listing : listed_bytes keys (has listed) c.view_after ≡ masks = ap (λ (t : ℕ → Bool). listed_bytes keys t c.view_after) (fun_ext same) in
      put-parts (short_commit_length m c.operations) 5 c.client m c.session c.operations masks many (omega arith) (e ∙ ap (λ n. put_at d at (start_bytes n 5 c.client m)) all) f g (h ∙ ap (put_at _ (at + (10 + 8 * m))) listing)
      ∙ ap (λ l. put_at d at l) (rw many refl)

  -- kind 6: the first six bytes, the set and the masks
  pub put-short-shift : (keys : ℕ) (client : Client) (listed : Set) (u : View) {size : ℕ} {one two three : List ℕ} → at + short_shift_length listed ≤ length d → size ≡ short_shift_length listed
      → one ≡ put_at d at (start_bytes size 6 client 0) → two ≡ put_at one (at + 6) (le_bytes 4 listed)
      → three ≡ put_at two (at + 10) (listed_bytes keys (has listed) u)
      → three ≡ put_at d at (short_shift_bytes keys client listed u)
  unfolding short_shift_bytes
  put-short-shift keys client listed u room all e f g =
      let start = start_bytes (short_shift_length listed) 6 client 0 in
      let set = le_bytes 4 listed in
      let two = put_next d at 6 (at + 6) start set (e ∙ ap (λ n. put_at d at (start_bytes n 6 client 0)) all) (length-start _ _ _ _) refl (omega arith) f in
      put_next d at 10 (at + 10) (start ++ set) (listed_bytes keys (has listed) u) two (simp (length-append, length-le_bytes)) refl (omega arith) g
      ∙ ap (λ l. put_at d at l) (simp append_assoc)

-- the first 12 bytes of a file: its length, the first six bytes of the record of kind 1, and the number of records
pub put-head : (d : List ℕ) (whole keys clients records : ℕ) {one two three : List ℕ} → min_bytes ≤ length d
    → one ≡ put_at d 0 (le_bytes 4 whole) → two ≡ put_at one 4 (start_bytes 8 1 keys clients) → three ≡ put_at two 10 (le_bytes 2 records)
    → three ≡ put_at d 0 (file_head whole keys clients records)
unfolding file_head
put-head d whole keys clients records room e f g =
    let start = start_bytes 8 1 keys clients in
    let parts : le_bytes 4 whole ++ start ++ le_bytes 2 records ≡ file_head whole keys clients records = simp append_assoc in
    let two = put_next d 0 4 4 (le_bytes 4 whole) start e (length-le_bytes 4 whole) refl (omega arith) f in
    put_next d 0 10 10 (le_bytes 4 whole ++ start) (le_bytes 2 records) two (simp (length-append, length-le_bytes)) refl (omega arith) g
    ∙ ap (λ l. put_at d 0 l) parts
