-- The masks of the keys in a set, put one behind the other by rising key. Assumes nothing.
use Prim.Native.Nat.{ℕ, ◌+◌, ◌*◌, ◌^◌, ◌≤◌, ◌<◌}
use mathlib.Core.Path.{◌≡◌, refl, sym, ap, ◌∙◌}
use mathlib.Core.List.{List, ◌++◌}
use native.Mathlib.Omega.{arith}
use lib.Dec.{T}
use lib.ListN.{length, get_or}
use Rattle.search.specs.Search.{how_many}
use Rattle.sets.specs.Set.{Set, has, size, Gives}
use Rattle.endian.specs.Endian.{le_bytes, put_at, pieces}
use Rattle.endian.proofs.Put.{put-none, put_then}
use Rattle.store.specs.Store.{View}
use Rattle.trace.specs.Listed.{listed_bytes}
use Rattle.trace.proofs.Listed.{length-listed_bytes, listed_more, listed-passed}
use Rattle.trace.proofs.Rising.{Passed, passed_none, passed-all, next-listed, none_between, count-with, count_room, passed-more}
use Rattle.state.specs.Rows.{RowAt}

-- the masks of the keys below one stand from `at` on, and the next comes to `to`; `left` are the keys from there on
pub record PutListed (start : List ℕ) (at : ℕ) (masks : List ℕ) (base : ℕ) (listed : Set) (buffer : List ℕ) (to : ℕ) (left : Set) : Type 0 where
  pub low : ℕ
  pub passed : Passed listed low left
  pub place : to ≡ at + 8 * how_many low (has listed)
  pub same_length : length buffer ≡ length start
  pub put : (n : ℕ) (u : View) → ((k : ℕ) → T (has listed k) → k < n) → RowAt n masks base u → buffer ≡ put_at start at (listed_bytes low (has listed) u)

pub listed-none : (start : List ℕ) (at : ℕ) (masks : List ℕ) (base : ℕ) (listed : Set) → PutListed start at masks base listed start at listed
unfolding how_many listed_bytes pieces
listed-none start at masks base listed = record {
  low = 0;
  passed = passed_none listed;
  place = omega arith;
  same_length = refl;
  put = λ n u below row. put-none start at;
}

module _ {start : List ℕ} {at : ℕ} {masks : List ℕ} {base : ℕ} {listed : Set} {buffer : List ℕ} {to : ℕ} {left : Set} (h : PutListed start at masks base listed buffer to left) where
  -- none is left: all stand there
  pub listed-all : left ≡ 0 → (n : ℕ) (u : View) → ((k : ℕ) → T (has listed k) → k < n) → RowAt n masks base u → buffer ≡ put_at start at (listed_bytes n (has listed) u)
  listed-all none n u below row =
      h.put n u below row
      ∙ ap (put_at start at) (sym (listed-passed h.low n (has listed) u (h.passed.bound n below) (λ k from to. passed-all h.passed none k from)))

  module _ {k : ℕ} {rest : Set} (given : Gives left k rest) where
    -- the next key has a mask in the row, and there is room for it
    pub listed-key : (n : ℕ) → ((j : ℕ) → T (has listed j) → j < n) → k < n
    listed-key n below = below k (next-listed h.passed given).0

    pub listed-room : listed < 2 ^ 64 → to + 8 ≤ at + 8 * size listed
    listed-room all-word = let room = count_room h.passed given all-word in let place = h.place in omega arith

    pub listed-one : listed < 2 ^ 64 → at + 8 * size listed ≤ length start → {mask : ℕ} {after : List ℕ} → mask ≡ get_or masks (base + k) 0
        → after ≡ put_at buffer to (le_bytes 8 mask) → length after ≡ length buffer → PutListed start at masks base listed after (to + 8) rest
    listed-one all-word long {after = after} is-mask is-after same = record {
      low = k + 1;
      passed = passed-more h.passed given;
      place = let place = h.place in let one = count-with h.passed given in omega arith;
      same_length = same ∙ h.same_length;
      put = λ n u below row.
          let own = le_bytes 8 (u k) in
          let before = listed_bytes h.low (has listed) u in
          let room = count_room h.passed given all-word in
          let listed-there = next-listed h.passed given in
          is-after
          ∙ ap (λ (m : ℕ). put_at buffer to (le_bytes 8 m)) (is-mask ∙ row k (listed-key n below))
          ∙ ap (λ (d : List ℕ). put_at d to own) (h.put n u below row)
          ∙ ap (λ (p : ℕ). put_at (put_at start at before) p own) h.place
          ∙ put_then start at before own (8 * how_many h.low (has listed)) (length-listed_bytes h.low (has listed) u) (omega arith)
          ∙ ap (λ (x : List ℕ). put_at start at (x ++ own)) (sym (listed-passed h.low k (has listed) u listed-there.1 (none_between h.passed given)))
          ∙ ap (put_at start at) (sym (listed_more k (has listed) u listed-there.0));
    }
