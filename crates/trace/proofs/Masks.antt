-- Masks that are put at the keys of a set, one after the other by rising key. Assumes nothing.
use Prim.Native.Nat.{ℕ, ◌+◌, ◌*◌, ◌/◌, ◌%◌, ◌^◌, ◌≤◌, ◌<◌}
use mathlib.Core.Path.{◌≡◌, refl, sym, ap, ◌∙◌, subst, fun_ext}
use mathlib.Core.Bool.{Bool, ◌&&◌, ◌||◌}
use mathlib.Core.List.{List}
use native.Mathlib.Omega.{arith}
use native.Mathlib.Decide.{dec_lt}
use lib.Dec.{T, eqb}
use lib.ListN.{length, get_or, set}
use Rattle.search.specs.Choose.{when}
use Rattle.search.specs.Search.{how_many}
use Rattle.search.proofs.Tests.{T_true, T_false}
use Rattle.sets.specs.Set.{Set, has, single, without, size, Gives}
use Rattle.sets.proofs.Counting.{set_of-small, size-how_many}
use Rattle.endian.specs.Endian.{le_at}
use Rattle.store.specs.Limits.{max_keys}
use Rattle.trace.specs.Entry.{listed_or}
use Rattle.trace.specs.Listed.{listed_at}
use Rattle.trace.specs.Sorted.{touched_by}
use Rattle.trace.proofs.Doubled.{Doubled, doubled-none, doubled-gives, doubled-rest, touched_set, touched_set-has, firsts-doubled, firsts-of}
use Rattle.trace.proofs.Filled.{Filled, filled_none, filled_more}
use Rattle.trace.proofs.Rising.{Passed, passed_none, passed-all, next-listed, none_between, count-to, count-with, count_room, passed-more}

-- the masks that are listed at a place, put over others
module _ (s : List ℕ) (start : ℕ) (f : ℕ → Bool) where
  pub over-unlisted : (m k : ℕ) → ¬ T (f k) → m ≡ listed_or (listed_at s start f k) m
  unfolding listed_at when listed_or
  over-unlisted m k out = rw (T_false (f k) out) refl

  pub over-listed : (m k : ℕ) → T (f k) → le_at s (start + 8 * how_many k f) 8 ≡ listed_or (listed_at s start f k) m
  unfolding listed_at when listed_or
  over-listed m k t = rw (T_true (f k) t) refl

module _ (s : List ℕ) (start : ℕ) (listed : Set) where
  -- what is listed over what was there
  abbrev Put : List ℕ → ℕ → ℕ
  Put before k = listed_or (listed_at s start (has listed) k) (get_or before k 0)

-- the masks of the keys below one are put, and the next stands at `at`; `left` are the keys that are listed from there on
pub record Putting (s : List ℕ) (start : ℕ) (listed : Set) (before masks : List ℕ) (at : ℕ) (left : Set) : Type 0 where
  pub low : ℕ
  pub filled : Filled (Put s start listed before) before low masks
  pub place : at ≡ start + 8 * how_many low (has listed)
  pub passed : Passed listed low left

pub putting-none : (s : List ℕ) (start : ℕ) (listed : Set) (before : List ℕ) → Putting s start listed before before start listed
unfolding how_many
putting-none s start listed before = record {
  low = 0;
  filled = filled_none (Put s start listed before) before;
  place = omega arith;
  passed = passed_none listed;
}

module _ {s : List ℕ} {start : ℕ} {listed : Set} {before masks : List ℕ} {at : ℕ} {left : Set} (h : Putting s start listed before masks at left) where
  -- no key is left: all are put
  pub putting-all : left ≡ 0 → (k : ℕ) → get_or masks k 0 ≡ Put s start listed before k
  putting-all none k = go (dec_lt k h.low)
    where
      go : Dec (k < h.low) → get_or masks k 0 ≡ Put s start listed before k
      go (yes less) = h.filled.filled k less
      go (no more) =
          let from : h.low ≤ k = omega arith in
          h.filled.kept k from ∙ over-unlisted s start (has listed) (get_or before k 0) k (passed-all h.passed none k from)

  module _ {k : ℕ} {rest : Set} (given : Gives left k rest) where
    pub putting-key : T (has listed k)
    putting-key = (next-listed h.passed given).0

    -- its mask stands among those of all that are listed
    pub putting-room : listed < 2 ^ 64 → at + 8 ≤ start + 8 * size listed
    putting-room all-word = let room = count_room h.passed given all-word in let place = h.place in omega arith

    pub putting-more : k < length before → {mask : ℕ} {after : List ℕ} → mask ≡ le_at s at 8 → after ≡ set masks k mask → Putting s start listed before after (at + 8) rest
    putting-more within is-mask is-after = record {
      low = k + 1;
      filled = filled_more (Put s start listed before) before within (up_to h.filled) (is-after ∙ ap (set masks k) (is-mask ∙ there));
      place = let place = h.place in let one = count-with h.passed given in omega arith;
      passed = passed-more h.passed given;
    }
      where
        there : le_at s at 8 ≡ Put s start listed before k
        there = ap (λ (n : ℕ). le_at s n 8) (h.place ∙ ap (λ (n : ℕ). start + 8 * n) (sym (count-to h.passed given))) ∙ over-listed s start (has listed) (get_or before k 0) k putting-key

        up_to : Filled (Put s start listed before) before h.low masks → Filled (Put s start listed before) before k masks
        up_to f = record {
          filled = λ j less. at_key j less (dec_lt j h.low);
          kept = λ j more. f.kept j (let first = (next-listed h.passed given).1 in omega arith);
          same_length = f.same_length;
        }
          where
            at_key : (j : ℕ) → j < k → Dec (j < h.low) → get_or masks j 0 ≡ Put s start listed before j
            at_key j less (yes l) = f.filled j l
            at_key j less (no g) =
                let from : h.low ≤ j = omega arith in
                f.kept j from ∙ over-unlisted s start (has listed) (get_or before j 0) j (none_between h.passed given j from less)

-- the same where what is listed is the keys with an operation, and `left` are the first ranks of those that are left
pub record PuttingBy (s : List ℕ) (start : ℕ) (ranks : Set) (before masks : List ℕ) (at : ℕ) (left : Set) : Type 0 where
  pub keys : Set
  pub firsts : Doubled left (has keys)
  pub putting : Putting s start (touched_set ranks) before masks at keys

module _ (s : List ℕ) (start : ℕ) (ranks : Set) (before : List ℕ) (ranks-word : ranks < 2 ^ 64) where
  pub by-none : {left : Set} → ((i : ℕ) → has left i ≡ (eqb (i % 2) 0 && (has ranks i || has ranks (i + 1)))) → PuttingBy s start ranks before before start left
  by-none {left} is = record {
    keys = touched_set ranks;
    firsts = firsts-of ranks left ranks-word (firsts-doubled ranks left is);
    putting = putting-none s start (touched_set ranks) before;
  }

  module _ {masks : List ℕ} {at : ℕ} {left : Set} (h : PuttingBy s start ranks before masks at left) where
    pub by_all : left ≡ 0 → (k : ℕ) → get_or masks k 0 ≡ listed_or (listed_at s start (touched_by ranks) k) (get_or before k 0)
    by_all none k =
        putting-all h.putting (doubled-none left h.keys h.firsts none) k
        ∙ ap (λ (f : ℕ → Bool). listed_or (listed_at s start f k) (get_or before k 0)) (fun_ext (touched_set-has ranks ranks-word))

    module _ {i : ℕ} {rest : Set} (given : Gives left i rest) where
      key_given : Gives h.keys (i / 2) (without h.keys (single (i / 2)))
      key_given = doubled-gives left h.keys h.firsts given

      pub by_key : T (touched_by ranks (i / 2))
      by_key = subst T (touched_set-has ranks ranks-word (i / 2)) (putting-key h.putting key_given)

      pub by-room : at + 8 ≤ start + 8 * how_many max_keys (touched_by ranks)
      by-room =
          let small = set_of-small max_keys (touched_by ranks) in
          let room = putting-room h.putting key_given (omega arith) in
          let many = size-how_many max_keys (touched_set ranks) small ∙ ap (how_many max_keys) (fun_ext (touched_set-has ranks ranks-word)) in
          omega arith

      pub by-more : i / 2 < length before → {mask : ℕ} {after : List ℕ} → mask ≡ le_at s at 8 → after ≡ set masks (i / 2) mask → PuttingBy s start ranks before after (at + 8) rest
      by-more within is-mask is-after = record {
        keys = without h.keys (single (i / 2));
        firsts = doubled-rest left h.keys h.firsts given;
        putting = putting-more h.putting key_given within is-mask is-after;
      }
