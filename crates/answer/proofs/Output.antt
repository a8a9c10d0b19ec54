-- What a call answers, and what it leaves in the buffer that it was lent, in each of the cases that it comes to. Assumes nothing.
use Prim.Native.Nat.{ℕ, ◌+◌, ◌≤◌, ◌<◌}
use mathlib.Core.Path.{◌≡◌, refl, sym, ap, ◌∙◌}
use mathlib.Core.Bool.{not}
use mathlib.Core.List.{List}
use native.Mathlib.Omega.{arith}
use lib.Dec.{T, leb, le→leb, leb→le, not_T}
use lib.ListN.{length, take, drop}
use lib.Seq.{take_at}
use Rattle.search.proofs.Choose.{choose_yes, choose_no, need-yes, need-no, need-taken}
use Rattle.endian.specs.Endian.{put_at}
use Rattle.store.specs.Refusal.{Refusal, refuse}
use Rattle.trace.specs.Result.{Result, refused, taken, on_taken}
use Rattle.trace.proofs.Result.{refused-taken, taken-injective}
use Rattle.answer.specs.Output.{Output, answer_in, buffer_after}

-- the call answers `told`, and leaves `after` in its buffer
pub record Ends {A : Type 0} (code : ℕ) (made : Result (Output A)) (buffer : List ℕ) (told : Result A) (after : List ℕ) : Type 0 where
  pub said : told ≡ answer_in code (length buffer) made
  pub left : after ≡ buffer_after made buffer

module _ {A : Type 0} (code : ℕ) {made : Result (Output A)} (buffer : List ℕ) where
  -- a refusal, and the buffer as it came
  pub ends-refused : (r : Refusal) → made ≡ refused r → Ends code made buffer (refused r) buffer
  unfolding answer_in buffer_after on_taken
  ends-refused r e = rw e (record { said = refl; left = refl })

  module _ (o : Output A) (e : made ≡ taken o) where
    -- the code of a buffer that is too short, and the buffer as it came
    pub ends-short : length buffer < length o.bytes → Ends code made buffer (refused (refuse code 0)) buffer
    unfolding answer_in buffer_after on_taken
    ends-short l = rw e (record {
      said = sym (need-no (leb (length o.bytes) (length buffer)) (refused (refuse code 0)) (taken o.told) short);
      left = sym (choose_no (leb (length o.bytes) (length buffer)) _ _ short);
    })
      where
        short : T (not (leb (length o.bytes) (length buffer)))
        short = not_T (leb (length o.bytes) (length buffer)) (λ x. let y = leb→le (length o.bytes) (length buffer) x in omega arith)

    -- what was made, and its bytes at the start of the buffer
    pub ends-written : length o.bytes ≤ length buffer → Ends code made buffer (taken o.told) (put_at buffer 0 o.bytes)
    unfolding answer_in buffer_after on_taken
    ends-written l = rw e (record {
      said = sym (need-yes (leb (length o.bytes) (length buffer)) (refused (refuse code 0)) (taken o.told) long);
      left = sym (choose_yes (leb (length o.bytes) (length buffer)) _ _ long);
    })
      where
        long : T (leb (length o.bytes) (length buffer))
        long = le→leb (length o.bytes) (length buffer) l

-- ---- the way back, from what was answered

-- where something was answered, it was made, and there was room for its bytes
pub answered-made : {A : Type 0} (code : ℕ) (made : Result (Output A)) (room : ℕ) (a : A) → answer_in code room made ≡ taken a
    → (o : Output A) × (made ≡ taken o) × (o.told ≡ a) × (length o.bytes ≤ room)
unfolding answer_in on_taken
answered-made code (refused r) room a e = refused-taken e
answered-made code (taken o) room a e =
    let (long, same) = need-taken (leb (length o.bytes) room) _ _ refused-taken e in
    (o, refl, taken-injective same, leb→le (length o.bytes) room long)

-- then its bytes stand at the start of the buffer
pub stands-written : {A : Type 0} (made : Result (Output A)) (buffer : List ℕ) (o : Output A) → made ≡ taken o → length o.bytes ≤ length buffer
    → take (length o.bytes) (buffer_after made buffer) ≡ o.bytes
unfolding buffer_after
stands-written made buffer o e l =
    rw e (ap (take (length o.bytes)) (choose_yes (leb (length o.bytes) (length buffer)) (put_at buffer 0 o.bytes) buffer (le→leb (length o.bytes) (length buffer) l))
    ∙ take_at o.bytes (drop (0 + length o.bytes) buffer) (length o.bytes) refl)
