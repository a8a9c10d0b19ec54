-- An answer that is a refusal or a value. Assumes nothing.
use Rattle.store.specs.Refusal.{Refusal}

pub data Result (A : Type 0) : Type 0 where
  refused : Refusal → Result A
  taken : A → Result A

-- go on with the value; a refusal stays
unfoldable pub on_taken : {A B : Type 0} → Result A → (A → Result B) → Result B
on_taken (refused r) f = refused r
on_taken (taken a) f = f a
