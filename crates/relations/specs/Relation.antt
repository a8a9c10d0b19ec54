-- Relations between numbers, as tests; 001 writes them `R ∪ Q`, `R ; Q`, `R ; Q?` and `R+`. Assumes nothing.
use Rattle.std.specs.Prelude.{ℕ, zero, suc, Bool, ◌&&◌, ◌||◌}
use Rattle.search.specs.Search.{any}

abbrev pub Relation : Type 0
Relation = ℕ → ℕ → Bool

-- R ∪ Q
unfoldable pub union : Relation → Relation → Relation
union r q a b = r a b || q a b

-- R ; Q, through a number below n
unfoldable pub compose : ℕ → Relation → Relation → Relation
compose n r q a b = any n (λ c. r a c && q c b)

-- R ; Q?: R, and then Q or nothing
unfoldable pub then_maybe : ℕ → Relation → Relation → Relation
then_maybe n r q = union r (compose n r q)

-- R+: one or more links of R, through numbers below n (Warshall's closure: a walk passes the last number, or it does not)
unfoldable pub plus : ℕ → Relation → Relation
plus zero r a b = r a b
plus (suc m) r a b = plus m r a b || (plus m r a m && plus m r m b)

-- What these mean for any relations between numbers; proofs/Closure.antt shows that the tests say it.

-- R ; Q?
pub data ThenMaybe (R Q : ℕ → ℕ → Type 0) : ℕ → ℕ → Type 0 where
  alone : {a b : ℕ} → R a b → ThenMaybe R Q a b
  followed : {a b c : ℕ} → R a b → Q b c → ThenMaybe R Q a c

-- R+: "'+' means one or more links" (01, Clauses and levels)
pub data Plus (R : ℕ → ℕ → Type 0) : ℕ → ℕ → Type 0 where
  one : {a b : ℕ} → R a b → Plus R a b
  more : {a b c : ℕ} → R a b → Plus R b c → Plus R a c
