-- Links to members of sets. Assumes nothing.
use Prim.Native.Nat.{ℕ, ◌+◌, ◌<◌}
use mathlib.Core.Path.{◌≡◌, refl, sym, ap, subst}
use mathlib.Core.Bool.{Bool}
use mathlib.Core.Logic.{◌⊎◌, inl, inr, ◌↔◌}
use mathlib.Core.List.{List}
use native.Mathlib.Omega.{arith}
use native.Mathlib.Decide.{ℕ_discrete}
use lib.Dec.{T}
use Rattle.search.proofs.Tests.{T?, same, both}
use Rattle.sets.specs.Set.{Set, has, insert, single, without, union}
use Rattle.sets.proofs.Laws.{single-has, single-only, has-none}
use Rattle.sets.proofs.Algebra.{without_is}
use Rattle.dependencies.specs.History.{History, Stored, StoredBelow, as-writer, as-reader, SO, session-order, WR, write_read, write-write, read-write}
use Rattle.growth.specs.Sessions.{UpTo, ReadUpTo}
use Rattle.state.specs.Keeps.{IsSet}
use Rattle.state.proofs.Sets.{is_set-as, is_set-union, is_set-insert}
use Rattle.trying.specs.declared.Ends.{Ends}
use Rattle.trying.specs.Recorded.{writer_at, StoredIn, recorded}
use Rattle.trying.specs.Tries.{LinksTo, to-session, to-reader, to-writer, to-overwriter, Starts, Precedes}

-- ---- a commit tried

module _ (versions keys commits : List ℕ) (n : ℕ) where
  abbrev H : History
  H = recorded versions keys commits n

  stored_is : (t : ℕ) → StoredIn versions keys n t ↔ Stored H t
  stored_is t = (out, back)
    where
      out : StoredIn versions keys n t → Stored H t
      out (k, i, x, inl e) = as-writer {k = k} {i = i} (x, e)
      out (k, i, x, inr r) = as-reader {k = k} {i = i} (x, r)

      back : Stored H t → StoredIn versions keys n t
      back (as-writer {k} {i} (x, e)) = (k, i, x, inl e)
      back (as-reader {k} {i} (x, r)) = (k, i, x, inr r)

  -- by SO, or by a link that starts at a version
  pub links-is : (stored : Set) → IsSet stored (StoredIn versions keys n) → (ends : Ends) (a : ℕ)
      → (((b : ℕ) × Precedes commits stored ends.session a b) ⊎ Starts versions keys ends n a) ↔ LinksTo H ends a
  links-is stored is ends a = (out, back)
    where
      in-store : (t : ℕ) → T (has stored t) → Stored H t
      in-store t x = (stored_is t).0 ((is t).0 x)

      in-set : (t : ℕ) → Stored H t → T (has stored t)
      in-set t x = (is t).1 ((stored_is t).1 x)

      out : ((b : ℕ) × Precedes commits stored ends.session a b) ⊎ Starts versions keys ends n a → LinksTo H ends a
      out (inl (b, (x, ((p, q), ((y, z), (e, l)))))) = to-session {b = b} x (session-order (in-store a p) (in-store b q) y z e l)
      out (inr (k, i, x, inl (e, inl (b, y, z)))) = to-reader {b = b} z (write_read {k = k} {i = i} (x, e) (x, y))
      out (inr (k, i, x, inl (e, inr (j, l, m, y)))) = to-writer y (write-write {k = k} {i = i} {j = j} (x, e) ((x.0, m), refl) l)
      out (inr (k, i, x, inr (r, (j, l, m, y)))) =
          let z = (without_is ends.overwriter (single a) (writer_at versions k j)).0 y in
          to-overwriter z.0 (read-write {k = k} {i = i} {j = j} (x, r) ((x.0, m), refl) l (λ e. z.1 (subst (λ (t : ℕ). T (has (single a) t)) e (single-has a))))

      back : LinksTo H ends a → ((b : ℕ) × Precedes commits stored ends.session a b) ⊎ Starts versions keys ends n a
      back (to-session {b} x (session-order p q y z e l)) = inl (b, (x, ((in-set a p, in-set b q), ((y, z), (e, l)))))
      back (to-reader {b} z (write_read {k} {i} (x, e) (_, y))) = inr (k, i, x, inl (e, inl (b, y, z)))
      back (to-writer y (write-write {k} {i} {j} (x, e) ((_, m), d) l)) = inr (k, i, x, inl (e, inr (j, l, m, subst (λ (t : ℕ). T (has ends.writer t)) (sym d) y)))
      back (to-overwriter y (read-write {k} {i} {j} (x, r) ((_, m), d) l other)) =
          inr (k, i, x, inr (r, (j, l, m, subst (λ (t : ℕ). T (has (without ends.overwriter (single a)) t)) (sym d) ((without_is ends.overwriter (single a) _).1 (y, λ w. other (sym (single-only a _ w)))))))

-- ---- one commit after the other

pub tried-more : {P : ℕ → Type 0} (all a : ℕ) (linked : Bool) {next : Set} → IsSet all (λ t. (t < a) × P t) → T linked ↔ P a → (T linked → next ≡ insert a all) × ((¬ T linked) → next ≡ all)
    → IsSet next (λ t. (t < a + 1) × P t)
tried-more {P} all a linked {next} h is put = go (T? linked)
  where
    go : Dec (T linked) → IsSet next (λ t. (t < a + 1) × P t)
    go (yes x) = rw (put.0 x) (is_set-as (insert a all) (λ t. (out t, λ (l, p). back t l p (ℕ_discrete t a))) (is_set-insert a all h))
      where
        out : (t : ℕ) → (t ≡ a) ⊎ ((t < a) × P t) → (t < a + 1) × P t
        out t (inl e) = (omega arith, subst P (sym e) (is.0 x))
        out t (inr (l, p)) = (omega arith, p)

        back : (t : ℕ) → t < a + 1 → P t → Dec (t ≡ a) → (t ≡ a) ⊎ ((t < a) × P t)
        back t l p (yes e) = inl e
        back t l p (no d) = inr (omega arith, p)
    go (no x) = rw (put.1 x) (is_set-as all (λ t. (λ (l, p). (omega arith, p), λ (l, p). back t l p (ℕ_discrete t a))) h)
      where
        back : (t : ℕ) → t < a + 1 → P t → Dec (t ≡ a) → (t < a) × P t
        back t l p (yes e) = absurd (x (is.1 (subst P e p)))
        back t l p (no d) = (omega arith, p)

-- ---- what was tried below a bound is all, where every commit is below it

module _ (H : History) where
  from-stored : (ends : Ends) (a : ℕ) → LinksTo H ends a → Stored H a
  from-stored ends a (to-session x (session-order p q y z e l)) = p
  from-stored ends a (to-reader x (write_read w r)) = as-writer w
  from-stored ends a (to-writer x (write-write w v l)) = as-writer w
  from-stored ends a (to-overwriter x (read-write r w l d)) = as-reader r

  pub all-tried : (most : ℕ) → StoredBelow most H → (ends : Ends) (r : Set) → IsSet r (λ a. (a < most) × LinksTo H ends a) → IsSet r (LinksTo H ends)
  all-tried most below ends r = is_set-as r (λ a. (λ (_, x). x, λ x. (below a (from-stored ends a x), x)))

  -- ---- the past of a set

  -- links by one kind alone
  abbrev by_session : Set → Ends
  by_session set = record { session = set; reader = 0; writer = 0; overwriter = 0 }

  abbrev by_reader : Set → Ends
  by_reader set = record { session = 0; reader = set; writer = 0; overwriter = 0 }

  session-only : (set : Set) (a : ℕ) → LinksTo H (by_session set) a ↔ ((t : ℕ) × T (has set t) × SO H a t)
  session-only set a = (out, λ (t, x, l). to-session x l)
    where
      out : LinksTo H (by_session set) a → (t : ℕ) × T (has set t) × SO H a t
      out (to-session {b} x l) = (b, x, l)
      out (to-reader {b} x l) = absurd (has-none b x)
      out (to-writer {b} x l) = absurd (has-none b x)
      out (to-overwriter {b} x l) = absurd (has-none b x)

  reader-only : (set : Set) (a : ℕ) → LinksTo H (by_reader set) a ↔ ((t : ℕ) × T (has set t) × WR H a t)
  reader-only set a = (out, λ (t, x, l). to-reader x l)
    where
      out : LinksTo H (by_reader set) a → (t : ℕ) × T (has set t) × WR H a t
      out (to-session {b} x l) = absurd (has-none b x)
      out (to-reader {b} x l) = (b, x, l)
      out (to-writer {b} x l) = absurd (has-none b x)
      out (to-overwriter {b} x l) = absurd (has-none b x)

  module _ (most : ℕ) (below : StoredBelow most H) (set before : Set) (is-before : IsSet before (λ a. (a < most) × LinksTo H (by_session set) a)) where
    pub before-is : IsSet before (λ a. (t : ℕ) × T (has set t) × SO H a t)
    before-is = is_set-as before (session-only set) (all-tried most below (by_session set) before is-before)

    pub read_is : (readers read : Set) → readers ≡ union set before → IsSet read (λ a. (a < most) × LinksTo H (by_reader readers) a)
        → IsSet read (λ a. (t : ℕ) × T (has set t) × ReadUpTo H a t)
    read_is readers read e is = is_set-as read (λ a. both (reader-only readers a) (out a, back a)) (all-tried most below (by_reader readers) read is)
      where
        in-readers : IsSet readers (λ t. T (has set t) ⊎ ((b : ℕ) × T (has set b) × SO H t b))
        in-readers = rw e (is_set-union set before (λ t. same) before-is)

        up_to : (a r : ℕ) → WR H a r → T (has set r) ⊎ ((b : ℕ) × T (has set b) × SO H r b) → (t : ℕ) × T (has set t) × ReadUpTo H a t
        up_to a r l (inl x) = (r, x, (r, inl refl, l))
        up_to a r l (inr (b, x, o)) = (b, x, (r, inr o, l))

        out : (a : ℕ) → (t : ℕ) × T (has readers t) × WR H a t → (t : ℕ) × T (has set t) × ReadUpTo H a t
        out a (r, x, l) = up_to a r l ((in-readers r).0 x)

        back : (a : ℕ) → (t : ℕ) × T (has set t) × ReadUpTo H a t → (t : ℕ) × T (has readers t) × WR H a t
        back a (t, x, (r, inl d, l)) = (r, (in-readers r).1 (inl (subst (λ (q : ℕ). T (has set q)) (sym d) x)), l)
        back a (t, x, (r, inr o, l)) = (r, (in-readers r).1 (inr (t, x, o)), l)

  -- the commit and those before it in SO; no commit is before itself
  pub up-to-is : (me : ℕ) → StoredBelow (me + 1) H → (only found : Set) {r : Set} → only ≡ single me → IsSet found (λ a. (a < me) × LinksTo H (by_session only) a) → r ≡ insert me found
      → IsSet r (UpTo H me)
  up-to-is me below only found d is e = rw e (is_set-as (insert me found) (λ a. (out a, back a)) (is_set-insert me found is))
    where
      there : (a t : ℕ) → T (has only t) → SO H a t → SO H a me
      there a t x l = subst (SO H a) (single-only me t (subst (λ (m : Set). T (has m t)) d x)) l

      out : (a : ℕ) → (a ≡ me) ⊎ ((a < me) × LinksTo H (by_session only) a) → UpTo H me a
      out a (inl x) = inl x
      out a (inr (_, x)) = let (t, y, l) = (session-only only a).0 x in inr (there a t y l)

      earlier : (a : ℕ) → SO H a me → a < me
      earlier a (session-order p q y z x l) =
          let b : a < me + 1 = below a p in
          let other : ¬ (a ≡ me) = (λ c. let same_number : H.session_of a ≡ H.session_of me = ap H.session_of c in omega arith) in
          omega arith

      back : (a : ℕ) → UpTo H me a → (a ≡ me) ⊎ ((a < me) × LinksTo H (by_session only) a)
      back a (inl x) = inl x
      back a (inr l) = inr (earlier a l, to-session (subst (λ (m : Set). T (has m me)) (sym d) (single-has me)) l)
