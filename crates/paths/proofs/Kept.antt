-- The array with a commit more keeps the links of the store with the commit more. Assumes nothing.
use Prim.Native.Nat.{ℕ, zero, suc, ◌+◌, ◌*◌, ◌<◌}
use mathlib.Core.Path.{◌≡◌, refl, sym, ◌∙◌, subst}
use mathlib.Core.Bool.{Bool, true, false}
use mathlib.Core.Logic.Iff
use mathlib.Core.Logic.{◌⊎◌, inl, inr, ◌↔◌, ◌≢◌}
use mathlib.Core.List.{List}
use native.Mathlib.Omega.{arith}
use native.Mathlib.Decide.{ℕ_discrete}
use lib.Dec.{T}
use lib.ListN.{length, get_or}
use Rattle.search.specs.Choose.{is_some, when}
use Rattle.search.proofs.Tests.{same, both}
use Rattle.sets.specs.Set.{Set, has, union}
use Rattle.store.specs.Store.{Key, CommitNumber, View, Store, next_number, Commit}
use Rattle.store.specs.Update.{reads, writes, update}
use Rattle.store.specs.History.{history}
use Rattle.growth.specs.Made.{Made}
use Rattle.growth.proofs.Made.{after}
use Rattle.growth.specs.Links.{FromSession, FromRead, FromWrite, ToLater}
use Rattle.growth.proofs.Steps.{LeadsTo, Brought, brought-by-keys, SessionOrReadSource, PlainSource, prefix-to-new, prefix-to-old, prefix-leads-after, snapshot-to-new, snapshot-to-old, snapshot-leads-after}
use Rattle.state.specs.Places.{numbers, link_place, lead_place}
use Rattle.state.specs.Keeps.{IsSet, ReadKey, FirstLink, Step, KeepsLinks, KeepsOperations}
use Rattle.state.proofs.Sets.{is_set-as, is_set-union}
use Rattle.paths.specs.Added.{BroughtBelow}
use Rattle.paths.proofs.Added.{AddedKind}

either_is : {A B C D : Type 0} → A ↔ B → C ↔ D → (A ⊎ C) ↔ (B ⊎ D)
either_is {A} {B} {C} {D} f g = (into, out)
  where
    into : A ⊎ C → B ⊎ D
    into (inl a) = inl (f.0 a)
    into (inr c) = inr (g.0 c)

    out : B ⊎ D → A ⊎ C
    out (inl b) = inl (f.1 b)
    out (inr d) = inr (g.1 d)

-- ---- the operations, by rank

when-is : {A : Type 0} (b : Bool) (x : A) → T (is_some (when b x)) ↔ T b
unfolding is_some when
when-is true x = same
when-is false x = same

read-rank : (c : Commit) (ranks : Set) (values : List ℕ) → KeepsOperations c ranks values → (k : Key) → T (has ranks (2 * k)) ↔ T (reads c k)
read-rank c ranks values o k = rw (o.reads k) (Iff.symm (when-is (has ranks (2 * k)) (get_or values (2 * k) 0)))

write-rank : (c : Commit) (ranks : Set) (values : List ℕ) → KeepsOperations c ranks values → (k : Key) → T (has ranks (2 * k + 1)) ↔ T (writes c k)
write-rank c ranks values o k = rw (o.writes k) (Iff.symm (when-is (has ranks (2 * k + 1)) (get_or values (2 * k + 1) 0)))

-- ---- the links of one kind

pub record KeepsKind (kind : ℕ) (s : Store) (links : List ℕ) : Type 0 where
  pub steps : (t : CommitNumber) → t < numbers → IsSet (get_or links (link_place kind t) 0) (λ a. Step kind s a t)
  pub leads : (k : Key) → k < s.keys → IsSet (get_or links (lead_place kind k) 0) (λ a. (r : ℕ) × ReadKey s k r × FirstLink kind s a r)

module _ (s : Store) (u : View) (c : Commit) (m : Made s u c) where
  -- the commits from which a link leads to the commit that RW may follow
  abbrev Source : ℕ → CommitNumber → Type 0
  Source zero = SessionOrReadSource s u c
  Source (suc n) = PlainSource s u c

  step-to-new : (kind a : ℕ) → Step kind (update s u c) a (next_number s) ↔ (PlainSource s u c a ⊎ Brought s c (FirstLink kind s) a)
  step-to-new zero = prefix-to-new s u c m
  step-to-new (suc n) = snapshot-to-new s u c m

  step-to-old : (kind a b : ℕ) → b ≢ next_number s → Step kind (update s u c) a b ↔ (Step kind s a b ⊎ (ToLater s u c b × Source kind a))
  step-to-old zero = prefix-to-old s u c m
  step-to-old (suc n) = snapshot-to-old s u c m

  leads-after : (kind k a : ℕ) → LeadsTo (FirstLink kind (update s u c)) (after s u c) k a ↔ (LeadsTo (FirstLink kind s) (history s) k a ⊎ (T (reads c k) × Source kind a))
  leads-after zero = prefix-leads-after s u c m
  leads-after (suc n) = snapshot-leads-after s u c m

  -- the keys of the store stay
  keys-stay : (update s u c).keys ≡ s.keys
  unfolding update
  keys-stay = refl

  -- the kind that gains the commit
  module _ (kind : ℕ) (first into over ranks : Set) (values before grown : List ℕ) (o : KeepsOperations c ranks values)
      (is-first : IsSet first (Source kind)) (is-into : IsSet into (PlainSource s u c)) (is-over : IsSet over (ToLater s u c))
      (a : AddedKind kind (next_number s) first into over ranks s.keys before grown) (h : KeepsKind kind s before) where
    leads-is : (k : Key) → k < s.keys → (x : CommitNumber) → T (has (get_or before (lead_place kind k) 0) x) ↔ LeadsTo (FirstLink kind s) (history s) k x
    leads-is k l x = both (h.leads k l x) (λ (r, y, d). (r, d, y), λ (r, d, y). (r, y, d))

    brought-is : (x : CommitNumber) → BroughtBelow kind before ranks s.keys x ↔ Brought s c (FirstLink kind s) x
    brought-is x = both (out, in-keys) (Iff.symm (brought-by-keys s c (FirstLink kind s) x))
      where
        out : BroughtBelow kind before ranks s.keys x → (k : Key) × T (writes c k) × LeadsTo (FirstLink kind s) (history s) k x
        out (k, l, (w, y)) = (k, (write-rank c ranks values o k).0 w, (leads-is k l x).0 y)

        in-keys : (k : Key) × T (writes c k) × LeadsTo (FirstLink kind s) (history s) k x → BroughtBelow kind before ranks s.keys x
        in-keys (k, w, y) = let l = m.fits.write-keys k w in (k, l, ((write-rank c ranks values o k).1 w, (leads-is k l x).1 y))

    row : (t : CommitNumber) → t < numbers → Dec (t ≡ next_number s) → IsSet (get_or grown (link_place kind t) 0) (λ x. Step kind (update s u c) x t)
    row t l (yes e) =
        subst (λ (y : ℕ). IsSet (get_or grown (link_place kind y) 0) (λ x. Step kind (update s u c) x y)) (sym e)
        (is_set-as (get_or grown (link_place kind (next_number s)) 0) (λ x. both (either_is (is-into x) (brought-is x)) (Iff.symm (step-to-new kind x))) a.new_row)
    row t l (no n) =
        is_set-as (get_or grown (link_place kind t) 0) (λ x. both (either_is (h.steps t l x) (Iff.and (is-over t) (is-first x))) (Iff.symm (step-to-old kind x t n))) (a.old_row t l n)

    lead : (k : Key) → k < s.keys → (x : CommitNumber) → T (has (get_or grown (lead_place kind k) 0) x) ↔ ((r : ℕ) × ReadKey (update s u c) k r × FirstLink kind (update s u c) x r)
    lead k l x =
        both (a.lead k l x) (both (either_is (leads-is k l x) (Iff.and (read-rank c ranks values o k) (is-first x)))
        (both (Iff.symm (leads-after kind k x)) (λ (r, d, y). (r, y, d), λ (r, y, d). (r, d, y))))

    pub kind_grows : KeepsKind kind (update s u c) grown
    kind_grows = record { steps = λ t l. row t l (ℕ_discrete t (next_number s)); leads = λ k l. lead k (rw keys-stay at l) }

-- both kinds
pub links-added : (me : CommitNumber) (so sources earlier over ranks : Set) (n : ℕ) (before grown : List ℕ) {first into : Set} → length grown ≡ length before
    → first ≡ union so sources → into ≡ union first earlier
    → AddedKind 0 me first into over ranks n before grown → AddedKind 1 me into into over ranks n before grown
    → (s : Store) (u : View) (c : Commit) (values : List ℕ) → Made s u c → next_number s ≡ me → s.keys ≡ n → KeepsOperations c ranks values
    → IsSet so (FromSession s c) → IsSet sources (FromRead s u c) → IsSet earlier (FromWrite s c) → IsSet over (ToLater s u c)
    → KeepsLinks s before → KeepsLinks (update s u c) grown
links-added me so sources earlier over ranks n before grown {first} {into} long e f a b s u c values m g q o is-so is-sources is-earlier is-over h = record {
  room = long ∙ h.room;
  steps = λ kind l. (kept kind l).steps;
  leads = λ kind l. (kept kind l).leads;
}
  where
    is-first : IsSet first (SessionOrReadSource s u c)
    is-first = subst (λ (w : ℕ). IsSet w (SessionOrReadSource s u c)) (sym e) (is_set-union so sources is-so is-sources)

    is-into : IsSet into (PlainSource s u c)
    is-into = subst (λ (w : ℕ). IsSet w (PlainSource s u c)) (sym f) (is_set-union first earlier is-first is-earlier)

    old : (kind : ℕ) → kind < 2 → KeepsKind kind s before
    old kind l = record { steps = h.steps kind l; leads = h.leads kind l }

    kept : (kind : ℕ) → kind < 2 → KeepsKind kind (update s u c) grown
    kept zero l = kind_grows s u c m 0 first into over ranks values before grown o is-first is-into is-over (rw (g, q) a) (old 0 l)
    kept (suc zero) l = kind_grows s u c m 1 into into over ranks values before grown o is-into is-into is-over (rw (g, q) b) (old 1 l)
    kept (suc (suc k)) l = absurd (omega arith)
