-- Links that are noted of a commit and entered later: what is noted stays, a commit more is noted at the end, and the first one is entered. Assumes nothing.
use Prim.Native.Nat.{ℕ, zero, suc, ◌+◌, ◌*◌, ◌≤◌, ◌<◌}
use mathlib.Core.Path.{◌≡◌, refl, sym, ap, ◌∙◌, subst}
use mathlib.Core.Logic.{◌⊎◌, inl, inr}
use mathlib.Core.List.{List}
use native.Mathlib.Omega.{arith}
use lib.ListN.{length, get_or, set, length-set}
use lib.Seq.{get_or-set_same, get_or-set_other}
use Rattle.sets.specs.Set.{Set}
use Rattle.store.specs.Limits.{max_keys, numbers}
use Rattle.store.specs.Store.{View, Store, next_number, Commit}
use Rattle.store.specs.Update.{update}
use Rattle.growth.specs.Made.{Made}
use Rattle.growth.specs.Links.{FromSession, FromRead, FromWrite, ToLater}
use Rattle.growth.proofs.Made.{keys-after, number-after}
use Rattle.state.specs.Places.{link_place, lead_place, note_place, entered_place, links_length}
use Rattle.state.specs.Room.{LinksRoom}
use Rattle.state.specs.Keeps.{IsSet, KeepsOperations, KeepsLinks, Noted, NotedSince, EnteredTo, FollowsLinks}

-- ---- the array written elsewhere

-- the rows and the leads stand before the notes
pub kept-as : {s : Store} {links links' : List ℕ} → s.keys ≤ max_keys → length links' ≡ length links
    → ((j : ℕ) → j < 2 * numbers + 2 * max_keys → get_or links' j 0 ≡ get_or links j 0) → KeepsLinks s links → KeepsLinks s links'
kept-as few long same h = record {
  room = long ∙ h.room;
  steps = λ kind b t l. rw (same (link_place kind t) (omega arith)) (h.steps kind b t l);
  leads = λ kind b k l. rw (same (lead_place kind k) (omega arith)) (h.leads kind b k l);
}

pub noted-as : {s : Store} {u : View} {c : Commit} {links links' : List ℕ} → ((part : ℕ) → part < 5 → get_or links' (note_place part (next_number s)) 0 ≡ get_or links (note_place part (next_number s)) 0)
    → Noted s u c links → Noted s u c links'
noted-as same h = record {
  made = h.made;
  from-session = rw (same 0 (omega arith)) h.from-session;
  from-reads = rw (same 1 (omega arith)) h.from-reads;
  from-writes = rw (same 2 (omega arith)) h.from-writes;
  to-later = rw (same 3 (omega arith)) h.to-later;
  values = h.values;
  operations = rw (same 4 (omega arith)) h.operations;
}

-- a part of what is noted, where the code reads it
pub part_at : (P : Set → Type 0) (links : List ℕ) (part t p m : ℕ) → m ≡ t → p ≡ note_place part t → P (get_or links (note_place part m) 0) → P (get_or links p 0)
part_at P links part t p m e q x = subst (λ (j : ℕ). P (get_or links j 0)) (omega (arith, e, q)) x

-- ---- commits that are noted

pub since-number : (m : ℕ) (links : List ℕ) (a b : Store) → NotedSince m links a b → next_number b ≡ next_number a + m
unfolding NotedSince
since-number zero links a b e = ap next_number (sym e) ∙ omega arith
since-number (suc m) links a b (u, c, n, r) = let x = since-number m links (update a u c) b r in let y = number-after a u c n.made in omega arith

pub since-keys : (m : ℕ) (links : List ℕ) (a b : Store) → NotedSince m links a b → b.keys ≡ a.keys
unfolding NotedSince
since-keys zero links a b e = ap (λ (s : Store). s.keys) (sym e)
since-keys (suc m) links a b (u, c, n, r) = since-keys m links (update a u c) b r ∙ keys-after a u c n.made

pub since-as : (m : ℕ) (links links' : List ℕ) (a b : Store)
    → ((part t : ℕ) → part < 5 → t < next_number b → get_or links' (note_place part t) 0 ≡ get_or links (note_place part t) 0)
    → NotedSince m links a b → NotedSince m links' a b
unfolding NotedSince
since-as zero links links' a b same e = e
since-as (suc m) links links' a b same (u, c, n, r) =
    let x = since-number m links (update a u c) b r in
    let y = number-after a u c n.made in
    (u, c, noted-as (λ part l. same part (next_number a) l (omega arith)) n, since-as m links links' (update a u c) b same r)

pub since-more : (m : ℕ) (links : List ℕ) (a b : Store) (u : View) (c : Commit) → NotedSince m links a b → Noted b u c links → NotedSince (suc m) links a (update b u c)
unfolding NotedSince
since-more zero links a b u c e n = subst (λ (s : Store). (u' : View) × (c' : Commit) × Noted s u' c' links × (update s u' c' ≡ update b u c)) (sym e) (u, c, n, refl)
since-more (suc m) links a b u c (u', c', n', r) n = (u', c', n', since-more m links (update a u' c') b u c r n)

-- none is left where the numbers are equal
pub since_none : (m : ℕ) (links : List ℕ) (a b : Store) → NotedSince m links a b → next_number a ≡ next_number b → a ≡ b
unfolding NotedSince
since_none zero links a b e q = e
since_none (suc m) links a b (u, c, n, r) q = absurd (let x = since-number m links (update a u c) b r in let y = number-after a u c n.made in omega arith)

-- one is left where they are not
pub since-some : (m : ℕ) (links : List ℕ) (a b : Store) → NotedSince m links a b → next_number a < next_number b
    → (p : ℕ) × (u : View) × (c : Commit) × Noted a u c links × NotedSince p links (update a u c) b
unfolding NotedSince
since-some zero links a b e q = absurd (let x = ap next_number e in omega arith)
since-some (suc m) links a b (u, c, n, r) q = (m, u, c, n, r)

-- ---- a commit more is noted

module _ (links : List ℕ) (room : LinksRoom links) (me p₀ p₁ p₂ p₃ p₄ : ℕ) (numbered : me < numbers)
    (e₀ : p₀ ≡ note_place 0 me) (e₁ : p₁ ≡ note_place 1 me) (e₂ : p₂ ≡ note_place 2 me) (e₃ : p₃ ≡ note_place 3 me) (e₄ : p₄ ≡ note_place 4 me) (so sources earlier over ranks : Set) where
  abbrev w₁ : List ℕ
  w₁ = set links p₀ so

  abbrev w₂ : List ℕ
  w₂ = set w₁ p₁ sources

  abbrev w₃ : List ℕ
  w₃ = set w₂ p₂ earlier

  abbrev w₄ : List ℕ
  w₄ = set w₃ p₃ over

  abbrev words : List ℕ
  words = set w₄ p₄ ranks

  long₁ : length w₁ ≡ links_length
  long₁ = length-set links p₀ so ∙ room

  long₂ : length w₂ ≡ links_length
  long₂ = length-set w₁ p₁ sources ∙ long₁

  long₃ : length w₃ ≡ links_length
  long₃ = length-set w₂ p₂ earlier ∙ long₂

  long₄ : length w₄ ≡ links_length
  long₄ = length-set w₃ p₃ over ∙ long₃

  -- the words of other places stay
  other : (j : ℕ) → j < p₀ ⊎ p₄ < j → get_or words j 0 ≡ get_or links j 0
  other j (inl l) =
      get_or-set_other w₄ p₄ j ranks 0 (λ e. absurd (omega arith)) ∙ get_or-set_other w₃ p₃ j over 0 (λ e. absurd (omega arith)) ∙ get_or-set_other w₂ p₂ j earlier 0 (λ e. absurd (omega arith))
      ∙ get_or-set_other w₁ p₁ j sources 0 (λ e. absurd (omega arith)) ∙ get_or-set_other links p₀ j so 0 (λ e. absurd (omega arith))
  other j (inr l) =
      get_or-set_other w₄ p₄ j ranks 0 (λ e. absurd (omega arith)) ∙ get_or-set_other w₃ p₃ j over 0 (λ e. absurd (omega arith)) ∙ get_or-set_other w₂ p₂ j earlier 0 (λ e. absurd (omega arith))
      ∙ get_or-set_other w₁ p₁ j sources 0 (λ e. absurd (omega arith)) ∙ get_or-set_other links p₀ j so 0 (λ e. absurd (omega arith))

  -- and those of the commit are what is noted
  read₀ : get_or words p₀ 0 ≡ so
  read₀ =
      get_or-set_other w₄ p₄ p₀ ranks 0 (λ e. absurd (omega arith)) ∙ get_or-set_other w₃ p₃ p₀ over 0 (λ e. absurd (omega arith)) ∙ get_or-set_other w₂ p₂ p₀ earlier 0 (λ e. absurd (omega arith))
      ∙ get_or-set_other w₁ p₁ p₀ sources 0 (λ e. absurd (omega arith)) ∙ get_or-set_same links p₀ so 0 (omega arith)

  read₁ : get_or words p₁ 0 ≡ sources
  read₁ =
      get_or-set_other w₄ p₄ p₁ ranks 0 (λ e. absurd (omega arith)) ∙ get_or-set_other w₃ p₃ p₁ over 0 (λ e. absurd (omega arith)) ∙ get_or-set_other w₂ p₂ p₁ earlier 0 (λ e. absurd (omega arith))
      ∙ get_or-set_same w₁ p₁ sources 0 (omega (arith, long₁))

  read₂ : get_or words p₂ 0 ≡ earlier
  read₂ =
      get_or-set_other w₄ p₄ p₂ ranks 0 (λ e. absurd (omega arith)) ∙ get_or-set_other w₃ p₃ p₂ over 0 (λ e. absurd (omega arith)) ∙ get_or-set_same w₂ p₂ earlier 0 (omega (arith, long₂))

  read₃ : get_or words p₃ 0 ≡ over
  read₃ = get_or-set_other w₄ p₄ p₃ ranks 0 (λ e. absurd (omega arith)) ∙ get_or-set_same w₃ p₃ over 0 (omega (arith, long₃))

  read₄ : get_or words p₄ 0 ≡ ranks
  read₄ = get_or-set_same w₄ p₄ ranks 0 (omega (arith, long₄))

  module _ (s : Store) (u : View) (c : Commit) (values : List ℕ) (made : Made s u c) (number : next_number s ≡ me) (operations : KeepsOperations c ranks values)
      (is-so : IsSet so (FromSession s c)) (is-sources : IsSet sources (FromRead s u c)) (is-earlier : IsSet earlier (FromWrite s c)) (is-over : IsSet over (ToLater s u c)) where
    word : (part p x : ℕ) → p ≡ note_place part me → get_or words p 0 ≡ x → x ≡ get_or words (note_place part (next_number s)) 0
    word part p x e r = sym r ∙ ap (λ (q : ℕ). get_or words q 0) (omega (arith, e, number))

    noted-new : Noted s u c words
    noted-new = record {
      made = made;
      from-session = subst (λ (w : ℕ). IsSet w (FromSession s c)) (word 0 p₀ so e₀ read₀) is-so;
      from-reads = subst (λ (w : ℕ). IsSet w (FromRead s u c)) (word 1 p₁ sources e₁ read₁) is-sources;
      from-writes = subst (λ (w : ℕ). IsSet w (FromWrite s c)) (word 2 p₂ earlier e₂ read₂) is-earlier;
      to-later = subst (λ (w : ℕ). IsSet w (ToLater s u c)) (word 3 p₃ over e₃ read₃) is-over;
      values = values;
      operations = subst (λ (w : ℕ). KeepsOperations c w values) (word 4 p₄ ranks e₄ read₄) operations;
    }

    pub follows-noted : FollowsLinks s links → FollowsLinks (update s u c) words
    follows-noted f = record {
      earlier = f.earlier;
      number_is = f.number_is ∙ sym (other entered_place (inr (omega arith)));
      few = f.few;
      kept = kept-as f.few (length-set w₄ p₄ ranks ∙ long₄ ∙ sym room) (λ j l. other j (inl (omega arith))) f.kept;
      since = suc f.since;
      noted = since-more f.since words f.earlier s u c (since-as f.since links words f.earlier s (λ part t l b. other (note_place part t) (inl (omega arith))) f.noted) noted-new;
    }

-- ---- the first of those that are noted is entered

pub entered-more : (n last : ℕ) (links links' : List ℕ) (s : Store) → s.keys ≡ n → last < s.commits
    → ((a : Store) (u : View) (c : Commit) → Noted a u c links → next_number a ≡ last + 1 → a.keys ≡ n → KeepsLinks a links → KeepsLinks (update a u c) links')
    → ((part t : ℕ) → get_or links' (note_place part t) 0 ≡ get_or links (note_place part t) 0)
    → EnteredTo last s links → EnteredTo (last + 1) s links'
entered-more n last links links' s k l enter same f =
    let a = f.earlier in
    let x = f.number_is in
    let (p, u, c, m, r) = since-some f.since links a s f.noted (omega arith) in
    record {
      earlier = update a u c;
      number_is = let y = number-after a u c m.made in omega arith;
      few = let y = keys-after a u c m.made in let z = f.few in omega arith;
      kept = enter a u c m (omega arith) (sym (since-keys f.since links a s f.noted) ∙ k) f.kept;
      since = p;
      noted = since-as p links links' (update a u c) s (λ part t _ _. same part t) r;
    }

-- until all are
pub entered_all : (links : List ℕ) (s : Store) (last end : ℕ) → LinksRoom links → s.commits ≡ end → end ≤ last → EnteredTo last s links
    → KeepsLinks s (set links entered_place end) × FollowsLinks s (set links entered_place end)
unfolding NotedSince
entered_all links s last end room e l f = (
  kept,
  record { earlier = s; number_is = e ∙ sym (get_or-set_same links entered_place end 0 (omega arith)); few = few; kept = kept; since = 0; noted = refl },
)
  where
    all : f.earlier ≡ s
    all =
        let x = f.number_is in
        let y = since-number f.since links f.earlier s f.noted in
        since_none f.since links f.earlier s f.noted (omega arith)

    few : s.keys ≤ max_keys
    few = subst (λ (a : Store). a.keys ≤ max_keys) all f.few

    kept : KeepsLinks s (set links entered_place end)
    kept = kept-as few (length-set links entered_place end) (λ j b. get_or-set_other links entered_place j end 0 (λ q. absurd (omega arith))) (subst (λ (a : Store). KeepsLinks a links) all f.kept)
