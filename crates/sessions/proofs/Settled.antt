-- What a commit changes in the sessions and in the log, as the arrays keep them. Assumes nothing.
use Prim.Native.Nat.{ℕ, suc, ◌+◌, ◌*◌, ◌≤◌, ◌<◌}
use mathlib.Core.Path.{◌≡◌, refl, sym, ap, ◌∙◌, subst}
use mathlib.Core.Logic.{◌⊎◌, inl, inr, ◌↔◌, ◌≢◌}
use mathlib.Core.List.{List}
use native.Mathlib.Omega.{arith}
use native.Mathlib.Decide.{ℕ_discrete}
use lib.ListN.{length, get_or, set, length-set}
use lib.Seq.{get_or-set_same, get_or-set_other}
use Rattle.search.proofs.Tests.{both}
use Rattle.sets.specs.Set.{insert, union}
use Rattle.dependencies.specs.History.{SO, session-order, WR, write_read, as-reader}
use Rattle.store.specs.Limits.{max_clients}
use Rattle.store.specs.Store.{View, Store, next_number, Commit}
use Rattle.store.specs.Update.{update}
use Rattle.store.specs.History.{InLog, history}
use Rattle.growth.specs.Made.{Made, Operates, CommitBy}
use Rattle.growth.proofs.Made.{stored-not-new, new-not-stored, number-after, client-kept, client-new, session-kept, session-new, commit-by-after}
use Rattle.growth.specs.Links.{FromSession, FromRead}
use Rattle.growth.proofs.Links.{SO-after}
use Rattle.growth.specs.Sessions.{ReadByClient, ReadUpTo}
use Rattle.growth.proofs.Sessions.{read-by-client-after, read-up-to-after}
use Rattle.state.specs.Places.{numbers, drawn_place, bar_place, log_place, packed}
use Rattle.state.specs.Keeps.{IsSet, CommitOf, KeepsSessions, KeepsCommits}
use Rattle.state.proofs.Sets.{is_set-as, is_set-union, is_set-insert}

module _ (s : Store) (u : View) (c : Commit) (m : Made s u c) where
  abbrev s' : Store
  s' = update s u c

  abbrev me : ℕ
  me = next_number s

  -- a session number is not above those of the client
  abbrev Taken : Store → ℕ → ℕ → Type 0
  Taken r d x = (t : ℕ) × InLog r d t × (x ≤ r.session_of t)

  old-not-new : {d t : ℕ} → CommitOf s d t → t ≢ me
  old-not-new x = stored-not-new s u c m x.0

  reader-not-new : {w t : ℕ} → WR (history s) w t → t ≢ me
  reader-not-new (write_read w r) = stored-not-new s u c m (as-reader r)

  -- a commit that was there is there with what it read and its number
  keep-commit : (d t : ℕ) → CommitOf s d t → CommitOf s' d t
  keep-commit d t x = (commit-by-after s u c m d t).1 (inl x)

  -- the numbers of another client stay
  same_taken : (d : ℕ) → c.client ≢ d → (x : ℕ) → Taken s d x ↔ Taken s' d x
  same_taken d other x = (
    λ (t, (p, b, e), l). let n : t ≢ me = λ q. omega arith in (t, (p, omega (arith, number-after s u c m), client-kept s u c m n ∙ e), let k = session-kept s u c m n in omega arith),
    λ (t, (p, b, e), l). back t p b e l (ℕ_discrete t me),
  )
    where
      back : (t : ℕ) → 0 < t → t < next_number s' → s'.client_of t ≡ d → x ≤ s'.session_of t → Dec (t ≡ me) → Taken s d x
      back t p b e l (yes q) = absurd (other (sym (client-new s u c m) ∙ ap s'.client_of (sym q) ∙ e))
      back t p b e l (no n) = (t, (p, omega (arith, number-after s u c m), sym (client-kept s u c m n) ∙ e), let k = session-kept s u c m n in omega arith)

  -- those of its own client are below its number, which is one of them now, operations or none
  more-taken : (x : ℕ) → (x < c.session + 1) ↔ Taken s' c.client x
  more-taken x = (
    λ l. (me, (omega arith, omega (arith, number-after s u c m), client-new s u c m), let k = session-new s u c m in omega arith),
    λ (t, (p, b, e), l). out t p b e l (ℕ_discrete t me),
  )
    where
      out : (t : ℕ) → 0 < t → t < next_number s' → s'.client_of t ≡ c.client → x ≤ s'.session_of t → Dec (t ≡ me) → x < c.session + 1
      out t p b e l (yes q) = let k : s'.session_of t ≡ c.session = ap s'.session_of q ∙ session-new s u c m in omega arith
      out t p b e l (no n) =
          let k = session-kept s u c m n in
          let less : s.session_of t < c.session = m.newer t (p, omega (arith, number-after s u c m), sym (client-kept s u c m n) ∙ e) in
          omega arith

  -- a client that gains no commit keeps all of it
  module _ (d : ℕ) (none : ¬ (Operates c × (c.client ≡ d))) where
    old-commit : (t : ℕ) → CommitOf s' d t → CommitOf s d t
    old-commit t x = go ((commit-by-after s u c m d t).0 x)
      where
        go : CommitBy (history s) d t ⊎ ((t ≡ me) × Operates c × (c.client ≡ d)) → CommitOf s d t
        go (inl y) = y
        go (inr (_, o, e)) = absurd (none (o, e))

    same-commits : (t : ℕ) → CommitOf s d t ↔ CommitOf s' d t
    same-commits t = (keep-commit d t, old-commit t)

    same-drawn : (w : ℕ) → ReadByClient (history s) d w ↔ ReadByClient (history s') d w
    same-drawn w = (λ x. (read-by-client-after s u c m d w).1 (inl x), λ x. go ((read-by-client-after s u c m d w).0 x))
      where
        go : ReadByClient (history s) d w ⊎ ((c.client ≡ d) × FromRead s u c w) → ReadByClient (history s) d w
        go (inl y) = y
        go (inr (e, (k, r, q))) = absurd (none ((k, inl r), e))

  -- the client of the commit gains it, what it reads from, and its number
  module _ (o : Operates c) where
    new-commit : CommitOf s' c.client me
    new-commit = (commit-by-after s u c m c.client me).1 (inr (refl, o, refl))

    more-commits : (t : ℕ) → ((t ≡ me) ⊎ CommitOf s c.client t) ↔ CommitOf s' c.client t
    more-commits t = (into, λ x. out ((commit-by-after s u c m c.client t).0 x))
      where
        into : (t ≡ me) ⊎ CommitOf s c.client t → CommitOf s' c.client t
        into (inl e) = subst (CommitOf s' c.client) (sym e) new-commit
        into (inr x) = keep-commit c.client t x

        out : CommitBy (history s) c.client t ⊎ ((t ≡ me) × Operates c × (c.client ≡ c.client)) → (t ≡ me) ⊎ CommitOf s c.client t
        out (inl x) = inr x
        out (inr (e, _, _)) = inl e

    more-drawn : (w : ℕ) → (ReadByClient (history s) c.client w ⊎ FromRead s u c w) ↔ ReadByClient (history s') c.client w
    more-drawn w = (λ x. (read-by-client-after s u c m c.client w).1 (into x), λ x. out ((read-by-client-after s u c m c.client w).0 x))
      where
        into : ReadByClient (history s) c.client w ⊎ FromRead s u c w → ReadByClient (history s) c.client w ⊎ ((c.client ≡ c.client) × FromRead s u c w)
        into (inl x) = inl x
        into (inr x) = inr (refl, x)

        out : ReadByClient (history s) c.client w ⊎ ((c.client ≡ c.client) × FromRead s u c w) → ReadByClient (history s) c.client w ⊎ FromRead s u c w
        out (inl x) = inl x
        out (inr (_, x)) = inr x

  -- ---- the log

  -- no link leads into the new number before
  no-SO-new : {a : ℕ} → ¬ SO (history s) a me
  no-SO-new (session-order sa sb pa pb e l) = new-not-stored s u c m sb

  same-before : (a t : ℕ) → t ≢ me → SO (history s) a t ↔ SO (history s') a t
  same-before a t n = (λ x. (SO-after s u c m a t).1 (inl x), λ x. go ((SO-after s u c m a t).0 x))
    where
      go : SO (history s) a t ⊎ ((t ≡ me) × FromSession s c a) → SO (history s) a t
      go (inl x) = x
      go (inr (e, _)) = absurd (n e)

  new-before : (a : ℕ) → FromSession s c a ↔ SO (history s') a me
  new-before a = (λ x. (SO-after s u c m a me).1 (inr (refl, x)), λ x. go ((SO-after s u c m a me).0 x))
    where
      go : SO (history s) a me ⊎ ((me ≡ me) × FromSession s c a) → FromSession s c a
      go (inl x) = absurd (no-SO-new x)
      go (inr (_, x)) = x

  same_read : (w t : ℕ) → t ≢ me → ReadUpTo (history s) w t ↔ ReadUpTo (history s') w t
  same_read w t n = (λ x. (read-up-to-after s u c m w t).1 (inl x), λ x. go ((read-up-to-after s u c m w t).0 x))
    where
      go : ReadUpTo (history s) w t ⊎ ((t ≡ me) × (FromRead s u c w ⊎ (Operates c × ReadByClient (history s) c.client w))) → ReadUpTo (history s) w t
      go (inl x) = x
      go (inr (e, _)) = absurd (n e)

  new-read : (w : ℕ) → (FromRead s u c w ⊎ (Operates c × ReadByClient (history s) c.client w)) ↔ ReadUpTo (history s') w me
  new-read w = (λ x. (read-up-to-after s u c m w me).1 (inr (refl, x)), λ x. go ((read-up-to-after s u c m w me).0 x))
    where
      go : ReadUpTo (history s) w me ⊎ ((me ≡ me) × (FromRead s u c w ⊎ (Operates c × ReadByClient (history s) c.client w)))
          → FromRead s u c w ⊎ (Operates c × ReadByClient (history s) c.client w)
      go (inl (r, inl e, x)) = absurd (reader-not-new x e)
      go (inl (r, inr x, y)) = absurd (no-SO-new x)
      go (inr (_, x)) = x

-- ---- the arrays

-- a list after three stores
abbrev pub three : List ℕ → ℕ → ℕ → ℕ → ℕ → ℕ → ℕ → List ℕ
three l i j k x y z = set (set (set l i x) j y) k z

-- at different places of it
record Apart (l : List ℕ) (i j k : ℕ) : Type 0 where
  last : k < length l
  first-second : i < j
  second-third : j < k

module _ (l : List ℕ) (i j k x y z : ℕ) (a : Apart l i j k) where
  three-length : length (three l i j k x y z) ≡ length l
  three-length = length-set (set (set l i x) j y) k z ∙ length-set (set l i x) j y ∙ length-set l i x

  three-first : get_or (three l i j k x y z) i 0 ≡ x
  three-first =
      get_or-set_other (set (set l i x) j y) k i z 0 (λ e. omega (arith, a.first-second, a.second-third))
      ∙ get_or-set_other (set l i x) j i y 0 (λ e. omega (arith, a.first-second))
      ∙ get_or-set_same l i x 0 (omega (arith, a.last, a.first-second, a.second-third))

  three-second : get_or (three l i j k x y z) j 0 ≡ y
  three-second =
      get_or-set_other (set (set l i x) j y) k j z 0 (λ e. omega (arith, a.second-third))
      ∙ get_or-set_same (set l i x) j y 0 (omega (arith, a.last, a.second-third, length-set l i x))

  three_third : get_or (three l i j k x y z) k 0 ≡ z
  three_third = get_or-set_same (set (set l i x) j y) k z 0 (omega (arith, a.last, length-set (set l i x) j y, length-set l i x))

  three-other : (n : ℕ) → n ≢ i → n ≢ j → n ≢ k → get_or (three l i j k x y z) n 0 ≡ get_or l n 0
  three-other n ni nj nk = get_or-set_other (set (set l i x) j y) k n z 0 nk ∙ get_or-set_other (set l i x) j n y 0 nj ∙ get_or-set_other l i n x 0 ni

-- the same set at another place
moved : {P : ℕ → Type 0} (x y : ℕ) → y ≡ x → IsSet x P → IsSet y P
moved {P} x y e h = subst (λ (m : ℕ). IsSet m P) (sym e) h

module _ (s : Store) (u : View) (c : Commit) (m : Made s u c) where
  -- a commit without operations leaves the sessions as they are, and its number is taken
  pub idle-sessions : ¬ Operates c → (l : List ℕ) → KeepsSessions s l → (d : ℕ) → c.client ≡ d → d < max_clients → KeepsSessions (update s u c) (set l (bar_place d) (c.session + 1))
  idle-sessions n l h d own less = record {
    room = length-set l (bar_place d) (c.session + 1) ∙ h.room;
    commits-of = λ e b. moved _ _ (get_or-set_other l (bar_place d) e (c.session + 1) 0 (λ q. omega arith)) (is_set-as _ (same-commits s u c m e (idle e)) (h.commits-of e b));
    drawn = λ e b. moved _ _ (get_or-set_other l (bar_place d) (drawn_place e) (c.session + 1) 0 (λ q. omega arith)) (is_set-as _ (same-drawn s u c m e (idle e)) (h.drawn e b));
    bar = λ e b x. bar e b x (ℕ_discrete e d);
  }
    where
      idle : (e : ℕ) → ¬ (Operates c × (c.client ≡ e))
      idle e (o, _) = n o

      bar : (e : ℕ) → e < max_clients → (x : ℕ) → Dec (e ≡ d) → (x < get_or (set l (bar_place d) (c.session + 1)) (bar_place e) 0) ↔ ((t : ℕ) × InLog (update s u c) e t × (x ≤ (update s u c).session_of t))
      bar e b x (no q) =
          let same-bar = get_or-set_other l (bar_place d) (bar_place e) (c.session + 1) 0 (λ z. q (omega arith)) in
          both (λ z. subst (λ (k : ℕ). x < k) same-bar z, λ z. subst (λ (k : ℕ). x < k) (sym same-bar) z) (both (h.bar e b x) (same_taken s u c m e (λ z. q (sym z ∙ own)) x))
      bar e b x (yes q) =
          let new : get_or (set l (bar_place d) (c.session + 1)) (bar_place e) 0 ≡ c.session + 1 = ap (λ (k : ℕ). get_or (set l (bar_place d) (c.session + 1)) (bar_place k) 0) q ∙ get_or-set_same l (bar_place d) (c.session + 1) 0 (omega (arith, h.room)) in
          subst (λ (k : ℕ). (x < get_or (set l (bar_place d) (c.session + 1)) (bar_place e) 0) ↔ ((t : ℕ) × InLog (update s u c) k t × (x ≤ (update s u c).session_of t))) (own ∙ sym q)
          (both (λ z. subst (λ (k : ℕ). x < k) new z, λ z. subst (λ (k : ℕ). x < k) (sym new) z) (more-taken s u c m x))

  module _ (l : List ℕ) (h : KeepsSessions s l) (d : ℕ) (own : c.client ≡ d) (b : d < max_clients) (o : Operates c) (sources : ℕ) (from : IsSet sources (FromRead s u c)) where
    abbrev x : ℕ
    x = insert (next_number s) (get_or l d 0)

    abbrev y : ℕ
    y = union (get_or l (max_clients + d) 0) sources

    abbrev settled : List ℕ
    settled = three l d (max_clients + d) (2 * max_clients + d) x y (c.session + 1)

    apart : Apart l d (max_clients + d) (2 * max_clients + d)
    apart = record { last = omega (arith, h.room); first-second = omega arith; second-third = omega arith }

    abbrev Client : ℕ → Type 0
    Client e = (c.client ≡ e)

    -- with operations, its client gains it, what it reads from, and its number
    pub busy-sessions : KeepsSessions (update s u c) settled
    busy-sessions = record {
      room = three-length l d (max_clients + d) (2 * max_clients + d) x y (c.session + 1) apart ∙ h.room;
      commits-of = λ e be. commits-of e be (ℕ_discrete e d);
      drawn = λ e be. drawn e be (ℕ_discrete e d);
      bar = λ e be v. bar e be v (ℕ_discrete e d);
    }
      where
        at : (e n : ℕ) → e < max_clients → e ≢ d → (n ≡ e) ⊎ ((n ≡ max_clients + e) ⊎ (n ≡ 2 * max_clients + e)) → get_or settled n 0 ≡ get_or l n 0
        at e n be ne (inl q) = three-other l d (max_clients + d) (2 * max_clients + d) x y (c.session + 1) apart n (λ z. ne (omega arith)) (λ z. omega arith) (λ z. omega arith)
        at e n be ne (inr (inl q)) = three-other l d (max_clients + d) (2 * max_clients + d) x y (c.session + 1) apart n (λ z. omega arith) (λ z. ne (omega arith)) (λ z. omega arith)
        at e n be ne (inr (inr q)) = three-other l d (max_clients + d) (2 * max_clients + d) x y (c.session + 1) apart n (λ z. omega arith) (λ z. omega arith) (λ z. ne (omega arith))

        others : (e : ℕ) → e ≢ d → ¬ (Operates c × (c.client ≡ e))
        others e ne (_, q) = ne (sym q ∙ own)

        commits-of : (e : ℕ) → e < max_clients → Dec (e ≡ d) → IsSet (get_or settled e 0) (CommitOf (update s u c) e)
        commits-of e be (no n) = moved _ _ (at e e be n (inl refl)) (is_set-as _ (same-commits s u c m e (others e n)) (h.commits-of e be))
        commits-of e be (yes q) =
            let first : get_or settled e 0 ≡ x = ap (λ (n : ℕ). get_or settled n 0) q ∙ three-first l d (max_clients + d) (2 * max_clients + d) x y (c.session + 1) apart in
            let set = is_set-insert (next_number s) (get_or l d 0) (subst (λ (k : ℕ). IsSet (get_or l d 0) (CommitOf s k)) (sym own) (h.commits-of d b)) in
            moved _ _ first (subst (λ (k : ℕ). IsSet x (CommitOf (update s u c) k)) (own ∙ sym q) (is_set-as x (more-commits s u c m o) set))

        drawn : (e : ℕ) → e < max_clients → Dec (e ≡ d) → IsSet (get_or settled (max_clients + e) 0) (ReadByClient (history (update s u c)) e)
        drawn e be (no n) = moved _ _ (at e (max_clients + e) be n (inr (inl refl))) (is_set-as _ (same-drawn s u c m e (others e n)) (h.drawn e be))
        drawn e be (yes q) =
            let second : get_or settled (max_clients + e) 0 ≡ y = ap (λ (n : ℕ). get_or settled (max_clients + n) 0) q ∙ three-second l d (max_clients + d) (2 * max_clients + d) x y (c.session + 1) apart in
            let set = is_set-union (get_or l (max_clients + d) 0) sources (subst (λ (k : ℕ). IsSet (get_or l (max_clients + d) 0) (ReadByClient (history s) k)) (sym own) (h.drawn d b)) from in
            moved _ _ second (subst (λ (k : ℕ). IsSet y (ReadByClient (history (update s u c)) k)) (own ∙ sym q) (is_set-as y (more-drawn s u c m o) set))

        bar : (e : ℕ) → e < max_clients → (v : ℕ) → Dec (e ≡ d) → (v < get_or settled (2 * max_clients + e) 0) ↔ ((t : ℕ) × InLog (update s u c) e t × (v ≤ (update s u c).session_of t))
        bar e be v (no n) =
            let same-bar = at e (2 * max_clients + e) be n (inr (inr refl)) in
            both (λ z. subst (λ (k : ℕ). v < k) same-bar z, λ z. subst (λ (k : ℕ). v < k) (sym same-bar) z) (both (h.bar e be v) (same_taken s u c m e (λ z. n (sym z ∙ own)) v))
        bar e be v (yes q) =
            let third : get_or settled (2 * max_clients + e) 0 ≡ c.session + 1 = ap (λ (n : ℕ). get_or settled (2 * max_clients + n) 0) q ∙ three_third l d (max_clients + d) (2 * max_clients + d) x y (c.session + 1) apart in
            subst (λ (k : ℕ). (v < get_or settled (2 * max_clients + e) 0) ↔ ((t : ℕ) × InLog (update s u c) k t × (v ≤ (update s u c).session_of t))) (own ∙ sym q)
            (both (λ z. subst (λ (k : ℕ). v < k) third z, λ z. subst (λ (k : ℕ). v < k) (sym third) z) (more-taken s u c m v))

-- ---- the log

module _ (s : Store) (u : View) (c : Commit) (m : Made s u c) where
  -- the words of a commit in the log
  abbrev word : ℕ
  word = packed c.client c.session

  -- the log of a commit that was there, or of the new one
  logged : (l l' : List ℕ) → KeepsCommits s l → get_or l' (next_number s) 0 ≡ word → ((n : ℕ) → n < numbers → n ≢ next_number s → get_or l' n 0 ≡ get_or l n 0)
      → next_number s < numbers → (t : ℕ) → 0 < t → t ≤ (update s u c).commits → get_or l' (log_place t) 0 ≡ packed ((update s u c).client_of t) ((update s u c).session_of t)
  logged l l' h here others few t p q = go (ℕ_discrete t (next_number s))
    where
      last : t < suc (next_number s)
      last = omega (arith, number-after s u c m)

      go : Dec (t ≡ next_number s) → get_or l' t 0 ≡ packed ((update s u c).client_of t) ((update s u c).session_of t)
      go (yes e) =
          ap (λ (n : ℕ). get_or l' n 0) e ∙ here
          ∙ ap (λ (n : ℕ). packed n c.session) (sym (client-new s u c m) ∙ ap (update s u c).client_of (sym e))
          ∙ ap (λ (n : ℕ). packed ((update s u c).client_of t) n) (sym (session-new s u c m) ∙ ap (update s u c).session_of (sym e))
      go (no n) =
          others t (omega (arith, last)) n ∙ h.log t p (omega (arith, last))
          ∙ ap (λ (x : ℕ). packed x (s.session_of t)) (sym (client-kept s u c m n))
          ∙ ap (λ (x : ℕ). packed ((update s u c).client_of t) x) (sym (session-kept s u c m n))

  -- a commit without operations stands in the log alone
  pub idle-commits : ¬ Operates c → next_number s < numbers → (l : List ℕ) → KeepsCommits s l → KeepsCommits (update s u c) (set l (next_number s) word)
  idle-commits n few l h = record {
    room = length-set l (next_number s) word ∙ h.room;
    log = logged l (set l (next_number s) word) h (get_or-set_same l (next_number s) word 0 (omega (arith, h.room))) (λ i b d. get_or-set_other l (next_number s) i word 0 d) few;
    before = λ t b. moved _ _ (get_or-set_other l (next_number s) (numbers + t) word 0 (λ e. omega arith)) (is_set-as _ (λ a. before a t (ℕ_discrete t (next_number s))) (h.before t b));
    read = λ t b. moved _ _ (get_or-set_other l (next_number s) (2 * numbers + t) word 0 (λ e. omega arith)) (is_set-as _ (λ w. read w t (ℕ_discrete t (next_number s))) (h.read t b));
  }
    where
      before : (a t : ℕ) → Dec (t ≡ next_number s) → SO (history s) a t ↔ SO (history (update s u c)) a t
      before a t (no d) = same-before s u c m a t d
      before a t (yes e) = (
        λ x. absurd (no-SO-new s u c m (subst (SO (history s) a) e x)),
        λ x. absurd (n ((new-before s u c m a).1 (subst (SO (history (update s u c)) a) e x)).0),
      )

      nothing : (w : ℕ) → FromRead s u c w ⊎ (Operates c × ReadByClient (history s) c.client w) → ⊥
      nothing w (inl (k, r, _)) = n (k, inl r)
      nothing w (inr (o, _)) = n o

      read : (w t : ℕ) → Dec (t ≡ next_number s) → ReadUpTo (history s) w t ↔ ReadUpTo (history (update s u c)) w t
      read w t (no d) = same_read s u c m w t d
      read w t (yes e) = (
        λ x. (read-up-to-after s u c m w t).1 (inl x),
        λ x. absurd (nothing w ((new-read s u c m w).1 (subst (ReadUpTo (history (update s u c)) w) e x))),
      )

  -- one with operations has the earlier commits of its client before it, and what they and it read from
  module _ (few : next_number s < numbers) (l : List ℕ) (h : KeepsCommits s l) (o : Operates c) (x y : ℕ)
      (commits-of : IsSet x (CommitOf s c.client)) (drawn : IsSet y (λ w. ReadByClient (history s) c.client w ⊎ FromRead s u c w)) where
    abbrev written : List ℕ
    written = three l (next_number s) (numbers + next_number s) (2 * numbers + next_number s) word x y

    apart-rows : Apart l (next_number s) (numbers + next_number s) (2 * numbers + next_number s)
    apart-rows = record { last = omega (arith, h.room); first-second = omega arith; second-third = omega arith }

    kept : (n : ℕ) → n ≢ next_number s → n ≢ numbers + next_number s → n ≢ 2 * numbers + next_number s → get_or written n 0 ≡ get_or l n 0
    kept = three-other l (next_number s) (numbers + next_number s) (2 * numbers + next_number s) word x y apart-rows

    pub busy-commits : KeepsCommits (update s u c) written
    busy-commits = record {
      room = three-length l (next_number s) (numbers + next_number s) (2 * numbers + next_number s) word x y apart-rows ∙ h.room;
      log = logged l written h (three-first l (next_number s) (numbers + next_number s) (2 * numbers + next_number s) word x y apart-rows)
          (λ i b d. kept i d (λ e. omega arith) (λ e. omega arith)) few;
      before = λ t b. before t b (ℕ_discrete t (next_number s));
      read = λ t b. read t b (ℕ_discrete t (next_number s));
    }
      where
        before : (t : ℕ) → t < numbers → Dec (t ≡ next_number s) → IsSet (get_or written (numbers + t) 0) (λ a. SO (history (update s u c)) a t)
        before t b (no d) = moved _ _ (kept (numbers + t) (λ e. omega arith) (λ e. d (omega arith)) (λ e. omega arith)) (is_set-as _ (λ a. same-before s u c m a t d) (h.before t b))
        before t b (yes e) =
            let second : get_or written (numbers + t) 0 ≡ x = ap (λ (n : ℕ). get_or written (numbers + n) 0) e ∙ three-second l (next_number s) (numbers + next_number s) (2 * numbers + next_number s) word x y apart-rows in
            moved _ _ second (subst (λ (n : ℕ). IsSet x (λ a. SO (history (update s u c)) a n)) (sym e)
            (is_set-as x (λ a. both (λ z. (o, z), λ z. z.1) (new-before s u c m a)) commits-of))

        split : (w : ℕ) → (ReadByClient (history s) c.client w ⊎ FromRead s u c w) ↔ (FromRead s u c w ⊎ (Operates c × ReadByClient (history s) c.client w))
        split w = (to, back)
          where
            to : ReadByClient (history s) c.client w ⊎ FromRead s u c w → FromRead s u c w ⊎ (Operates c × ReadByClient (history s) c.client w)
            to (inl z) = inr (o, z)
            to (inr z) = inl z

            back : FromRead s u c w ⊎ (Operates c × ReadByClient (history s) c.client w) → ReadByClient (history s) c.client w ⊎ FromRead s u c w
            back (inl z) = inr z
            back (inr (_, z)) = inl z

        read : (t : ℕ) → t < numbers → Dec (t ≡ next_number s) → IsSet (get_or written (2 * numbers + t) 0) (λ w. ReadUpTo (history (update s u c)) w t)
        read t b (no d) = moved _ _ (kept (2 * numbers + t) (λ e. omega arith) (λ e. omega arith) (λ e. d (omega arith))) (is_set-as _ (λ w. same_read s u c m w t d) (h.read t b))
        read t b (yes e) =
            let third : get_or written (2 * numbers + t) 0 ≡ y = ap (λ (n : ℕ). get_or written (2 * numbers + n) 0) e ∙ three_third l (next_number s) (numbers + next_number s) (2 * numbers + next_number s) word x y apart-rows in
            moved _ _ third (subst (λ (n : ℕ). IsSet y (λ w. ReadUpTo (history (update s u c)) w n)) (sym e)
            (is_set-as y (λ w. both (split w) (new-read s u c m w)) drawn))

-- ---- the same with the numbers that the code has

module _ (s : Store) (u : View) (c : Commit) (m : Made s u c) (n d v : ℕ) (number : next_number s ≡ n) (client : c.client ≡ d) (session : c.session ≡ v)
    (b : d < max_clients) (few : n < numbers) (sources : ℕ) (from : IsSet sources (FromRead s u c)) (l r : List ℕ) (h : KeepsSessions s l) (x y : ℕ)
    (ex : x ≡ insert n (get_or l d 0)) (ey : y ≡ union (get_or l (max_clients + d) 0) sources) (o : Operates c) where
  pub sessions-settled : KeepsSessions (update s u c) (three l d (max_clients + d) (2 * max_clients + d) x y (v + 1))
  sessions-settled =
      subst (λ (q : ℕ). KeepsSessions (update s u c) (three l d (max_clients + d) (2 * max_clients + d) q y (v + 1))) (ap (λ (i : ℕ). insert i (get_or l d 0)) number ∙ sym ex)
      (subst (λ (q : ℕ). KeepsSessions (update s u c) (three l d (max_clients + d) (2 * max_clients + d) (insert (next_number s) (get_or l d 0)) q (v + 1))) (sym ey)
      (subst (λ (q : ℕ). KeepsSessions (update s u c) (three l d (max_clients + d) (2 * max_clients + d) (insert (next_number s) (get_or l d 0)) (union (get_or l (max_clients + d) 0) sources) (q + 1))) session
      (busy-sessions s u c m l h d client b o sources from)))

  pub commits-settled : KeepsCommits s r → KeepsCommits (update s u c) (three r n (numbers + n) (2 * numbers + n) (packed d v) (get_or l d 0) y)
  commits-settled k =
      let commits-of = subst (λ (e : ℕ). IsSet (get_or l d 0) (CommitOf s e)) (sym client) (h.commits-of d b) in
      let drawn : IsSet y (λ w. ReadByClient (history s) c.client w ⊎ FromRead s u c w) =
      subst (λ (q : ℕ). IsSet q (λ w. ReadByClient (history s) c.client w ⊎ FromRead s u c w)) (sym ey)
      (is_set-union (get_or l (max_clients + d) 0) sources (subst (λ (e : ℕ). IsSet (get_or l (max_clients + d) 0) (ReadByClient (history s) e)) (sym client) (h.drawn d b)) from) in
      let less : next_number s < numbers = omega arith in
      subst (λ (q : ℕ). KeepsCommits (update s u c) (three r q (numbers + q) (2 * numbers + q) (packed d v) (get_or l d 0) y)) number
      (subst (λ (q : ℕ). KeepsCommits (update s u c) (three r (next_number s) (numbers + next_number s) (2 * numbers + next_number s) (packed q v) (get_or l d 0) y)) client
      (subst (λ (q : ℕ). KeepsCommits (update s u c) (three r (next_number s) (numbers + next_number s) (2 * numbers + next_number s) (packed c.client q) (get_or l d 0) y)) session
      (busy-commits s u c m less r k o (get_or l d 0) y commits-of drawn)))

pub commits-idle : (s : Store) (u : View) (c : Commit) → Made s u c → (n d v : ℕ) → next_number s ≡ n → c.client ≡ d → c.session ≡ v → n < numbers → ¬ Operates c
    → (r : List ℕ) → KeepsCommits s r → KeepsCommits (update s u c) (set r n (packed d v))
commits-idle s u c m n d v number client session few idle r k =
    let less : next_number s < numbers = omega arith in
    subst (λ (q : ℕ). KeepsCommits (update s u c) (set r q (packed d v))) number
    (subst (λ (q : ℕ). KeepsCommits (update s u c) (set r (next_number s) (packed q v))) client
    (subst (λ (q : ℕ). KeepsCommits (update s u c) (set r (next_number s) (packed c.client q))) session
    (idle-commits s u c m idle less r k)))
