-- One client's view is replaced in the arrays, and the commits that it holds with it. Assumes nothing.
use Prim.Native.Nat.{ℕ, ◌+◌, ◌*◌, ◌≤◌, ◌<◌}
use mathlib.Core.Path.{◌≡◌, sym, ap, ◌∙◌, subst}
use mathlib.Core.Logic.{◌⊎◌, inl, inr, ◌↔◌, ◌≢◌}
use mathlib.Core.List.{List}
use native.Mathlib.Omega.{arith}
use native.Mathlib.Nat.{zero-add}
use native.Mathlib.Decide.{ℕ_discrete, dec_lt}
use lib.ListN.{length, get_or, set, length-set}
use lib.Seq.{get_or-set_same, get_or-set_other}
use Rattle.dependencies.specs.History.{Holds}
use Rattle.store.specs.Limits.{max_keys, max_clients}
use Rattle.store.specs.Store.{CommitNumber, Client, View, Configuration, next_number, Commit, shift, commit}
use Rattle.store.specs.Update.{at_number, update, step, view_before, store_after}
use Rattle.store.proofs.Updated.{at_same, at_other}
use Rattle.store.specs.Sound.{Sound}
use Rattle.store.specs.History.{history, held}
use Rattle.growth.specs.Made.{Made}
use Rattle.growth.proofs.Views.{holds_kept}
use Rattle.state.specs.Places.{view_place, stored_row}
use Rattle.state.specs.Keeps.{IsSet, RowIs, KeepsViews, KeepsMasks}
use Rattle.state.specs.Rows.{RowAt}
use Rattle.state.proofs.Sets.{is_set-as}
use Rattle.views.specs.Rows.{Moved, Kept}

-- ---- rows of one array

-- row e is outside the n masks of row d
outside : (e d n k : ℕ) → n ≤ max_keys → k < n → e ≢ d → (view_place e k < max_keys * d) ⊎ (max_keys * d + n ≤ view_place e k)
outside e d n k few b ne = go (dec_lt e d)
  where
    go : Dec (e < d) → (view_place e k < max_keys * d) ⊎ (max_keys * d + n ≤ view_place e k)
    go (yes l) = inl (omega arith)
    go (no l) = inr (omega arith)

-- the masks of the row stay
abbrev RowStays : ℕ → List ℕ → List ℕ → ℕ → Type 0
RowStays n views views' e = (k : ℕ) → k < n → get_or views' (view_place e k) 0 ≡ get_or views (view_place e k) 0

-- every row but the one that masks are copied to; and but the one that was stored besides
pub kept-rows : {fresh views views' : List ℕ} {d n : ℕ} → n ≤ max_keys → Kept fresh (max_keys * d) n views views' → (e : ℕ) → e ≢ d → RowStays n views views' e
kept-rows {d = d} {n = n} few h e ne k b = h.others (view_place e k) (outside e d n k few b ne)

moved-rows : {fresh views views' : List ℕ} {d p n : ℕ} → n ≤ max_keys → Moved fresh (max_keys * d) (view_place p 0) n views views'
    → (e : ℕ) → e ≢ d → e ≢ p → RowStays n views views' e
moved-rows {d = d} {p = p} {n = n} few h e nd np k b =
    h.others (view_place e k) (outside e d n k few b nd) (subst (λ (x : ℕ). (view_place e k < x) ⊎ (x + n ≤ view_place e k)) (omega arith) (outside e p n k few b np))

-- ---- the views of the clients

-- the rows of the clients, where that of client d became u
pub rows_replaced : (before after : Client → View) (d : Client) (u : View) (n : ℕ) → after d ≡ u → ((e : Client) → e ≢ d → after e ≡ before e)
    → (views views' fresh : List ℕ) → ((e : Client) → e < max_clients → RowIs n views e (before e)) → RowAt n fresh 0 u
    → ((k : ℕ) → k < n → get_or views' (view_place d k) 0 ≡ get_or fresh k 0) → ((e : Client) → e < max_clients → e ≢ d → RowStays n views views' e)
    → (e : Client) → e < max_clients → RowIs n views' e (after e)
rows_replaced before after d u n own others views views' fresh rows f row stays e be = at-client (ℕ_discrete e d)
  where
    at-client : Dec (e ≡ d) → RowIs n views' e (after e)
    at-client (yes q) i bi =
        ap (λ (x : ℕ). get_or views' (max_keys * x + i) 0) q ∙ row i bi ∙ ap (λ (x : ℕ). get_or fresh x 0) (sym (zero-add i)) ∙ f i bi
        ∙ ap (λ (v : View). v i) (sym own ∙ ap after (sym q))
    at-client (no ne) i bi = stays e be ne i bi ∙ rows e be i bi ∙ ap (λ (v : View). v i) (sym (others e ne))

module _ (g g' : Configuration) (d : Client) (u : View) (n : ℕ) (keys-are : g.store.keys ≡ n) (keys-stay : g'.store.keys ≡ n) (b : d < max_clients)
    (own : g'.views d ≡ u) (others : (e : Client) → e ≢ d → g'.views e ≡ g.views e)
    (same-held : (e : Client) (t : ℕ) → Holds (history g.store) (held (g.views e)) t ↔ Holds (history g'.store) (held (g.views e)) t) where
  view-replaced : (views views' seen fresh : List ℕ) (m : ℕ) → KeepsViews g views seen → KeepsMasks n u fresh → length views' ≡ length views
      → ((k : ℕ) → k < n → get_or views' (view_place d k) 0 ≡ get_or fresh k 0) → ((e : Client) → e < max_clients → e ≢ d → RowStays n views views' e)
      → ((t : CommitNumber) → 0 < t → t ≤ g'.store.commits → RowIs n views' (stored_row t) (g'.store.view_of t))
      → IsSet m (Holds (history g'.store) (held u)) → KeepsViews g' views' (set seen d m)
  view-replaced views views' seen fresh m h f long row stays stored s = record {
    room = long ∙ h.room;
    rows = λ e be i bi.
        rows_replaced g.views g'.views d u n own others views views' fresh (λ c bc j bj. h.rows c bc j (omega arith)) (λ j bj. ap (λ (x : ℕ). get_or fresh x 0) (zero-add j) ∙ f.masks j bj)
        row stays e be i (omega arith);
    stored = λ t p l i bi. stored t p l i (omega arith);
    seen-room = length-set seen d m ∙ h.seen-room;
    holds = λ e be. holds e be (ℕ_discrete e d);
  }
    where
      holds : (e : Client) → e < max_clients → Dec (e ≡ d) → IsSet (get_or (set seen d m) e 0) (Holds (history g'.store) (held (g'.views e)))
      holds e be (yes q) =
          let here : get_or (set seen d m) e 0 ≡ m = ap (λ (x : ℕ). get_or (set seen d m) x 0) q ∙ get_or-set_same seen d m 0 (omega (arith, h.seen-room)) in
          subst (λ (x : ℕ). IsSet x (Holds (history g'.store) (held (g'.views e)))) (sym here)
          (subst (λ (v : View). IsSet m (Holds (history g'.store) (held v))) (sym own ∙ ap g'.views (sym q)) s)
      holds e be (no ne) =
          subst (λ (x : ℕ). IsSet x (Holds (history g'.store) (held (g'.views e)))) (sym (get_or-set_other seen d e m 0 ne))
          (subst (λ (v : View). IsSet (get_or seen e 0) (Holds (history g'.store) (held v))) (sym (others e ne)) (is_set-as _ (same-held e) (h.holds e be)))

-- by a shift: the views of the commits stay
pub shift-replaces : (g : Configuration) (d : Client) (u : View) (n : ℕ) → n ≤ max_keys → g.store.keys ≡ n → d < max_clients
    → (views views' seen fresh : List ℕ) (m : ℕ) → KeepsViews g views seen → KeepsMasks n u fresh → Kept fresh (max_keys * d) n views views'
    → IsSet m (Holds (history g.store) (held u)) → KeepsViews (step g (shift d u)) views' (set seen d m)
unfolding step
shift-replaces g d u n few keys b views views' seen fresh m h f k =
    view-replaced g (step g (shift d u)) d u n keys keys b (at_same d u g.views) (λ e. at_other d u g.views e) (λ e t. (λ x. x, λ x. x))
    views views' seen fresh m h f k.long k.row (λ e be. kept-rows few k e)
    (λ t p l i bi. kept-rows few k (stored_row t) (λ e. omega arith) i bi ∙ h.stored t p l i (omega arith))

-- by a commit: the view before it is stored as its own
pub commit-replaces : (g : Configuration) (c : Commit) (n : ℕ) → Sound g → Made g.store (view_before g c) c → n ≤ max_keys → g.store.keys ≡ n → c.client < max_clients
    → (views views' seen fresh : List ℕ) (m : ℕ) → KeepsViews g views seen → KeepsMasks n c.view_after fresh
    → Moved fresh (max_keys * c.client) (view_place (stored_row (next_number g.store)) 0) n views views'
    → IsSet m (Holds (history (store_after g c)) (held c.view_after)) → KeepsViews (step g (commit c)) views' (set seen c.client m)
unfolding step update
commit-replaces g c n sound made few keys b views views' seen fresh m h f k =
    view-replaced g (step g (commit c)) c.client c.view_after n keys keys b (at_same c.client c.view_after g.views) (λ e. at_other c.client c.view_after g.views e)
    (λ e t. let x = holds_kept g.store (view_before g c) c made (g.views e) (sound.views e) t in (x.1, x.0))
    views views' seen fresh m h f k.long k.row (λ e be ne. moved-rows few k e ne (λ q. omega arith)) (λ t p l. stored t p l (ℕ_discrete t (next_number g.store)))
  where
    stored : (t : CommitNumber) → 0 < t → t ≤ next_number g.store → Dec (t ≡ next_number g.store)
        → RowIs n views' (stored_row t) (at_number (next_number g.store) (view_before g c) g.store.view_of t)
    stored t p l (yes e) i bi =
        let place : view_place (stored_row t) i ≡ view_place (stored_row (next_number g.store)) 0 + i = omega arith in
        ap (λ (j : ℕ). get_or views' j 0) place ∙ k.stored i bi ∙ h.rows c.client b i (omega arith)
        ∙ ap (λ (v : View). v i) (sym (ap (at_number (next_number g.store) (view_before g c) g.store.view_of) e ∙ at_same (next_number g.store) (view_before g c) g.store.view_of))
    stored t p l (no ne) i bi =
        moved-rows few k (stored_row t) (λ e. omega arith) (λ e. ne (omega arith)) i bi ∙ h.stored t p (omega arith) i (omega arith)
        ∙ ap (λ (v : View). v i) (sym (at_other (next_number g.store) (view_before g c) g.store.view_of t ne))
