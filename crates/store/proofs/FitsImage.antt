-- An image has room for every store that a trace makes: for the opening store, and after a commit where before it. Assumes nothing.
use Prim.Native.Nat.{ℕ, ◌^◌, ◌≤◌, ◌<◌}
use mathlib.Core.Path.{◌≡◌, refl, sym, ap, ◌∙◌, subst}
use mathlib.Core.Logic.{◌≢◌}
use mathlib.Core.Option.{Option, some, none}
use mathlib.Core.List.{List, []}
use native.Mathlib.Omega.{arith}
use native.Mathlib.Decide.{ℕ_discrete, dec_lt}
use lib.Dec.{lit<, ltb}
use lib.ListN.{length, get_or, set, length-append, length-set, get_or-append}
use lib.Seq.{get_or-set_same, get_or-set_other, get_or-append_seam}
use Rattle.sets.proofs.Algebra.{insert-word}
use Rattle.store.specs.Limits.{max_keys, max_clients, max_commits}
use Rattle.store.specs.Store.{CommitNumber, Value, Version, opening_version, View, no_view, Store, opening_store, opening, next_number, write, Commit}
use Rattle.store.specs.Update.{value_of, read_by, note_read, append, at_number, update}
use Rattle.store.specs.View.{FitsView}
use Rattle.store.specs.Sound.{SoundStore}
use Rattle.store.specs.Reading.{FitsVersion, FitsImage}
use Rattle.store.proofs.Updated.{at_same, at_other}
use Rattle.store.proofs.Sound.{opening-first, sound-opening}

-- ---- the versions of a key

abbrev AllFit : List Version → Type 0
AllFit vs = (i : ℕ) → i < length vs → FitsVersion (get_or vs i opening_version)

opening-fits : FitsVersion opening_version
opening-fits = record { value = lit< tt; writer = lit< tt; readers = lit< tt }

-- one reader more, whose number has a place in the set
noted-fit : (o : Option Value) (p t : ℕ) (vs : List Version) → t < 64 → AllFit vs → AllFit (note_read o p t vs)
unfolding note_read
noted-fit none p t vs small fit i l = fit i l
noted-fit (some x) p t vs small fit i l = go (ℕ_discrete i p)
  where
    there : i < length vs
    there = subst (λ (n : ℕ). i < n) (length-set vs p _) l

    read : FitsVersion (get_or vs i opening_version) → FitsVersion (read_by t (get_or vs i opening_version))
    read f = record { value = f.value; writer = f.writer; readers = insert-word t (get_or vs i opening_version).readers small f.readers }

    go : Dec (i ≡ p) → FitsVersion (get_or (set vs p (read_by t (get_or vs p opening_version))) i opening_version)
    go (yes e) =
        subst FitsVersion
        (ap (λ (j : ℕ). read_by t (get_or vs j opening_version)) e ∙ sym (get_or-set_same vs p (read_by t (get_or vs p opening_version)) opening_version (subst (λ (j : ℕ). j < length vs) e there))
        ∙ ap (λ (j : ℕ). get_or (set vs p (read_by t (get_or vs p opening_version))) j opening_version) (sym e))
        (read (fit i there))
    go (no n) = subst FitsVersion (sym (get_or-set_other vs p i (read_by t (get_or vs p opening_version)) opening_version n)) (fit i there)

-- one version more, of a value of 32 bits
appended_fit : (o : Option Value) (t : ℕ) (vs : List Version) → t < 256 → ((x : Value) → o ≡ some x → x < 2 ^ 32) → AllFit vs → AllFit (append o t vs)
unfolding append
appended_fit none t vs small value fit i l = fit i l
appended_fit (some x) t vs small value fit i l = go (dec_lt i (length vs))
  where
    new-fits : FitsVersion (record { value = x; writer = t; readers = 0 })
    new-fits = record { value = value x refl; writer = small; readers = lit< tt }

    go : Dec (i < length vs) → FitsVersion (get_or (append (some x) t vs) i opening_version)
    go (yes there) = subst FitsVersion (sym (get_or-append vs _ opening_version i there)) (fit i there)
    go (no beyond) =
        let e : i ≡ length vs = omega (arith, simp length-append at l) in
        subst FitsVersion (sym (ap (λ (j : ℕ). get_or (append (some x) t vs) j opening_version) e ∙ get_or-append_seam vs _ [] opening_version)) new-fits

-- ---- the store

no-view-fits : (keys : ℕ) → FitsView keys no_view
no-view-fits keys = record { word = λ k. lit< tt; beyond = λ k l. refl }

pub fits-opening : (keys : ℕ) → keys ≤ max_keys → FitsImage (opening_store keys)
unfolding opening opening_store
fits-opening keys few =
    let sound = (sound-opening keys).store in
    record {
      few-keys = few;
      few-commits = omega arith;
      client = λ t. lit< tt;
      session = λ t. lit< tt;
      view = λ t. no-view-fits keys;
      no-client = λ t o. refl;
      no-session = λ t o. refl;
      no-view = λ t o. refl;
      few-versions = λ k. omega (arith, sound.few k);
      only-keys = sound.only-keys;
      version-fits = λ k i l. subst FitsVersion (sym (opening-first (ltb k keys) i l).1) opening-fits;
    }

-- what a table says of every number, after an entry more
entry-or-old : {A : Type 0} (P : A → Type 0) (n : ℕ) (a : A) (f : ℕ → A) → P a → ((t : ℕ) → P (f t)) → (t : ℕ) → P (at_number n a f t)
entry-or-old P n a f new old t = go (ℕ_discrete t n)
  where
    go : Dec (t ≡ n) → P (at_number n a f t)
    go (yes e) = subst P (sym (ap (at_number n a f) e ∙ at_same n a f)) new
    go (no m) = subst P (sym (at_other n a f t m)) (old t)

module _ (s : Store) (u : View) (c : Commit) (fits : FitsImage s) (sound : SoundStore (update s u c)) (few : next_number s ≤ max_commits) where
  -- the entry of a number that is still no commit's
  still-none : {A : Type 0} (blank : A) (a : A) (f : CommitNumber → A) → ((t : CommitNumber) → (0 < t → s.commits < t) → f t ≡ blank)
      → (t : CommitNumber) → (0 < t → next_number s < t) → at_number (next_number s) a f t ≡ blank
  still-none blank a f old t out =
      let other : t ≢ next_number s = λ e. let p : 0 < t = omega arith in let l = out p in absurd (omega arith) in
      at_other (next_number s) a f t other ∙ old t (λ p. let l = out p in omega arith)

  pub fits-update : FitsView s.keys u → c.client < max_clients → c.session < 2 ^ 32 → ((k x : ℕ) → value_of write c.operations k ≡ some x → x < 2 ^ 32)
      → FitsImage (update s u c)
  unfolding update
  fits-update view client session values = record {
    few-keys = fits.few-keys;
    few-commits = few;
    client = entry-or-old (λ (d : ℕ). d < max_clients) (next_number s) c.client s.client_of client fits.client;
    session = entry-or-old (λ (n : ℕ). n < 2 ^ 32) (next_number s) c.session s.session_of session fits.session;
    view = entry-or-old (FitsView s.keys) (next_number s) u s.view_of view fits.view;
    no-client = still-none 0 c.client s.client_of fits.no-client;
    no-session = still-none 0 c.session s.session_of fits.no-session;
    no-view = still-none no_view u s.view_of fits.no-view;
    few-versions = λ k. omega (arith, sound.few k);
    only-keys = sound.only-keys;
    version-fits = λ k.
        appended_fit (value_of write c.operations k) (next_number s) _ (omega arith) (values k)
        (noted-fit _ _ (next_number s) (s.versions k) (omega arith) (fits.version-fits k));
  }
