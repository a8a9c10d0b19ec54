-- New masks that are answered at once: all versions that there are. Assumes nothing.
use Rattle.std.proofs.Common.{◌≡◌, ℕ, ◌+◌, ◌<◌, T, ◌↔◌, List, get_or, sym, ap, ◌∙◌, arith}
use Rattle.search.proofs.Tests.{both}
use Rattle.sets.specs.Set.{Set, has, below}
use Rattle.sets.proofs.Laws.{has-below}
use Rattle.dependencies.specs.History.{Holds}
use Rattle.store.specs.Store.{Key, View, Store, count}
use Rattle.store.specs.View.{IsView, FitsView}
use Rattle.store.specs.Sound.{SoundStore}
use Rattle.store.specs.History.{history, held}
use Rattle.growth.specs.Made.{Writer}
use Rattle.growth.proofs.Views.{full-view, full-holds}
use Rattle.state.specs.Keeps.{IsSet, KeepsKeys, KeepsMasks}
use Rattle.state.proofs.Sets.{is_set-as}
use Rattle.views.specs.Writing.{WriterBelow}
use Rattle.views.proofs.Tests.{has-as}

-- ---- the masks are the full masks

module _ (s : Store) (u : View) (n : ℕ) (keys fresh : List ℕ) (number : s.keys ≡ n) (sound : SoundStore s) (in-keys : KeepsKeys s keys) (in-fresh : KeepsMasks n u fresh)
    (e : (k : ℕ) → k < n → get_or fresh k 0 ≡ get_or keys (0 + k) 0) where
  full : (k : Key) → k < s.keys → u k ≡ below (count s k)
  full k l =
      let b : k < n = omega (arith, number) in
      sym (in-fresh.masks k b) ∙ e k b ∙ ap (λ (j : ℕ). get_or keys j 0) (let z : 0 + k ≡ k = omega arith in z) ∙ in-keys.full k l

  -- they are a view
  pub full-is-view : FitsView n u → IsView s u
  full-is-view f = full-view s sound u (rw number f) full

  -- which holds every version
  pub full-has : (k i : ℕ) → i < count s k → T (has (u k) i)
  full-has k i l = has-as i (sym (full k (sound.only-keys k i l))) (has-below (count s k) i l)

  -- and so all writers
  pub full-holds-all : (all : Set) → IsSet all (WriterBelow keys n) → IsSet all (Holds (history s) (held u))
  full-holds-all all p = is_set-as all (λ t. both (writers t) ((all_held t).1, (all_held t).0)) p
    where
      all_held : (t : ℕ) → Holds (history s) (held u) t ↔ Writer (history s) t
      all_held = full-holds s u full-has

      writers : (t : ℕ) → WriterBelow keys n t ↔ Writer (history s) t
      writers t = (
        λ (k, l, x). (k, (in-keys.writers k (omega (arith, number)) t).0 x),
        λ (k, w). let b : k < s.keys = sound.only-keys k w.0 w.1.0 in (k, omega (arith, number), (in-keys.writers k b t).1 w),
      )
