-- A shift to masks that are the full masks: no code is due, and the new view holds all commits that wrote something. Assumes nothing.
use Prim.Native.Nat.{ℕ, ◌+◌, ◌*◌, ◌≤◌, ◌<◌}
use mathlib.Core.Path.{◌≡◌, sym}
use mathlib.Core.Option.{none}
use mathlib.Core.List.{List}
use lib.ListN.{get_or, set}
use Rattle.store.specs.Limits.{max_keys, max_clients}
use Rattle.store.specs.Store.{View, Configuration, shift}
use Rattle.store.specs.Update.{step}
use Rattle.store.specs.Refusal.{refuses_event}
use Rattle.store.specs.View.{FitsView}
use Rattle.store.proofs.Legal.{legal-shift}
use Rattle.state.specs.Keeps.{IsSet, KeepsMasks, KeepsViews}
use Rattle.views.specs.Rows.{Kept}
use Rattle.views.specs.Writing.{WriterBelow}
use Rattle.views.proofs.AtOnce.{full-is-view, full-has, full-holds-all}
use Rattle.shifts.specs.Outcomes.{ShiftGiven}
use Rattle.shifts.proofs.Replaced.{shift-replaces}

module _ (g : Configuration) (u : View) (client n : ℕ) (versions keys views seen fresh : List ℕ) (h : ShiftGiven g u n versions keys views seen)
    (in-fresh : KeepsMasks n u fresh) (e : (k : ℕ) → k < n → get_or fresh k 0 ≡ get_or keys (0 + k) 0) where
  fits : FitsView g.store.keys u
  fits = rw h.keys-are h.fits

  -- they are a view, and nothing of the client's view is lost, as it holds only versions that exist
  pub whole-not-refused : (i : ℕ) → none ≡ refuses_event i g (shift client u)
  whole-not-refused i =
      sym ((legal-shift i g client u h.sound fits).1 (record {
        view = full-is-view g.store u n keys fresh h.keys-are h.sound.store h.in-keys in-fresh e h.fits;
        grows = λ k v x. full-has g.store u n keys fresh h.keys-are h.sound.store h.in-keys in-fresh e k v ((h.sound.views client).exist k v x);
      }))

  -- and the views after the shift are kept
  pub whole-kept : n ≤ max_keys → client < max_clients → (all : ℕ) {views' : List ℕ} → Kept fresh (max_keys * client) n views views' → IsSet all (WriterBelow keys n)
      → KeepsViews (step g (shift client u)) views' (set seen client all)
  whole-kept few b all {views'} k w =
      shift-replaces g client u n few h.keys-are b views views' seen fresh all h.in-views in-fresh k
      (full-holds-all g.store u n keys fresh h.keys-are h.sound.store h.in-keys in-fresh e all w)
