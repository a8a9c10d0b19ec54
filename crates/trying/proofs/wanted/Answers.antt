-- `trying::wanted` meets its contract. Assumes nothing.
use mathlib.Core.Logic.{inl}
use native.Mathlib.Omega.{arith}
use Rattle.views.specs.Rules.{StoreAndView}
use Rattle.verdicts.proofs.Asked.{every-clause}
use Rattle.trying.proofs.Kept.{holds_kept, written-kept, lacking-kept, told_below, before-kept, read_kept, prefix-kept, snapshot-kept}
use Rattle.trying.proofs.wanted.Goals as goal

pub returns : goal.returns
returns c =
    let a = c.args in
    let seen = c.held-seen.result in record {
      set = λ s u commit values keys-are sound number fit in-versions in-keys in-commits row operations.
          let arrays : StoreAndView s u a.n a.versions.now a.keys.now a.views.now a.base = record {
            number = keys-are;
            sound = sound;
            few = omega (arith, number, c.requires.1);
            in-versions = in-versions;
            in-keys = in-keys;
            in-masks = row;
          } in
          let holds = holds_kept s u a.n a.versions.now a.keys.now a.views.now a.base arrays seen c.held-seen.ensures in
          let below = told_below s u a.n a.versions.now a.keys.now a.views.now a.base arrays a.commits.now in-commits fit a.me.0 number in (
            holds,
            record {
              lacking = lacking-kept s u a.n a.versions.now a.keys.now a.views.now a.base arrays c.requires.0 seen c.lacking-lacking.result holds c.lacking-lacking.ensures;
              past = λ _ _. inl (
                before-kept s u a.n a.versions.now a.keys.now a.views.now a.base arrays a.commits.now in-commits fit seen holds c.past-past.result.before (c.past-past.ensures below).0,
                read_kept s u a.n a.versions.now a.keys.now a.views.now a.base arrays a.commits.now in-commits fit seen holds c.past-past.result.read (c.past-past.ensures below).1,
              );
              written = λ _ _. written-kept s u a.n a.versions.now a.keys.now a.views.now a.base arrays commit a.ranks values operations c.writers-written.result c.writers-written.ensures;
              prefix = λ _ _. prefix-kept s u a.n a.versions.now a.keys.now a.views.now a.base arrays a.commits.now in-commits fit seen holds a.me.0 number c.within-prefix.result (c.within-prefix.ensures below);
              snapshot = λ _ _. snapshot-kept s u a.n a.versions.now a.keys.now a.views.now a.base arrays a.commits.now in-commits fit seen holds a.me.0 number c.within-snapshot.result (c.within-snapshot.ensures below);
            },
          );
      asked = every-clause;
    }
