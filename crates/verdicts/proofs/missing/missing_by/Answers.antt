-- `verdicts::missing::missing_by` meets its contract, one clause to an arm. Assumes nothing.
use Prim.Native.Nat.{◌^◌, ◌<◌}
use mathlib.Core.Path.{ap, sym, ◌∙◌}
use native.Mathlib.Omega.{arith}
use Rattle.sets.specs.Set.{Set}
use Rattle.sets.proofs.Algebra.{union-word}
use Rattle.store.specs.Update.{update}
use Rattle.store.specs.Missing.{missing}
use Rattle.growth.proofs.Made.{keys-after}
use Rattle.levels.specs.Clause.{monotonic_reads, read_your_writes, monotonic_writes, writes_follow_reads, update_atomic, consistent_prefix, snapshot_isolation, serialisability}
use Rattle.views.specs.Rules.{StoreAndView, by_reader}
use Rattle.views.proofs.Rows.{masks-row}
use Rattle.verdicts.proofs.Searches.{before-missing, prefix-missing, snapshot-missing, read-missing, written-missing, lacking-missing, session-missing, by-lacking, by-readers, among-lacking, all-lacking, at-clause, as-clause, last-clause}
use Rattle.verdicts.proofs.ByClause.{before-of-3, before-of-4}
use Rattle.verdicts.proofs.missing.missing_by.Goals as goal

pub returns-in-1 : goal.returns-in-1
returns-in-1 c = λ s u commit values j x e fails. at-clause s u commit monotonic_reads x e c.in-1.is j.at-hand.lost-is

pub returns-in-2 : goal.returns-in-2
returns-in-2 c = λ s u commit values j x e fails.
    let made = j.at-hand.made in
    let after : StoreAndView (update s u commit) commit.view_after c.args.n c.args.versions.now c.args.keys.now c.args.fresh.now 0 = record {
      number = j.arrays.number;
      sound = j.arrays.sound;
      few = j.arrays.few;
      in-versions = j.arrays.in-versions;
      in-keys = j.arrays.in-keys;
      in-masks = masks-row j.masks;
    } in
    at-clause s u commit read_your_writes x e c.in-2.is
    (c.least_by_writer.ensures (update s u commit) commit.view_after after ∙ session-missing s u commit made c.args.h.session j.at-hand.session)

pub returns-in-3 : goal.returns-in-3
returns-in-3 c = λ s u commit values j x e fails.
    let h = c.args.h in
    let w = h.wanted in
    let made = j.at-hand.made in
    let wants = j.at-hand.wants in
    at-clause s u commit monotonic_writes x e c.in-3.is
    (c.least_by_writer-in-3.ensures (update s u commit) u j.arrays ∙ by-lacking s u commit made w.before _ (among-lacking s u commit made w.before w.lacking wants.lacking)
    ∙ before-missing s made.sound u made.view commit w.before (before-of-3 s u commit h j.at-hand (as-clause s u commit w.live x monotonic_writes (e ∙ c.in-3.is) fails)))

pub returns-in-4 : goal.returns-in-4
returns-in-4 c = λ s u commit values j x e fails.
    let h = c.args.h in
    let made = j.at-hand.made in
    let before-fits : h.wanted.before < 2 ^ 64 = omega (arith, c.well_formed.1.0) in
    let seen-fits : h.seen < 2 ^ 64 = omega (arith, c.well_formed.1.0) in
    at-clause s u commit writes_follow_reads x e c.in-4.is
    (c.least_by_reader.ensures (update s u commit) u j.arrays ∙ ap (λ (m : Set). missing (update s u commit) (by_reader (update s u commit) m) u) c.union.ensures
    ∙ by-readers s u commit made _ (union-word h.wanted.before h.seen before-fits seen-fits)
    ∙ read-missing s made.sound u made.view commit h.wanted.before h.seen before-fits seen-fits (before-of-4 s u commit h j.at-hand (as-clause s u commit h.wanted.live x writes_follow_reads (e ∙ c.in-4.is) fails)) j.holds)

pub returns-in-5 : goal.returns-in-5
returns-in-5 c = λ s u commit values j x e fails.
    let made = j.at-hand.made in
    at-clause s u commit update_atomic x e c.in-5.is
    (c.least_absent.ensures s u commit values made (sym (keys-after s u commit made) ∙ j.arrays.number) j.arrays.in-keys j.operations j.arrays.in-masks
    ∙ written-missing s made.sound u made.view commit c.args.h.ranks values j.operations)

pub returns-in-6 : goal.returns-in-6
returns-in-6 c = λ s u commit values j x e fails.
    let w = c.args.h.wanted in
    let made = j.at-hand.made in
    let wants = j.at-hand.wants in
    at-clause s u commit consistent_prefix x e c.in-6.is
    (c.least_by_writer-in-6.ensures (update s u commit) u j.arrays ∙ by-lacking s u commit made w.prefix _ (among-lacking s u commit made w.prefix w.lacking wants.lacking)
    ∙ prefix-missing s made.sound u made.view commit w.prefix (wants.prefix (as-clause s u commit w.live x consistent_prefix (e ∙ c.in-6.is) fails).0))

pub returns-in-7 : goal.returns-in-7
returns-in-7 c = λ s u commit values j x e fails.
    let w = c.args.h.wanted in
    let made = j.at-hand.made in
    let wants = j.at-hand.wants in
    at-clause s u commit snapshot_isolation x e c.in-7.is
    (c.least_by_writer-in-7.ensures (update s u commit) u j.arrays ∙ by-lacking s u commit made w.snapshot _ (among-lacking s u commit made w.snapshot w.lacking wants.lacking)
    ∙ snapshot-missing s made.sound u made.view commit w.snapshot (wants.snapshot (as-clause s u commit w.live x snapshot_isolation (e ∙ c.in-7.is) fails).0))

pub returns-in_default : goal.returns-in_default
returns-in_default c = λ s u commit values j x e fails.
    let r = c.in_default.in_default-own.rest in
    let lacking = c.args.h.wanted.lacking in
    let made = j.at-hand.made in
    let is = j.at-hand.wants.lacking in
    at-clause s u commit serialisability x e (last-clause x e r.0.0.0.0.0.0.1 r.0.0.0.0.0.1 r.0.0.0.0.1 r.0.0.0.1 r.0.0.1 r.0.1 r.1)
    (c.least_by_writer-in_default.ensures (update s u commit) u j.arrays ∙ by-lacking s u commit made lacking lacking (all-lacking s u commit made lacking is)
    ∙ lacking-missing s made.sound u made.view commit lacking is)
