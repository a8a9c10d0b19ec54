-- `taking::take_records` meets its contract: the arrays of the opening store are those on which the records start, and what the run comes to is
-- what the definitions accept. Assumes nothing.
use Rattle.std.specs.Prelude.{Err}
use mathlib.Core.Path.{◌≡◌, refl, sym, ap, ◌∙◌}
use native.Mathlib.Omega.{arith}
use lib.ListN.{replicate}
use Rattle.endian.specs.Endian.{Bytes}
use Rattle.store.specs.Store as Store
use Rattle.trace.specs.Result.{refused}
use Rattle.trace.specs.Meaning.{WholeFile}
use Rattle.state.specs.Places.{values_length}
use Rattle.state.specs.Keeps.{Keeps}
use Rattle.verdicts.specs.Verdicts.{verdicts_length}
use borrow.Author.Rules.{rules}
use Rattle.run.specs.declared.Stop.TheVariants.{Misshapen, Refused}
use Rattle.run.specs.Ran.{Starts}
use Rattle.taking.specs.Taking.{TakingSays}
use Rattle.taking.proofs.Accepted.{refused-meaning}
use Rattle.taking.proofs.InForm.{trace_in, opens, starts, takes, ran-misshapen, whole-refused, whole-done, ran-done, ran-refused}
use Rattle.taking.proofs.take_records.Goals as goal
use Rattle.taking.proofs.take_records.Goals.{After-opening-s}

-- the bytes of the file are bytes
bytes : (c : goal.After-opening-s) → Bytes c.args.file.now
bytes c i = (c.type_inv.file i).fits

-- the arrays keep the opening store
keeps : (c : goal.After-opening-s) → let a = c.args in let o = c.opening-s.result in
    Keeps (Store.opening a.h.keys) a.versions.now a.keys.now a.views.now o.seen o.sessions a.commits.now o.links
keeps c = let o = c.opening-s.ensures in opens c.requires.headed c.requires.opened o.seen o.commits.0 o.commits.2

-- the records start on them, where they are in form
started : (c : goal.After-opening-s) (w : WholeFile c.args.file.now c.args.h)
    → let a = c.args in
    let o = c.opening-s.result in
    Starts a.file.now a.h.keys a.h.clients a.h.records w.entries a.versions.now a.keys.now a.views.now o.seen o.sessions a.commits.now o.links (replicate verdicts_length 0) (replicate values_length 0)
started c w = starts w (keeps c) refl refl

pub run_all-ran-requires : goal.run_all-ran-requires
run_all-ran-requires c =
    let t = c.requires.headed in
    let k = keeps (goal.at.run_all-ran-requires c).After-opening-s in record {
      le_n = omega (arith, t.some_key, t.few-keys, t.few-clients, t.few-records, t.long, t.short);
      values_room = omega arith;
      room = record {
        of-versions = k.in-versions.room;
        of-keys = k.in-keys.room;
        of-views = k.in-views.room;
        of-seen = k.in-views.seen-room;
        of-sessions = k.in-sessions.room;
        of-commits = k.in-commits.room;
        of-links = k.in-links.kept.room;
      };
    }

pub returns-in-Err-Misshapen : goal.returns-in-Err-Misshapen
unfolding TakingSays
returns-in-Err-Misshapen c =
    let is : c.run_all-ran.result ≡ Err (Misshapen c.in-Err-Misshapen.m) = search rules in
    ran-misshapen c.requires.headed _ c.run_all-ran.ensures.form is ∙ ap refused (sym c.of_record.ensures)

pub returns-in-Err-Refused : goal.returns-in-Err-Refused
unfolding TakingSays
returns-in-Err-Refused c =
    let is : c.run_all-ran.result ≡ Err (Refused c.in-Err-Refused.refusal) = search rules in
    let w = whole-refused c.requires.headed _ c.run_all-ran.ensures.form is in
    refused-meaning _ (trace_in w) w.decoded _ (ran-refused _ _ _ _ _ _ _ _ _ _ _ (c.run_all-ran.ensures.meaning w.entries (started (goal.at.returns-in-Err-Refused c).After-opening-s w)) is)

pub returns-in-Ok : goal.returns-in-Ok
unfolding TakingSays
returns-in-Ok c =
    let is = c.in-Ok.is in
    let w = whole-done c.requires.headed _ c.run_all-ran.ensures.form is in
    (trace_in w, takes (bytes (goal.at.returns-in-Ok c).After-opening-s) w (ran-done _ _ _ _ _ _ _ _ _ _ _ (c.run_all-ran.ensures.meaning w.entries (started (goal.at.returns-in-Ok c).After-opening-s w)) is) c.verdicts_from.ensures)
