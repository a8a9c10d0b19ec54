-- `verdicts::clauses::wanted` meets its contract. Assumes nothing.
use mathlib.Core.Path.{◌≡◌}
use mathlib.Core.Logic.{inl, inr, ⊎_elim}
use native.Mathlib.Omega.{arith}
use Rattle.dependencies.specs.History.{Holds}
use Rattle.store.specs.Store.{Store, View}
use Rattle.store.specs.Sound.{SoundStore}
use Rattle.store.specs.History.{history, held}
use Rattle.growth.specs.Views.{Lacking}
use Rattle.state.specs.Keeps.{IsSet, KeepsKeys}
use Rattle.verdicts.proofs.OnSets.{lacking-is, before-is, read_is, past-held, written_is, leading-is, wants-nothing}
use Rattle.verdicts.proofs.Asked.{every-clause}
use Rattle.verdicts.proofs.clauses.wanted.Goals as goal
use Rattle.verdicts.proofs.clauses.wanted.Goals.{After-without-lacking}

-- the commits that are lacking
lacking : (c : goal.After-without-lacking) (s : Store) (u : View) → s.keys ≡ c.args.n → SoundStore s → KeepsKeys s c.args.keys.now
    → IsSet c.args.seen (Holds (history s) (held u)) → IsSet c.without-lacking.result (Lacking s u)
lacking c s u e sound in-keys held-is =
    let a = c.args in
    rw c.without-lacking.ensures (lacking-is s u a.seen held-is a.keys.now a.n c.all_writers.result e sound in-keys c.all_writers.ensures)

pub returns-then-lacking-eq0 : goal.returns-then-lacking-eq0
returns-then-lacking-eq0 c = record {
  asked = every-clause c.args.verdicts.now;
  wants = λ s u commit values e number sound ordered in-keys in-commits in-links operations held-is.
      wants-nothing s u commit _ _ (lacking (goal.at.returns-then-lacking-eq0 c).After-without-lacking s u e sound in-keys held-is) c.if-lacking-eq0.true;
  kept = λ s e number f. f;
}

pub returns : goal.returns
returns c =
    let seen = c.args.seen in
    let past = c.past-past in
    let led = c.leads-leads in
    record {
      asked = c.live-live.ensures;
      wants = λ s u commit values e number sound ordered in-keys in-commits in-links operations held-is.
          let lacks = lacking (goal.at.returns c).After-without-lacking s u e sound in-keys held-is in
          record {
            lacking = lacks;
            past = λ a x. ⊎_elim
                (λ p. inl (
                  before-is s u seen held-is c.args.commits.now past.result.first c.ranges.seen.fits in-commits p.0,
                  read_is s u seen held-is c.args.commits.now past.result.second c.ranges.seen.fits in-commits p.1,
                ))
                (λ q. inr (q.0, past-held s u seen held-is sound ordered c.without-lacking.result lacks (omega (arith, c.if-lacking-eq0.false)) c.without-lacking.type_inv q.1))
                (past.ensures a);
            written = λ a x. written_is s u seen held-is commit c.args.keys.now c.args.ranks values c.args.n c.written-written.result e sound in-keys operations (c.written-written.ensures a);
            prefix = λ a x. leading-is s u seen held-is 0 led.result.prefix (led.ensures.set (inl a) s e number in-links).0;
            snapshot = λ a x. leading-is s u seen held-is 1 led.result.snapshot (led.ensures.set (inr a) s e number in-links).1;
          };
      kept = led.ensures.kept;
    }
