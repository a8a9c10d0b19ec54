-- `report::put_first` meets its contract: a line for each level. Assumes nothing.
use Rattle.text.proofs.Put.{put_both}
use Rattle.levels.specs.Level.{MR, MW, RYW, WFR, CC}
use Rattle.report.proofs.Lines.{put-line, put-last-line}
use borrow.Author.Rules.{rules}
use Rattle.report.proofs.put_first.Goals as goal

pub returns : goal.returns
returns c = record {
  put = put_both (put-line MR _ c.put_verdict-a.ensures.put)
      (put_both (put-line MW _ c.put_verdict-b.ensures.put)
      (put_both (put-line RYW _ c.put_verdict-c.ensures.put)
      (put_both (put-line WFR _ c.put_verdict-d.ensures.put)
      (put-last-line CC _ c.put_verdict.ensures.put))));
  upper_bound = search rules;
}
