-- `report::put_last` meets its contract: a line for each level. Assumes nothing.
use Rattle.text.proofs.Put.{put_both}
use Rattle.levels.specs.Level.{UA, PSI, CP, SI, SER}
use Rattle.report.proofs.Lines.{put-line, put-last-line}
use borrow.Author.Rules.{rules}
use Rattle.report.proofs.put_last.Goals as goal

pub returns : goal.returns
returns c = record {
  put = put_both (put-line UA _ c.put_verdict-a.ensures.put)
      (put_both (put-line PSI _ c.put_verdict-b.ensures.put)
      (put_both (put-line CP _ c.put_verdict-c.ensures.put)
      (put_both (put-line SI _ c.put_verdict-d.ensures.put)
      (put-last-line SER _ c.put_verdict.ensures.put))));
  upper_bound = search rules;
}
