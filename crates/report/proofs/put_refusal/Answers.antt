-- `report::put_refusal` meets its contract: the fields of the line, one behind the other. Assumes nothing.
use Rattle.text.proofs.Put.{put_both}
use Rattle.state.specs.Answers.{refusal_of}
use Rattle.report.proofs.Refusals.{put-fields}
use borrow.Author.Rules.{rules}
use Rattle.report.proofs.put_refusal.Goals as goal

pub returns : goal.returns
returns c = record {
  put = put-fields (refusal_of c.args.refusal)
      (put_both c.put_field-coded.ensures.put (put_both c.put_field-named.ensures.put (put_both c.put_field-keyed.ensures.put (put_both c.put_field-whole.ensures.put c.put_end.ensures.put))));
  upper_bound = search rules;
}
