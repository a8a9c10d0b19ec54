-- `taking::take_file` meets its contract: nothing is asked of the bytes of a file. Assumes nothing.
use mathlib.Core.Path.{sym, ap, ◌∙◌}
use Rattle.trace.specs.Result.{refused}
use Rattle.taking.specs.Taking.{TakingSays}
use Rattle.taking.proofs.InForm.{headed-of, misshapen-of}
use Rattle.taking.proofs.take_file.Goals as goal

pub take_records-requires : goal.take_records-requires
take_records-requires c = record { headed = headed-of c.header_of.ensures c.in-Ok.is; opened = c.requires }

pub returns-in-Err : goal.returns-in-Err
unfolding TakingSays
returns-in-Err c =
    misshapen-of _ c.header_of.ensures c.in-Err.is ∙ ap refused (sym c.of_record.ensures)
