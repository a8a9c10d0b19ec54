-- `table::put_rows` meets its contract: after i turns the first i rows stand in the buffer. Assumes nothing.
use Prim.Native.Nat.{◌*◌, ◌≤◌}
use lib.ListN.{take}
use Rattle.text.specs.Put.{Put}
use Rattle.table.specs.Table.{table_text, longest_row}
use Rattle.table.proofs.put_rows.Given as goal

abbrev pub invariant-loop-row : goal.invariant-loop-row
invariant-loop-row l = (l.to ≤ longest_row * l.row-index) × Put l.initial.out 0 (table_text (take l.row-index l.row-items)) l.out l.to
