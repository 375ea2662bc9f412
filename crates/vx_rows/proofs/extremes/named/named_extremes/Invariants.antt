use Rattle.std.proofs.Common.{◌≡◌, take}
use Rattle.std.specs.Prelude.{option_map}
use Rattle.vx_base.specs.CellValue.{cell_value}
use Rattle.vx_model.specs.Rows.{masked_rows}
use Rattle.vx_rules.specs.Aggregates.{greatest, least, valid_values}
use Rattle.vx_rows.specs.Readable.{lent_rows}
use Rattle.vx_rows.proofs.extremes.named.named_extremes.Given as goal

abbrev pub invariant-loop-row : goal.invariant-loop-row
invariant-loop-row l = record {
  least : option_map (λ p. cell_value p.0) l.found ≡ least (valid_values (take l.row (masked_rows l.named (lent_rows l.rows))));
  greatest : option_map (λ p. cell_value p.1) l.found ≡ greatest (valid_values (take l.row (masked_rows l.named (lent_rows l.rows))));
}
