use Rattle.std.proofs.Common.{map, take}
use Rattle.vx_base.specs.PlainValue.{bytes}
use Rattle.vx_model.specs.Rows.{valid_rows}
use Rattle.vx_schemes_text.specs.Dictionary.Codebook.{AreCodesOf, Knows}
use Rattle.vx_schemes_text.proofs.dictionary.codebook.coded.Given as goal

abbrev pub invariant-loop-row : goal.invariant-loop-row
invariant-loop-row l =
    let values = valid_rows l.valid (map bytes l.rows) in
    record {
      knows : Knows values (take l.row values) l.book;
      codes : AreCodesOf (take l.row values) l.codes.items;
    }
