use Rattle.std.proofs.Common.{◌≡◌, ◌++◌, drop}
use Rattle.vx_codec.specs.Lists.{delimited, spell_all}
use Rattle.vx_file.proofs.writing.leaves.put_rows.Given as goal

-- what is written and what the rest writes yet are all rows
abbrev pub invariant-loop-row : goal.invariant-loop-row
invariant-loop-row l = l.out.items ++ spell_all delimited.spell (drop l.row-index l.row-items) ≡ l.fn.out.items ++ spell_all delimited.spell l.rows
