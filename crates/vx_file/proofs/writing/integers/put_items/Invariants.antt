use Rattle.std.proofs.Common.{◌≡◌, ◌-◌, ◌*◌, ◌++◌, map, length}
use Rattle.vx_codec.specs.Lists.{spell_all}
use Rattle.vx_spelling.specs.Fields.{integer}
use Rattle.vx_file.proofs.writing.integers.put_items.Given as goal

-- what is written and what the rest writes yet are all integers
abbrev pub invariant-loop : goal.invariant-loop
invariant-loop g l = record {
  room : length l.buffer ≡ 512;
  left : length l.rest ≡ length l.items - 64 * l.counter;
  text : l.out.items ++ spell_all (integer g.T.Integer.kind).spell (map g.T.Integer.whole l.rest) ≡ l.fn.out.items ++ spell_all (integer g.T.Integer.kind).spell (map g.T.Integer.whole l.items);
}
