use Rattle.std.proofs.Common.{◌≡◌, ◌≤◌, ◌*◌, ◌++◌, map, take, drop, length}
use Rattle.vx_base.specs.Integers.{bytes_of}
use Rattle.vx_codec.specs.Lists.{spell_all}
use Rattle.vx_spelling.specs.Fields.{integer}
use Rattle.vx_file.proofs.writing.integers.write_group.Given as goal

-- what is written and what the rest writes yet are all integers
abbrev pub invariant-loop-item : goal.invariant-loop-item
invariant-loop-item g l = record {
  wide : l.width ≡ bytes_of g.T.Integer.kind;
  room : length l.buffer ≡ 512;
  within : l.len ≤ 8 * l.item-index;
  text : take l.len l.buffer ++ spell_all (integer g.T.Integer.kind).spell (map g.T.Integer.whole (drop l.item-index l.items)) ≡ spell_all (integer g.T.Integer.kind).spell (map g.T.Integer.whole l.fn.items);
}
