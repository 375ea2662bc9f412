use Rattle.std.proofs.Common.{arith, length}
use Rattle.vx_blocks.proofs.Windows.{get-place, get-room}
use Rattle.vx_blocks.proofs.reading.get.Goals as goal

pub overflow_mul-byte : goal.overflow_mul-byte
overflow_mul-byte c = let room = get-room c.args.width c.args.row (length c.args.packed.now) c.requires.block in record { fits = omega arith }

pub overflow_add-byte : goal.overflow_add-byte
overflow_add-byte c = let room = get-room c.args.width c.args.row (length c.args.packed.now) c.requires.block in record { fits = omega arith }

pub word_at-requires : goal.word_at-requires
word_at-requires c = omega (arith, get-room c.args.width c.args.row (length c.args.packed.now) c.requires.block)

pub row_of-requires-clause-room : goal.row_of-requires-clause-room
row_of-requires-clause-room c = get-room c.args.width c.args.row (length c.args.packed.now) c.requires.block

pub returns : goal.returns
returns c = c.row_of.ensures c.args.row (get-place c.args.width c.args.row)
