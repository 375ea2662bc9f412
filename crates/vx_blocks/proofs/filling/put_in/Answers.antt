use Rattle.std.proofs.Common.{arith, ◌≡◌, ◌+◌, ◌*◌, ◌/◌, ◌%◌, ◌^◌, ◌-◌, ◌++◌, length, take, ap, ◌∙◌, append_assoc}
use Rattle.std.specs.Int.RustNames.{bit_or}
use Rattle.std.proofs.Math.Nat as nat
use Rattle.std.proofs.lemmas.Nat.{or_lt, pow_pos}
use Rattle.std.proofs.lemmas.Slice.{take-put_mid}
use borrow.Rule.Slice.PartMut.{put_mid}
use Rattle.vx_base.specs.Packed.{packed_number}
use Rattle.vx_blocks.proofs.Joins.{Holds-stay, Holds-word, packed_number-bytes, rest_none}
use Rattle.vx_blocks.proofs.filling.put_in.Goals as goal
use Rattle.vx_blocks.proofs.filling.put_in.Goals.{then-fill-eq0, else-fill-eq0}

pub returns-then-fill-width-lt64-clause-holds : goal.returns-then-fill-width-lt64-clause-holds
returns-then-fill-width-lt64-clause-holds c before number place h = Holds-stay number place _ _ _ _ _ h c.requires.bits c.if-fill-width-lt64.true

pub returns-clause-holds : goal.returns-clause-holds
returns-clause-holds c before number place h =
    let rest : c.if-fill-eq0.rest ≡ c.args.bits / 2 ^ (64 - c.args.fill) =
    elim c.if-fill-eq0.branch [ then-fill-eq0 w ↦ rest_none c.args.fill c.args.bits c.args.width _ w.if-fill-eq0.true w.rest-is c.requires.bits c.requires.width | else-fill-eq0 w ↦ w.rest-is ]
    in
    let is : packed_number 8 c.to_le_bytes.result ≡ bit_or c.args.acc (c.args.bits * 2 ^ c.args.fill % 2 ^ 64) =
    ap (packed_number 8) c.to_le_bytes.ensures ∙ packed_number-bytes _ (or_lt 64 c.args.acc (c.args.bits * 2 ^ c.args.fill % 2 ^ 64) c.ranges.acc.fits (nat.mod-lt _ (pow_pos 64)))
    in
    let long : length c.to_le_bytes.result ≡ 8 = ap length c.to_le_bytes.ensures in
    let front : take (c.args.len + 8) (put_mid c.args.len (c.args.len + 8 - c.args.len) c.args.buffer.now c.copy_from_slice.new.self) ≡ take c.args.len c.args.buffer.now ++ c.to_le_bytes.result =
    rw c.copy_from_slice.ensures.after (take-put_mid c.args.len (c.args.len + 8 - c.args.len) c.args.buffer.now c.to_le_bytes.result (c.args.len + 8) (omega (arith, long)) (omega arith)) in
    rw (rest, front, ← append_assoc) (Holds-word number place _ _ _ _ _ c.to_le_bytes.result h c.requires.bits c.requires.width c.if-fill-width-lt64.false is long)
