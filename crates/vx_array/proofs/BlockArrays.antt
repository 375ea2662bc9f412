-- Integers packed in blocks: what their constructor has to show, and the root of their tree.
use Rattle.std.proofs.Common.{◌≡◌, ◌∙◌, ℕ, Some, None, true, refl, sym}
use Rattle.std.specs.Prelude.{IsTrue, IfSome, Option, nat_lt}
use Rattle.std.specs.List.{list_all}
use Rattle.vx_base.specs.PlainType.{PlainType}
use Rattle.vx_base.specs.PlainType as types
use Rattle.vx_model.specs.Refusals.{bit_packed_v2_refusal, kept_blocks}
use Rattle.vx_model.specs.Tree.{Tree, PlainBlocks, PlainPatches, blocks_of}
use Rattle.vx_model.specs.WellFormed.{WellFormed, WellFormedPatches}
use Rattle.vx_model.proofs.BlocksLemmas.{blocks_accepted, type-blocks_of, length-blocks_of}
use Rattle.vx_array.specs.HasRuns.{has_blocks}
use Rattle.vx_array.specs.IsArray.{IsArray}

pub blocks_array : (k : PlainBlocks) (offsets : Tree) (o : Option PlainPatches) (own : PlainType) (len : ℕ) → bit_packed_v2_refusal k offsets o ≡ None → IsTrue (list_all (λ byte. nat_lt byte 256) k.bytes) → WellFormed offsets → IfSome o WellFormedPatches
    → own ≡ types.primitive k.ptype k.nullability → len ≡ k.len → IsArray (blocks_of (kept_blocks k) offsets o) (Some own) len
blocks_array k offsets o own len accepted held known inner own_is len_is =
    let w : WellFormed (blocks_of (kept_blocks k) offsets o) = blocks_accepted k offsets o accepted held known inner in
    record { well_formed = w; own_type_is = own_is ∙ sym (type-blocks_of (kept_blocks k) offsets o); len_is = len_is ∙ sym (length-blocks_of (kept_blocks k) offsets o w) }

pub has_blocks-blocks_of : (k : PlainBlocks) (offsets : Tree) (o : Option PlainPatches) → has_blocks (blocks_of k offsets o) ≡ true
has_blocks-blocks_of k offsets None = refl
has_blocks-blocks_of k offsets (Some p) = refl
