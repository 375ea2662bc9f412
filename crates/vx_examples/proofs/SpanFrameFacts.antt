-- Worked values of span frames, counted by hand, so that a wrong rule in the definitions does not check.
use Rattle.std.specs.Prelude.{◌≡◌, ℕ, List, [], ◌∷◌, ◌++◌, map, Option, Some, None, option_map, codes, pos, negsuc, refl}
use Rattle.vx_base.specs.declared.ptype.PType.TheVariants.{U8, U16, I8}
use Rattle.vx_base.specs.declared.dtype.Nullability.TheVariants.{NonNullable, Nullable}
use Rattle.vx_base.specs.Packed.{bytes_in}
use Rattle.vx_base.specs.PlainScalar.{scalar}
use Rattle.vx_base.specs.PlainType as types
use Rattle.vx_base.specs.PlainValue.{null, int}
use Rattle.vx_model.specs.Column.{Column, column, column_of}
use Rattle.vx_model.specs.Plain.{plain}
use Rattle.vx_model.specs.Site.{fresh}
use Rattle.vx_model.specs.Size.{size}
use Rattle.vx_model.specs.Tree.{Tree, primitive, frame_of_reference, dict, sequence}
use Rattle.vx_scheme.specs.Meaning.{Meaning, parts}
use Rattle.vx_schemes.specs.Widths.{first_least, widths_of}
use Rattle.vx_btrblocks.specs.Shipped.{shipped_schemes}
use Rattle.vx_compressor.specs.Cascade.{choice, plain_parts, leaf_tree}
use Rattle.vx_examples.specs.SpanFrame.{span_frame, with_span_frames}

-- from -128 to 127 are 255; a null stays, and the part is as nullable as the column
pub span_frame-part : span_frame.splits (column (types.primitive I8 Nullable) (int (negsuc 127) ∷ null ∷ int (pos 127) ∷ [])) fresh
    ≡ parts (column (types.primitive U8 Nullable) (int (pos 0) ∷ null ∷ int (pos 255) ∷ []) ∷ [])
span_frame-part = refl

-- the plain tree of that part, under -128, has the rows
pub span_frame-joined : column_of (span_frame.joined (column (types.primitive I8 Nullable) (int (negsuc 127) ∷ null ∷ int (pos 127) ∷ [])) fresh
    (plain (column (types.primitive U8 Nullable) (int (pos 0) ∷ null ∷ int (pos 255) ∷ [])) ∷ []))
    ≡ column (types.primitive I8 Nullable) (int (negsuc 127) ∷ null ∷ int (pos 127) ∷ [])
span_frame-joined = refl

-- eight rows of 1,000 to 1,002
abbrev thousands : Column
thousands = column (types.primitive U16 NonNullable) (map (λ n. int (pos n)) (1000 ∷ 1001 ∷ 1002 ∷ 1000 ∷ 1001 ∷ 1002 ∷ 1001 ∷ 1002 ∷ []))

abbrev chosen_of : List Meaning → Option (List ℕ)
chosen_of schemes = option_map (λ m. m.name) (choice plain_parts (record { schemes = schemes; words = 0 ∷ [] }) thousands fresh)

-- both frames expect 16 by 2 digits, and the first of equal ones stands
pub first_frame_stands : (chosen_of with_span_frames ≡ Some (codes "example.int.frame")) × (chosen_of (shipped_schemes ++ span_frame ∷ []) ≡ Some (codes "vortex.int.for"))
unfolding first_least widths_of bytes_in lib.Count.count_leading_zeros
first_frame_stands = (refl, refl)

abbrev tree_by : List Meaning → Tree
tree_by schemes = leaf_tree (record { schemes = schemes; words = 0 ∷ [] }) thousands fresh

-- packed at width 2 the differences take a block of 256 bytes, and plain they take 16; by a dictionary the codes take 8, and the
-- values 0, 1 and 2 are a sequence
pub dictionary_in_frame : tree_by with_span_frames
    ≡ frame_of_reference (dict (primitive U8 (map pos (0 ∷ 1 ∷ 2 ∷ 0 ∷ 1 ∷ 2 ∷ 1 ∷ 2 ∷ [])) None NonNullable) (sequence U16 NonNullable (pos 0) (pos 1) 3))
    (scalar (types.primitive U16 NonNullable) (int (pos 1000)))
unfolding first_least widths_of bytes_in lib.Count.count_leading_zeros
dictionary_in_frame = refl

pub half_the_bytes : (size (tree_by with_span_frames) ≡ 8) × (size (tree_by shipped_schemes) ≡ 16)
unfolding first_least widths_of bytes_in lib.Count.count_leading_zeros
half_the_bytes = (refl, refl)
