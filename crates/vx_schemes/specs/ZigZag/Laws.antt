-- The zigzags of a column's rows are a column, and zigzag over a tree of them stands for the rows.
use Rattle.std.proofs.Common.{◌≡◌, ◌∙◌, ℤ, Bool, true, false, List, [], ◌∷◌, map, Option, None, Some, refl, ap, arith}
use Rattle.std.specs.Prelude.{not}
use Rattle.std.specs.List.{list_all}
use Rattle.std.proofs.lemmas.List.{length-map}
use Rattle.vx_base.specs.declared.ptype.PType.{PType}
use Rattle.vx_base.specs.declared.ptype.PType.TheVariants.{U8, U16, U32, U64, I8, I16, I32, I64}
use Rattle.vx_base.specs.declared.dtype.Nullability.{Nullability}
use Rattle.vx_base.specs.Integers.{is_signed, unsigned_of, signed_of}
use Rattle.vx_base.specs.PlainScalar.{fits}
use Rattle.vx_base.specs.PlainType.{is_integer, is_unsigned}
use Rattle.vx_base.specs.PlainType as types
use Rattle.vx_base.specs.PlainValue.{PlainValue, null, int, cell}
use Rattle.vx_base.proofs.IntegerLemmas.{by_integer, by_cells}
use Rattle.vx_base.proofs.ZigZagLemmas.{unzigzag-zigzag, zigzag-held}
use Rattle.vx_model.specs.Column.{Column, IsColumn, column, column_of}
use Rattle.vx_model.specs.Rows.{rows, unzigzagged}
use Rattle.vx_model.specs.Tree.{Tree, zig_zag}
use Rattle.vx_model.specs.TreeType.{tree_type, zig_zag_type}
use Rattle.vx_model.specs.WellFormed.{WellFormed}
use Rattle.vx_model.proofs.EachIntLemmas.{all_fit-each_int}
use Rattle.vx_model.proofs.ZigZagLemmas.{zig_zag_accepted}
use Rattle.vx_scheme.specs.Lawful.{IsPart}
use Rattle.vx_schemes_common.specs.OnePart.{PartStands}
use Rattle.vx_schemes_common.specs.StandsFor.{StandsFor}
use Rattle.vx_schemes.specs.ZigZag.Tree.{zigzag_whole, zigzagged, zigzags}

-- ---- the types of zigzags

pub unsigned-not_signed : (p : PType) → not (is_signed (unsigned_of p)) ≡ true
unsigned-not_signed U8 = refl
unsigned-not_signed U16 = refl
unsigned-not_signed U32 = refl
unsigned-not_signed U64 = refl
unsigned-not_signed I8 = refl
unsigned-not_signed I16 = refl
unsigned-not_signed I32 = refl
unsigned-not_signed I64 = refl

signed-back : (p : PType) → is_signed p ≡ true → signed_of (unsigned_of p) ≡ p
signed-back I8 s = refl
signed-back I16 s = refl
signed-back I32 s = refl
signed-back I64 s = refl
signed-back U8 s = absurd cc
signed-back U16 s = absurd cc
signed-back U32 s = absurd cc
signed-back U64 s = absurd cc

signed : (p : PType) (n : Nullability) → is_unsigned (types.primitive p n) ≡ false → is_signed p ≡ true
signed p n e = by_test (is_signed p) e
  where
    by_test : (b : Bool) → not b ≡ false → b ≡ true
    by_test true q = refl
    by_test false q = absurd cc

-- ---- zigzags are a column, and give the rows back

pub zigzags_fit : (p : PType) (n : Nullability) (vs : List PlainValue) → is_signed p ≡ true → list_all (fits (types.primitive p n)) vs ≡ true → list_all (fits (types.primitive (unsigned_of p) n)) (map zigzagged vs) ≡ true
zigzags_fit p n vs s h = all_fit-each_int zigzag_whole p (unsigned_of p) n (λ z l. zigzag-held p z s l) vs h

given_back : (os : List (Option ℤ)) → map unzigzagged (map zigzagged (map cell os)) ≡ map cell os
given_back [] = refl
given_back (None ∷ os) = ap (λ ws. null ∷ ws) (given_back os)
given_back (Some z ∷ os) = λ i. int (unzigzag-zigzag z i) ∷ given_back os i

zigzags-part : (c : Column) → is_integer c.dtype ≡ true → IsColumn c → is_unsigned c.dtype ≡ false → IsPart c (zigzags c)
zigzags-part c j h e = by_integer (λ s. list_all (fits s) c.values ≡ true → is_unsigned s ≡ false → IsPart (column s c.values) (zigzags (column s c.values))) part c.dtype j h e
  where
    part : (p : PType) (n : Nullability) → list_all (fits (types.primitive p n)) c.values ≡ true → is_unsigned (types.primitive p n) ≡ false
        → IsPart (column (types.primitive p n) c.values) (zigzags (column (types.primitive p n) c.values))
    part p n k q = record { column = zigzags_fit p n c.values (signed p n q) k; leaf = refl; rows = omega (arith, length-map c.values zigzagged) }

over-well : (c : Column) (t : Tree) → is_integer c.dtype ≡ true → IsColumn c → is_unsigned c.dtype ≡ false → WellFormed t → column_of t ≡ zigzags c → StandsFor (zig_zag t) c
over-well c t j fit e w h =
    by_integer (λ s. list_all (fits s) c.values ≡ true → is_unsigned s ≡ false → column_of t ≡ zigzags (column s c.values) → StandsFor (zig_zag t) (column s c.values)) over c.dtype j fit e h
  where
    over : (p : PType) (n : Nullability) → list_all (fits (types.primitive p n)) c.values ≡ true → is_unsigned (types.primitive p n) ≡ false
        → column_of t ≡ zigzags (column (types.primitive p n) c.values) → StandsFor (zig_zag t) (column (types.primitive p n) c.values)
    over p n k q same =
        let typed : tree_type t ≡ types.primitive (unsigned_of p) n = ap (λ d. d.dtype) same in
        let values : rows t ≡ map zigzagged c.values = ap (λ d. d.values) same in
        let unsigned : is_unsigned (tree_type t) ≡ true = ap is_unsigned typed ∙ unsigned-not_signed p in
        let own : zig_zag_type (tree_type t) ≡ types.primitive p n = ap zig_zag_type typed ∙ ap (λ k. types.primitive k n) (signed-back p (signed p n q)) in
        let back : map unzigzagged (rows t) ≡ c.values = ap (map unzigzagged) values ∙ by_cells p n (λ vs. map unzigzagged (map zigzagged vs) ≡ vs) (λ os f. given_back os) c.values k in
        (zig_zag_accepted t (rw unsigned refl) w, λ i. column (own i) (back i))

-- ---- what a scheme with one part owes

signed-test : (b : Bool) → not b ≡ true → b ≡ false
signed-test true h = absurd cc
signed-test false h = refl

pub zig_zag-stands : PartStands is_integer (λ c. not (is_unsigned c.dtype)) zigzags (λ c tree. zig_zag tree)
zig_zag-stands = record {
  is_part = λ c j h few signed. zigzags-part c j h (signed-test (is_unsigned c.dtype) signed);
  stands = λ c tree j h signed well same. over-well c tree j h (signed-test (is_unsigned c.dtype) signed) well same;
}
