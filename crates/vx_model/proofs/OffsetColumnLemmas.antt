-- The column of the offsets of rows: each fits, and its plain tree.
use Rattle.std.proofs.Common.{◌≡◌, ◌<◌, ◌≤◌, ◌*◌, ◌^◌, ℕ, pos, List, [], ◌∷◌, length, map, refl, true, None, arith}
use Rattle.std.specs.List.{list_all}
use Rattle.std.proofs.lemmas.Bool.{and_parts, lt-ltb, ltb-true}
use Rattle.std.proofs.lemmas.List.{length-append, length-map}
use Rattle.vx_base.specs.declared.dtype.Nullability.TheVariants.{NonNullable}
use Rattle.vx_base.specs.declared.ptype.PType.TheVariants.{U64}
use Rattle.vx_base.specs.PlainType.{is_bytes}
use Rattle.vx_base.specs.PlainValue.{bytes_or_empty, is_short}
use Rattle.vx_model.specs.Column.{Column, IsColumn}
use Rattle.vx_model.specs.Nested.{concatenated}
use Rattle.vx_model.specs.Offsets.{offsets_of, offsets_column, byte_rows_of}
use Rattle.vx_model.specs.Plain.{plain}
use Rattle.vx_model.specs.Tree.{primitive}
use Rattle.vx_model.proofs.DecodeLemmas.{wholes-map-int, no_null-map-int}
use Rattle.vx_model.proofs.JoinedLemmas.{offsets_lie}
use Rattle.vx_model.proofs.MadeLemmas.{ints_fit}
use Rattle.vx_model.proofs.PlainLemmas.{short_items}

-- ---- the plain tree

pub plain-offsets : {A : Type 0} (rows : List (List A)) → plain (offsets_column rows) ≡ primitive U64 (map pos (offsets_of rows)) None NonNullable
plain-offsets rows = rw (wholes-map-int (map pos (offsets_of rows)), no_null-map-int (map pos (offsets_of rows))) refl

-- ---- each offset fits, where the items are fewer than 2^64

pub offsets_fit : {A : Type 0} (rows : List (List A)) → length (concatenated rows) < 2 ^ 64 → IsColumn (offsets_column rows)
offsets_fit rows l = ints_fit U64 NonNullable (map pos (offsets_of rows)) (offsets_lie U64 (length (concatenated rows)) 0 rows (omega arith) (lt-ltb _ _ l))

-- ---- the bytes of few rows

short_bytes : (rows : List (List ℕ)) → list_all is_short rows ≡ true → length (concatenated rows) ≤ length rows * 4_294_967_295
short_bytes [] h = omega arith
short_bytes (row ∷ rows) h =
    let both = and_parts (is_short row) (list_all is_short rows) h in
    let short : length row < 2 ^ 32 = ltb-true (length row) (2 ^ 32) both.0 in
    let rest = short_bytes rows both.1 in
    let whole = length-append row (concatenated rows) in
    omega arith

-- of 2^32 rows or fewer
pub few_bytes : (c : Column) → is_bytes c.dtype ≡ true → IsColumn c → length c.values ≤ 2 ^ 32 → length (concatenated (byte_rows_of c)) < 2 ^ 64
few_bytes c typed h l =
    let count = length-map c.values bytes_or_empty in
    let all = short_bytes (byte_rows_of c) (short_items c.dtype typed c.values h) in
    omega arith
