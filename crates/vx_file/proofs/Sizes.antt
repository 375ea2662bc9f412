-- The lengths of spellings.
use Rattle.std.proofs.Common.{◌≡◌, ◌+◌, ◌*◌, ◌/◌, ◌-◌, ℕ, zero, suc, Bool, true, List, [], ◌∷◌, ◌++◌, length, Option, Some, None, refl, sym, ap, ◌∙◌, arith, length-append}
use Rattle.std.specs.Prelude.{ℤ, sum_by}
use Rattle.std.proofs.lemmas.List.Sums.{sum_by-cons}
use Rattle.vx_base.specs.declared.dtype.Nullability.{Nullability}
use Rattle.vx_base.specs.declared.ptype.PType.{PType}
use Rattle.vx_base.specs.Integers.{bits_in, bytes_of}
use Rattle.vx_base.specs.PlainScalar.{PlainScalar}
use Rattle.vx_base.specs.Timestamps.{PlainTimestamp}
use Rattle.vx_codec.specs.Bits.{bits, bit_bytes, bytes_for}
use Rattle.vx_codec.specs.FixedWidth.{little_endian}
use Rattle.vx_codec.specs.Lists.{delimited, spell_all}
use Rattle.vx_codec.specs.Varint.{varint}
use Rattle.vx_model.specs.Rows.{rows}
use Rattle.vx_model.specs.Tree.{Tree, Trees, Validity, PlainPacked, PlainBlocks, PlainPatches, packed_of, blocks_of, sparse_of, chunked, bool, primitive, var_bin_view, var_bin, timestamp, constant, masked, bit_packed, bit_packed_with, frame_of_reference, zig_zag, dict, nulls, structure, list, fixed_size_list, none, more, list_of, sparse, run_end, rle, sequence, delta, datetime_parts, bit_packed_v2, bit_packed_v2_with, frame_of_reference_v2, sparse_chunked}
use Rattle.vx_model.specs.WellFormed.{WellFormed}
use Rattle.vx_spelling.specs.Fields.{integer, kind_parts, name, timestamp_kind, validity}
use Rattle.vx_spelling.specs.TreeSpelling.{fields_body, tree_text}
use Rattle.vx_file.specs.Lengths.{varint_size, delimited_size, texts_size, validity_size, kind_size, zone_size, scalar_size, flat_size, maybe_flat_size, packed_fields_size, blocks_fields_size, has_scalar, own_size, text_size, children_size}

length-little_endian : (k n : ℕ) → length (little_endian k n) ≡ k
length-little_endian zero n = refl
length-little_endian (suc k) n = ap suc (length-little_endian k (n / 256))

length-bit_bytes : (k : ℕ) (bs : List Bool) → length (bit_bytes k bs) ≡ k
length-bit_bytes zero bs = refl
length-bit_bytes (suc k) bs = ap suc (length-bit_bytes k _)

pub length-bits : (rows : ℕ) (bs : List Bool) → length ((bits rows).spell bs) ≡ bytes_for rows
length-bits rows bs = length-bit_bytes (bytes_for rows) bs

pub length-validity : (rows : ℕ) (valid : Validity) → length ((validity rows).spell valid) ≡ validity_size valid rows
length-validity rows None = refl
length-validity rows (Some bs) = omega (arith, length-bits rows bs)

pub length-varint : (n : ℕ) → length (varint.spell n) ≡ varint_size n
unfolding varint_size
length-varint n = refl

pub length-delimited : (bs : List ℕ) → length (delimited.spell bs) ≡ delimited_size (length bs)
length-delimited bs = length-append (varint.spell (length bs)) bs ∙ ap (λ (k : ℕ). k + length bs) (length-varint (length bs))

pub length-integers : (p : PType) (xs : List ℤ) → length (spell_all (integer p).spell xs) ≡ length xs * bytes_of p
length-integers p [] = omega arith
length-integers p (x ∷ xs) =
    let one = length-append (little_endian (bytes_of p) (bits_in p x)) (spell_all (integer p).spell xs) in
    let own = length-little_endian (bytes_of p) (bits_in p x) in
    let rest = length-integers p xs in
    let more : suc (length xs) * bytes_of p ≡ bytes_of p + length xs * bytes_of p = grind arith in
    omega arith

pub length-texts : (vs : List (List ℕ)) → length (spell_all delimited.spell vs) ≡ texts_size vs
length-texts [] = refl
length-texts (v ∷ vs) = length-append (delimited.spell v) (spell_all delimited.spell vs) ∙ (λ i. length-delimited v i + length-texts vs i) ∙ sym (sum_by-cons (λ w. delimited_size (length w)) v vs)

length-zone : (zone : List ℕ) → length (name.spell zone) ≡ delimited_size (length zone)
length-zone zone = length-delimited zone

length-kind_parts : (k : PlainTimestamp) (zone : Option (List ℕ)) → length (kind_parts.spell (k.unit, zone)) ≡ 2 + zone_size zone
length-kind_parts k None = refl
length-kind_parts k (Some zone) = omega (arith, length-zone zone)

pub length-kind : (k : PlainTimestamp) → length (timestamp_kind.spell k) ≡ kind_size k
length-kind k = length-kind_parts k k.zone

-- names and trees side by side
length-fields_body : (names : List (List ℕ)) (fields : Trees) → length names ≡ length (list_of fields) → length (fields_body names fields) ≡ texts_size names + sum_by text_size (list_of fields)
unfolding text_size
length-fields_body [] none h = refl
length-fields_body [] (more t ts) h = absurd (omega arith)
length-fields_body (field ∷ names) none h = absurd (omega arith)
length-fields_body (field ∷ names) (more t ts) h =
    let ih = length-fields_body names ts (omega arith) in
    let own = length-append (name.spell field) (tree_text t) in
    let all = length-append (name.spell field ++ tree_text t) (fields_body names ts) in
    let zone = length-zone field in
    let sized = sum_by-cons (λ w. delimited_size (length w)) field names in
    let trees = sum_by-cons text_size t (list_of ts) in
    omega arith

text-structure : (names : List (List ℕ)) (fields : Trees) (len : ℕ) (valid : Validity) (n : Nullability)
    → length (tree_text (structure names fields len valid n)) ≡ 2 + (varint_size len + ((varint_size (length names) + length (fields_body names fields)) + validity_size valid len))
unfolding varint_size
text-structure names fields len valid n = simp length-append (omega (arith, length-validity len valid))

own-structure : (names : List (List ℕ)) (fields : Trees) (len : ℕ) (valid : Validity) (n : Nullability) → length names ≡ length (list_of fields)
    → own_size (structure names fields len valid n) + children_size (structure names fields len valid n) ≡ length (tree_text (structure names fields len valid n))
own-structure names fields len valid n h = omega (arith, text-structure names fields len valid n, length-fields_body names fields h)

-- the bytes of a tree are its own and its children's
pub length-tree_text : (t : Tree) → WellFormed t → own_size t + children_size t ≡ length (tree_text t)
unfolding text_size varint_size scalar_size
length-tree_text (bool bs valid n) w = simp length-append (omega (arith, length-bits (length bs) bs, length-validity (length bs) valid))
length-tree_text (primitive p xs valid n) w = simp length-append (omega (arith, length-integers p xs, length-validity (length xs) valid))
length-tree_text (var_bin_view vs valid t) w = simp length-append (omega (arith, length-texts vs, length-validity (length vs) valid))
length-tree_text (var_bin offsets bs valid t) w = simp length-append (omega (arith, length-validity (length (rows offsets) - 1) valid))
length-tree_text (timestamp storage k) w = simp length-append (omega (arith, length-kind k))
length-tree_text (constant s len) w = simp length-append (omega arith)
length-tree_text (masked child valid) w = simp length-append (omega (arith, length-bits (length (rows child)) valid))
length-tree_text (bit_packed k) w = simp length-append (omega (arith, length-validity k.len k.valid))
length-tree_text (bit_packed_with k len offset indices values) w = simp length-append (omega (arith, length-validity k.len k.valid))
length-tree_text (frame_of_reference encoded reference) w = simp length-append (omega arith)
length-tree_text (zig_zag encoded) w = simp length-append (omega arith)
length-tree_text (dict codes values) w = simp length-append (omega arith)
length-tree_text (nulls len) w = omega arith
length-tree_text (structure names fields len valid n) w = own-structure names fields len valid n w.1.named
length-tree_text (list elements offsets valid n) w = simp length-append (omega (arith, length-validity (length (rows offsets) - 1) valid))
length-tree_text (fixed_size_list elements size len valid n) w = simp length-append (omega (arith, length-validity len valid))
length-tree_text (sparse len offset indices values fill) w = simp length-append (omega arith)
length-tree_text (run_end ends values) w = simp length-append (omega arith)
length-tree_text (rle values indices offsets len) w = simp length-append (omega arith)
length-tree_text (sequence p n first step len) w = simp length-append (omega arith)
length-tree_text (delta bases deltas len valid n) w = simp length-append (omega (arith, length-validity len valid))
length-tree_text (datetime_parts k n days seconds subseconds) w = simp length-append (omega (arith, length-kind k))
length-tree_text (bit_packed_v2 k offsets) w = simp length-append (omega (arith, length-validity k.len k.valid))
length-tree_text (bit_packed_v2_with k offsets len offset indices values) w = simp length-append (omega (arith, length-validity k.len k.valid))
length-tree_text (frame_of_reference_v2 encoded references) w = simp length-append (omega arith)
length-tree_text (sparse_chunked len offset indices values chunks fill) w = simp length-append (omega arith)

pub sizes-add : (t : Tree) → WellFormed t → own_size t + children_size t ≡ text_size t
unfolding text_size
sizes-add t w = length-tree_text t w

-- ---- own bytes where there are patches

pub own-packed_of : (k : PlainPacked) (o : Option PlainPatches) → own_size (packed_of k o) ≡ 4 + (packed_fields_size k + maybe_flat_size o)
own-packed_of k None = refl
own-packed_of k (Some p) = refl

pub own-blocks_of : (k : PlainBlocks) (offsets : Tree) (o : Option PlainPatches) → own_size (blocks_of k offsets o) ≡ 3 + (blocks_fields_size k + maybe_flat_size o)
own-blocks_of k offsets None = refl
own-blocks_of k offsets (Some p) = refl

own-either : (len offset : ℕ) (indices values : Tree) (fill : PlainScalar) (o : Option Tree) → own_size (sparse_of (chunked len offset indices values o) fill) ≡ 2 + (flat_size len offset + scalar_size fill)
own-either len offset indices values fill None = refl
own-either len offset indices values fill (Some chunks) = refl

pub own-sparse_of : (p : PlainPatches) (fill : PlainScalar) → own_size (sparse_of p fill) ≡ 2 + (flat_size p.array_len p.offset + scalar_size fill)
own-sparse_of p fill = own-either p.array_len p.offset p.indices p.values fill p.chunks

scalar-either : (len offset : ℕ) (indices values : Tree) (fill : PlainScalar) (o : Option Tree) → has_scalar (sparse_of (chunked len offset indices values o) fill) ≡ true
scalar-either len offset indices values fill None = refl
scalar-either len offset indices values fill (Some chunks) = refl

pub has_scalar-sparse_of : (p : PlainPatches) (fill : PlainScalar) → has_scalar (sparse_of p fill) ≡ true
has_scalar-sparse_of p fill = scalar-either p.array_len p.offset p.indices p.values fill p.chunks

pub ruleset own = (own-packed_of, own-blocks_of, own-sparse_of, has_scalar-sparse_of)

pub ruleset sizes = (sizes-add)
