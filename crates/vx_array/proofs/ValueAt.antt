-- The value in a row of any type.
use Rattle.std.proofs.Common.{◌≡◌, ◌<◌, ◌≤◌, ◌+◌, ◌-◌, ◌*◌, ◌++◌, ◌∷◌, ◌∙◌, ℕ, zero, suc, List, [], length, take, drop, get_or, true, false, None, Some, refl, sym, ap, arith, Bool}
use Rattle.std.specs.Prelude.{nat_lt, Ok, Err}
use Rattle.std.specs.List.{list_all}
use Rattle.std.proofs.Math.Nat.{suc-mul}
use Rattle.std.proofs.lemmas.Bool.{and_parts, and_from, eqb-true, lt-ltb}
use Rattle.std.proofs.lemmas.List.{take_more, length-drop, get_or-drop}
use Rattle.vx_base.specs.Masks.{rows_between}
use Rattle.vx_base.specs.PlainScalar.{PlainScalar, scalar, fits, fields_fit, items_fit}
use Rattle.vx_base.specs.PlainType.{PlainType, PlainFields, is_flat, is_bytes, utf8, binary, structure, list, fixed_size_list}
use Rattle.vx_base.specs.PlainType as types
use Rattle.vx_base.specs.PlainValue.{PlainValue, PlainValues, null, truth, int, bytes, items, list_of, has_short, have_short, is_short}
use Rattle.vx_base.specs.PlainValue as vals
use Rattle.vx_base.specs.TypeOf.{type_of}
use Rattle.vx_base.specs.declared.error.VortexError.TheVariants.{ValueTooLong, MismatchedTypes}
use Rattle.vx_base.specs.declared.error.Refused.{Refused}
use Rattle.vx_base.specs.Answers.{MakesSurely, unless}
use Rattle.vx_model.specs.Rows.{rows, row_at}
use Rattle.vx_model.specs.Tree.{Tree}
use Rattle.vx_model.specs.Tree as trees
use Rattle.vx_model.specs.TreeType.{tree_type}
use Rattle.vx_model.specs.WellFormed.{WellFormed, all_have_rows}
use Rattle.vx_array.specs.declared.array.Node.{Node}
use Rattle.vx_array.specs.declared.array.Node.TheVariants as nodes
use Rattle.vx_array.specs.TreeOf.{tree_of}
use Rattle.vx_array.proofs.Flat.{dict_flat, integer_flat}
use Rattle.std.specs.Str.{is_utf8}
use Rattle.std.specs.Prelude.{◌==◌}

-- ---- a value that fits is short

mutual
  pub fits-short : (t : PlainType) (v : PlainValue) → fits t v ≡ true → has_short v ≡ true
  fits-short t null h = refl
  fits-short t (truth b) h = refl
  fits-short t (int z) h = refl
  fits-short (utf8 n) (bytes bs) h = (and_parts (is_short bs) (is_utf8 bs) h).0
  fits-short (binary n) (bytes bs) h = h
  fits-short t (bytes bs) h = absurd cc
  fits-short (structure fs n) (items vs) h = fields-short fs vs h
  fits-short (list t n) (items vs) h = items-short t vs h
  fits-short (fixed_size_list t size n) (items vs) h = items-short t vs (and_parts (length (list_of vs) == size) (items_fit t vs) h).1
  fits-short t (items vs) h = absurd cc

  fields-short : (fs : PlainFields) (vs : PlainValues) → fields_fit fs vs ≡ true → have_short vs ≡ true
  fields-short fs vals.none h = refl
  fields-short types.none (vals.more v vs) h = absurd cc
  fields-short (types.more name t fs) (vals.more v vs) h = let b = and_parts (fits t v) (fields_fit fs vs) h in and_from _ _ (fits-short t v b.0) (fields-short fs vs b.1)

  items-short : (t : PlainType) (vs : PlainValues) → items_fit t vs ≡ true → have_short vs ≡ true
  items-short t vals.none h = refl
  items-short t (vals.more v vs) h = let b = and_parts (fits t v) (items_fit t vs) h in and_from _ _ (fits-short t v b.0) (items-short t vs b.1)

-- ---- rows one behind the other

pub between_next : (xs : List PlainValue) (start i : ℕ) (x : PlainValue) → start ≤ i → i < length xs → x ≡ row_at xs i → rows_between xs start (i + 1) ≡ rows_between xs start i ++ x ∷ []
between_next xs start i x l m e =
    let more : i + 1 - start ≡ i - start + 1 = omega arith in
    let left = length-drop start xs in
    let place : start + (i - start) ≡ i = omega arith in
    ap (λ n. take n (drop start xs)) more ∙ take_more (drop start xs) (i - start) null (omega arith)
    ∙ ap (λ y. rows_between xs start i ++ y ∷ []) (get_or-drop start xs (i - start) null ∙ ap (row_at xs) place ∙ sym e)

pub sized-within : (size len i : ℕ) → i < len → i * size + size ≤ len * size
sized-within size zero i l = absurd (omega arith)
sized-within size (suc len) zero l = let both = suc-mul len size in omega arith
sized-within size (suc len) (suc i) l = let rest = sized-within size len i (omega arith) in omega (arith, suc-mul len size, suc-mul i size)

pub passes_at : {A : Type 0} (p : A → Bool) (xs : List A) (i : ℕ) (x : A) → i < length xs → x ≡ get_or xs i x → list_all p xs ≡ true → p x ≡ true
passes_at p [] i x l e h = absurd (omega arith)
passes_at p (y ∷ ys) zero x l e h = rw e (and_parts (p y) (list_all p ys) h).0
passes_at p (y ∷ ys) (suc i) x l e h = passes_at p ys i x (omega arith) e (and_parts (p y) (list_all p ys) h).1

-- fields as long as the struct have each of its rows
pub in_rows : (len row : ℕ) (ts : List Tree) → row < len → all_have_rows len (trees.of_list ts) ≡ true → list_all (λ t. nat_lt row (length (rows t))) ts ≡ true
in_rows len row [] l h = refl
in_rows len row (t ∷ ts) l h =
    let b = and_parts (length (rows t) == len) (all_have_rows len (trees.of_list ts)) h in
    let own = eqb-true (length (rows t)) len b.0 in
    and_from _ _ (lt-ltb row (length (rows t)) (omega arith)) (in_rows len row ts l b.1)

-- ---- a node whose type isn't flat

bytes_flat : (t : PlainType) → is_bytes t ≡ true → is_flat t ≡ true
bytes_flat (utf8 n) h = refl
bytes_flat (binary n) h = refl
bytes_flat t h = absurd cc

pub no_other : (n : Node) → WellFormed (tree_of n) → is_flat (tree_type (tree_of n)) ≡ false → ((s : _) (len : _) → n ≡ nodes.Constant s len → ⊥) → ((len : _) → n ≡ nodes.Null len → ⊥)
    → ((names : _) (fields : _) (len : _) (valid : _) (m : _) → n ≡ nodes.Struct names fields len valid m → ⊥) → ((elements : _) (offsets : _) (valid : _) (m : _) → n ≡ nodes.List elements offsets valid m → ⊥)
    → ((elements : _) (size : _) (len : _) (valid : _) (m : _) → n ≡ nodes.FixedSizeList elements size len valid m → ⊥) → ((patches : _) (fill : _) → n ≡ nodes.Sparse patches fill → ⊥) → ⊥
no_other (nodes.Bool bs valid m) w f a b c d e g = absurd cc
no_other (nodes.Primitive xs valid m) w f a b c d e g = absurd cc
no_other (nodes.VarBinView vs valid t) w f a b c d e g = let flat = bytes_flat (type_of t) w.0.byte_type in absurd cc
no_other (nodes.VarBin offsets bs valid t) w f a b c d e g = let flat = bytes_flat (type_of t) w.1.values.byte_type in absurd cc
no_other (nodes.Timestamp storage k) w f a b c d e g = absurd cc
no_other (nodes.Constant s len) w f a b c d e g = a s len refl
no_other (nodes.Masked child valid) w f a b c d e g = let flat = w.1.flat in absurd cc
no_other (nodes.BitPacked p width bs len valid None m) w f a b c d e g = absurd cc
no_other (nodes.BitPacked p width bs len valid (Some patches) m) w f a b c d e g = absurd cc
no_other (nodes.FoR encoded reference) w f a b c d e g = absurd cc
no_other (nodes.ZigZag encoded) w f a b c d e g = absurd cc
no_other (nodes.Dict codes values) w f a b c d e g = let flat = dict_flat (tree_type codes.array.value) (tree_type values.array.value) w.2.values_type in absurd cc
no_other (nodes.Null len) w f a b c d e g = b len refl
no_other (nodes.Struct names fields len valid m) w f a b c d e g = c names fields len valid m refl
no_other (nodes.List elements offsets valid m) w f a b c d e g = d elements offsets valid m refl
no_other (nodes.FixedSizeList elements size len valid m) w f a b c d e g = e elements size len valid m refl
no_other (nodes.Sparse patches fill) w f a b c d e g = g patches fill refl
no_other (nodes.RunEnd ends values) w f a b c d e g = let flat = integer_flat (tree_type values.array.value) w.2.values_type in absurd cc
no_other (nodes.Rle values indices offsets len) w f a b c d e g = let flat = integer_flat (tree_type values.array.value) w.3.values_type in absurd cc
no_other (nodes.Sequence p m first step len) w f a b c d e g = absurd cc
no_other (nodes.Delta bases deltas len valid m) w f a b c d e g = absurd cc
no_other (nodes.BitPackedV2 p bs offsets len valid None m) w f a b c d e g = absurd cc
no_other (nodes.BitPackedV2 p bs offsets len valid (Some patches) m) w f a b c d e g = absurd cc
no_other (nodes.DateTimeParts k m days seconds subseconds) w f a b c d e g = absurd cc
no_other (nodes.FoRV2 encoded references) w f a b c d e g = absurd cc

-- ---- a scalar of a value that fits

module _ {T : Type 0} (t : PlainType) (v : PlainValue) (inputs : T) (h : fits t v ≡ true) where
  pub scalar_given : (s : PlainScalar) → MakesSurely (unless (has_short v) ValueTooLong (unless (fits t v) MismatchedTypes None)) (scalar t v) inputs (Ok s) → s ≡ scalar t v
  scalar_given s m = rw (fits-short t v h, h) at m

  pub scalar_never : (r : Refused T) → MakesSurely (unless (has_short v) ValueTooLong (unless (fits t v) MismatchedTypes None)) (scalar t v) inputs (Err r) → ⊥
  scalar_never r m = rw (fits-short t v h, h) at m
