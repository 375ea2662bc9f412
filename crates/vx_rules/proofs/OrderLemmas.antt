-- The order of values is total among values of one kind; of a flat type all valid values are of one.
use Rattle.std.proofs.Common.{◌≡◌, ℕ, ℤ, pos, Bool, true, false, cond, ◌∙◌, refl, sym, ap, arith}
use Rattle.std.specs.declared.cmp.Ordering.{Ordering}
use Rattle.std.specs.declared.cmp.Ordering.TheVariants.{Less, Equal, Greater}
use Rattle.std.specs.Cmp.{IsTotalOrder}
use Rattle.std.specs.Cmp.Lexicographic.{slice_cmp}
use Rattle.std.specs.Ordering.{is_le, is_lt, is_gt, nat_cmp, int_cmp, on, then_cmp, ordering_then, ordering_reverse}
use Rattle.std.proofs.lemmas.Cmp.{upto, tied_itself, nat_cmp_total, int_cmp_total, on_total, then_total, nat_list_cmp_total}
use Rattle.vx_base.specs.PlainScalar.{fits}
use Rattle.vx_base.specs.PlainType.{PlainType, is_flat}
use Rattle.vx_base.specs.PlainType as types
use Rattle.vx_base.specs.PlainValue.{PlainValue, null, truth, int, bytes, items, is_null, bytes_or_empty}
use Rattle.vx_rules.specs.ValueOrder.{value_cmp}

-- ---- a total order of all values

-- the kinds of values
abbrev pub kind_of : PlainValue → ℕ
kind_of null = 0
kind_of (truth b) = 1
kind_of (int z) = 2
kind_of (bytes bs) = 3
kind_of (items vs) = 4

-- a truth value or an integer as a whole number
abbrev pub whole_of : PlainValue → ℤ
whole_of (truth b) = cond b (pos 1) (pos 0)
whole_of (int z) = z
whole_of _ = pos 0

-- by kind, then by whole number, then by bytes
abbrev pub total_cmp : PlainValue → PlainValue → Ordering
total_cmp = then_cmp (on kind_of nat_cmp) (then_cmp (on whole_of int_cmp) (on bytes_or_empty (slice_cmp nat_cmp)))

total : IsTotalOrder total_cmp
total = then_total (on_total kind_of nat_cmp_total) (then_total (on_total whole_of int_cmp_total) (on_total bytes_or_empty nat_list_cmp_total))

-- at most: no greater
abbrev pub le : PlainValue → PlainValue → Bool
le v w = is_le (total_cmp v w)

le_gt : (o : Ordering) → is_le o ≡ true → is_gt o ≡ false
le_gt Less h = refl
le_gt Equal h = refl
le_gt Greater h = absurd cc

gt_le : (o : Ordering) → is_gt o ≡ false → is_le o ≡ true
gt_le Less h = refl
gt_le Equal h = refl
gt_le Greater h = absurd cc

lt_le : (o : Ordering) → is_lt o ≡ true → is_le o ≡ true
lt_le Less h = refl
lt_le Equal h = absurd cc
lt_le Greater h = absurd cc

not_lt-turned : (o : Ordering) → is_lt o ≡ false → is_le (ordering_reverse o) ≡ true
not_lt-turned Less h = absurd cc
not_lt-turned Equal h = refl
not_lt-turned Greater h = refl

pub le-itself : (v : PlainValue) → le v v ≡ true
le-itself v = ap is_le (tied_itself total v)

pub le-chain : (u v w : PlainValue) → le u v ≡ true → le v w ≡ true → le u w ≡ true
le-chain u v w h k = gt_le (total_cmp u w) (upto total u v w (le_gt (total_cmp u v) h) (le_gt (total_cmp v w) k))

pub le-less : (v w : PlainValue) → is_lt (total_cmp v w) ≡ true → le v w ≡ true
le-less v w h = lt_le (total_cmp v w) h

pub le-not_less : (v w : PlainValue) → is_lt (total_cmp w v) ≡ false → le v w ≡ true
le-not_less v w h = ap is_le (total.antisymm v w) ∙ not_lt-turned (total_cmp w v) h

then-equal : (o : Ordering) → ordering_then o Equal ≡ o
then-equal Less = refl
then-equal Equal = refl
then-equal Greater = refl

-- of values of one kind it is the order of values
pub value_cmp-total : (v w : PlainValue) → kind_of v ≡ kind_of w → value_cmp v w ≡ total_cmp v w
value_cmp-total null null e = refl
value_cmp-total (truth false) (truth false) e = refl
value_cmp-total (truth false) (truth true) e = refl
value_cmp-total (truth true) (truth false) e = refl
value_cmp-total (truth true) (truth true) e = refl
value_cmp-total (int a) (int b) e = sym (then-equal (int_cmp a b))
value_cmp-total (bytes a) (bytes b) e = refl
value_cmp-total (items a) (items b) e = refl
value_cmp-total _ _ e = absurd (omega (arith, e))

-- the kind of the valid values of a flat type
abbrev pub type_kind : PlainType → ℕ
type_kind (types.boolean n) = 1
type_kind (types.utf8 n) = 3
type_kind (types.binary n) = 3
type_kind _ = 2

pub fit-kind : (t : PlainType) (v : PlainValue) → is_flat t ≡ true → fits t v ≡ true → is_null v ≡ false → kind_of v ≡ type_kind t
fit-kind (types.boolean n) (truth b) h f k = refl
fit-kind (types.primitive p n) (int z) h f k = refl
fit-kind (types.timestamp s n) (int z) h f k = refl
fit-kind (types.utf8 n) (bytes bs) h f k = refl
fit-kind (types.binary n) (bytes bs) h f k = refl
fit-kind t v h f k = absurd cc
