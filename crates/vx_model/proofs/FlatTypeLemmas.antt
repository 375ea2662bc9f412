-- Flat types.
use Rattle.std.proofs.Common.{◌≡◌, true, refl}
use Rattle.vx_base.specs.PlainType.{PlainType, boolean, primitive, utf8, binary, is_leaf, is_flat, is_integer, is_bytes}

pub leaf-flat : (t : PlainType) → is_leaf t ≡ true → is_flat t ≡ true
leaf-flat (boolean n) h = refl
leaf-flat (primitive p n) h = refl
leaf-flat (utf8 n) h = refl
leaf-flat (binary n) h = refl
leaf-flat t h = absurd cc

pub integer-flat : (t : PlainType) → is_integer t ≡ true → is_flat t ≡ true
integer-flat (primitive p n) h = refl
integer-flat t h = absurd cc

pub bytes-flat : (t : PlainType) → is_bytes t ≡ true → is_flat t ≡ true
bytes-flat (utf8 n) h = refl
bytes-flat (binary n) h = refl
bytes-flat t h = absurd cc
