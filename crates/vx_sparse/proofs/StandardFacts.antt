-- Worked metadata, so that a wrong rule in specs doesn't check.
use Rattle.std.proofs.Common.{◌≡◌, [], ◌∷◌, None, refl}
use Rattle.vx_base.specs.declared.ptype.PType.TheVariants.{I32, U8}
use Rattle.vx_sparse.specs.Metadata.{by_fields, message, spelling}

-- one patch with offset 0 and U8; 300 with offset 1,000 and I32; none
pub spelled-patches :
    (spelling (by_fields 1 0 U8) ≡ 0x0a ∷ 0x02 ∷ 0x08 ∷ 0x01 ∷ [])
    × (spelling (by_fields 300 1_000 I32) ≡ 0x0a ∷ 0x08 ∷ 0x08 ∷ 0xac ∷ 0x02 ∷ 0x10 ∷ 0xe8 ∷ 0x07 ∷ 0x18 ∷ 0x06 ∷ [])
    × (spelling (by_fields 0 0 U8) ≡ 0x0a ∷ 0x00 ∷ [])
spelled-patches = (refl, refl, refl)

-- no message within, its length in two bytes, bytes behind it, and a number that is 0 and written
pub read-others :
    (message.parse [] ≡ None)
    × (message.parse (0x0a ∷ 0x80 ∷ 0x00 ∷ []) ≡ None)
    × (message.parse (0x0a ∷ 0x00 ∷ 0x00 ∷ []) ≡ None)
    × (message.parse (0x0a ∷ 0x02 ∷ 0x08 ∷ 0x00 ∷ []) ≡ None)
read-others = (refl, refl, refl, refl)
