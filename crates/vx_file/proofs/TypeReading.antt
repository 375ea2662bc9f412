-- A step of the reader of types.
use Rattle.std.proofs.Common.{◌≡◌, ℕ, zero, suc, ◌-◌, ◌<◌, List, Some, refl, sym, ap, ◌∙◌, arith}
use Rattle.vx_spelling.specs.declared.kinds.TypeKind.{TypeKind}
use Rattle.vx_spelling.specs.TypeSpelling.{type_at, type_behind, type_kind, types_by}

-- a type is what stands behind its kind
pub type_found : (d : ℕ) (bytes : List ℕ) (k : TypeKind) (rest : List ℕ) → 0 < d → type_kind.parse bytes ≡ Some (k, rest) → type_at d bytes ≡ type_behind (types_by (type_at (d - 1))) k rest
type_found zero bytes k rest p h = absurd (omega arith)
type_found (suc d) bytes k rest p h =
    let e : suc d - 1 ≡ d = omega arith in
    let found : type_at (suc d) bytes ≡ type_behind (types_by (type_at d)) k rest = rw h refl in
    found ∙ ap (λ (m : ℕ). type_behind (types_by (type_at m)) k rest) (sym e)
