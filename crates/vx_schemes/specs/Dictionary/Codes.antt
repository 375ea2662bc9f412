-- Codes of a type, wrapped where the type is too narrow for them.
use Rattle.std.specs.Prelude.{◌≡◌, ℤ, pos, List, map}
use Rattle.vx_base.specs.declared.ptype.PType.{PType}
use Rattle.vx_base.specs.Wrapping.{wrap}
use Rattle.vx_schemes.specs.Dictionary.Tree.{code_of}

-- the code of a number, in a type
abbrev pub as_code : PType → List ℤ → ℤ → ℤ
as_code p numbers z = wrap p (pos (code_of numbers z))

-- the codes of numbers, in their order
abbrev pub codes_in : PType → List ℤ → List ℤ → List ℤ
codes_in p numbers zs = map (as_code p numbers) zs

-- an item with its code
abbrev pub IsCoded : {T C : Type 0} → (T → ℤ) → (C → ℤ) → PType → List ℤ → T × C → Type 0
IsCoded whole code p numbers pair = code pair.1 ≡ as_code p numbers (whole pair.0)
