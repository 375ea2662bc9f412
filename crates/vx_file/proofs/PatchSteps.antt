-- What a constructor of patches answers, to the reader of their parts.
use Rattle.std.proofs.Common.{◌≡◌, ℕ, Bool, List, Option, Some, None, refl}
use Rattle.std.specs.Prelude.{Ok, is_none}
use Rattle.vx_base.specs.Answers.{MakesSurely}
use Rattle.vx_base.specs.declared.error.VortexError.{VortexError}
use Rattle.vx_file.specs.Made.{passed}

-- parts that a constructor accepts pass the reader's test
pub are_passed : {P T U : Type 0} (r : Option VortexError) (ok : P → Bool) (view : U → P) (parts : P) (rest : List ℕ) (made : U) (inputs : T) (a : U) → ok parts ≡ is_none r → view made ≡ parts → MakesSurely r made inputs (Ok a)
    → passed ok parts rest ≡ Some (view a, rest)
are_passed None ok view parts rest made inputs a e m h = rw (e, h, m) refl
are_passed (Some x) ok view parts rest made inputs a e m h = absurd h
