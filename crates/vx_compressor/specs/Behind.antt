-- A tree under a mask where some row isn't valid.
use Rattle.std.specs.Prelude.{Option, None, Some}
use Rattle.vx_base.specs.declared.error.VortexError.{VortexError}
use Rattle.vx_model.specs.Tree.{Tree, Validity, masked}
use Rattle.vx_model.specs.Refusals.{masked_refusal}

-- masked where some row isn't valid
abbrev pub behind : Validity → Tree → Tree
behind None child = child
behind (Some bits) child = masked child bits

-- when it can't be masked
abbrev pub behind_refusal : Validity → Tree → Option VortexError
behind_refusal None child = None
behind_refusal (Some bits) child = masked_refusal child bits
