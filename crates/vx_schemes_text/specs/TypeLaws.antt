-- Texts and binaries are bytes.
use Rattle.std.proofs.Common.{◌≡◌, true, refl}
use Rattle.vx_base.specs.PlainType.{PlainType, is_bytes, is_text}
use Rattle.vx_base.specs.PlainType as types
use Rattle.vx_schemes_text.specs.Types.{is_binary}

pub text_is_bytes : (t : PlainType) → is_text t ≡ true → is_bytes t ≡ true
text_is_bytes (types.utf8 n) e = refl
text_is_bytes t e = absurd cc

pub binary_is_bytes : (t : PlainType) → is_binary t ≡ true → is_bytes t ≡ true
binary_is_bytes (types.binary n) e = refl
binary_is_bytes t e = absurd cc
