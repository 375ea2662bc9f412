-- The nodes whose columns aren't decoded as a whole and that have children.
use Rattle.std.proofs.Common.{◌≡◌, length, true, false, Some, None, refl}
use Rattle.vx_base.specs.PlainType.{PlainType, is_integer}
use Rattle.vx_base.specs.PlainType as types
use Rattle.vx_model.specs.Nodes.{children}
use Rattle.vx_model.specs.TreeType.{tree_type}
use Rattle.vx_model.specs.WellFormed.{WellFormed}
use Rattle.vx_array.specs.declared.array.Node.{Node}
use Rattle.vx_array.specs.declared.array.Node.TheVariants as nodes
use Rattle.vx_array.specs.TreeOf.{tree_of}
use Rattle.vx_document.specs.Accepted.{is_decoded}

integers_decoded : (t : PlainType) → is_integer t ≡ true → is_decoded t ≡ true
integers_decoded (types.primitive p n) h = refl
integers_decoded t h = absurd cc

pub no_other : (n : Node) → WellFormed (tree_of n) → is_decoded (tree_type (tree_of n)) ≡ false → (length (children (tree_of n)) ≡ 0 → ⊥)
    → ((offsets : _) (bs : _) (valid : _) (t : _) → n ≡ nodes.VarBin offsets bs valid t → ⊥) → ((child : _) (mask : _) → n ≡ nodes.Masked child mask → ⊥)
    → ((codes : _) (values : _) → n ≡ nodes.Dict codes values → ⊥) → ((patches : _) (fill : _) → n ≡ nodes.Sparse patches fill → ⊥)
    → ((names : _) (fields : _) (len : _) (valid : _) (m : _) → n ≡ nodes.Struct names fields len valid m → ⊥) → ((elements : _) (offsets : _) (valid : _) (m : _) → n ≡ nodes.List elements offsets valid m → ⊥)
    → ((elements : _) (size : _) (len : _) (valid : _) (m : _) → n ≡ nodes.FixedSizeList elements size len valid m → ⊥) → ⊥
no_other (nodes.Bool bs valid m) w f some a b c d e g h = absurd cc
no_other (nodes.Primitive xs valid m) w f some a b c d e g h = absurd cc
no_other (nodes.VarBinView vs valid t) w f some a b c d e g h = some refl
no_other (nodes.VarBin offsets bs valid t) w f some a b c d e g h = a offsets bs valid t refl
no_other (nodes.Timestamp storage k) w f some a b c d e g h = absurd cc
no_other (nodes.Constant s len) w f some a b c d e g h = some refl
no_other (nodes.Masked child valid) w f some a b c d e g h = b child valid refl
no_other (nodes.BitPacked p width bs len valid None m) w f some a b c d e g h = absurd cc
no_other (nodes.BitPacked p width bs len valid (Some patches) m) w f some a b c d e g h = absurd cc
no_other (nodes.FoR encoded reference) w f some a b c d e g h = absurd cc
no_other (nodes.ZigZag encoded) w f some a b c d e g h = absurd cc
no_other (nodes.Dict codes values) w f some a b c d e g h = c codes values refl
no_other (nodes.Null len) w f some a b c d e g h = some refl
no_other (nodes.Struct names fields len valid m) w f some a b c d e g h = e names fields len valid m refl
no_other (nodes.List elements offsets valid m) w f some a b c d e g h = g elements offsets valid m refl
no_other (nodes.FixedSizeList elements size len valid m) w f some a b c d e g h = h elements size len valid m refl
no_other (nodes.Sparse patches fill) w f some a b c d e g h = d patches fill refl
no_other (nodes.RunEnd ends values) w f some a b c d e g h = let own = integers_decoded (tree_type values.array.value) w.2.values_type in absurd cc
no_other (nodes.Rle values indices offsets len) w f some a b c d e g h = let own = integers_decoded (tree_type values.array.value) w.3.values_type in absurd cc
no_other (nodes.Sequence p m first step len) w f some a b c d e g h = absurd cc
no_other (nodes.Delta bases deltas len valid m) w f some a b c d e g h = absurd cc
no_other (nodes.BitPackedV2 p bs offsets len valid None m) w f some a b c d e g h = absurd cc
no_other (nodes.BitPackedV2 p bs offsets len valid (Some patches) m) w f some a b c d e g h = absurd cc
no_other (nodes.DateTimeParts k m days seconds subseconds) w f some a b c d e g h = absurd cc
no_other (nodes.FoRV2 encoded references) w f some a b c d e g h = absurd cc
