use Rattle.std.proofs.Common.{◌≡◌, ◌∙◌, length, Option, None, Some, refl, ap, sym, option_map}
use Rattle.vx_base.specs.PlainScalar.{PlainScalar, scalar}
use Rattle.vx_base.specs.PlainValue.{PlainValue}
use Rattle.vx_model.specs.Column.{Column, column_of}
use Rattle.vx_model.specs.Plain.{plain}
use Rattle.vx_model.specs.Tree.{constant}
use Rattle.vx_schemes.specs.Patches.Compressed.{shared_value, shared_or_plain}
use Rattle.vx_schemes.proofs.patches.constant_or_plain.Goals as goal

pub shared_scalar-requires : goal.shared_scalar-requires
shared_scalar-requires c = c.in_ok-plain.ensures.plain

none-shared : (c : Column) (o : Option PlainValue) → None ≡ option_map (scalar c.dtype) o → plain c ≡ shared_or_plain c o
none-shared c None e = refl
none-shared c (Some v) e = absurd cc

one-shared : (c : Column) (o : Option PlainValue) (s : PlainScalar) → Some s ≡ option_map (scalar c.dtype) o → constant s (length c.values) ≡ shared_or_plain c o
one-shared c None s e = absurd cc
one-shared c (Some v) s e = let same : s ≡ scalar c.dtype v = cc in ap (λ x. constant x (length c.values)) same

pub returns-in-None : goal.returns-in-None
returns-in-None c =
    let v = column_of c.args.values.now in
    let same = c.in_ok-plain.ensures.kept in
    c.in_ok-plain.ensures.tree ∙ none-shared v (shared_value v.values) (sym c.in-None.is ∙ c.in_ok-value.ensures ∙ ap (λ d. option_map (scalar d.dtype) (shared_value d.values)) same)

pub returns-in-Some : goal.returns-in-Some
returns-in-Some c =
    let v = column_of c.args.values.now in
    let same = c.in_ok-plain.ensures.kept in
    let long : c.len.result ≡ length v.values = c.len.ensures ∙ ap (λ d. length d.values) same in
    c.constant.ensures ∙ ap (constant c.in-Some.value) long
    ∙ one-shared v (shared_value v.values) c.in-Some.value (sym c.in-Some.is ∙ c.in_ok-value.ensures ∙ ap (λ d. option_map (scalar d.dtype) (shared_value d.values)) same)
