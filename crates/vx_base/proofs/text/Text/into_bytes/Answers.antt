use Rattle.std.proofs.Common.{◌∙◌, ℕ, List, IsUtf8, sym, ap, subst}
use Rattle.std.proofs.lemmas.Str.{IsUtf8-string_bytes}
use Rattle.vx_base.proofs.text.Text.into_bytes.Goals as goal

pub returns-clause-utf8 : goal.returns-clause-utf8
returns-clause-utf8 c =
    let P : List ℕ → Type 0 = λ bs. IsUtf8 bs in
    subst P (sym (c.from_vec.ensures ∙ ap (λ v. v.items) c.into_bytes.ensures.value)) (IsUtf8-string_bytes c.self.inside.text)
