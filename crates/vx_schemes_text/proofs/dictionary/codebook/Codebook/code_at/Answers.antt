use Rattle.std.proofs.Common.{arith, ◌≡◌, ◌∙◌, ◌++◌, ◌∷◌, [], ℕ, List, map, pos, refl, sym, ap, subst}
use Rattle.std.proofs.lemmas.Grind.{common_steps}
use Rattle.vx_base.specs.PlainValue.{PlainValue, bytes, null, whole_or_zero}
use Rattle.vx_model.specs.Rows.{row_at, valid_rows}
use Rattle.vx_schemes_text.specs.Dictionary.Codebook.{Knows, place_in}
use Rattle.vx_schemes_text.specs.Dictionary.Tree.{appearing, code_in}
use Rattle.vx_schemes_text.proofs.AppearanceLemmas.{appearing-more}
use Rattle.vx_schemes_text.proofs.CodedRowLemmas.{follows, row-bytes}
use Rattle.vx_schemes_text.proofs.dictionary.codebook.Codebook.code_at.Goals as goal

pub returns-then-is_valid-clause-code : goal.returns-then-is_valid-clause-code
returns-then-is_valid-clause-code c =
    let values = valid_rows c.args.valid.now (map bytes c.args.rows.now) in
    let value = bytes c.as_slice.result.now in
    let read = row-bytes c.args.rows.now c.args.valid.now c.args.row c.requires.mask c.requires.within in
    let here : row_at values c.args.row ≡ value = grind (arith, common_steps, read) in
    let coded : PlainValue → ℕ → List PlainValue → Type 0 = λ v code seen. pos code ≡ whole_or_zero (code_in (appearing (seen ++ v ∷ [])) v) in
    let step : (code : ℕ) → ((vs seen : List PlainValue) → Knows vs seen c.args.self.now → coded value code seen) → (seen : List PlainValue) → Knows values seen c.args.self.now → coded (row_at values c.args.row) code seen =
    (λ code h seen knows. subst (λ v. coded v code seen) (sym here) (h values seen knows))
    in
    follows _ _ _ step c.code_of.ensures.code

pub returns-then-is_valid-clause-knows : goal.returns-then-is_valid-clause-knows
returns-then-is_valid-clause-knows c =
    let values = valid_rows c.args.valid.now (map bytes c.args.rows.now) in
    let value = bytes c.as_slice.result.now in
    let read = row-bytes c.args.rows.now c.args.valid.now c.args.row c.requires.mask c.requires.within in
    let here : row_at values c.args.row ≡ value = grind (arith, common_steps, read) in
    let book = c.code_of.new.self in
    let step : (code : ℕ) → ((vs seen : List PlainValue) → Knows vs seen c.args.self.now → row_at vs c.args.row ≡ value → Knows vs (seen ++ value ∷ []) book) → (seen : List PlainValue) → Knows values seen c.args.self.now → Knows values (seen ++ row_at values c.args.row ∷ []) book =
    (λ code h seen knows. subst (λ v. Knows values (seen ++ v ∷ []) book) (sym here) (h values seen knows here))
    in
    follows _ _ _ step c.code_of.ensures.knows

pub returns-else-is_valid-clause-code : goal.returns-else-is_valid-clause-code
returns-else-is_valid-clause-code c = λ seen knows.
    let values = valid_rows c.args.valid.now (map bytes c.args.rows.now) in
    let read = row-bytes c.args.rows.now c.args.valid.now c.args.row c.requires.mask c.requires.within in
    let here : row_at values c.args.row ≡ null = grind (arith, common_steps, read) in
    subst (λ v. pos 0 ≡ whole_or_zero (code_in (appearing (seen ++ v ∷ [])) v)) (sym here) refl

pub returns-else-is_valid-clause-knows : goal.returns-else-is_valid-clause-knows
returns-else-is_valid-clause-knows c = λ seen knows.
    let values = valid_rows c.args.valid.now (map bytes c.args.rows.now) in
    let read = row-bytes c.args.rows.now c.args.valid.now c.args.row c.requires.mask c.requires.within in
    let here : row_at values c.args.row ≡ null = grind (arith, common_steps, read) in
    let same = sym (appearing-more seen null) in
    subst (λ v. Knows values (seen ++ v ∷ []) c.args.self.now) (sym here) (record { firsts = knows.firsts ∙ same; codes = λ q. knows.codes q ∙ ap (λ ds. place_in ds (bytes q)) same })
