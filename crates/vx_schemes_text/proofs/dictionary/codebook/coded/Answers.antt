use Rattle.std.proofs.Common.{arith, ◌≡◌, ◌<◌, ◌+◌, ◌∙◌, ◌++◌, ◌∷◌, [], ℕ, List, length, map, take, pos, rules, sym, ap, subst, true}
use Rattle.std.specs.Prelude.{nat_lt}
use Rattle.std.specs.List.{list_all}
use Rattle.std.proofs.lemmas.List.{length-map, length-take-le, take_all, take_more}
use Rattle.vx_base.specs.PlainValue.{bytes, null}
use Rattle.vx_model.specs.Rows.{row_at, valid_rows}
use Rattle.vx_schemes_text.specs.Dictionary.Codebook.{AreCodesOf, Knows}
use Rattle.vx_schemes_text.specs.Dictionary.Distinct.{few-appearing}
use Rattle.vx_schemes_text.specs.Dictionary.Tree.{appearing}
use Rattle.vx_schemes_text.proofs.CodedRowLemmas.{codes-more, firsts-within, length-bytes}
use Rattle.vx_schemes_text.proofs.dictionary.codebook.coded.Goals as goal

pub loop-row-init : goal.loop-row-init
loop-row-init c =
    let none : c.in_ok-codes.codes.items ≡ [] = search rules in
    record { knows = c.new-book.ensures (valid_rows c.args.valid.now (map bytes c.args.rows.now)); codes = ap (map pos) none }

-- no more distinct values than rows so far
pub code_at-requires-clause-room : goal.code_at-requires-clause-room
code_at-requires-clause-room c =
    let values = valid_rows c.args.valid.now (map bytes c.args.rows.now) in
    let seen = take c.loop-row.row values in
    let firsts = c.loop-row.book.firsts.items in
    let long : length firsts ≡ length (appearing seen) = sym (length-map firsts (row_at values)) ∙ ap length c.loop-row.invariant.knows.firsts in
    let whole = length-bytes c.args.rows.now c.args.valid.now c.requires.mask in
    omega (arith, long, few-appearing seen, whole, length-take-le c.loop-row.row values (omega (arith, whole)))

pub loop-row-preserved : goal.loop-row-preserved
loop-row-preserved c =
    let values = valid_rows c.args.valid.now (map bytes c.args.rows.now) in
    let row = c.loop-row.row in
    let before = c.loop-row.invariant in
    let within : row < length values = omega (arith, c.loop-row-test.true, length-bytes c.args.rows.now c.args.valid.now c.requires.mask) in
    let more = sym (take_more values row null within) in
    let step = c.in_ok-code_at.ensures in
    let coded = codes-more (take row values) (row_at values row) c.loop-row.codes.items c.in_ok-code_at.field-0 before.codes (step.code (take row values) before.knows) in
    record {
      knows = subst (λ seen. Knows values seen c.code_at.new.self) more (step.knows (take row values) before.knows);
      codes = subst (λ items. AreCodesOf (take (row + 1) values) items) (sym {A = List ℕ} c.in_ok-push.ensures.items) (subst (λ seen. AreCodesOf seen (c.loop-row.codes.items ++ c.in_ok-code_at.field-0 ∷ [])) more coded);
    }

pub returns : goal.returns
returns c =
    let values = valid_rows c.args.valid.now (map bytes c.args.rows.now) in
    let last = c.loop-row.invariant in
    let all : take c.loop-row.row values ≡ values = take_all c.loop-row.row values (omega (arith, c.loop-row-test.false, c.loop-row.auto.row-end, length-bytes c.args.rows.now c.args.valid.now c.requires.mask)) in
    let firsts = last.knows.firsts ∙ ap appearing all in
    record {
      within = subst (λ rows. list_all (λ row. nat_lt row (length values)) rows ≡ true) (sym c.from_vec.ensures) (firsts-within values values c.loop-row.book.firsts.items firsts);
      firsts = ap (map (row_at values)) c.from_vec.ensures ∙ firsts;
      codes = subst (AreCodesOf values) (sym c.from_vec-2.ensures) (subst (λ seen. AreCodesOf seen c.loop-row.codes.items) all last.codes);
    }
