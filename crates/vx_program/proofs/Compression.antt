-- The compression of a plain tree is that of its column.
use Rattle.std.proofs.Common.{◌≡◌, ℕ, List, true, false, Option, Some, None, Ok, refl, ap, ◌∙◌}
use Rattle.vx_base.specs.declared.error.VortexError.{VortexError}
use Rattle.vx_base.specs.declared.error.VortexError.TheVariants.{TooManyRows}
use Rattle.vx_base.specs.ErrorName.{error_name}
use Rattle.vx_base.specs.Answers.{Decided}
use Rattle.vx_model.specs.Tree.{Tree}
use Rattle.vx_model.specs.Size.{nbytes}
use Rattle.vx_model.specs.Column.{Column, column_of}
use Rattle.vx_model.specs.Plain.{IsPlain}
use Rattle.vx_model.specs.Refusals.{compress_refusal}
use Rattle.vx_btrblocks.specs.Shipped.{shipped_tree}
use Rattle.vx_program.specs.Answer.{counts_fit, kept, of_column, refusal, report, stored}
use Rattle.vx_program.specs.Compressed.{IsCompressed}
use Rattle.vx_program.specs.declared.answer.compressed.Compressed.{Compressed}

-- what is answered where nothing is refused
decided : {A : Type 0} (refusal : Option VortexError) (P : A → Type 0) (a : A) → Decided refusal P (Ok a) → P a
decided None P a h = h
decided (Some e) P a h = absurd h

pub is_compressed : (words : List ℕ) (t : Tree) (made : Compressed) → IsPlain t → made.plain ≡ nbytes t → Decided (compress_refusal t) (λ u. u ≡ shipped_tree words (column_of t)) (Ok made.tree)
    → column_of made.tree ≡ column_of t → IsCompressed words (column_of t) made
is_compressed words t made e bytes answer kept = record {
  plain = bytes ∙ ap nbytes e;
  tree = decided (compress_refusal t) (λ u. u ≡ shipped_tree words (column_of t)) made.tree answer;
  column = kept;
}

-- ---- the replies to a column, by whether it is within the row limit

module _ (words : List ℕ) (c : Column) where
  pub is_reported : (made : Compressed) → counts_fit c ≡ true → IsCompressed words c made → report made.plain made.tree ≡ of_column words c
  unfolding of_column
  is_reported made fit is =
      let plain = is.plain in
      let tree = is.tree in
      rw (fit, plain, tree) refl

  pub is_not_reported : counts_fit c ≡ false → refusal 4 (error_name TooManyRows) ≡ of_column words c
  unfolding of_column
  is_not_reported many = rw many refl

  pub is_kept_as : (made : Compressed) → counts_fit c ≡ true → IsCompressed words c made → kept made.tree ≡ stored words c
  unfolding stored
  is_kept_as made fit is = rw fit (ap kept is.tree)

  pub is_not_kept : counts_fit c ≡ false → refusal 4 (error_name TooManyRows) ≡ stored words c
  unfolding stored
  is_not_kept many = rw many refl
