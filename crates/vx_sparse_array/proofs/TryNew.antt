-- A sparse array of indices and values, by the patches that they make.
use Rattle.std.proofs.Common.{◌≡◌, ◌∙◌, ℕ, true, Option, Some, None, refl, sym, ap, subst}
use Rattle.std.specs.Prelude.{Result, Ok, Err}
use Rattle.vx_base.specs.Answers.{Makes, MakesSurely, unless}
use Rattle.vx_base.specs.declared.error.Refused.{Refused}
use Rattle.vx_base.specs.declared.error.VortexError.{VortexError}
use Rattle.vx_base.specs.declared.error.VortexError.TheVariants.{MismatchedTypes}
use Rattle.vx_base.specs.PlainScalar.{PlainScalar}
use Rattle.vx_base.specs.PlainType.{same_type}
use Rattle.vx_model.specs.Refusals.{patches_refusal, sparse_refusal}
use Rattle.vx_model.specs.Tree.{Tree, PlainPatches, patches, sparse, sparse_of}
use Rattle.vx_model.specs.TreeType.{tree_type}
use Rattle.vx_sparse_array.specs.Refused.{parts_refusal}

-- what was made wasn't refused
pub unrefused : {T U : Type 0} (r : Option VortexError) (made : U) (inputs : T) (a : U) → MakesSurely r made inputs (Ok a) → r ≡ None
unrefused None made inputs a h = refl
unrefused (Some e) made inputs a h = absurd h

module _ (len : ℕ) (indices values : Tree) (fill : PlainScalar) (typed : same_type (tree_type values) fill.dtype ≡ true) where
  parts-are : parts_refusal len indices values fill ≡ patches_refusal (patches len 0 indices values)
  parts-are = ap (λ b. unless b MismatchedTypes (patches_refusal (patches len 0 indices values))) typed

  pub fill-admitted : (p : PlainPatches) → p ≡ patches len 0 indices values → sparse_refusal p fill ≡ None
  fill-admitted p e = ap (λ q. sparse_refusal q fill) e ∙ ap (λ b. unless b MismatchedTypes None) typed

  pub made-over : (p : PlainPatches) (r : Result Tree (Refused (Tree × Tree × PlainScalar))) → p ≡ patches len 0 indices values → patches_refusal (patches len 0 indices values) ≡ None
      → Makes None (sparse_of p fill) (p.indices, p.values, fill) r → Makes (parts_refusal len indices values fill) (sparse len 0 indices values fill) (indices, values, fill) r
  made-over p r e none h =
      subst (λ o. Makes o (sparse len 0 indices values fill) (indices, values, fill) r) (sym (parts-are ∙ none)) (subst (λ q. Makes None (sparse_of q fill) (q.indices, q.values, fill) r) e h)

  pub refused-over : (made : PlainPatches) (f : Refused (Tree × Tree)) → MakesSurely (patches_refusal (patches len 0 indices values)) made (indices, values) (Err f)
      → Makes {T = Tree × Tree × PlainScalar} {U = Tree} (parts_refusal len indices values fill) (sparse len 0 indices values fill) (indices, values, fill) (Err (record { error = f.error; inputs = (f.inputs.0, f.inputs.1, fill) }))
  refused-over made f h = pick (patches_refusal (patches len 0 indices values)) parts-are h
    where
      pick : (q : Option VortexError) → parts_refusal len indices values fill ≡ q → MakesSurely q made (indices, values) (Err f)
          → Makes {T = Tree × Tree × PlainScalar} {U = Tree} (parts_refusal len indices values fill) (sparse len 0 indices values fill) (indices, values, fill) (Err (record { error = f.error; inputs = (f.inputs.0, f.inputs.1, fill) }))
      pick None e h = absurd h
      pick (Some x) e h =
          subst (λ o. Makes {T = Tree × Tree × PlainScalar} {U = Tree} o (sparse len 0 indices values fill) (indices, values, fill) (Err (record { error = f.error; inputs = (f.inputs.0, f.inputs.1, fill) }))) (sym e)
          (h.0, λ i. ((h.1 i).0, (h.1 i).1, fill))
