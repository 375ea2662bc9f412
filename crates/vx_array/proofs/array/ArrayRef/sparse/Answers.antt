use Rattle.std.proofs.Common.{◌≡◌, ◌∙◌, None, sym, subst}
use Rattle.vx_model.specs.Refusals.{sparse_refusal}
use Rattle.vx_model.specs.Tree.{sparse_of}
use Rattle.vx_array.specs.IsArray.{IsArray}
use Rattle.vx_array.proofs.Runs.{sparse_array}
use Rattle.vx_array.proofs.array.ArrayRef.sparse.Goals as goal

pub invariant_of-result : goal.invariant_of-result
invariant_of-result c =
    let accepted : sparse_refusal c.args.patches c.args.fill ≡ None = sym c.refusal.ensures ∙ c.in_default.is in
    let own = sparse_array c.args.patches c.args.fill c.array_len-len.result accepted c.known-2.ensures c.known.ensures c.array_len-len.ensures in
    (subst (λ p. IsArray (sparse_of p c.args.fill) None c.array_len-len.result) (sym c.in-Ok.ensures.ok) own, tt)
