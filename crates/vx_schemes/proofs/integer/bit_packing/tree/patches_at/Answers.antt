use Rattle.std.proofs.Common.{◌≡◌, ◌∙◌, ℕ, ℤ, List, length, map, slice_index_or, pos, None, ap}
use Rattle.vx_base.specs.declared.dtype.Nullability.TheVariants.{NonNullable}
use Rattle.vx_base.specs.declared.ptype.PType.{PType}
use Rattle.vx_base.specs.declared.ptype.PType.TheVariants.{U64}
use Rattle.vx_base.proofs.MakesLemmas.{MakesSurely_ok, MakesSurely_err}
use Rattle.vx_model.specs.Refusals.{patches_refusal}
use Rattle.vx_model.specs.Tree.{Tree, patches, primitive}
use Rattle.vx_values.specs.IntsOf.{ptype_of, wholes_of}
use Rattle.vx_schemes.specs.BitPacking.Tree.{patches_at}
use Rattle.vx_schemes.specs.BitPacking.Admitted.{patches_admitted}
use Rattle.vx_schemes_common.specs.Rising.{rows_below}
use Rattle.vx_schemes.proofs.integer.bit_packing.tree.patches_at.Goals as goal

made : (p q : PType) (xs numbers : List ℤ) (rows : List ℕ) (len : ℕ) (indices values : Tree) → len ≡ length xs → indices ≡ primitive U64 (map pos rows) None NonNullable → values ≡ primitive q numbers None NonNullable → q ≡ p
    → numbers ≡ map (λ row. slice_index_or xs row (pos 0)) rows → patches len 0 indices values ≡ patches_at p xs rows
made p q xs numbers rows len indices values long is vs type gathered = λ i. patches (long i) 0 (is i) ((vs ∙ (λ j. primitive (type j) (gathered j) None NonNullable)) i)

pub gathered-requires : goal.gathered-requires
gathered-requires c = rw c.as_slice.ensures (rows_below 0 (length (wholes_of c.args.values.now)) c.args.rows c.requires)

pub returns-in-Ok : goal.returns-in-Ok
returns-in-Ok c =
    let xs = wholes_of c.args.values.now in
    let ints = c.in_ok-patched.patched in
    let numbers = c.in_ok-patched.ensures.1 ∙ ap (map (λ row. slice_index_or xs row (pos 0))) c.as_slice.ensures in
    MakesSurely_ok _ _ _ _ c.in-Ok.ensures
    ∙ made (ptype_of c.args.values.now) (ptype_of ints) xs (wholes_of ints) c.args.rows c.len.result c.in_ok-indices.indices c.in_ok-patched-2.patched c.len.ensures (cc c.in_ok-indices.ensures) (cc c.in_ok-patched-2.ensures)
    c.in_ok-patched.ensures.0 numbers

pub returns-in-Err : goal.returns-in-Err
returns-in-Err c =
    let xs = wholes_of c.args.values.now in
    let ints = c.in_ok-patched.patched in
    let numbers = c.in_ok-patched.ensures.1 ∙ ap (map (λ row. slice_index_or xs row (pos 0))) c.as_slice.ensures in
    let given =
    made (ptype_of c.args.values.now) (ptype_of ints) xs (wholes_of ints) c.args.rows c.len.result c.in_ok-indices.indices c.in_ok-patched-2.patched c.len.ensures (cc c.in_ok-indices.ensures) (cc c.in_ok-patched-2.ensures)
    c.in_ok-patched.ensures.0 numbers in
    absurd (MakesSurely_err _ _ _ _ (ap patches_refusal given ∙ patches_admitted (ptype_of c.args.values.now) xs c.args.rows c.requires) c.in-Err.ensures)
