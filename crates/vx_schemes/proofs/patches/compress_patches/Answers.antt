use Rattle.std.proofs.Common.{◌≡◌, ◌∙◌, Some, ap, sym, subst, option_map}
use Rattle.vx_base.proofs.MakesLemmas.{MakesSurely_ok, MakesSurely_err}
use Rattle.vx_model.specs.Column.{column_of}
use Rattle.vx_model.specs.Refusals.{patches_refusal, chunked_refusal}
use Rattle.vx_model.specs.Tree.{patches, chunked}
use Rattle.vx_schemes.specs.Patches.Compressed.{IsRising, narrowed, constant_or_plain, compressed_patches, PatchAlike}
use Rattle.vx_schemes.specs.Patches.Laws.{short_alike}
use Rattle.vx_schemes.specs.Patches.Words.{indices-rising, chunks-rising}
use Rattle.vx_schemes.proofs.PatchLemmas.{short_admitted, chunked_admitted}
use Rattle.vx_schemes.proofs.patches.compress_patches.Goals as goal

pub narrowed-requires : goal.narrowed-requires
narrowed-requires c = subst IsRising (sym c.indices.ensures) (indices-rising c.args.patches.now c.known.ensures)

pub narrowed-requires-2 : goal.narrowed-requires-2
narrowed-requires-2 c = chunks-rising c.args.patches.now c.in-Some.offsets.now (sym c.in-Some.ensures) c.known.ensures

pub returns-in-Ok-clause-kept : goal.returns-in-Ok-clause-kept
returns-in-Ok-clause-kept c =
    let p = c.args.patches.now in
    let indices = c.in_ok-indices.ensures ∙ ap narrowed c.indices.ensures in
    let values = c.in_ok-values.ensures ∙ ap (λ t. constant_or_plain (column_of t)) c.values.ensures in
    let none = ap (option_map narrowed) c.in_default.ensures in
    let made : c.in-Ok.short ≡ compressed_patches p = MakesSurely_ok _ _ _ _ c.in-Ok.ensures ∙ (λ i. chunked (c.array_len.ensures i) (c.offset.ensures i) (indices i) (values i) (none i)) in
    subst (PatchAlike p) (sym made) (short_alike p c.known.ensures)

pub returns-in-Err : goal.returns-in-Err
returns-in-Err c =
    let indices = c.in_ok-indices.ensures ∙ ap narrowed c.indices.ensures in
    let values = c.in_ok-values.ensures ∙ ap (λ t. constant_or_plain (column_of t)) c.values.ensures in
    absurd (MakesSurely_err _ _ _ _ ((λ i. patches_refusal (patches (c.array_len.ensures i) (c.offset.ensures i) (indices i) (values i))) ∙ short_admitted c.args.patches.now c.known.ensures) c.in-Err.ensures)

pub returns-in-Ok-new_chunked-clause-kept : goal.returns-in-Ok-new_chunked-clause-kept
returns-in-Ok-new_chunked-clause-kept c =
    let p = c.args.patches.now in
    let indices = c.in_ok-indices.ensures ∙ ap narrowed c.indices.ensures in
    let values = c.in_ok-values.ensures ∙ ap (λ t. constant_or_plain (column_of t)) c.values.ensures in
    let chunks = ap Some c.in_ok-chunks.ensures ∙ ap (option_map narrowed) c.in-Some.ensures in
    let made : c.in-Ok-new_chunked.short ≡ compressed_patches p =
    MakesSurely_ok _ _ _ _ c.in-Ok-new_chunked.ensures ∙ (λ i. chunked (c.array_len-2.ensures i) (c.offset-2.ensures i) (indices i) (values i) (chunks i)) in
    subst (PatchAlike p) (sym made) (short_alike p c.known.ensures)

pub returns-in-Err-new_chunked : goal.returns-in-Err-new_chunked
returns-in-Err-new_chunked c =
    let p = c.args.patches.now in
    let indices = c.in_ok-indices.ensures ∙ ap narrowed c.indices.ensures in
    let values = c.in_ok-values.ensures ∙ ap (λ t. constant_or_plain (column_of t)) c.values.ensures in
    let chunks = c.in_ok-chunks.ensures in
    absurd
    (MakesSurely_err _ _ _ _
    ((λ i. chunked_refusal (patches (c.array_len-2.ensures i) (c.offset-2.ensures i) (indices i) (values i)) (chunks i)) ∙ chunked_admitted p c.in-Some.offsets.now (sym c.in-Some.ensures) c.known.ensures) c.in-Err-new_chunked.ensures)
