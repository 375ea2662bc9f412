use Rattle.std.proofs.Common.{◌∙◌, cond, [], Some, None, sym, ap, map}
use Rattle.std.specs.Set.{distinct_count}
use Rattle.vx_base.specs.PlainValue.{bytes}
use Rattle.vx_model.specs.Decoded.{zeroed_by}
use Rattle.vx_model.specs.Rows.{valid_rows}
use Rattle.vx_stats.specs.Keys.{key_of, same_key}
use Rattle.vx_stats.specs.Strings.{distinct_keys}
use Rattle.vx_stats.proofs.EstimateLemmas.{bytes-valid_rows}
use Rattle.vx_stats.proofs.strings.generating.estimate_of.Goals as goal

pub returns : goal.returns
returns c =
    let vs = c.args.values.now in
    let rows = valid_rows c.args.valid.now (map bytes vs) in
    let cells = bytes-valid_rows c.args.valid.now vs c.requires.mask in
    let seen = ap (λ slice. distinct_count same_key (map key_of (zeroed_by [] c.args.valid.now slice))) c.as_slice.ensures in
    let count = c.in_ok-distinct_keys.ensures ∙ seen ∙ ap (λ cs. distinct_count same_key (map key_of cs)) (sym cells) in
    ap Some count ∙ ap (λ b. cond b (Some (distinct_keys rows)) None) (sym c.if-not-opts.false)
