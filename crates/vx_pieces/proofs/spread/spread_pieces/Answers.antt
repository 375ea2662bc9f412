use Rattle.std.proofs.Common.{◌<◌, ◌∙◌, ◌++◌, ◌∷◌, [], ap, sym, subst, length, take, cond, arith}
use Rattle.std.proofs.lemmas.List.{length-append}
use Rattle.vx_base.specs.PlainValue.{null}
use Rattle.vx_model.specs.Rows.{row_at, masked_rows}
use Rattle.vx_pieces.specs.Kept.{kept_items}
use Rattle.vx_pieces.specs.Pieces.{Gives}
use Rattle.vx_pieces.proofs.CountLemmas.{take-past}
use Rattle.vx_pieces.proofs.GrowLemmas.{kept-next, masked-next}
use Rattle.vx_pieces.proofs.SpreadLemmas.{kept-row, kept-below}
use Rattle.vx_pieces.proofs.spread.spread_pieces.Goals as goal
use Rattle.vx_pieces.proofs.spread.spread_pieces.Goals.{then-keep-row+in_ok-add_row, else-keep-row+in_ok-add_filled}

pub loop-row-preserved : goal.loop-row-preserved
loop-row-preserved c =
    let keep = c.args.keep.now in
    let row = c.loop-row.row in
    let test = c.loop-row-test.true in
    let own = c.loop-row.invariant in
    elim c.if-keep-row.branch [
      | then-keep-row+in_ok-add_row w ↦ record {
        few = omega (arith, w.next-is, own.few);
        kept = λ values e.
            let yes = kept_items (take row keep) values ++ row_at values row ∷ [] in
            let no = kept_items (take row keep) values in
            let one = ap length (kept-next keep values row test e ∙ ap (λ b. cond b yes no) w.if-keep-row.true) in
            let more = length-append no (row_at values row ∷ []) in
            omega (arith, w.next-is, own.kept values e, one, more);
        gives = λ values e.
            let all = kept_items keep values in
            let before = masked_rows (take row keep) values in
            let below = kept-below keep values row test e w.if-keep-row.true in
            let here : c.loop-row.next < length all = omega (arith, own.kept values e, below) in
            let same = ap (row_at all) (own.kept values e) ∙ kept-row keep values row test e w.if-keep-row.true in
            let next = masked-next keep values row test e ∙ ap (λ b. before ++ cond b (row_at values row) null ∷ []) w.if-keep-row.true in
            subst (λ rs. Gives null c.if-keep-row.pieces.items all rs) (ap (λ v. before ++ v ∷ []) same ∙ sym next)
            (subst (λ v. Gives null v.items all (before ++ row_at all c.loop-row.next ∷ [])) (sym w.pieces-is) (w.in_ok-add_row.ensures null all before here (own.gives values e)));
      }
      | else-keep-row+in_ok-add_filled w ↦ record {
        few = omega (arith, w.next-is, own.few);
        kept = λ values e.
            let yes = kept_items (take row keep) values ++ row_at values row ∷ [] in
            let no = kept_items (take row keep) values in
            w.next-is ∙ own.kept values e ∙ ap length (sym (kept-next keep values row test e ∙ ap (λ b. cond b yes no) w.if-keep-row.false));
        gives = λ values e.
            let all = kept_items keep values in
            let before = masked_rows (take row keep) values in
            let next = masked-next keep values row test e ∙ ap (λ b. before ++ cond b (row_at values row) null ∷ []) w.if-keep-row.false in
            subst (λ rs. Gives null c.if-keep-row.pieces.items all rs) (sym next)
            (subst (λ v. Gives null v.items all (before ++ null ∷ [])) (sym w.pieces-is) (w.in_ok-add_filled.ensures null all before (own.gives values e)));
      }
    ]

pub returns : goal.returns
returns c = λ values e.
    subst (λ k. Gives null c.loop-row.pieces.items (kept_items c.args.keep.now values) (masked_rows k values)) (take-past c.args.keep.now c.loop-row.row c.loop-row-test.false) (c.loop-row.invariant.gives values e)
