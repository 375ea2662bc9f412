use Rattle.std.proofs.Common.{◌∙◌, sym, ap, drop, length}
use Rattle.std.proofs.lemmas.Iterator.Adapters.{YieldsList-from_vec}
use Rattle.std.proofs.lemmas.Iterator.Consumers.{YieldsList-turn}
use Rattle.std.proofs.lemmas.List.{length_push}
use Rattle.vx_document.specs.CappedText.{put}
use Rattle.vx_document.specs.Writing.{documents_text}
use Rattle.vx_document.proofs.WrittenDocuments.{documents_more, none_over, put_within}
use Rattle.vx_document.proofs.writing.documents_text.Goals as goal

pub loop-tree-preserved : goal.loop-tree-preserved
loop-tree-preserved c =
    let l = c.loop-tree in
    let tree = c.in-Some.tree in
    let items = c.into_vec-tree-items in
    let gives = c.into_iter-tree-iterator.ensures.into_iter_gives in
    let turn = YieldsList-turn (YieldsList-from_vec {s = c.into_iter-tree-iterator.result} c.args.trees (gives.0 ∙ items.ensures) (gives.1 ∙ items.result.ok.0 ∙ ap length items.ensures)) l.yielded l.tree-iterator l.yielded_by c.next.result c.next.new.self tree c.in-Some.is c.next.ensures.steps in
    let more = length_push l.yielded tree in
    let new = c.push_column.new.text in
    record {
      rest = ap (λ n. put new (documents_text (drop n c.args.trees))) more ∙ documents_more l.text new _ c.args.trees (length l.yielded) tree turn.0 turn.1 c.in_ok-push_column.ensures l.invariant.rest;
      within = put_within l.text new _ c.in_ok-push_column.ensures;
    }

pub returns-then-is_over : goal.returns-then-is_over
returns-then-is_over c =
    let l = c.loop-tree in
    let over = none_over l.text (sym c.is_over.ensures ∙ c.if-is_over.true) in
    sym (ap (λ t. put t (documents_text (drop (length l.yielded) c.args.trees))) over) ∙ l.invariant.rest
