use Rattle.std.proofs.Common.{◌≡◌}
use Rattle.std.specs.Vec.Iter.{into_iter_items}
use Rattle.serde_json.specs.View.{items_view}
use Rattle.vx_document.specs.Reading.{all_by}
use Rattle.vx_document.specs.Words.{word_of}
use Rattle.vx_document.proofs.Documents.{with_left}
use Rattle.vx_document.proofs.document.words.read_words.Given as goal

abbrev pub invariant-loop-value : goal.invariant-loop-value
invariant-loop-value l = with_left word_of l.words.items (into_iter_items l.value-iterator) ≡ all_by word_of (items_view l.fn.list.items)
