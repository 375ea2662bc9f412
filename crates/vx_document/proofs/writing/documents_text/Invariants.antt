use Rattle.std.proofs.Common.{◌≡◌, [], Some, drop, length}
use Rattle.vx_document.specs.CappedText.{put}
use Rattle.vx_document.specs.Writing.{documents_text}
use Rattle.vx_document.proofs.writing.documents_text.Given as goal

-- the documents that are left yet lead to the whole text, and the text so far is within the limit
abbrev pub invariant-loop-tree : goal.invariant-loop-tree
invariant-loop-tree l = record {
  rest : put l.text (documents_text (drop (length l.yielded) l.fn.trees)) ≡ put (Some []) (documents_text l.fn.trees);
  within : put l.text [] ≡ l.text;
}
