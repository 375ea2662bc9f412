-- What a call answers that makes the plain tree of a column: it is plain, and its column is the one it was made of.
use Rattle.std.proofs.Common.{◌≡◌, ◌∙◌, ap, subst, sym}
use Rattle.std.specs.Prelude.{Result, Ok, Err}
use Rattle.vx_base.specs.Answers.{Answers, OrMemory}
use Rattle.vx_base.specs.declared.error.VortexError.{VortexError}
use Rattle.vx_model.specs.Column.{Column, IsColumn, column_of}
use Rattle.vx_model.specs.Plain.{IsPlain, plain}
use Rattle.vx_model.specs.Tree.{Tree}
use Rattle.vx_model.proofs.PlainLemmas.{column_of-plain, plain_is_plain}

pub made-plain : (col : Column) (r : Result Tree VortexError) → IsColumn col → Answers r (plain col) → OrMemory r (λ tree. IsPlain tree)
made-plain col (Ok tree) h e = subst IsPlain (sym e) (plain_is_plain col h)
made-plain col (Err e) h m = m

pub made-kept : (col : Column) (r : Result Tree VortexError) → IsColumn col → Answers r (plain col) → OrMemory r (λ tree. column_of tree ≡ col)
made-kept col (Ok tree) h e = ap column_of e ∙ column_of-plain col h
made-kept col (Err e) h m = m
