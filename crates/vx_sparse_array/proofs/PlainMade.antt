-- The plain tree of a tree's column is plain, and has that column.
use Rattle.std.proofs.Common.{◌≡◌, ◌∙◌, ap, subst, sym}
use Rattle.std.specs.Prelude.{Result, Ok, Err}
use Rattle.vx_base.specs.Answers.{Answers, OrMemory}
use Rattle.vx_base.specs.declared.error.VortexError.{VortexError}
use Rattle.vx_model.specs.Column.{column_of}
use Rattle.vx_model.specs.Plain.{IsPlain, plain}
use Rattle.vx_model.specs.Tree.{Tree}
use Rattle.vx_model.specs.WellFormed.{WellFormed}
use Rattle.vx_model.proofs.MadeLemmas.{rows_fit}
use Rattle.vx_model.proofs.PlainLemmas.{column_of-plain, plain_is_plain}

pub made-plain : (t : Tree) (r : Result Tree VortexError) → WellFormed t → Answers r (plain (column_of t)) → OrMemory r (λ p. IsPlain p)
made-plain t (Ok p) w e = subst IsPlain (sym e) (plain_is_plain (column_of t) (rows_fit t w))
made-plain t (Err e) w h = h

pub made-column : (t : Tree) (r : Result Tree VortexError) → WellFormed t → Answers r (plain (column_of t)) → OrMemory r (λ p. column_of p ≡ column_of t)
made-column t (Ok p) w e = ap column_of e ∙ column_of-plain (column_of t) (rows_fit t w)
made-column t (Err e) w h = h
