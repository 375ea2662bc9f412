-- What the scheme of sequences makes has an encoding that it produces.
use Rattle.std.proofs.Common.{◌≡◌, ℤ, Option, Some, None, refl, ap, subst}
use Rattle.std.specs.Prelude.{option_map}
use Rattle.vx_base.specs.declared.array_id.ArrayId.TheVariants as ids
use Rattle.vx_model.specs.Column.{Column}
use Rattle.vx_model.specs.Nodes.{encoding}
use Rattle.vx_model.specs.Tree.{Tree}
use Rattle.vx_schemes_common.specs.Produced.{MakesProduced}
use Rattle.vx_schemes_common.proofs.Produced.{finishing-produced}
use Rattle.vx_schemes_runs.specs.Sequence.Meaning.{sequence_meaning}
use Rattle.vx_schemes_runs.specs.Sequence.Tree.{sequence_in, sequence_over, sequence_made}
use Rattle.vx_schemes_runs.specs.declared.integer.sequence.SequenceScheme.{SequenceScheme}

encoding-sequence : (c : Column) (tree : Tree) → sequence_made c ≡ Some tree → encoding tree ≡ ids.Sequence
encoding-sequence c tree e = by_found (sequence_in c) e
  where
    by_found : (o : Option (ℤ × ℤ)) → option_map (sequence_over c) o ≡ Some tree → encoding tree ≡ ids.Sequence
    by_found None q = absurd cc
    by_found (Some found) q = let same : sequence_over c found ≡ tree = cc in subst (λ t. encoding t ≡ ids.Sequence) same refl

pub sequences-produced : (s : SequenceScheme) → MakesProduced (sequence_meaning s)
sequences-produced s =
    finishing-produced (sequence_meaning s) sequence_made (λ c site. refl) (λ c tree e. ap (sequence_meaning s).produces (encoding-sequence c tree e)) (λ c site trees. refl)
