-- What the scheme of timestamps makes has an encoding that it produces.
use Rattle.std.proofs.Common.{◌≡◌, ◌⊎◌, true, Option, Some, refl, inl, inr}
use Rattle.std.specs.Prelude.{unwrap_or}
use Rattle.vx_base.specs.PlainType.{PlainType}
use Rattle.vx_base.specs.PlainType as types
use Rattle.vx_model.specs.Nodes.{encoding}
use Rattle.vx_model.specs.Tree.{Tree}
use Rattle.vx_model.specs.Plain.{plain}
use Rattle.vx_schemes_common.specs.Produced.{MakesProduced}
use Rattle.vx_schemes_common.specs.Triples.{triple_of}
use Rattle.vx_schemes_time.specs.Temporal.Laws.{parts-unfinished}
use Rattle.vx_schemes_time.specs.Temporal.Meaning.{temporal_meaning}
use Rattle.vx_schemes_time.specs.Temporal.Tree.{over_parts}
use Rattle.vx_schemes_time.specs.declared.temporal.TemporalScheme.{TemporalScheme}

pub temporals-produced : (s : TemporalScheme) → MakesProduced (temporal_meaning s)
temporals-produced s = record {
  by_finishing = λ c site tree e. absurd (parts-unfinished c tree e);
  by_joining = λ c site trees. by_type (plain c) c.dtype (triple_of trees);
}
  where
    by_type : (own : Tree) (t : PlainType) (three : Option (Tree × Tree × Tree)) → (unwrap_or (over_parts t three) own ≡ own) ⊎ ((temporal_meaning s).produces (encoding (unwrap_or (over_parts t three) own)) ≡ true)
    by_type own (types.timestamp k n) (Some three) = inr refl
    by_type own t three = inl refl
