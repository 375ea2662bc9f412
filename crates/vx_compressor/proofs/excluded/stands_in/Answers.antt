use Rattle.std.proofs.Common.{◌∙◌, rules, tests}
use Rattle.std.proofs.lemmas.Iterator.{YieldsList-from_slice}
use Rattle.std.proofs.lemmas.Iterator.Search.{any_from_yields_List}
use Rattle.vx_scheme.specs.Names.{name_of, same_name}
use Rattle.vx_compressor.proofs.BanLemmas.{list_any-map}
use Rattle.vx_compressor.proofs.excluded.stands_in.Goals as goal

pub returns : goal.returns
returns c =
    any_from_yields_List (λ e. same_name (name_of e.0) (name_of c.args.id)) _ _ _ c.any.ensures.ran (YieldsList-from_slice c.args.history.now cc) (λ x b q k. search (rules, tests))
    ∙ list_any-map (λ e. same_name e.0 (name_of c.args.id)) (λ e. (name_of e.0, e.1)) c.args.history.now
