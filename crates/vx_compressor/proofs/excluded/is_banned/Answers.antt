use Rattle.std.proofs.Common.{◌∙◌, rules, tests}
use Rattle.std.proofs.lemmas.Iterator.{YieldsList-from_slice}
use Rattle.std.proofs.lemmas.Iterator.Search.{any_from_yields_List}
use Rattle.vx_scheme.specs.Contexts.{entries_of}
use Rattle.vx_scheme.specs.Names.{name_of}
use Rattle.vx_compressor.specs.Bans.{ban_of, is_banned}
use Rattle.vx_compressor.proofs.BanLemmas.{list_any-map}
use Rattle.vx_compressor.proofs.excluded.is_banned.Goals as goal

pub returns : goal.returns
returns c =
    any_from_yields_List (λ b. is_banned (name_of c.args.id) (entries_of c.args.history.now) (ban_of b)) _ _ _ c.any.ensures.ran (YieldsList-from_slice c.args.bans.now cc) (λ x b q k. search (rules, tests))
    ∙ list_any-map (is_banned (name_of c.args.id) (entries_of c.args.history.now)) ban_of c.args.bans.now
