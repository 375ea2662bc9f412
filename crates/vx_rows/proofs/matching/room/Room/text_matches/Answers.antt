use Rattle.std.proofs.Common.{◌∙◌, ap, map}
use Rattle.std.proofs.lemmas.Str.{chars-IsAscii}
use Rattle.vx_rules.specs.Patterns.{matches}
use Rattle.vx_rows.specs.Items.{plain_item}
use Rattle.vx_rows.proofs.SearchLemmas.{codes_same}
use Rattle.vx_rows.proofs.matching.room.Room.text_matches.Goals as goal

pub returns-then-is_ascii : goal.returns-then-is_ascii
returns-then-is_ascii c = rw (chars-IsAscii c.args.text.now c.if-is_ascii.ensures.cases) (c.matches.ensures ∙ ap (matches (map plain_item c.args.items.now)) (codes_same c.args.text.now))
