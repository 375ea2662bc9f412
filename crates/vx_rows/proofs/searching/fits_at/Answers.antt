use Rattle.std.proofs.Common.{◌∙◌}
use Rattle.vx_rows.specs.Items.{fits_char}
use Rattle.vx_rows.proofs.SearchLemmas.{first-there}
use Rattle.vx_rows.proofs.searching.fits_at.Goals as goal

pub returns-then-place-text : goal.returns-then-place-text
returns-then-place-text g c = c.fits.ensures ∙ first-there g.C.Character.code (fits_char c.args.wanted) c.args.text.now c.args.place c.index-text-place.result c.if-place-text.true c.index-text-place.is
