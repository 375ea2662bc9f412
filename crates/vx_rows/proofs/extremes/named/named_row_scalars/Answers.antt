use Rattle.std.proofs.Common.{sym}
use Rattle.vx_base.specs.PlainScalar.{fits}
use Rattle.vx_base.specs.TypeOf.{type_of}
use Rattle.vx_rules.specs.Aggregates.{scalar_pair}
use Rattle.vx_rows.specs.Extremes.{valid_items}
use Rattle.vx_rows.specs.Readable.{lent_rows}
use Rattle.vx_rows.proofs.ExtremeLemmas.{greatest-holds, least-holds, same-answer}
use Rattle.vx_rows.proofs.extremes.named.named_row_scalars.Goals as goal

pub found_scalars-requires-clause-least : goal.found_scalars-requires-clause-least
found_scalars-requires-clause-least c = least-holds (fits (type_of c.args.dtype.now)) (valid_items c.args.named.now (lent_rows c.args.rows)) _ c.requires.fit (sym c.in-Some.ensures.least)

pub found_scalars-requires-clause-greatest : goal.found_scalars-requires-clause-greatest
found_scalars-requires-clause-greatest c = greatest-holds (fits (type_of c.args.dtype.now)) (valid_items c.args.named.now (lent_rows c.args.rows)) _ c.requires.fit (sym c.in-Some.ensures.greatest)

pub returns-in-Some : goal.returns-in-Some
returns-in-Some c = same-answer c.found_scalars.result _ _ (λ i. scalar_pair (type_of c.args.dtype.now) (c.in-Some.ensures.least i) (c.in-Some.ensures.greatest i)) c.found_scalars.ensures

pub returns-in-None : goal.returns-in-None
returns-in-None c = λ i. scalar_pair (type_of c.args.dtype.now) (c.in-None.ensures.least i) (c.in-None.ensures.greatest i)
