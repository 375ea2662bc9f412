use Rattle.vx_schemes.proofs.Dictionary.Places.{place-found, place-not_found}
use Rattle.vx_schemes.proofs.integer.dictionary.recent_codes.code_of.Goals as goal

pub returns-in-Ok : goal.returns-in-Ok
returns-in-Ok g c = place-found g.T.Integer.whole g.T.Ord.cmp g.met.T.Integer.ordered c.args.values.now c.args.item c.in-Ok.place c.requires c.in-Ok.ensures.bound c.in-Ok.ensures.ok

pub returns-in-Err : goal.returns-in-Err
returns-in-Err g c = place-not_found g.T.Integer.whole g.T.Ord.cmp g.met.T.Integer.ordered g.met.T.Ord.total c.args.values.now c.args.item _ c.requires c.in-Err.ensures.position
