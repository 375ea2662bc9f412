use Rattle.std.proofs.Common.{◌≡◌, ◌<◌, ℕ, ℤ, Bool, zero, suc, pos, true, List, [], ◌∷◌, length, map, get_or, arith}
use Rattle.std.specs.List.{list_all}
use Rattle.std.proofs.lemmas.Bool.{and_parts}
use Rattle.vx_base.specs.Integers.{lies_in}
use Rattle.vx_compressor.proofs.offsets.converted.Goals as goal

-- what holds of each number holds of the one at an index
each_pos : (p : ℤ → Bool) (items : List ℕ) (i : ℕ) → i < length items → list_all p (map pos items) ≡ true → p (pos (get_or items i 0)) ≡ true
each_pos p [] i h t = absurd (omega arith)
each_pos p (y ∷ ys) zero h t = (and_parts _ _ t).0
each_pos p (y ∷ ys) (suc i) h t = each_pos p ys i (omega arith) (and_parts _ _ t).1

pub convert-requires : goal.convert-requires
convert-requires g c = each_pos (lies_in g.T.Integer.kind) c.args.items.now c.loop-row.row (omega arith) c.requires
