use Rattle.std.proofs.Common.{◌≡◌, ◌<◌, ◌≤◌, ◌+◌, ℕ, pos, get_or, map}
use Rattle.std.specs.Prelude.{◌+ℤ◌, ◌*ℤ◌}
use Rattle.vx_base.specs.declared.ptype.PType.TheVariants.{I64}
use Rattle.vx_base.specs.Wrapping.{wrap}
use Rattle.vx_values.proofs.ints.combining.add_each.Given as goal

abbrev pub invariant-loop-row : goal.invariant-loop-row
invariant-loop-row g l = record {
  done : (k : ℕ) → k < l.row
      → get_or (map g.S.Integer.whole l.sums) k (pos 0) ≡ wrap I64 (get_or (map g.S.Integer.whole l.fn.sums) k (pos 0) +ℤ get_or (map g.T.Integer.whole l.fn.items) (l.start + k) (pos 0) *ℤ l.factor);
  left : (k : ℕ) → l.row ≤ k → get_or (map g.S.Integer.whole l.sums) k (pos 0) ≡ get_or (map g.S.Integer.whole l.fn.sums) k (pos 0);
}
