use Rattle.std.proofs.Common.{◌≡◌, ◌∙◌, ◌<◌, ℕ, Bool, refl, length, false, true, ap, sym, arith, None, option_map}
use Rattle.std.specs.Prelude.{not, nat_lt, Ok}
use Rattle.std.proofs.lemmas.Bool.{lt-ltb}
use Rattle.vx_base.specs.Answers.{Decided, unless}
use Rattle.vx_base.specs.declared.error.VortexError.TheVariants.{OutOfBounds}
use Rattle.vx_base.specs.PlainScalar.{PlainScalar, scalar}
use Rattle.vx_base.specs.PlainValue.{same_value}
use Rattle.vx_base.specs.TypeOf.{value_of}
use Rattle.vx_model.specs.Rows.{rows, row_at}
use Rattle.vx_model.specs.Tree.{Tree}
use Rattle.vx_model.specs.TreeType.{tree_type}
use Rattle.vx_array.proofs.DefaultLemmas.{between-next, between-stop}
use Rattle.vx_schemes_common.proofs.KeptLemmas.{decided}
use Rattle.vx_schemes.proofs.PatchLemmas.{shared-other}
use Rattle.vx_schemes.proofs.patches.shared_row.Goals as goal

negated : (b : Bool) → not b ≡ true → b ≡ false
negated false e = refl
negated true e = absurd cc

kept : (b : Bool) → not b ≡ false → b ≡ true
kept true e = refl
kept false e = absurd cc

-- the scalar of a row
read : (t : Tree) (row : ℕ) (s : PlainScalar) → row < length (rows t) → Decided (unless (nat_lt row (length (rows t))) OutOfBounds None) (λ x. x ≡ scalar (tree_type t) (row_at (rows t) row)) (Ok s) → s ≡ scalar (tree_type t) (row_at (rows t) row)
read t row s l h =
    decided (unless (nat_lt row (length (rows t))) OutOfBounds None) (λ x. x ≡ scalar (tree_type t) (row_at (rows t) row)) s (ap (λ b. unless b OutOfBounds None) (lt-ltb row (length (rows t)) l)) h

pub returns-then-ne : goal.returns-then-ne
returns-then-ne c =
    let vs = rows c.args.plain.now in
    let row = c.loop-row.row in
    let first : value_of c.value-in-loop-row.result.now ≡ row_at vs 0 = c.value-in-loop-row.ensures ∙ ap (λ s. s.value) (read c.args.plain.now 0 c.in_ok-first.first (omega arith) c.in_ok-first.ensures) in
    let next : value_of c.value.result.now ≡ row_at vs row = c.value.ensures ∙ ap (λ s. s.value) (read c.args.plain.now row c.in_ok-next.next (omega arith) c.in_ok-next.ensures) in
    let differ : same_value (row_at vs row) (row_at vs 0) ≡ false = (λ i. same_value (sym next i) (sym first i)) ∙ negated _ (sym c.ne.ensures ∙ c.if-ne.true) in
    ap (option_map (scalar (tree_type c.args.plain.now))) (sym (shared-other vs (between-stop (λ w. same_value w (row_at vs 0)) vs 1 row (length vs) (omega arith) (omega arith) (omega arith) differ)))

pub loop-row-preserved : goal.loop-row-preserved
loop-row-preserved c =
    let vs = rows c.args.plain.now in
    let row = c.loop-row.row in
    let first : value_of c.value-in-loop-row.result.now ≡ row_at vs 0 = c.value-in-loop-row.ensures ∙ ap (λ s. s.value) (read c.args.plain.now 0 c.in_ok-first.first (omega arith) c.in_ok-first.ensures) in
    let next : value_of c.value.result.now ≡ row_at vs row = c.value.ensures ∙ ap (λ s. s.value) (read c.args.plain.now row c.in_ok-next.next (omega arith) c.in_ok-next.ensures) in
    let alike : same_value (row_at vs row) (row_at vs 0) ≡ true = (λ i. same_value (sym next i) (sym first i)) ∙ kept _ (sym c.ne.ensures ∙ c.if-ne.false) in
    between-next (λ w. same_value w (row_at vs 0)) vs 1 row (omega arith) (omega arith) c.loop-row.invariant alike
