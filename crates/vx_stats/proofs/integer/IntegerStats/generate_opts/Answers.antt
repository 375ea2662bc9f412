use Rattle.std.proofs.Common.{◌≡◌, ◌∙◌, ap, sym, subst, length, arith, refl}
use Rattle.vx_array.specs.TreeOf.{tree_of}
use Rattle.vx_model.specs.Column.{column_of}
use Rattle.std.specs.Prelude.{nat_lt, true, IsTrue}
use Rattle.std.proofs.lemmas.Bool.{lt-ltb}
use Rattle.vx_base.specs.Answers.{Answers}
use Rattle.vx_base.specs.PlainType.{integer_of, is_integer}
use Rattle.vx_model.specs.TreeType.{tree_type}
use Rattle.vx_stats.specs.Stats.{stats_of}
use Rattle.vx_model.specs.Plain.{IsPlain, plain_of}
use Rattle.vx_model.specs.Rows.{rows}
use Rattle.vx_model.specs.WellFormed.{WellFormed}
use Rattle.vx_model.proofs.MadeLemmas.{rows_fit}
use Rattle.vx_model.proofs.PlainLemmas.{plain_is_plain, rows-plain_of, type-plain_of}
use Rattle.vx_model.proofs.RowLemmas.{length-primitive}
use Rattle.vx_stats.proofs.integer.IntegerStats.generate_opts.Goals as goal

pub stats_of_ints-requires-clause-few : goal.stats_of_ints-requires-clause-few
stats_of_ints-requires-clause-few c =
    let is = sym c.node.ensures.tree ∙ ap tree_of c.in-Primitive.is in
    let well = subst WellFormed is c.node.ensures.well_formed in
    omega (arith, length-primitive _ _ _ _ well, ap (λ t. length (rows t)) is)

pub stats_of_plain-requires : goal.stats_of_plain-requires
stats_of_plain-requires c =
    let t = c.args.input.now in
    let same = c.in_ok-canonical-in_default.ensures.tree in
    let fit = rows_fit t c.node.ensures.well_formed in
    let long = ap (λ p. length (rows p)) same ∙ ap length (rows-plain_of _ (rows t) fit) in
    record {
      plain = subst IsPlain (sym same) (plain_is_plain (column_of t) fit);
      integer = subst (λ s. IsTrue (is_integer s)) (sym (ap tree_type same ∙ type-plain_of (tree_type t) (rows t))) c.requires;
      few = omega (arith, long);
    }

pub returns-in_ok-canonical-in_default : goal.returns-in_ok-canonical-in_default
returns-in_ok-canonical-in_default c =
    let t = c.args.input.now in
    let fit = rows_fit t c.node.ensures.well_formed in
    let few : nat_lt (length (rows t)) 4294967296 ≡ true = lt-ltb _ _ (omega arith) in
    let plain = ap (λ p. stats_of c.args.opts (integer_of (tree_type p)) (rows p)) c.in_ok-canonical-in_default.ensures.tree in
    let its : stats_of c.args.opts (integer_of (tree_type (plain_of (tree_type t) (rows t)))) (rows (plain_of (tree_type t) (rows t))) ≡ stats_of c.args.opts (integer_of (tree_type t)) (rows t) =
    λ i. stats_of c.args.opts (integer_of (type-plain_of (tree_type t) (rows t) i)) (rows-plain_of (tree_type t) (rows t) fit i)
    in
    record { answer = rw few (subst (Answers c.stats_of_plain.result) (plain ∙ its) c.stats_of_plain.ensures); ctx = refl }
