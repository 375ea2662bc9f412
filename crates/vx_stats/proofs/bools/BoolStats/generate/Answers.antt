use Rattle.std.proofs.Common.{◌≡◌, ◌∙◌, ap, sym, subst, length, arith, refl}
use Rattle.std.specs.Prelude.{nat_lt, true, IsTrue}
use Rattle.std.proofs.lemmas.Bool.{lt-ltb}
use Rattle.vx_array.specs.TreeOf.{tree_of}
use Rattle.vx_model.specs.Rows.{rows}
use Rattle.vx_stats.specs.Bools.{is_bool, bools_of}
use Rattle.vx_stats.proofs.RootLemmas.{bool-node, constant-few, constant-bool, decoded-tree}
use Rattle.vx_stats.proofs.bools.BoolStats.generate.Goals as goal

pub stats_of_bits-requires : goal.stats_of_bits-requires
stats_of_bits-requires c =
    let is = sym c.node.ensures.tree ∙ ap tree_of c.in-Bool.is in
    let known = bool-node c.args.input.now _ _ _ is c.node.ensures.well_formed (omega arith) in
    record { mask = known.mask; few = known.few }

pub stats_of_copies-requires : goal.stats_of_copies-requires
stats_of_copies-requires c =
    let is = sym c.node.ensures.tree ∙ ap tree_of c.in-Constant.is in
    record { bool = constant-bool c.args.input.now _ _ is c.requires; few = constant-few c.args.input.now _ _ is (omega arith) }

pub of_plain-requires : goal.of_plain-requires
of_plain-requires c =
    let decoded = decoded-tree c.args.input.now _ c.node.ensures.well_formed c.in_ok-canonical-in_default.ensures.tree in
    record {
      plain = decoded.plain;
      bool = subst (λ t. IsTrue (is_bool t)) (sym decoded.dtype) c.requires;
      few = omega (arith, ap length decoded.rows);
    }

pub returns-in_ok-canonical-in_default : goal.returns-in_ok-canonical-in_default
returns-in_ok-canonical-in_default c =
    let t = c.args.input.now in
    let decoded = decoded-tree t _ c.node.ensures.well_formed c.in_ok-canonical-in_default.ensures.tree in
    let few : nat_lt (length (rows t)) 4294967296 ≡ true = lt-ltb _ _ (omega arith) in
    record { answer = rw few (c.of_plain.ensures ∙ ap bools_of decoded.rows); ctx = refl }
