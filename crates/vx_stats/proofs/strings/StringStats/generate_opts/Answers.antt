use Rattle.std.proofs.Common.{◌≡◌, ◌∙◌, ap, sym, subst, length, arith, refl}
use Rattle.std.specs.Prelude.{nat_lt, true, IsTrue}
use Rattle.std.proofs.lemmas.Bool.{lt-ltb}
use Rattle.vx_array.specs.TreeOf.{tree_of}
use Rattle.vx_base.specs.Answers.{Answers}
use Rattle.vx_base.specs.PlainType.{is_bytes}
use Rattle.vx_model.specs.Rows.{rows}
use Rattle.vx_stats.specs.Strings.{strings_of}
use Rattle.vx_stats.proofs.RootLemmas.{view-node, constant-few, decoded-tree}
use Rattle.vx_stats.proofs.strings.StringStats.generate_opts.Goals as goal

pub stats_of_rows-requires : goal.stats_of_rows-requires
stats_of_rows-requires c =
    let is = sym c.node.ensures.tree ∙ ap tree_of c.in-VarBinView.is in
    let known = view-node c.args.input.now _ _ _ is c.node.ensures.well_formed (omega arith) in
    record { mask = known.mask; few = known.few; short = known.short }

pub stats_of_copies-requires : goal.stats_of_copies-requires
stats_of_copies-requires c = constant-few c.args.input.now _ _ (sym c.node.ensures.tree ∙ ap tree_of c.in-Constant.is) (omega arith)

pub of_plain-requires : goal.of_plain-requires
of_plain-requires c =
    let decoded = decoded-tree c.args.input.now _ c.node.ensures.well_formed c.in_ok-canonical-in_default.ensures.tree in
    record {
      plain = decoded.plain;
      byte_type = subst (λ t. IsTrue (is_bytes t)) (sym decoded.dtype) c.requires;
      few = omega (arith, ap length decoded.rows);
    }

pub returns-in_ok-canonical-in_default : goal.returns-in_ok-canonical-in_default
returns-in_ok-canonical-in_default c =
    let t = c.args.input.now in
    let decoded = decoded-tree t _ c.node.ensures.well_formed c.in_ok-canonical-in_default.ensures.tree in
    let few : nat_lt (length (rows t)) 4294967296 ≡ true = lt-ltb _ _ (omega arith) in
    record { answer = rw few (subst (Answers c.of_plain.result) (ap (strings_of c.args.opts) decoded.rows) c.of_plain.ensures); ctx = refl }
