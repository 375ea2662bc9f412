use Rattle.std.proofs.Common.{◌≡◌, ◌+◌, ◌*◌, ◌++◌, drop, length, map}
use Rattle.vx_model.specs.Column.{column_of}
use Rattle.vx_scheme.specs.Contexts.{site_of, options_of}
use Rattle.vx_scheme.specs.Names.{name_of}
use Rattle.vx_compressor.specs.Cascade.{setting, part_trees, children_of}
use Rattle.vx_compressor.specs.Judging.{Holds}
use Rattle.vx_compressor.proofs.JudgingLemmas.{best_found}
use Rattle.vx_compressor.proofs.compressor.CascadingCompressor.+site.Given as goal

-- by the budget, and at one site by who calls whom
abbrev pub decreases-part_tree : goal.decreases-part_tree
decreases-part_tree g l = 10 * (site_of l.parent.now).budget + 0

abbrev pub decreases-part_trees : goal.decreases-part_trees
decreases-part_trees g l = 10 * (site_of l.site.now).budget + 1

abbrev pub decreases-trial : goal.decreases-trial
decreases-trial g l = 10 * (site_of l.site.now).budget + 2

abbrev pub decreases-sample_score : goal.decreases-sample_score
decreases-sample_score g l = 10 * (site_of l.site.now).budget + 3

abbrev pub decreases-deferred_score : goal.decreases-deferred_score
decreases-deferred_score g l = 10 * (site_of l.site.now).budget + 4

abbrev pub decreases-judge : goal.decreases-judge
decreases-judge g l = 10 * (site_of l.site.now).budget + 5

abbrev pub decreases-choose : goal.decreases-choose
decreases-choose g l = 10 * (site_of l.site.now).budget + 6

abbrev pub decreases-best_beside : goal.decreases-best_beside
decreases-best_beside g l = 10 * (site_of l.site.now).budget + 7

abbrev pub decreases-site_beside : goal.decreases-site_beside
decreases-site_beside g l = 10 * (site_of l.site.now).budget + 8

abbrev pub decreases-site_tree : goal.decreases-site_tree
decreases-site_tree g l = 10 * (site_of l.site.now).budget + 9

-- the best so far and the schemes that are left give what all give
abbrev pub invariant-judge-loop-scheme : goal.invariant-judge-loop-scheme
invariant-judge-loop-scheme g l =
    let meaning = g.S.Scheme.meaning in
    let here = column_of l.fn.column.array in
    let site = site_of l.site in
    let child = children_of (setting meaning l.self l.words) site in
    record {
      holds : Holds l.column here (options_of l.site);
      same_ctx : l.ctx ≡ l.fn.ctx;
      best : best_found meaning child l.words here site l.best (drop l.scheme-index l.deferred) ≡ best_found meaning child l.words here site l.fn.best l.deferred;
    }

-- the trees so far and those of the parts that are left are those of all
abbrev pub invariant-part_trees-loop-part : goal.invariant-part_trees-loop-part
invariant-part_trees-loop-part g l =
    let name = name_of l.id in
    let site = site_of l.site in
    let child = children_of (setting g.S.Scheme.meaning l.self l.words) site in
    record {
      same_ctx : l.ctx ≡ l.fn.ctx;
      number : length l.trees ≡ length l.yielded;
      trees : l.trees ++ part_trees child name site (length l.yielded) (map column_of (drop (length l.yielded) l.fn.parts)) ≡ part_trees child name site 0 (map column_of l.fn.parts);
    }
