use Rattle.std.proofs.Common.{◌≡◌, ◌<◌, ◌+◌, ◌++◌, ◌-◌, ◌^◌, rules, true, false, Some, All, refl, sym, ◌∙◌, ap, subst, map, drop, length, option_map}
use Rattle.std.specs.Prelude.{◌==◌}
use Rattle.std.proofs.lemmas.Bool.{eqb-false}
use Rattle.std.proofs.lemmas.Iterator.Adapters.{YieldsList-from_vec}
use Rattle.std.proofs.lemmas.Iterator.Consumers.{YieldsList-turn}
use Rattle.std.proofs.lemmas.List.{length_push}
use Rattle.vx_base.specs.Answers.{OrMemory}
use Rattle.vx_base.specs.PlainType.{is_flat}
use Rattle.vx_base.specs.TypeOf.{type_of}
use Rattle.vx_model.specs.Column.{IsColumn, column_of}
use Rattle.vx_model.specs.Leaf.{smaller_or_plain, chosen_or_plain}
use Rattle.vx_model.specs.Plain.{plain, IsPlain}
use Rattle.vx_model.specs.Site.{down}
use Rattle.vx_model.specs.Size.{size}
use Rattle.vx_model.specs.TreeType.{tree_type}
use Rattle.vx_model.proofs.MadeLemmas.{rows_fit}
use Rattle.vx_scheme.specs.Asked.{HasValue, IsSiteTree, FitParts}
use Rattle.vx_scheme.specs.Contexts.{site_of, options_of}
use Rattle.vx_scheme.specs.Meaning.{split_of}
use Rattle.vx_scheme.specs.Names.{name_of}
use Rattle.vx_scheme.specs.Resolved.{IsResolved}
use Rattle.vx_scheme.specs.declared.estimate.DeferredEstimate.TheVariants.{Sample}
use Rattle.vx_scheme.specs.declared.split.Split.TheVariants.{Kept, Finished, Parts}
use Rattle.vx_compressor.specs.ByValue.{IsBeside}
use Rattle.vx_compressor.specs.Cascade.{setting, part_trees, eligible, trial, verdict_score, deferred_score, choice, chosen, children_of, leaf_tree}
use Rattle.vx_compressor.specs.Choice.{best_of}
use Rattle.vx_compressor.specs.Judging.{Holds, IsAskable, IsReady, WasPutOff, DoesFor, found, meant, meant_pair}
use Rattle.vx_compressor.specs.Reach.{IsInReach, IsPartInReach}
use Rattle.vx_compressor.specs.Sampling.{sample}
use Rattle.vx_compressor.proofs.ByValueLemmas.{decided-here, open-here}
use Rattle.vx_compressor.proofs.EligibleLemmas.{merged_ready, choice_ready, chosen-some, put_off_ready, were_put_off}
use Rattle.vx_compressor.proofs.HeldLemmas.{column_of-is, plain-is, column-held, site_tree-held, ready-held, answers_to}
use Rattle.vx_compressor.proofs.JudgingLemmas.{does-resolved, does-answers, best_found-step, best_found-always, choice_later, choice_at_once}
use Rattle.vx_compressor.proofs.LimitLemmas.{few_in_reach}
use Rattle.vx_compressor.proofs.OneValueTrees.{answers_along}
use Rattle.vx_compressor.proofs.SampleSizes.{sample-column, site_tree-sampled, ready-sampled, reach-sampled, size-sampled, score-sampled}
use Rattle.vx_compressor.proofs.TrialLemmas.{trial-kept, trial-finished, parts_made, joined_answer, part_trees-step, child_tree-none, child_tree-some, reach-below}
use Rattle.vx_compressor.proofs.compressor.CascadingCompressor.+site.Goals as goal

-- ---- site_beside

pub site_beside-best_beside-requires : goal.site_beside-best_beside-requires
site_beside-best_beside-requires g t c =
    let own = column_of c.args.canonical in
    let here = open-here c.in_ok-tree.field-0 own (site_of c.args.site.now) c.in_ok-tree.ensures c.in-None.is in
    let value : HasValue own = here.value in
    let askable : IsAskable own = record { column = rows_fit c.args.canonical c.known.ensures; flat = c.requires.flat; some = here.some; few = few_in_reach own (site_of c.args.site.now).budget c.requires.reach } in
    search rules

pub site_beside-returns-in-Some-clause-answer : goal.site_beside-returns-in-Some-clause-answer
site_beside-returns-in-Some-clause-answer g t c =
    let set = setting g.S.Scheme.meaning c.args.self.now c.args.words.now in
    let site = site_of c.args.site.now in
    (decided-here c.in_ok-tree.field-0 c.in-Some.tree (column_of c.args.canonical) site c.in_ok-tree.ensures c.in-Some.is (chosen (children_of set site) set), refl)

pub site_beside-returns-in-None-clause-answer : goal.site_beside-returns-in-None-clause-answer
site_beside-returns-in-None-clause-answer g t c =
    let set = setting g.S.Scheme.meaning c.args.self.now c.args.words.now in
    let site = site_of c.args.site.now in
    let here = open-here c.in_ok-tree.field-0 (column_of c.args.canonical) site c.in_ok-tree.ensures c.in-None.is in
    subst (λ t. OrMemory c.best_beside.result (λ made. IsBeside t c.args.canonical made.tree made.plain)) (here.chosen (chosen (children_of set site) set)) c.best_beside.ensures.answer

-- ---- best_beside

pub best_beside-choose-requires : goal.best_beside-choose-requires
best_beside-choose-requires g t c =
    let meaning = g.S.Scheme.meaning in
    let own = column_of c.args.canonical in
    let here = column_of c.new-column.result.array in
    let same : here ≡ own = ap (λ b. column_of b.array) c.new-column.ensures in
    let site = c.with_merged_stats_options-site.result in
    let opts = options_of site in
    let budget : site.budget ≡ c.args.site.now.budget = ap (λ s. s.budget) c.with_merged_stats_options-site.ensures.site in
    let reach : IsInReach here site.budget = subst (λ col. IsInReach col site.budget) (sym same) (subst (IsInReach own) (sym budget) c.requires.reach) in
    let typed : type_of c.dtype.result.now ≡ here.dtype = c.dtype.ensures ∙ ap (λ col. col.dtype) (sym same) in
    let ready : All (λ s. IsReady here opts (meaning s)) c.as_slice-2.result.now =
    merged_ready meaning (map meaning c.args.self.now) here (site_of c.args.site.now).history (type_of c.dtype.result.now) c.merged_options-options.result opts
    c.in_ok-schemes.schemes c.as_slice.result.now c.as_slice-2.result.now
    c.in_ok-schemes.ensures typed c.as_slice.ensures c.as_slice-2.ensures c.with_merged_stats_options-site.ensures.options c.merged_options-options.ensures.all in
    let fits : IsColumn here = subst IsColumn (sym same) c.requires.askable.column in
    let array : c.new-column.result.array ≡ plain here = ap (λ b. b.array) c.new-column.ensures ∙ c.requires.plain ∙ ap plain (sym same) in
    let askable : IsAskable here = subst IsAskable (sym same) c.requires.askable in
    let value : HasValue here = subst HasValue (sym same) c.requires.value in
    search rules

pub best_beside-trial-requires : goal.best_beside-trial-requires
best_beside-trial-requires g t c =
    let meaning = g.S.Scheme.meaning in
    let own = column_of c.args.canonical in
    let here = column_of c.new-column.result.array in
    let same : here ≡ own = ap (λ b. column_of b.array) c.new-column.ensures in
    let after = c.with_merged_stats_options-site.result in
    let opts = options_of after in
    let set = setting meaning c.args.self.now c.args.words.now in
    let site = site_of c.args.site.now in
    let child = children_of set site in
    let held = c.in_ok-best.ensures.holds in
    let typed : type_of c.dtype.result.now ≡ here.dtype = c.dtype.ensures ∙ ap (λ col. col.dtype) (sym same) in
    let all = merged_ready meaning (map meaning c.args.self.now) here site.history (type_of c.dtype.result.now) c.merged_options-options.result opts
    c.in_ok-schemes.schemes c.as_slice.result.now c.in_ok-schemes.schemes
    c.in_ok-schemes.ensures typed c.as_slice.ensures refl c.with_merged_stats_options-site.ensures.options c.merged_options-options.ensures.all in
    let eligible_here = c.in_ok-schemes.ensures ∙ ap (λ t. eligible (map meaning c.args.self.now) t site.history) typed in
    let is : Some (meaning c.in-Some.scheme) ≡ choice child set here site =
    sym (ap (option_map meaning) c.in-Some.is) ∙ c.in_ok-best.ensures.answer ∙ ap (λ s. choice (children_of set s) set here s) c.with_merged_stats_options-site.ensures.site in
    let budget : after.budget ≡ c.args.site.now.budget = ap (λ s. s.budget) c.with_merged_stats_options-site.ensures.site in
    let column : IsSiteTree c.choose.new.column.array = site_tree-held c.choose.new.column here opts held (subst IsAskable (sym same) c.requires.askable) in
    let ready : IsReady (column_of c.choose.new.column.array) c.choose.new.column.options (meaning c.in-Some.scheme) =
    ready-held c.choose.new.column here opts held (meaning c.in-Some.scheme) (choice_ready meaning child set here site opts c.in_ok-schemes.schemes c.in-Some.scheme eligible_here all is) in
    let reach : IsInReach (column_of c.choose.new.column.array) after.budget =
    subst (λ col. IsInReach col after.budget) (sym (column-held c.choose.new.column here opts held ∙ same)) (subst (IsInReach own) (sym budget) c.requires.reach) in
    search rules

pub best_beside-returns-clause-answer : goal.best_beside-returns-clause-answer
best_beside-returns-clause-answer g t c =
    let meaning = g.S.Scheme.meaning in
    let own = column_of c.args.canonical in
    let here = column_of c.new-column.result.array in
    let same : here ≡ own = ap (λ b. column_of b.array) c.new-column.ensures in
    let opts = options_of c.with_merged_stats_options-site.result in
    let set = setting meaning c.args.self.now c.args.words.now in
    let m = meaning c.in-Some.scheme in
    let site = site_of c.with_merged_stats_options-site.result in
    let child = children_of set site in
    let held : c.into_array.result ≡ plain here = c.into_array.ensures.array ∙ c.in_ok-tree.ensures.column.array ∙ c.in_ok-best.ensures.holds.array in
    let left = column_of-is c.into_array.result here c.in_ok-best.ensures.holds.column held in
    let made : c.in_ok-tree.tree ≡ trial child m here site = c.in_ok-tree.ensures.answer ∙ ap (λ col. trial child m col site) (column-held c.choose.new.column here opts c.in_ok-best.ensures.holds) in
    let is : Some m ≡ choice child set here site = sym (ap (option_map meaning) c.in-Some.is) ∙ c.in_ok-best.ensures.answer in (
      c.smaller.ensures.tree ∙ (λ i. smaller_or_plain (left i) (made i))
          ∙ chosen-some meaning child set here site c.in-Some.scheme is
          ∙ (λ i. let col = column_of (c.new-column.ensures i).array in let s = c.with_merged_stats_options-site.ensures.site i in chosen_or_plain col (chosen (children_of set s) set col s)),
      c.smaller.ensures.plain ∙ held ∙ ap plain same ∙ sym c.requires.plain,
    )

-- ---- choose

pub choose-returns-then-is_always-clause-answer : goal.choose-returns-then-is_always-clause-answer
choose-returns-then-is_always-clause-answer g t c =
    let meaning = g.S.Scheme.meaning in
    let set = setting meaning c.args.self.now c.args.words.now in
    let site = site_of c.args.site.now in
    choice_at_once meaning (children_of set site) set (column_of c.args.column.now.array) site (map meaning c.args.schemes.now) c.in_ok-all.all.best c.scheme_of.result
    c.requires.eligible c.in_ok-all.ensures.best (sym c.is_always.ensures ∙ c.if-is_always.true) c.scheme_of.ensures

pub choose-judge-requires : goal.choose-judge-requires
choose-judge-requires g t c =
    let meaning = g.S.Scheme.meaning in
    let here = column_of c.args.column.now.array in
    let opts = options_of c.args.site.now in
    let put_off = ap (map (meant_pair meaning)) c.as_slice-deferred.ensures.value ∙ c.in_ok-all.ensures.deferred (sym c.is_always.ensures ∙ c.if-is_always.false) in
    let held = c.in_ok-all.ensures.holds in
    let after = column_of c.first_pass.new.column.array in
    let same : after ≡ here = column-held c.first_pass.new.column here opts held in
    let ready_here : All (λ p. IsReady here opts (meaning p.0)) c.as_slice-deferred.result.now = put_off_ready meaning here (site_of c.args.site.now) opts c.args.schemes.now c.as_slice-deferred.result.now c.requires.ready put_off in
    let put_off_here : All (λ p. WasPutOff here (site_of c.args.site.now) (meaning p.0) p.1) c.as_slice-deferred.result.now = were_put_off meaning here (site_of c.args.site.now) c.args.schemes.now c.as_slice-deferred.result.now put_off in
    let ready : All (λ p. IsReady after opts (meaning p.0)) c.as_slice-deferred.result.now = subst (λ col. All (λ p. IsReady col opts (meaning p.0)) c.as_slice-deferred.result.now) (sym same) ready_here in
    let were : All (λ p. WasPutOff after (site_of c.args.site.now) (meaning p.0) p.1) c.as_slice-deferred.result.now = subst (λ col. All (λ p. WasPutOff col (site_of c.args.site.now) (meaning p.0) p.1) c.as_slice-deferred.result.now) (sym same) put_off_here in
    let holds : Holds c.first_pass.new.column after opts = subst (λ col. Holds c.first_pass.new.column col opts) (sym same) held in
    let askable : IsAskable after = subst IsAskable (sym same) c.requires.askable in
    let reach : IsInReach after (site_of c.args.site.now).budget = subst (λ col. IsInReach col (site_of c.args.site.now).budget) (sym same) c.requires.reach in
    let value : HasValue after = subst HasValue (sym same) c.requires.value in
    search rules

pub choose-returns-clause-answer : goal.choose-returns-clause-answer
choose-returns-clause-answer g t c =
    let meaning = g.S.Scheme.meaning in
    let set = setting meaning c.args.self.now c.args.words.now in
    let site = site_of c.args.site.now in
    let put_off = ap (map (meant_pair meaning)) c.as_slice-deferred.ensures.value ∙ c.in_ok-all.ensures.deferred (sym c.is_always.ensures ∙ c.if-is_always.false) in
    let here = column_of c.args.column.now.array in
    let same = column-held c.first_pass.new.column here (options_of c.args.site.now) c.in_ok-all.ensures.holds in
    let best = c.in_ok-best.ensures.answer ∙ ap (λ col. best_of (meant meaning c.in_ok-all.all.best) (found (children_of set site) c.args.words.now col site (map (meant_pair meaning) c.as_slice-deferred.result.now))) same in
    choice_later meaning (children_of set site) set here site (map meaning c.args.schemes.now) c.in_ok-all.all.best c.scheme_of-2.result
    c.in_ok-best.best (map (meant_pair meaning) c.as_slice-deferred.result.now) c.requires.eligible c.in_ok-all.ensures.best put_off best c.scheme_of-2.ensures

-- ---- judge

pub judge-returns-then-is_always-clause-answer : goal.judge-returns-then-is_always-clause-answer
judge-returns-then-is_always-clause-answer g t c =
    let meaning = g.S.Scheme.meaning in
    let l = c.loop-scheme in
    let xs = c.args.deferred.now in
    let here = column_of c.args.column.now.array in
    let site = site_of c.args.site.now in
    let words = c.args.words.now in
    let child = children_of (setting meaning c.args.self.now words) site in
    let same = column-held l.column here (options_of c.args.site.now) l.invariant.holds in
    let p = c.loop-scheme-item.result in
    let answer : DoesFor l.best p.0 (deferred_score child words (meaning p.0) here site p.1) c.in_ok-score.score =
    subst (λ col. DoesFor l.best p.0 (deferred_score child words (meaning p.0) col site p.1) c.in_ok-score.score) same c.in_ok-score.ensures.answer in
    sym (best_found-always meaning child words here site c.better-best.result (drop (l.scheme-index + 1) xs) (sym c.is_always.ensures ∙ c.if-is_always.true))
    ∙ best_found-step meaning child words here site l.best c.better-best.result xs l.scheme-index c.loop-scheme-item.result c.in_ok-score.score c.loop-scheme-test.true c.loop-scheme-item.is answer c.better-best.ensures
    ∙ l.invariant.best

pub judge-deferred_score-requires : goal.judge-deferred_score-requires
judge-deferred_score-requires g t c =
    let meaning = g.S.Scheme.meaning in
    let l = c.loop-scheme in
    let here = column_of c.args.column.now.array in
    let opts = options_of c.args.site.now in
    let after = column_of l.column.array in
    let same : after ≡ here = column-held l.column here opts l.invariant.holds in
    let p = c.loop-scheme-item.result in
    let ready_here : IsReady here opts (meaning p.0) = search rules in
    let put_off_here : WasPutOff here (site_of c.args.site.now) (meaning p.0) p.1 = search rules in
    let ready : IsReady after opts (meaning p.0) = subst (λ col. IsReady col opts (meaning p.0)) (sym same) ready_here in
    let were : WasPutOff after (site_of c.args.site.now) (meaning p.0) p.1 = subst (λ col. WasPutOff col (site_of c.args.site.now) (meaning p.0) p.1) (sym same) put_off_here in
    let holds : Holds l.column after opts = subst (λ col. Holds l.column col opts) (sym same) l.invariant.holds in
    let askable : IsAskable after = subst IsAskable (sym same) c.requires.askable in
    let reach : IsInReach after (site_of c.args.site.now).budget = subst (λ col. IsInReach col (site_of c.args.site.now).budget) (sym same) c.requires.reach in
    let value : HasValue after = subst HasValue (sym same) c.requires.value in
    search rules

pub judge-loop-scheme-preserved : goal.judge-loop-scheme-preserved
judge-loop-scheme-preserved g t c =
    let meaning = g.S.Scheme.meaning in
    let l = c.loop-scheme in
    let here = column_of c.args.column.now.array in
    let site = site_of c.args.site.now in
    let words = c.args.words.now in
    let child = children_of (setting meaning c.args.self.now words) site in
    let same = column-held l.column here (options_of c.args.site.now) l.invariant.holds in
    let p = c.loop-scheme-item.result in
    let answer : DoesFor l.best p.0 (deferred_score child words (meaning p.0) here site p.1) c.in_ok-score.score =
    subst (λ col. DoesFor l.best p.0 (deferred_score child words (meaning p.0) col site p.1) c.in_ok-score.score) same c.in_ok-score.ensures.answer in
    record {
      holds = subst (λ col. Holds c.deferred_score.new.column col (options_of c.args.site.now)) same c.in_ok-score.ensures.holds;
      same_ctx = c.in_ok-score.ensures.ctx ∙ l.invariant.same_ctx;
      best = best_found-step meaning child words here site l.best c.better-best.result c.args.deferred.now l.scheme-index c.loop-scheme-item.result c.in_ok-score.score c.loop-scheme-test.true c.loop-scheme-item.is answer c.better-best.ensures ∙ l.invariant.best;
    }

-- ---- deferred_score

pub deferred_score-returns-in-Sample-clause-answer : goal.deferred_score-returns-in-Sample-clause-answer
deferred_score-returns-in-Sample-clause-answer g t c =
    let m = g.S.Scheme.meaning c.args.scheme.now in
    let here = column_of c.args.column.now.array in
    let site = site_of c.args.site.now in
    let words = c.args.words.now in
    let child = children_of (setting g.S.Scheme.meaning c.args.self.now words) site in
    let same = ap column_of c.array.ensures.array in
    subst (λ how. OrMemory c.sample_score.result (DoesFor c.args.best c.args.scheme.now (deferred_score child words m here site how))) (sym c.in-Sample.is)
    (does-answers c.args.best c.args.scheme.now c.sample_score.result _ (answers_to c.sample_score.result (λ col. deferred_score child words m col site Sample) _ _ same c.sample_score.ensures.answer))

pub deferred_score-returns-in_ok-verdict-in-Callback-clause-answer : goal.deferred_score-returns-in_ok-verdict-in-Callback-clause-answer
deferred_score-returns-in_ok-verdict-in-Callback-clause-answer g t c =
    let m = g.S.Scheme.meaning c.args.scheme.now in
    let here = column_of c.args.column.now.array in
    let site = site_of c.args.site.now in
    let words = c.args.words.now in
    let child = children_of (setting g.S.Scheme.meaning c.args.self.now words) site in
    let verdict = subst (λ t. IsResolved t (m.resolve here site) c.in_ok-verdict-in-Callback.verdict) c.threshold.ensures c.in_ok-verdict-in-Callback.ensures.answer in
    subst (λ how. DoesFor c.args.best c.args.scheme.now (deferred_score child words m here site how) c.verdict_score.result) (sym c.in-Callback.is)
    (subst (DoesFor c.args.best c.args.scheme.now (verdict_score (m.resolve here site))) (sym c.verdict_score.ensures) (does-resolved c.args.best c.args.scheme.now (m.resolve here site) c.in_ok-verdict-in-Callback.verdict verdict))

-- ---- sample_score

pub sample_score-new-column-requires : goal.sample_score-new-column-requires
sample_score-new-column-requires g t c = plain-is c.in_ok-part.part (sample c.is_sample.result c.args.words.now (column_of c.args.whole.now)) (sample-column c.is_sample.result c.args.words.now (column_of c.args.whole.now) c.requires.askable.column) c.in_ok-part.ensures

pub sample_score-trial-requires : goal.sample_score-trial-requires
sample_score-trial-requires g t c =
    let here = column_of c.args.whole.now in
    let site = site_of c.args.site.now in
    let words = c.args.words.now in
    let m = g.S.Scheme.meaning c.args.scheme.now in
    let part = c.new-column.result.array in
    let e : part ≡ plain (sample site.sampled words here) = ap (λ b. b.array) c.new-column.ensures ∙ c.in_ok-part.ensures ∙ ap (λ s. plain (sample s words here)) c.is_sample.ensures in
    let opts = ap (λ b. b.options) c.new-column.ensures ∙ c.merged_stats_options.ensures in
    let budget : c.with_sampling-site.result.budget ≡ c.args.site.now.budget = ap (λ s. s.budget) c.with_sampling-site.ensures.site in
    let column : IsSiteTree part = site_tree-sampled part here site.sampled words e c.requires.askable in
    let ready : IsReady (column_of part) c.new-column.result.options m = subst (λ o. IsReady (column_of part) o m) (sym opts) (ready-sampled part here site.sampled words e c.requires.askable _ m c.requires.ready) in
    let reach : IsInReach (column_of part) c.with_sampling-site.result.budget = subst (IsInReach (column_of part)) (sym budget) (reach-sampled part here site.sampled words e c.requires.askable site.budget c.requires.reach) in
    search rules

pub sample_score-size_score-requires : goal.sample_score-size_score-requires
sample_score-size_score-requires g t c =
    let here = column_of c.args.whole.now in
    let site = site_of c.args.site.now in
    let words = c.args.words.now in
    let e : c.new-column.result.array ≡ plain (sample site.sampled words here) =
    ap (λ b. b.array) c.new-column.ensures ∙ c.in_ok-part.ensures ∙ ap (λ s. plain (sample s words here)) c.is_sample.ensures in
    subst (λ t. size t < 2 ^ 64) (sym (c.array-before.ensures.array ∙ c.in_ok-tree.ensures.column.array)) (size-sampled c.new-column.result.array here site.sampled words e c.requires.askable)

pub sample_score-returns-clause-answer : goal.sample_score-returns-clause-answer
sample_score-returns-clause-answer g t c =
    let here = column_of c.args.whole.now in
    let site = site_of c.args.site.now in
    let words = c.args.words.now in
    let set = setting g.S.Scheme.meaning c.args.self.now words in
    let e : c.new-column.result.array ≡ plain (sample site.sampled words here) =
    ap (λ b. b.array) c.new-column.ensures ∙ c.in_ok-part.ensures ∙ ap (λ s. plain (sample s words here)) c.is_sample.ensures in
    let m = g.S.Scheme.meaning c.args.scheme.now in
    let made = c.in_ok-tree.ensures.answer ∙ ap (λ s. trial (children_of set s) m (column_of c.new-column.result.array) s) c.with_sampling-site.ensures.site in
    score-sampled c.new-column.result.array here site.sampled words e c.requires.askable (children_of set site) m site c.in_ok-tree.tree c.array-before.result.now c.size_score.result made (c.array-before.ensures.array ∙ c.in_ok-tree.ensures.column.array) c.size_score.ensures

-- ---- trial

pub trial-returns-in-Kept-clause-answer : goal.trial-returns-in-Kept-clause-answer
trial-returns-in-Kept-clause-answer g t c =
    let set = setting g.S.Scheme.meaning c.args.self.now c.args.words.now in
    let m = g.S.Scheme.meaning c.args.scheme.now in
    let here = column_of c.args.column.now.array in
    let site = site_of c.args.site.now in
    let made : Kept ≡ split_of (m.splits here site) = sym c.in-Kept.is ∙ c.in_ok-split.ensures.answer c.requires.ready.taken in
    let same = c.array-in-Kept.ensures.array ∙ c.split.ensures.column.array ∙ c.requires.column.plain in
    answers_along c.copy.result _ _ (same ∙ trial-kept (children_of set site) m here site made) c.copy.ensures

pub trial-returns-in-Finished-clause-answer : goal.trial-returns-in-Finished-clause-answer
trial-returns-in-Finished-clause-answer g t c =
    let set = setting g.S.Scheme.meaning c.args.self.now c.args.words.now in
    let m = g.S.Scheme.meaning c.args.scheme.now in
    let here = column_of c.args.column.now.array in
    let site = site_of c.args.site.now in
    let made : Finished c.in-Finished.tree ≡ split_of (m.splits here site) = sym c.in-Finished.is ∙ c.in_ok-split.ensures.answer c.requires.ready.taken in
    trial-finished (children_of set site) m here site c.in-Finished.tree made

pub trial-part_trees-requires : goal.trial-part_trees-requires
trial-part_trees-requires g t c =
    let meaning = g.S.Scheme.meaning in
    let here = column_of c.args.column.now.array in
    let site = site_of c.args.site.now in
    let made : Parts c.in-Parts.parts ≡ split_of ((meaning c.args.scheme.now).splits here site) = sym c.in-Parts.is ∙ c.in_ok-split.ensures.answer c.requires.ready.taken in
    let parts = parts_made meaning g.met.S.Scheme.lawful c.args.self.now c.args.words.now c.args.scheme.now c.args.column.now.array c.array.result.now site c.known.ensures c.array.ensures.array c.requires.column c.requires.ready.taken c.requires.reach
    c.in-Parts.parts made in
    let plain : All IsPlain c.in-Parts.parts = parts.plain in
    let flat : All (λ part. is_flat (tree_type part) ≡ true) c.in-Parts.parts = parts.flat in
    let reach : All (λ part. IsPartInReach (column_of part) c.args.site.now.budget) c.in-Parts.parts = parts.reach in
    search rules

pub trial-join-requires-clause-column : goal.trial-join-requires-clause-column
trial-join-requires-clause-column g t c = subst IsSiteTree (sym c.split.ensures.column.array) c.requires.column

pub trial-join-requires-clause-trees : goal.trial-join-requires-clause-trees
trial-join-requires-clause-trees g t c =
    let meaning = g.S.Scheme.meaning in
    let here = column_of c.args.column.now.array in
    let site = site_of c.args.site.now in
    let made : Parts c.in-Parts.parts ≡ split_of ((meaning c.args.scheme.now).splits here site) = sym c.in-Parts.is ∙ c.in_ok-split.ensures.answer c.requires.ready.taken in
    let parts = parts_made meaning g.met.S.Scheme.lawful c.args.self.now c.args.words.now c.args.scheme.now c.args.column.now.array c.array.result.now site c.known.ensures c.array.ensures.array c.requires.column c.requires.ready.taken c.requires.reach
    c.in-Parts.parts made in
    let child = children_of (setting meaning c.args.self.now c.args.words.now) site in
    let are = c.in_ok-trees-in-Parts.ensures.answer ∙ ap (λ name. part_trees child name site 0 (map column_of c.in-Parts.parts)) c.id.ensures in
    subst (λ array. FitParts ((meaning c.args.scheme.now).splits (column_of array) site) c.in_ok-trees-in-Parts.trees) (sym c.split.ensures.column.array) (parts.fit c.in_ok-trees-in-Parts.trees are)

pub trial-returns-in_ok-trees-in-Parts-clause-answer : goal.trial-returns-in_ok-trees-in-Parts-clause-answer
trial-returns-in_ok-trees-in-Parts-clause-answer g t c =
    let meaning = g.S.Scheme.meaning in
    let here = column_of c.args.column.now.array in
    let site = site_of c.args.site.now in
    let made : Parts c.in-Parts.parts ≡ split_of ((meaning c.args.scheme.now).splits here site) = sym c.in-Parts.is ∙ c.in_ok-split.ensures.answer c.requires.ready.taken in
    let parts = parts_made meaning g.met.S.Scheme.lawful c.args.self.now c.args.words.now c.args.scheme.now c.args.column.now.array c.array.result.now site c.known.ensures c.array.ensures.array c.requires.column c.requires.ready.taken c.requires.reach
    c.in-Parts.parts made in
    let child = children_of (setting meaning c.args.self.now c.args.words.now) site in
    let are = c.in_ok-trees-in-Parts.ensures.answer ∙ ap (λ name. part_trees child name site 0 (map column_of c.in-Parts.parts)) c.id.ensures in
    joined_answer (meaning c.args.scheme.now) c.join.result c.args.column.now.array c.split.new.column.array _ site c.in_ok-trees-in-Parts.trees c.split.ensures.column.array (parts.joined c.in_ok-trees-in-Parts.trees are) c.requires.ready.taken parts.split c.join.ensures.answer

-- ---- part_trees

pub part_trees-part_tree-requires : goal.part_trees-part_tree-requires
part_trees-part_tree-requires g t c =
    let l = c.loop-part in
    let part = c.in-Some.part in
    let items = c.into_vec-part-items in
    let gives = c.into_iter-part-iterator.ensures.into_iter_gives in
    let turn = YieldsList-turn (YieldsList-from_vec {s = c.into_iter-part-iterator.result} c.args.parts (gives.0 ∙ items.ensures) (gives.1 ∙ items.result.ok.0 ∙ ap length items.ensures)) l.yielded l.part-iterator l.yielded_by c.next.result c.next.new.self part c.in-Some.is c.next.ensures.steps in
    let plain : IsPlain part = subst IsPlain (sym turn.1) (c.requires.plain (length l.yielded) part turn.0) in
    let flat : is_flat (tree_type part) ≡ true = subst (λ p. is_flat (tree_type p) ≡ true) (sym turn.1) (c.requires.flat (length l.yielded) part turn.0) in
    let reach : IsPartInReach (column_of part) c.args.site.now.budget = subst (λ p. IsPartInReach (column_of p) c.args.site.now.budget) (sym turn.1) (c.requires.reach (length l.yielded) part turn.0) in
    search rules

pub part_trees-loop-part-preserved : goal.part_trees-loop-part-preserved
part_trees-loop-part-preserved g t c =
    let l = c.loop-part in
    let part = c.in-Some.part in
    let name = name_of c.args.id in
    let site = site_of c.args.site.now in
    let child = children_of (setting g.S.Scheme.meaning c.args.self.now c.args.words.now) site in
    let items = c.into_vec-part-items in
    let gives = c.into_iter-part-iterator.ensures.into_iter_gives in
    let turn = YieldsList-turn (YieldsList-from_vec {s = c.into_iter-part-iterator.result} c.args.parts (gives.0 ∙ items.ensures) (gives.1 ∙ items.result.ok.0 ∙ ap length items.ensures)) l.yielded l.part-iterator l.yielded_by c.next.result c.next.new.self part c.in-Some.is c.next.ensures.steps in
    let more = length_push l.yielded part in
    let is = c.in_ok-tree.ensures.answer ∙ ap (λ n. child (column_of part) (down site name n)) (c.len-number.ensures ∙ l.invariant.number) in
    record {
      same_ctx = c.in_ok-tree.ensures.ctx ∙ l.invariant.same_ctx;
      number = ap length c.in_ok-trees.ensures ∙ length_push l.trees c.in_ok-tree.tree ∙ ap (λ n. n + 1) l.invariant.number ∙ sym more;
      trees =
          ap (λ n. c.in_ok-trees.trees ++ part_trees child name site n (map column_of (drop n c.args.parts))) more
          ∙ part_trees-step child name site c.args.parts (length l.yielded) part c.in_ok-tree.tree l.trees c.in_ok-trees.trees turn.0 turn.1 is c.in_ok-trees.ensures
          ∙ l.invariant.trees;
    }

-- ---- part_tree

pub part_tree-returns-then-finished_cascading-clause-answer : goal.part_tree-returns-then-finished_cascading-clause-answer
part_tree-returns-then-finished_cascading-clause-answer g t c =
    let set = setting g.S.Scheme.meaning c.args.self.now c.args.words.now in
    let parent = site_of c.args.parent.now in
    c.requires.plain ∙ child_tree-none set parent.budget (column_of c.args.part) (down parent (name_of c.args.id) c.args.number) (sym c.finished_cascading.ensures ∙ c.if-finished_cascading.true)

pub part_tree-site_tree-requires : goal.part_tree-site_tree-requires
part_tree-site_tree-requires g t c =
    let part = column_of c.args.part in
    let parent = site_of c.args.parent.now in
    let more : (parent.budget == 0) ≡ false = sym c.finished_cascading.ensures ∙ c.if-finished_cascading.false in
    let some = eqb-false _ _ more in
    let budget : c.descend-site.result.budget ≡ c.args.parent.now.budget - 1 = ap (λ s. s.budget) c.descend-site.ensures.site in
    let reach : IsInReach part c.descend-site.result.budget = subst (IsInReach part) (sym budget) (reach-below part parent (name_of c.args.id) c.args.number c.requires.reach more) in
    search rules

pub part_tree-returns-clause-answer : goal.part_tree-returns-clause-answer
part_tree-returns-clause-answer g t c =
    let set = setting g.S.Scheme.meaning c.args.self.now c.args.words.now in
    let part = column_of c.args.part in
    let parent = site_of c.args.parent.now in
    answers_along c.site_tree.result _ _ (ap (leaf_tree set part) c.descend-site.ensures.site ∙ child_tree-some set parent part (name_of c.args.id) c.args.number (sym c.finished_cascading.ensures ∙ c.if-finished_cascading.false)) c.site_tree.ensures.answer
