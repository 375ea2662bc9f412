-- How the passes over the schemes go on by one step, and that what they find is the choice.
use Rattle.std.proofs.Common.{◌≡◌, ◌<◌, ℕ, ◌+◌, ◌&&◌, inl, inr, Bool, true, false, not, cond, List, [], ◌∷◌, ◌++◌, length, get_or, drop, map, Option, Some, None, Result, Ok, Err, option_map, refl, sym, ◌∙◌, ap, append_assoc}
use Rattle.std.proofs.lemmas.List.{drop_more, map-append, append-nil}
use Rattle.vx_base.specs.Answers.{Answers, OrMemory}
use Rattle.vx_base.specs.Fractions.{is_above_one}
use Rattle.vx_base.specs.declared.error.VortexError.{VortexError}
use Rattle.vx_model.specs.Cascade.{Leaves}
use Rattle.vx_model.specs.Column.{Column}
use Rattle.vx_model.specs.Site.{Site}
use Rattle.vx_scheme.specs.Meaning.{Meaning}
use Rattle.vx_scheme.specs.Resolved.{IsResolved}
use Rattle.vx_scheme.specs.declared.estimate.CompressionEstimate.{CompressionEstimate}
use Rattle.vx_scheme.specs.declared.estimate.CompressionEstimate.TheVariants.{Verdict, Deferred}
use Rattle.vx_scheme.specs.declared.estimate.DeferredEstimate.{DeferredEstimate}
use Rattle.vx_scheme.specs.declared.estimate.EstimateVerdict.{EstimateVerdict}
use Rattle.vx_scheme.specs.declared.estimate.EstimateVerdict.TheVariants.{Skip, AlwaysUse, Ratio}
use Rattle.vx_compressor.specs.declared.choice.Score.{Score}
use Rattle.vx_compressor.specs.declared.choice.Score.TheVariants.{Always, Finite}
use Rattle.vx_compressor.specs.Cascade.{Setting, verdict_score, deferred_score, estimate_score, score, eligible, is_verdict, with_verdict, deferring, choice}
use Rattle.vx_compressor.specs.Choice.{better, best_of, is_always}
use Rattle.vx_compressor.specs.Judging.{told, told_by, put_off, put_off_by, found, threshold_of, DoesFor, meant, meant_pair}
use Rattle.vx_compressor.proofs.ChoiceLemmas.{and_no, best_of-always, best_is_choice}

pub best_of-append : {A : Type 0} (best : Option (A × Score)) (xs ys : List (A × Option Score)) → best_of best (xs ++ ys) ≡ best_of (best_of best xs) ys
best_of-append best [] ys = refl
best_of-append best (x ∷ xs) ys = best_of-append (better best x.0 x.1) xs ys

-- ---- schemes by what they mean

pub is_always-meant : {S : Type 0} (meaning : S → Meaning) (best : Option (S × Score)) → is_always (meant meaning best) ≡ is_always best
is_always-meant meaning None = refl
is_always-meant meaning (Some (y, Always)) = refl
is_always-meant meaning (Some (y, Finite g)) = refl

option_map-cond : {A B : Type 0} (f : A → B) (b : Bool) (x y : Option A) → option_map f (cond b x y) ≡ cond b (option_map f x) (option_map f y)
option_map-cond f true x y = refl
option_map-cond f false x y = refl

-- the best of schemes is the best of their meanings
pub meant-better : {S : Type 0} (meaning : S → Meaning) (best : Option (S × Score)) (x : S) (s : Option Score) → meant meaning (better best x s) ≡ better (meant meaning best) (meaning x) s
meant-better meaning None x None = refl
meant-better meaning (Some p) x None = refl
meant-better meaning None x (Some Always) = refl
meant-better meaning None x (Some (Finite f)) = option_map-cond _ (is_above_one f) _ _
meant-better meaning (Some (y, Always)) x (Some s) = refl
meant-better meaning (Some (y, Finite g)) x (Some Always) = refl
meant-better meaning (Some (y, Finite g)) x (Some (Finite f)) = option_map-cond _ _ _ _

-- the meaning of the best's scheme is the scheme of the best meaning
scheme-meant : {S : Type 0} (meaning : S → Meaning) (b : Option (S × Score)) → option_map meaning (option_map (λ p. p.0) b) ≡ option_map (λ p. p.0) (meant meaning b)
scheme-meant meaning None = refl
scheme-meant meaning (Some p) = refl

-- ---- the passes, by what is judged

module _ (child : Leaves) (words : List ℕ) (c : Column) (site : Site) where
  abbrev scored : Meaning → Meaning × Option Score
  scored m = (m, score child words m c site)

  told-scored : (ms : List Meaning) → map scored (with_verdict c site ms) ≡ told c site ms
  told-scored [] = refl
  told-scored (m ∷ ms) = of_estimate (m.estimate c site) refl (told-scored ms)
    where
      of_estimate : (e : CompressionEstimate) → m.estimate c site ≡ e → map scored (with_verdict c site ms) ≡ told c site ms
          → map scored (cond (is_verdict e) (m ∷ with_verdict c site ms) (with_verdict c site ms)) ≡ told_by m e (told c site ms)
      of_estimate (Verdict v) e ih = λ i. (m, estimate_score child words m c site (e i)) ∷ ih i
      of_estimate (Deferred d) e ih = ih

  found-scored : (ms : List Meaning) → map scored (deferring c site ms) ≡ found child words c site (put_off c site ms)
  found-scored [] = refl
  found-scored (m ∷ ms) = of_estimate (m.estimate c site) refl (found-scored ms)
    where
      of_estimate : (e : CompressionEstimate) → m.estimate c site ≡ e → map scored (deferring c site ms) ≡ found child words c site (put_off c site ms)
          → map scored (cond (not (is_verdict e)) (m ∷ deferring c site ms) (deferring c site ms)) ≡ found child words c site (put_off_by m e (put_off c site ms))
      of_estimate (Verdict v) e ih = ih
      of_estimate (Deferred d) e ih = λ i. (m, estimate_score child words m c site (e i)) ∷ ih i

-- the choice is the best of both passes
choice-passes : (child : Leaves) (set : Setting) (c : Column) (site : Site) (ms : List Meaning) → ms ≡ eligible set.schemes c.dtype site.history
    → choice child set c site ≡ option_map (λ p. p.0) (best_of (best_of None (told c site ms)) (found child set.words c site (put_off c site ms)))
choice-passes child set c site ms e =
    let judge = scored child set.words c site in
    let all = eligible set.schemes c.dtype site.history in
    sym (best_is_choice (map judge (with_verdict c site all ++ deferring c site all)))
    ∙ ap (λ xs. option_map (λ p. p.0) (best_of None xs)) (map-append judge (with_verdict c site all) (deferring c site all)
    ∙ (λ i. told-scored child set.words c site all i ++ found-scored child set.words c site all i))
    ∙ ap (option_map (λ p. p.0)) (best_of-append None (told c site all) (found child set.words c site (put_off c site all)))
    ∙ ap (λ xs. option_map (λ p. p.0) (best_of (best_of None (told c site xs)) (found child set.words c site (put_off c site xs)))) (sym e)

module _ {S : Type 0} (meaning : S → Meaning) (child : Leaves) (set : Setting) (c : Column) (site : Site) (ms : List Meaning) (best : Option (S × Score)) (r : Option S) where
  pub choice_later : (best' : Option (S × Score)) (ps : List (Meaning × DeferredEstimate)) → ms ≡ eligible set.schemes c.dtype site.history
      → meant meaning best ≡ best_of None (told c site ms) → ps ≡ put_off c site ms → meant meaning best' ≡ best_of (meant meaning best) (found child set.words c site ps) → r ≡ option_map (λ p. p.0) best'
      → option_map meaning r ≡ choice child set c site
  choice_later best' ps e first off later is =
      ap (option_map meaning) is ∙ scheme-meant meaning best'
      ∙ ap (option_map (λ p. p.0)) (later ∙ (λ i. best_of (first i) (found child set.words c site (off i))))
      ∙ sym (choice-passes child set c site ms e)

  -- after an always-use the second pass changes nothing
  pub choice_at_once : ms ≡ eligible set.schemes c.dtype site.history → meant meaning best ≡ best_of None (told c site ms) → is_always best ≡ true → r ≡ option_map (λ p. p.0) best
      → option_map meaning r ≡ choice child set c site
  choice_at_once e first always is =
      choice_later best (put_off c site ms) e first refl (sym (best_of-always (meant meaning best) (found child set.words c site (put_off c site ms)) (is_always-meant meaning best ∙ always))) is

-- ---- a step of the first pass

module _ {S : Type 0} (meaning : S → Meaning) (c : Column) (site : Site) where
  -- the best of all, where these are left to be asked
  abbrev pub best_told : Option (S × Score) → List S → Option (Meaning × Score)
  best_told best left = best_of (meant meaning best) (told c site (map meaning left))

  best_told-cons : (best : Option (S × Score)) (x : S) (left : List S) → best_told (best_of best (told_by x ((meaning x).estimate c site) [])) left ≡ best_told best (x ∷ left)
  best_told-cons best x left = of_estimate ((meaning x).estimate c site)
    where
      of_estimate : (e : CompressionEstimate) → best_of (meant meaning (best_of best (told_by x e []))) (told c site (map meaning left)) ≡ best_of (meant meaning best) (told_by (meaning x) e (told c site (map meaning left)))
      of_estimate (Verdict v) = ap (λ b. best_of b (told c site (map meaning left))) (meant-better meaning best x (verdict_score v))
      of_estimate (Deferred d) = refl

  pub best_told-step : (best best' : Option (S × Score)) (xs : List S) (i : ℕ) (x : S) → i < length xs → x ≡ get_or xs i x → best' ≡ best_of best (told_by x ((meaning x).estimate c site) [])
      → best_told best' (drop (i + 1) xs) ≡ best_told best (drop i xs)
  best_told-step best best' xs i x within read is =
      ap (λ b. best_told b (drop (i + 1) xs)) is
      ∙ best_told-cons best x (drop (i + 1) xs) ∙ ap (best_told best) (ap (λ y. y ∷ drop (i + 1) xs) read ∙ sym (drop_more xs i x within))

  -- an always-use ends the pass
  pub best_told-always : (best : Option (S × Score)) (left : List S) → is_always best ≡ true → best_told best left ≡ meant meaning best
  best_told-always best left always = best_of-always (meant meaning best) (told c site (map meaning left)) (is_always-meant meaning best ∙ always)

  -- all that are put off, where these are left to be asked
  abbrev pub all_put_off : List (S × DeferredEstimate) → List S → List (Meaning × DeferredEstimate)
  all_put_off ps left = map (meant_pair meaning) ps ++ put_off c site (map meaning left)

  all_put_off-cons : (ps : List (S × DeferredEstimate)) (x : S) (left : List S) → all_put_off (ps ++ put_off_by x ((meaning x).estimate c site) []) left ≡ all_put_off ps (x ∷ left)
  all_put_off-cons ps x left = of_estimate ((meaning x).estimate c site)
    where
      of_estimate : (e : CompressionEstimate) → map (meant_pair meaning) (ps ++ put_off_by x e []) ++ put_off c site (map meaning left) ≡ map (meant_pair meaning) ps ++ put_off_by (meaning x) e (put_off c site (map meaning left))
      of_estimate (Verdict v) = ap (λ l. map (meant_pair meaning) l ++ put_off c site (map meaning left)) (append-nil ps)
      of_estimate (Deferred d) =
          ap (λ l. l ++ put_off c site (map meaning left)) (map-append (meant_pair meaning) ps ((x, d) ∷ []))
          ∙ append_assoc (map (meant_pair meaning) ps) ((meaning x, d) ∷ []) (put_off c site (map meaning left))

  pub all_put_off-step : (ps ps' : List (S × DeferredEstimate)) (xs : List S) (i : ℕ) (x : S) → i < length xs → x ≡ get_or xs i x → ps' ≡ ps ++ put_off_by x ((meaning x).estimate c site) []
      → all_put_off ps' (drop (i + 1) xs) ≡ all_put_off ps (drop i xs)
  all_put_off-step ps ps' xs i x within read is =
      ap (λ q. all_put_off q (drop (i + 1) xs)) is
      ∙ all_put_off-cons ps x (drop (i + 1) xs) ∙ ap (all_put_off ps) (ap (λ y. y ∷ drop (i + 1) xs) read ∙ sym (drop_more xs i x within))

-- ---- a step of the second pass

-- the score itself does
pub does-answers : {A : Type 0} (best : Option (A × Score)) (x : A) (result : Result (Option Score) VortexError) (score : Option Score) → Answers result score → OrMemory result (DoesFor best x score)
does-answers best x (Ok told) score e = ap (better best x) e
does-answers best x (Err f) score e = e

-- a ratio that isn't above the best so far may be left out
pub does-resolved : {A : Type 0} (best : Option (A × Score)) (x : A) (v w : EstimateVerdict) → IsResolved (threshold_of best) v w → DoesFor best x (verdict_score v) (verdict_score w)
does-resolved None x v w e = ap (λ u. better None x (verdict_score u)) e
does-resolved (Some (y, Always)) x v w e = ap (λ u. better (Some (y, Always)) x (verdict_score u)) e
does-resolved (Some (y, Finite g)) x Skip w e = ap (λ u. better (Some (y, Finite g)) x (verdict_score u)) e
does-resolved (Some (y, Finite g)) x AlwaysUse w e = ap (λ u. better (Some (y, Finite g)) x (verdict_score u)) e
does-resolved (Some (y, Finite g)) x (Ratio r) w (inl e) = ap (λ u. better (Some (y, Finite g)) x (verdict_score u)) e
does-resolved (Some (y, Finite g)) x (Ratio r) w (inr (skip, low)) =
    ap (λ u. better (Some (y, Finite g)) x (verdict_score u)) skip
    ∙ sym (ap (λ b. cond (is_above_one r && b) (Some (x, Finite r)) (Some (y, Finite g))) low ∙ ap (λ b. cond b (Some (x, Finite r)) (Some (y, Finite g))) (and_no (is_above_one r)))

module _ {S : Type 0} (meaning : S → Meaning) (child : Leaves) (words : List ℕ) (c : Column) (site : Site) where
  -- the best of all, where these are left to be judged
  abbrev pub best_found : Option (S × Score) → List (S × DeferredEstimate) → Option (Meaning × Score)
  best_found best left = best_of (meant meaning best) (found child words c site (map (meant_pair meaning) left))

  pub best_found-step : (best best' : Option (S × Score)) (xs : List (S × DeferredEstimate)) (i : ℕ) (x : S × DeferredEstimate) (s : Option Score) → i < length xs → x ≡ get_or xs i x
      → DoesFor best x.0 (deferred_score child words (meaning x.0) c site x.1) s → best' ≡ better best x.0 s → best_found best' (drop (i + 1) xs) ≡ best_found best (drop i xs)
  best_found-step best best' xs i x s within read does is =
      ap (λ b. best_found b (drop (i + 1) xs)) (is ∙ does)
      ∙ ap (λ b. best_of b (found child words c site (map (meant_pair meaning) (drop (i + 1) xs)))) (meant-better meaning best x.0 (deferred_score child words (meaning x.0) c site x.1))
      ∙ ap (best_found best) (ap (λ y. y ∷ drop (i + 1) xs) read ∙ sym (drop_more xs i x within))

  pub best_found-always : (best : Option (S × Score)) (left : List (S × DeferredEstimate)) → is_always best ≡ true → best_found best left ≡ meant meaning best
  best_found-always best left always = best_of-always (meant meaning best) (found child words c site (map (meant_pair meaning) left)) (is_always-meant meaning best ∙ always)
