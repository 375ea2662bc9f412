-- What is true of the schemes that may stand at a site is true of those that are put off, and of the one that is chosen.
use Rattle.std.proofs.Common.{◌≡◌, Bool, true, false, cond, List, [], ◌∷◌, ◌++◌, map, filter, Option, Some, None, option_map, IfSome, All, refl, sym, ◌∙◌, ap, subst}
use Rattle.std.specs.List.{AllByRecursion, find}
use Rattle.std.proofs.lemmas.List.Elements.{All-from_recursion, recursion_from_All}
use Rattle.std.proofs.lemmas.Bool.{and_parts}
use Rattle.vx_base.specs.PlainType.{PlainType}
use Rattle.vx_model.specs.Cascade.{Leaves}
use Rattle.vx_model.specs.Column.{Column}
use Rattle.vx_model.specs.Site.{Site}
use Rattle.vx_scheme.specs.Excluded.{History}
use Rattle.vx_scheme.specs.Meaning.{Meaning}
use Rattle.vx_stats.specs.Options.{includes}
use Rattle.vx_scheme.specs.declared.estimate.CompressionEstimate.{CompressionEstimate}
use Rattle.vx_scheme.specs.declared.estimate.CompressionEstimate.TheVariants.{Verdict, Deferred}
use Rattle.vx_scheme.specs.declared.estimate.DeferredEstimate.{DeferredEstimate}
use Rattle.vx_stats.specs.declared.options.GenerateStatsOptions.{GenerateStatsOptions}
use Rattle.vx_compressor.specs.declared.choice.Score.{Score}
use Rattle.vx_compressor.specs.Choice.{is_always_score, is_greatest, or_else, choice_of}
use Rattle.vx_model.specs.Leaf.{smaller_or_plain, chosen_or_plain}
use Rattle.vx_compressor.specs.Cascade.{Setting, is_eligible, eligible, with_verdict, deferring, score, trial, choice, chosen}
use Rattle.vx_compressor.specs.Judging.{IsReady, WasPutOff, put_off, put_off_by, meant_pair}

-- ---- lists

all_map : {X Y : Type 0} (P : Y → Type 0) (f : X → Y) (xs : List X) → AllByRecursion (λ x. P (f x)) xs → AllByRecursion P (map f xs)
all_map P f [] h = tt
all_map P f (x ∷ xs) h = (h.0, all_map P f xs h.1)

all_unmap : {X Y : Type 0} (P : Y → Type 0) (f : X → Y) (xs : List X) → AllByRecursion P (map f xs) → AllByRecursion (λ x. P (f x)) xs
all_unmap P f [] h = tt
all_unmap P f (x ∷ xs) h = (h.0, all_unmap P f xs h.1)

all_append : {X : Type 0} (P : X → Type 0) (xs ys : List X) → AllByRecursion P xs → AllByRecursion P ys → AllByRecursion P (xs ++ ys)
all_append P [] ys h k = k
all_append P (x ∷ xs) ys h k = (h.0, all_append P xs ys h.1 k)

pub all_filter : {X : Type 0} (P : X → Type 0) (p : X → Bool) (xs : List X) → AllByRecursion P xs → AllByRecursion P (filter p xs)
all_filter P p [] h = tt
all_filter P p (x ∷ xs) h = of_test (p x) (all_filter P p xs h.1)
  where
    of_test : (b : Bool) → AllByRecursion P (filter p xs) → AllByRecursion P (cond b (x ∷ filter p xs) (filter p xs))
    of_test true rest = (h.0, rest)
    of_test false rest = rest

pub all_both : {X : Type 0} (P Q R : X → Type 0) → ((x : X) → P x → Q x → R x) → (xs : List X) → AllByRecursion P xs → AllByRecursion Q xs → AllByRecursion R xs
all_both P Q R f [] h k = tt
all_both P Q R f (x ∷ xs) h k = (f x h.0 k.0, all_both P Q R f xs h.1 k.1)

-- ---- the schemes that may stand at a site

-- they take the type
pub eligible_take : (schemes : List Meaning) (t : PlainType) (history : History) (ms : List Meaning) → AllByRecursion (λ m. m.takes t ≡ true) (filter (is_eligible schemes t history) ms)
eligible_take schemes t history [] = tt
eligible_take schemes t history (m ∷ ms) = of_test (is_eligible schemes t history m) refl (eligible_take schemes t history ms)
  where
    of_test : (b : Bool) → is_eligible schemes t history m ≡ b → AllByRecursion (λ m. m.takes t ≡ true) (filter (is_eligible schemes t history) ms)
        → AllByRecursion (λ m. m.takes t ≡ true) (cond b (m ∷ filter (is_eligible schemes t history) ms) (filter (is_eligible schemes t history) ms))
    of_test true e rest = ((and_parts _ _ e).0, rest)
    of_test false e rest = rest

-- a list of them whose options are merged is ready
pub eligible_ready : {S : Type 0} (meaning : S → Meaning) (schemes : List Meaning) (c : Column) (history : History) (opts : GenerateStatsOptions) (xs : List S)
    → map meaning xs ≡ eligible schemes c.dtype history → All (λ s. includes opts (meaning s).options ≡ true) xs → All (λ s. IsReady c opts (meaning s)) xs
eligible_ready meaning schemes c history opts xs e merged =
    All-from_recursion _ xs
    (all_both (λ s. (meaning s).takes c.dtype ≡ true) (λ s. includes opts (meaning s).options ≡ true) (λ s. IsReady c opts (meaning s)) (λ s t i. record { taken = t; included = i }) xs
    (all_unmap (λ m. m.takes c.dtype ≡ true) meaning xs (subst (AllByRecursion (λ m. m.takes c.dtype ≡ true)) (sym e) (eligible_take schemes c.dtype history schemes)))
    (recursion_from_All _ xs merged))

-- ---- those that are put off

put_off_all : (P : Meaning → Type 0) (c : Column) (site : Site) (ms : List Meaning) → AllByRecursion P ms → AllByRecursion (λ p. P p.0) (put_off c site ms)
put_off_all P c site [] h = tt
put_off_all P c site (m ∷ ms) h = of_estimate (m.estimate c site) (put_off_all P c site ms h.1)
  where
    of_estimate : (e : CompressionEstimate) → AllByRecursion {X = Meaning × DeferredEstimate} (λ p. P p.0) (put_off c site ms) → AllByRecursion {X = Meaning × DeferredEstimate} (λ p. P p.0) (put_off_by m e (put_off c site ms))
    of_estimate (Verdict v) rest = rest
    of_estimate (Deferred d) rest = (h.0, rest)

pub put_off_ready : {S : Type 0} (meaning : S → Meaning) (c : Column) (site : Site) (opts : GenerateStatsOptions) (xs : List S) (ps : List (S × DeferredEstimate))
    → All (λ s. IsReady c opts (meaning s)) xs → map (meant_pair meaning) ps ≡ put_off c site (map meaning xs) → All (λ p. IsReady c opts (meaning p.0)) ps
put_off_ready meaning c site opts xs ps ready e =
    All-from_recursion _ ps
    (all_unmap (λ p. IsReady c opts p.0) (meant_pair meaning) ps
    (subst (AllByRecursion (λ p. IsReady c opts p.0)) (sym e) (put_off_all (IsReady c opts) c site (map meaning xs) (all_map (IsReady c opts) meaning xs (recursion_from_All _ xs ready)))))

-- each put its verdict off in the way that stands beside it
put_off_so : (c : Column) (site : Site) (ms : List Meaning) → AllByRecursion (λ p. WasPutOff c site p.0 p.1) (put_off c site ms)
put_off_so c site [] = tt
put_off_so c site (m ∷ ms) = of_estimate (m.estimate c site) refl (put_off_so c site ms)
  where
    of_estimate : (e : CompressionEstimate) → m.estimate c site ≡ e → AllByRecursion {X = Meaning × DeferredEstimate} (λ p. WasPutOff c site p.0 p.1) (put_off c site ms)
        → AllByRecursion {X = Meaning × DeferredEstimate} (λ p. WasPutOff c site p.0 p.1) (put_off_by m e (put_off c site ms))
    of_estimate (Verdict v) is rest = rest
    of_estimate (Deferred d) is rest = (is, rest)

pub were_put_off : {S : Type 0} (meaning : S → Meaning) (c : Column) (site : Site) (xs : List S) (ps : List (S × DeferredEstimate))
    → map (meant_pair meaning) ps ≡ put_off c site (map meaning xs) → All (λ p. WasPutOff c site (meaning p.0) p.1) ps
were_put_off meaning c site xs ps e =
    All-from_recursion _ ps
    (all_unmap (λ p. WasPutOff c site p.0 p.1) (meant_pair meaning) ps
    (subst (AllByRecursion (λ p. WasPutOff c site p.0 p.1)) (sym e) (put_off_so c site (map meaning xs))))

-- ---- the one that is chosen

find_holds : {A : Type 0} (P : A → Type 0) (p : A → Bool) (xs : List A) → AllByRecursion P xs → IfSome (find p xs) P
find_holds P p [] h = tt
find_holds {A} P p (x ∷ xs) h = of_test (p x) (find_holds P p xs h.1)
  where
    of_test : (b : Bool) → IfSome {T = A} (find p xs) P → IfSome {T = A} (cond b (Some x) (find p xs)) P
    of_test true rest = h.0
    of_test false rest = rest

choice_of_holds : {A : Type 0} (P : A → Type 0) (xs : List (A × Option Score)) → AllByRecursion (λ x. P x.0) xs → IfSome (choice_of xs) P
choice_of_holds {A} P xs h = of_found (find (λ x. is_always_score x.1) xs) (find (λ x. is_greatest xs x.1) xs) (find_holds (λ x. P x.0) _ xs h) (find_holds (λ x. P x.0) _ xs h)
  where
    of_found : (a b : Option (A × Option Score)) → IfSome a (λ x. P x.0) → IfSome b (λ x. P x.0) → IfSome (option_map (λ x. x.0) (or_else a b)) P
    of_found (Some x) b h k = h
    of_found None (Some x) h k = k
    of_found None None h k = tt

-- what is true of all that may stand at the site is true of the choice
pub choice_holds : (P : Meaning → Type 0) (child : Leaves) (set : Setting) (c : Column) (site : Site) → AllByRecursion P (eligible set.schemes c.dtype site.history) → IfSome (choice child set c site) P
choice_holds P child set c site h =
    let all = eligible set.schemes c.dtype site.history in
    choice_of_holds P _ (all_map (λ x. P x.0) (λ m. (m, score child set.words m c site)) (with_verdict c site all ++ deferring c site all)
    (all_append P (with_verdict c site all) (deferring c site all) (all_filter P _ all h) (all_filter P _ all h)))

pub choice_ready : {S : Type 0} (meaning : S → Meaning) (child : Leaves) (set : Setting) (c : Column) (site : Site) (opts : GenerateStatsOptions) (xs : List S) (x : S)
    → map meaning xs ≡ eligible set.schemes c.dtype site.history → All (λ s. IsReady c opts (meaning s)) xs → Some (meaning x) ≡ choice child set c site → IsReady c opts (meaning x)
choice_ready meaning child set c site opts xs x e ready is =
    let all : AllByRecursion (IsReady c opts) (map meaning xs) = all_map (IsReady c opts) meaning xs (recursion_from_All _ xs ready) in
    let chosen : IfSome (Some (meaning x)) (IsReady c opts) = subst (λ o. IfSome o (IsReady c opts)) (sym is) (choice_holds (IsReady c opts) child set c site (subst (AllByRecursion (IsReady c opts)) e all)) in
    chosen

-- the same of schemes and options as the code has them
pub merged_ready : {S : Type 0} (meaning : S → Meaning) (schemes : List Meaning) (c : Column) (history : History) (t : PlainType) (opts opts' : GenerateStatsOptions) (xs ys zs : List S)
    → map meaning xs ≡ eligible schemes t history → t ≡ c.dtype → ys ≡ xs → zs ≡ xs → opts' ≡ opts → All (λ s. includes opts (meaning s).options ≡ true) ys → All (λ s. IsReady c opts' (meaning s)) zs
merged_ready meaning schemes c history t opts opts' xs ys zs e typed same same' alike merged =
    subst (λ l. All (λ s. IsReady c opts' (meaning s)) l) (sym same')
    (subst (λ o. All (λ s. IsReady c o (meaning s)) xs) (sym alike)
    (eligible_ready meaning schemes c history opts xs (e ∙ ap (λ t. eligible schemes t history) typed) (subst (All (λ s. includes opts (meaning s).options ≡ true)) same merged)))

-- the chosen scheme's tree
pub chosen-some : {S : Type 0} (meaning : S → Meaning) (child : Leaves) (set : Setting) (c : Column) (site : Site) (x : S) → Some (meaning x) ≡ choice child set c site → smaller_or_plain c (trial child (meaning x) c site) ≡ chosen_or_plain c (chosen child set c site)
chosen-some meaning child set c site x is = ap (λ o. chosen_or_plain c (option_map (λ m. trial child m c site) o)) is
