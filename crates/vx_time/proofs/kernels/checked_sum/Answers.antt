use Rattle.std.proofs.Common.{◌≡◌, refl, ◌+ℤ◌, ◌*ℤ◌, pos, subst, sym, ◌∙◌, FitsSigned, IfSome}
use Rattle.std.proofs.lemmas.Int.{to_z-of_z}
use Rattle.std.specs.Int.{w128}
use Rattle.vx_time.specs.PartsOf.{parts, sum_of}
use Rattle.vx_time.proofs.Decided.{clock_fits, clock_sum_fits, days_out, sum_out-128, sum_same}
use Rattle.vx_time.proofs.Machine.{days_product, clock_product, sum_told, none_told, ok_told}
use Rattle.vx_time.proofs.kernels.checked_sum.Goals as goal

pub returns-in_err-whole_days : goal.returns-in_err-whole_days
returns-in_err-whole_days c =
    let d = c.args.divisor in
    let p = parts c.args.days c.args.seconds c.args.subseconds in
    let product = days_product c.args.days c.from.result c.from-divisor.result d c.ranges.days c.from.ensures c.from-divisor.ensures c.ranges.divisor in
    let out = days_out d p c.requires.seconds c.requires.subseconds c.ranges.divisor (λ fits. c.in_err-whole_days.ensures {u = tt} (subst (FitsSigned w128) (sym product) fits)) in
    record {
      fits = none_told c.from_residual.result (sum_of d p) c.from_residual.ensures out;
      value = subst (λ r. IfSome r (λ x. x ≡ sum_of d p)) (sym c.from_residual.ensures) tt;
    }

pub overflow_mul-seconds : goal.overflow_mul-seconds
overflow_mul-seconds c =
    subst (FitsSigned w128) (sym (clock_product c.args.seconds c.from-divisor.result c.args.divisor c.ranges.seconds c.from-divisor.ensures c.ranges.divisor)) (clock_fits c.args.seconds c.args.divisor c.requires.seconds c.ranges.divisor)

pub overflow_add-seconds : goal.overflow_add-seconds
overflow_add-seconds c =
    let d = c.args.divisor in
    let clock = clock_product c.args.seconds c.from-divisor.result d c.ranges.seconds c.from-divisor.ensures c.ranges.divisor in
    let fits = clock_fits c.args.seconds d c.requires.seconds c.ranges.divisor in
    let sum = sum_told _ c.args.subseconds (c.args.seconds *ℤ d) c.args.subseconds clock fits refl c.ranges.subseconds in
    subst (FitsSigned w128) (sym sum) (clock_sum_fits c.args.seconds d c.args.subseconds c.requires.seconds c.ranges.divisor c.requires.subseconds)

pub returns-in_err-checked_add : goal.returns-in_err-checked_add
returns-in_err-checked_add c =
    let d = c.args.divisor in
    let p = parts c.args.days c.args.seconds c.args.subseconds in
    let ok = c.in_ok-whole_days.ensures {u = tt} in
    let product = days_product c.args.days c.from.result c.from-divisor.result d c.ranges.days c.from.ensures c.from-divisor.ensures c.ranges.divisor in
    let clock = clock_product c.args.seconds c.from-divisor.result d c.ranges.seconds c.from-divisor.ensures c.ranges.divisor in
    let fits = clock_fits c.args.seconds d c.requires.seconds c.ranges.divisor in
    let clock_sum = sum_told _ c.args.subseconds (c.args.seconds *ℤ d) c.args.subseconds clock fits refl c.ranges.subseconds in
    let sum = sum_told c.in_ok-whole_days.whole_days _ (c.args.days *ℤ (pos 86_400 *ℤ d)) (c.args.seconds *ℤ d +ℤ c.args.subseconds) (ok.1 ∙ product) (subst (FitsSigned w128) product ok.0) clock_sum (clock_sum_fits c.args.seconds d c.args.subseconds c.requires.seconds c.ranges.divisor c.requires.subseconds) in
    let out = sum_out-128 d p (λ h. c.in_err-checked_add.ensures {u = tt} (subst (FitsSigned w128) (sym sum) h)) in
    record {
      fits = none_told c.from_residual-in_err-checked_add.result (sum_of d p) c.from_residual-in_err-checked_add.ensures out;
      value = subst (λ r. IfSome r (λ x. x ≡ sum_of d p)) (sym c.from_residual-in_err-checked_add.ensures) tt;
    }

pub returns : goal.returns
returns c =
    let d = c.args.divisor in
    let p = parts c.args.days c.args.seconds c.args.subseconds in
    let ok = c.in_ok-whole_days.ensures {u = tt} in
    let added = c.in_ok-checked_add.ensures {u = tt} in
    let product = days_product c.args.days c.from.result c.from-divisor.result d c.ranges.days c.from.ensures c.from-divisor.ensures c.ranges.divisor in
    let clock = clock_product c.args.seconds c.from-divisor.result d c.ranges.seconds c.from-divisor.ensures c.ranges.divisor in
    let fits = clock_fits c.args.seconds d c.requires.seconds c.ranges.divisor in
    let clock_sum = sum_told _ c.args.subseconds (c.args.seconds *ℤ d) c.args.subseconds clock fits refl c.ranges.subseconds in
    let sum = sum_told c.in_ok-whole_days.whole_days _ (c.args.days *ℤ (pos 86_400 *ℤ d)) (c.args.seconds *ℤ d +ℤ c.args.subseconds) (ok.1 ∙ product) (subst (FitsSigned w128) product ok.0) clock_sum (clock_sum_fits c.args.seconds d c.args.subseconds c.requires.seconds c.ranges.divisor c.requires.subseconds) in
    let whole = added.1 ∙ sum ∙ sum_same d p in
    let back = to_z-of_z w128 c.in_ok-checked_add.field-0 (subst (FitsSigned w128) (sym added.1) added.0) in
    let told = ok_told c.try_from.result c.ok.result _ (sum_of d p) c.ok.ensures.value c.try_from.ensures (back ∙ whole) in
    record { fits = told.0; value = told.1 }
