use Rattle.std.proofs.Common.{◌≡◌, length, refl, rules, true}
use Rattle.std.specs.Prelude.{nat_lt}
use Rattle.std.proofs.lemmas.Bool.{lt-ltb}
use Rattle.std.proofs.lemmas.Result.{MatchResult-weaker}
use Rattle.vx_model.specs.Rows.{rows}
use Rattle.vx_array.proofs.DictRuns.{uniform_rows}
use Rattle.vx_array.proofs.array.ArrayRef.decoded_uniform.Goals as goal

pub returns-in_err-row : goal.returns-in_err-row
returns-in_err-row c =
    let some : nat_lt 0 (length (rows c.args.self.now)) ≡ true = lt-ltb 0 (length (rows c.args.self.now)) c.requires.some in
    let e = rw some at c.in_err-row.ensures in
    search rules

pub decoded_constant-requires : goal.decoded_constant-requires
decoded_constant-requires c =
    let some : nat_lt 0 (length (rows c.args.self.now)) ≡ true = lt-ltb 0 (length (rows c.args.self.now)) c.requires.some in
    let own = rw some at c.in_ok-row.ensures in
    rw own c.requires.flat

pub returns : goal.returns
returns c =
    let t = c.args.self.now in
    let some : nat_lt 0 (length (rows t)) ≡ true = lt-ltb 0 (length (rows t)) c.requires.some in
    let own = rw some at c.in_ok-row.ensures in
    let made = rw own at c.decoded_constant.ensures in
    MatchResult-weaker c.decoded_constant.result made (λ d r. uniform_rows t _ _ d c.requires.uniform refl c.len.ensures r) (λ e n. n)
