-- A column within the limit of rows may stand at a fresh site, and schemes may be asked about each that stands at a site.
use Rattle.std.proofs.Common.{◌≡◌, ◌≤◌, ℕ, true, length, None, Result, subst, arith}
use Rattle.vx_base.specs.Answers.{OrMemory, Decided, unless}
use Rattle.vx_base.specs.declared.error.VortexError.{VortexError}
use Rattle.vx_base.specs.declared.error.VortexError.TheVariants.{TooManyRows}
use Rattle.vx_model.specs.Column.{Column}
use Rattle.vx_model.specs.Extents.{extents_fit, row_limit}
use Rattle.vx_model.specs.Refusals.{compress_refusal}
use Rattle.vx_model.specs.Site.{max_cascade}
use Rattle.vx_model.specs.Tree.{Tree}
use Rattle.vx_model.proofs.CountLemmas.{rows-few}
use Rattle.vx_scheme.specs.Asked.{most_rows}
use Rattle.vx_compressor.specs.CascadeLaws.{IsWithin}
use Rattle.vx_compressor.specs.Reach.{IsInReach}

-- a column within the limit may stand at a fresh site
pub reach_within : (c : Column) → IsWithin c → IsInReach c max_cascade
reach_within c within = let few = rows-few c.dtype c.values row_limit within.counts_fit in record { few = omega (arith, few); within = omega arith }

-- at no site are there more rows than a scheme may be asked about
pub few_in_reach : (c : Column) (budget : ℕ) → IsInReach c budget → length c.values ≤ most_rows
few_in_reach c budget reach = let few = reach.few in omega (arith, few)

-- what is within the limit isn't refused
pub decided_within : {A : Type 0} (t : Tree) (P : A → Type 0) (result : Result A VortexError) → true ≡ extents_fit t → OrMemory result P → Decided (compress_refusal t) P result
decided_within t P result fit h = subst (λ b. Decided (unless b TooManyRows None) P result) fit h
