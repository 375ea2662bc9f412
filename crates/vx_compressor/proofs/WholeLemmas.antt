-- The plain trees of columns that are compressed.
use Rattle.std.proofs.Common.{◌≡◌, ◌<◌, ◌^◌, ℕ, Option, Some, None, true, sym, ap, subst, arith}
use Rattle.std.specs.Prelude.{Ok}
use Rattle.vx_base.specs.Answers.{Makes}
use Rattle.vx_base.specs.declared.error.VortexError.{VortexError}
use Rattle.vx_base.specs.PlainType.{is_flat}
use Rattle.vx_model.specs.Cascade.{offsets_site}
use Rattle.vx_model.specs.Column.{Column, column_of}
use Rattle.vx_model.specs.Plain.{plain, IsPlain}
use Rattle.vx_model.specs.Rows.{rows}
use Rattle.vx_model.specs.Site.{Site, max_cascade}
use Rattle.vx_model.specs.Tree.{Tree}
use Rattle.vx_model.specs.TreeType.{tree_type}
use Rattle.vx_model.specs.Whole.{IsWhole, ArePlainOffsets, narrowed}
use Rattle.vx_model.proofs.NarrowLemmas.{narrowed-fits}
use Rattle.vx_compressor.specs.CascadeLaws.{IsWithin}
use Rattle.vx_compressor.specs.Reach.{IsInReach}
use Rattle.vx_compressor.proofs.HeldLemmas.{column_of-is, plain-is}
use Rattle.vx_compressor.proofs.LimitLemmas.{reach_within}

pub within_of : (t : Tree) → IsWhole t → IsWithin (column_of t)
within_of t whole = record { column = whole.column; counts_fit = whole.few }

pub reach_of : (t : Tree) → IsWhole t → IsInReach (column_of t) max_cascade
reach_of t whole = reach_within (column_of t) (within_of t whole)

-- a plain tree of a column within the limit
pub whole_of : (t : Tree) → IsPlain t → IsWithin (column_of t) → IsWhole t
whole_of t p within = record { plain = p; column = within.column; few = within.counts_fit }

pub record IsWholeOf (c : Column) (t : Tree) : Type 0 where
  pub whole : IsWhole t
  pub column : column_of t ≡ c

pub whole_by : (c : Column) (t : Tree) → IsWithin c → t ≡ plain c → IsWholeOf c t
whole_by c t within e =
    let same = column_of-is t c within.column e in
    record { whole = whole_of t (plain-is t c within.column e) (subst IsWithin (sym same) within); column = same }

-- what a constructor makes where nothing is refused
pub made_ok : {T U : Type 0} (r : Option VortexError) (made : U) (inputs : T) (a : U) → r ≡ None → Makes r made inputs (Ok a) → a ≡ made
made_ok None made inputs a e h = h
made_ok (Some x) made inputs a e h = absurd cc

-- ---- narrowed offsets below the root

pub record IsNarrowed (end : ℕ) (offsets t : Tree) (site : Site) : Type 0 where
  pub flat : is_flat (tree_type t) ≡ true
  pub plain : IsPlain t
  pub reach : IsInReach (column_of t) site.budget
  pub column : column_of t ≡ narrowed end (rows offsets)

pub narrowed_by : (end : ℕ) (offsets t : Tree) (site : Site) → end < 2 ^ 64 → ArePlainOffsets offsets end → t ≡ plain (narrowed end (rows offsets)) → site ≡ offsets_site → IsNarrowed end offsets t site
narrowed_by end offsets t site l own e at =
    let fit = narrowed-fits end (rows offsets) own.between l in
    let same = column_of-is t (narrowed end (rows offsets)) fit e in
    let few = own.few in
    record {
      flat = ap (λ c. is_flat c.dtype) same;
      plain = plain-is t (narrowed end (rows offsets)) fit e;
      reach = subst (λ s. IsInReach (column_of t) s.budget) (sym at) (subst (λ c. IsInReach c offsets_site.budget) (sym same) (record { few = omega (arith, few); within = omega arith }));
      column = same;
    }
