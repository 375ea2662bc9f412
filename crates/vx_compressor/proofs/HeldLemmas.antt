-- What a scheme may be asked, where a bundle holds the plain tree of a column.
use Rattle.std.proofs.Common.{◌≡◌, ◌<◌, true, length, Result, sym, ◌∙◌, ap, subst}
use Rattle.vx_base.specs.Answers.{Answers}
use Rattle.vx_base.specs.declared.error.VortexError.{VortexError}
use Rattle.vx_model.specs.Column.{Column, IsColumn, column_of}
use Rattle.vx_model.specs.Plain.{plain, IsPlain}
use Rattle.vx_model.specs.Rows.{rows}
use Rattle.vx_model.specs.Tree.{Tree}
use Rattle.vx_model.specs.TreeType.{tree_type}
use Rattle.vx_model.proofs.PlainLemmas.{column_of-plain, plain_is_plain}
use Rattle.vx_scheme.specs.Asked.{IsSiteTree, HasValue}
use Rattle.vx_scheme.specs.Bundle.{Bundle, SameArray}
use Rattle.vx_scheme.specs.Meaning.{Meaning}
use Rattle.vx_stats.specs.Options.{includes}
use Rattle.vx_stats.specs.declared.options.GenerateStatsOptions.{GenerateStatsOptions}
use Rattle.vx_compressor.specs.Judging.{Holds, IsAskable, IsReady}

-- a plain tree stands for its column
pub column_of-is : (t : Tree) (c : Column) → IsColumn c → t ≡ plain c → column_of t ≡ c
column_of-is t c fits e = ap column_of e ∙ column_of-plain c fits

pub plain-is : (t : Tree) (c : Column) → IsColumn c → t ≡ plain c → IsPlain t
plain-is t c fits e = subst IsPlain (sym e) (plain_is_plain c fits)

module _ (b : Bundle) (c : Column) (opts : GenerateStatsOptions) (held : Holds b c opts) where
  pub column-held : column_of b.array ≡ c
  column-held = column_of-is b.array c held.column held.array

  pub site_tree-held : IsAskable c → IsSiteTree b.array
  site_tree-held askable =
      let rows : rows b.array ≡ c.values = ap (λ c. c.values) column-held in
      record { plain = plain-is b.array c held.column held.array; some = subst (λ vs. 0 < length vs) (sym rows) askable.some; few = rw rows askable.few }

  pub value-held : HasValue c → HasValue (column_of b.array)
  value-held h = subst HasValue (sym column-held) h

  pub taken-held : (m : Meaning) → IsReady c opts m → m.takes (tree_type b.array) ≡ true
  taken-held m ready = ap (λ c. m.takes c.dtype) column-held ∙ ready.taken

  pub included-held : (m : Meaning) → IsReady c opts m → includes b.options m.options ≡ true
  included-held m ready = ap (λ o. includes o m.options) held.options ∙ ready.included

  pub ready-held : (m : Meaning) → IsReady c opts m → IsReady (column_of b.array) b.options m
  ready-held m ready = record { taken = taken-held m ready; included = included-held m ready }

  pub holds_still : (new : Bundle) → SameArray b new → Holds new c opts
  holds_still new same = record { column = held.column; array = same.array ∙ held.array; options = same.options ∙ held.options }

pub answers_to : {A : Type 0} (result : Result A VortexError) (f : Column → A) (b c : Column) → b ≡ c → Answers result (f b) → Answers result (f c)
answers_to result f b c e h = subst (λ c. Answers result (f c)) e h
