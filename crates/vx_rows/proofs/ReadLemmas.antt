-- Trees whose rows are read where they stand.
use Rattle.std.proofs.Common.{◌≡◌, ◌∙◌, true, List, refl, ap, sym}
use Rattle.std.specs.List.{list_all}
use Rattle.vx_base.specs.PlainScalar.{fits}
use Rattle.vx_base.specs.PlainType.{PlainType, is_flat}
use Rattle.vx_base.specs.PlainType as types
use Rattle.vx_base.specs.PlainValue.{PlainValue}
use Rattle.vx_model.specs.Column.{column_of, IsColumn}
use Rattle.vx_model.specs.Plain.{plain, plain_of}
use Rattle.vx_model.specs.Rows.{rows}
use Rattle.vx_model.specs.Tree.{Tree}
use Rattle.vx_model.specs.TreeType.{tree_type}
use Rattle.vx_rows.specs.Readable.{is_readable, Reads}

-- the plain tree of a flat column is read where it stands
pub readable-plain_of : (t : PlainType) (values : List PlainValue) → is_flat t ≡ true → is_readable (plain_of t values) ≡ true
readable-plain_of types.null_type values h = absurd cc
readable-plain_of (types.boolean n) values h = refl
readable-plain_of (types.primitive p n) values h = refl
readable-plain_of (types.utf8 n) values h = refl
readable-plain_of (types.binary n) values h = refl
readable-plain_of (types.timestamp k n) values h = refl
readable-plain_of (types.structure fs n) values h = absurd cc
readable-plain_of (types.list t n) values h = absurd cc
readable-plain_of (types.fixed_size_list t size n) values h = absurd cc

pub reads_same : (t : Tree) → is_readable t ≡ true → Reads t t
reads_same t h = record { dtype = refl; rows = refl; readable = h }

pub reads_plain : (t read : Tree) → is_flat (tree_type t) ≡ true → read ≡ plain (column_of t) → column_of read ≡ column_of t → Reads t read
reads_plain t read h e c = record {
  dtype = ap (λ k. k.dtype) c;
  rows = ap (λ k. k.values) c;
  readable = ap is_readable e ∙ readable-plain_of (tree_type t) (rows t) h;
}

-- the column of a tree, by the rows that are read
pub read-column : (tree read : Tree) (vs : List PlainValue) → Reads tree read → vs ≡ rows read → list_all (fits (tree_type read)) vs ≡ true → IsColumn (column_of tree)
read-column tree read vs r e h = (λ i. list_all (fits (sym r.dtype i)) ((sym r.rows ∙ sym e) i)) ∙ h

pub ruleset reading = (reads_same, reads_plain)
