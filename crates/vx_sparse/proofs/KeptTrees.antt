-- The trees of the kept patches: the filtered numbers of their rows and their filtered values.
use Rattle.std.proofs.Common.{◌≡◌, ◌∙◌, ℕ, pos, Bool, List, length, map, sym, ap, None}
use Rattle.std.proofs.lemmas.List.{length-map}
use Rattle.vx_base.specs.declared.dtype.Nullability.TheVariants.{NonNullable}
use Rattle.vx_base.specs.declared.ptype.PType.TheVariants.{U64}
use Rattle.vx_base.specs.Masks.{true_count}
use Rattle.vx_base.specs.PlainScalar.{PlainScalar}
use Rattle.vx_base.specs.PlainType.{is_integer, is_nullable}
use Rattle.vx_base.specs.PlainValue.{int}
use Rattle.vx_model.specs.Column.{column_of}
use Rattle.vx_model.specs.Refusals.{patches_refusal}
use Rattle.vx_model.specs.Rows.{rows}
use Rattle.vx_model.specs.Tree.{Tree, PlainPatches, patches, primitive, sparse, sparse_of}
use Rattle.vx_model.specs.TreeType.{tree_type}
use Rattle.vx_model.specs.WellFormed.{WellFormedPatches}
use Rattle.vx_rules.specs.Selections.{filtered, kept_items}
use Rattle.vx_sparse.specs.Filters.{kept_bits, kept_rank, kept_ranks}
use Rattle.vx_sparse.proofs.FilteredRows.{filtered-accepted, filtered-patches, length-kept_bits}
use Rattle.vx_sparse.proofs.PatchRows.{numbers-values}

module _ (p : PlainPatches) (fill : PlainScalar) (keep : List Bool) (w : WellFormedPatches p) (bits : length keep ≡ p.array_len)
    (own : List Bool) (o : own ≡ kept_bits keep p.offset (rows p.indices))
    (numbers : Tree) (ns : List ℕ) (n : numbers ≡ primitive U64 (map pos ns) None NonNullable) (r : ns ≡ map (kept_rank keep p.offset) (rows p.indices)) where
  numbers-rows : rows numbers ≡ kept_ranks keep p.offset (rows p.indices)
  numbers-rows = ap rows n ∙ ap (λ ms. map int (map pos ms)) r ∙ numbers-values (kept_rank keep p.offset) (rows p.indices)

  own-length : length own ≡ length (rows p.indices)
  own-length = ap length o ∙ length-kept_bits p fill keep w bits

  pub numbers-length : length own ≡ length (rows numbers)
  numbers-length = own-length ∙ sym (ap length numbers-rows ∙ length-map (rows p.indices) (λ v. int (pos (kept_rank keep p.offset v))))

  pub values-length : length own ≡ length (rows p.values)
  values-length = own-length ∙ w.2.lengths

  module _ (indices values : Tree) (i : column_of indices ≡ filtered (column_of numbers) own) (v : column_of values ≡ filtered (column_of p.values) own) where
    kept-indices : rows indices ≡ kept_items (kept_bits keep p.offset (rows p.indices)) (kept_ranks keep p.offset (rows p.indices))
    kept-indices = ap (λ c. c.values) i ∙ (λ t. kept_items (o t) (numbers-rows t))

    kept-values : rows values ≡ kept_items (kept_bits keep p.offset (rows p.indices)) (rows p.values)
    kept-values = ap (λ c. c.values) v ∙ (λ t. kept_items (o t) (rows p.values))

    pub kept-type : tree_type p.values ≡ fill.dtype → tree_type values ≡ fill.dtype
    kept-type typed = ap (λ c. c.dtype) v ∙ typed

    pub kept-accepted : patches_refusal (patches (true_count keep) 0 indices values) ≡ None
    kept-accepted =
        let kind = ap (λ c. c.dtype) i ∙ ap tree_type n in
        filtered-accepted p fill keep w bits indices values kept-indices kept-values (ap is_integer kind) (ap is_nullable kind)

    pub kept-column : column_of (sparse (true_count keep) 0 indices values fill) ≡ filtered (column_of (sparse_of p fill)) keep
    kept-column = filtered-patches p fill keep w bits indices values kept-indices kept-values
