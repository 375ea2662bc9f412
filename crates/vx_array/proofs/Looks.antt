-- What a look at a place of the indices of patches reads, and what it leaves.
use Rattle.std.proofs.Common.{◌≡◌, ◌<◌, ◌≤◌, ◌∙◌, ◌+◌, ◌-◌, ◌*◌, ℕ, ℤ, length, true, sym, ap, subst, arith, Some, None}
use Rattle.std.specs.Prelude.{Option}
use Rattle.vx_base.specs.IntegersIn.{integer_in}
use Rattle.vx_base.specs.PlainValue.{PlainValue, cell}
use Rattle.vx_model.specs.Rows.{rows, row_at, index_of, place_of}
use Rattle.vx_model.specs.Tree.{PlainPatches}
use Rattle.vx_model.specs.WellFormed.{WellFormedPatches, ascend}
use Rattle.vx_model.proofs.CellLemmas.{index-integer_in}
use Rattle.vx_model.proofs.PatchLemmas.{none_below-next, none_from-next, place-found, ascend-index}
use Rattle.vx_array.specs.Look.{IsHalf}

pub record IsRead (p : PlainPatches) (place : ℕ) (read : Option ℕ) : Type 0 where
  pub ascending : ascend p.offset (p.offset + p.array_len) (rows p.indices) ≡ true
  pub within : place < length (rows p.indices)
  pub index : index_of (row_at (rows p.indices) place) ≡ read

pub read_of : {q p : PlainPatches} {place : ℕ} {v : PlainValue} {o : Option ℤ} {read : Option ℕ} → q ≡ p → WellFormedPatches q → place < length (rows p.indices)
    → v ≡ row_at (rows q.indices) place → o ≡ integer_in v → read ≡ index_of (cell o) → IsRead p place read
read_of {place = place} {v = v} view h within value integer index =
    record {
      ascending = subst (λ q. ascend q.offset (q.offset + q.array_len) (rows q.indices) ≡ true) view h.2.ascending;
      within = within;
      index = sym (index ∙ ap (λ o. index_of (cell o)) integer ∙ index-integer_in v ∙ ap index_of value ∙ ap (λ q. index_of (row_at (rows q.indices) place)) view);
    }

pub found-there : (p : PlainPatches) (n place k : ℕ) → IsRead p place (Some k) → k ≡ n → place_of (rows p.indices) n ≡ Some place
found-there p n place k r e = place-found p.offset (p.offset + p.array_len) (rows p.indices) n place r.ascending r.within (r.index ∙ ap Some e)

pub half-after : (p : PlainPatches) (n low high place k : ℕ) → IsRead p place (Some k) → k < n → low ≤ place → place < high → 2 * (high - (place + 1)) ≤ high - low → IsHalf (rows p.indices) n low high (place + 1) high
half-after p n low high place k r past from to half =
    record {
      after = omega arith;
      order = omega arith;
      before = omega arith;
      half = half;
      none_below = λ _. none_below-next p.offset (p.offset + p.array_len) (rows p.indices) n place k r.ascending r.within r.index past;
      none_from = λ h. h;
    }

pub half-before : (p : PlainPatches) (n low high place k : ℕ) → IsRead p place (Some k) → n < k → low ≤ place → place < high → 2 * (place - low) ≤ high - low → IsHalf (rows p.indices) n low high low place
half-before p n low high place k r before from to half =
    record {
      after = omega arith;
      order = from;
      before = omega arith;
      half = half;
      none_below = λ h. h;
      none_from = λ _. none_from-next p.offset (p.offset + p.array_len) (rows p.indices) n place k r.ascending r.within r.index before;
    }

pub read-none : (p : PlainPatches) (place : ℕ) → IsRead p place None → ⊥
read-none p place r = ascend-index p.offset (p.offset + p.array_len) (rows p.indices) place r.ascending r.within r.index
