-- Rows that are read one after another.
use Rattle.std.proofs.Common.{◌≡◌, ℕ, ◌+◌, ◌-◌, ◌*◌, ◌/◌, ◌^◌, ◌<◌, ◌≤◌, ℤ, pos, List, [], ◌∷◌, ◌++◌, length, map, get_or, ap, sym, ◌∙◌, arith, inl, inr, length-append, append_assoc, subst}
use Rattle.std.proofs.lemmas.Bool.{cases_lt, lt-ltb}
use Rattle.std.proofs.lemmas.List.{append-nil, get_or_append_left, get_or-append_right, get_or-map, length-map}
use Rattle.std.proofs.lemmas.Nat.{pow_pos}
use Rattle.std.proofs.Math.Nat as nat
use Rattle.vx_base.specs.declared.ptype.PType.{PType}
use Rattle.vx_base.specs.declared.ptype.PType.TheVariants.{U64}
use Rattle.vx_base.specs.Integers.{natural_bits}
use Rattle.vx_base.specs.Packed.{packed_number, packed_row}
use Rattle.vx_base.specs.Wrapping.{wrap}
use Rattle.vx_base.proofs.WrapLemmas.{wrap-same}
use Rattle.vx_blocks.specs.Appended.{AppendsRows}
use Rattle.vx_blocks.specs.IsPacked.{IsUnpacked, IsUnpackedAs}

module _ (value : ℕ → ℤ) (bytes : List ℕ) (width start : ℕ) where
  -- no row
  pub IsUnpackedAs-none : (end : ℕ) → end ≤ start → IsUnpackedAs value bytes width start end []
  IsUnpackedAs-none end h = record { size = omega arith; each = λ i below. absurd (omega arith) }

  -- some rows more
  pub IsUnpackedAs-append : (middle end : ℕ) (rows part : List ℤ) → start ≤ middle → middle ≤ end → IsUnpackedAs value bytes width start middle rows
      → length part ≡ end - middle → ((k : ℕ) → k < end - middle → get_or part k (pos 0) ≡ value (packed_row bytes width (middle + k))) → IsUnpackedAs value bytes width start end (rows ++ part)
  IsUnpackedAs-append middle end rows part first second h len each =
      record {
        size = length-append rows part ∙ omega (arith, h.size, len);
        each = λ i below. elim (cases_lt i (middle - start)) [
          | inl lt ↦
              let within : i < length rows = omega (arith, h.size) in
              get_or_append_left rows part (pos 0) i within ∙ h.each i lt
          | inr far ↦
              let place : middle + (i - (middle - start)) ≡ start + i = omega arith in
              get_or-append_right rows part (middle - start) i (pos 0) h.size far ∙ each (i - (middle - start)) (omega arith) ∙ ap (λ k. value (packed_row bytes width k)) place
        ];
      }

  -- ---- behind what was there
  pub appends-none : (old : List ℤ) → AppendsRows value bytes width start start old old
  appends-none old = record { part = []; behind = sym (append-nil old); rows = IsUnpackedAs-none start (omega arith) }

  pub appends-more : (middle end : ℕ) (old new : List ℤ) (part : List ℤ) → start ≤ middle → middle ≤ end → AppendsRows value bytes width start middle old new → length part ≡ end - middle
      → ((k : ℕ) → k < end - middle → get_or part k (pos 0) ≡ value (packed_row bytes width (middle + k))) → AppendsRows value bytes width start end old (new ++ part)
  appends-more middle end old new part first second h long each =
      record {
        part = h.part ++ part;
        behind = ap (λ l. l ++ part) h.behind ∙ append_assoc old h.part part;
        rows = IsUnpackedAs-append middle end h.part part first second h.rows long each;
      }

  pub appends-push : (row : ℕ) (old new : List ℤ) (x : ℤ) → start ≤ row → AppendsRows value bytes width start row old new → x ≡ value (packed_row bytes width row) → AppendsRows value bytes width start (row + 1) old (new ++ x ∷ [])
  appends-push row old new x h before is =
      appends-more row (row + 1) old new (x ∷ []) h (omega arith) before (omega arith)
      (λ k below. let first : k ≡ 0 = omega arith in rw first (is ∙ ap (λ n. value (packed_row bytes width n)) (omega arith)))

-- one call after another
pub appends-then : (value : ℕ → ℤ) (bytes : List ℕ) (width start middle end : ℕ) (old new after : List ℤ) → start ≤ middle → middle ≤ end → AppendsRows value bytes width start middle old new → AppendsRows value bytes width middle end new after
    → AppendsRows value bytes width start end old after
appends-then value bytes width start middle end old new after first second h k =
    subst (AppendsRows value bytes width start end old) (sym k.behind) (appends-more value bytes width start middle end old new k.part first second h k.rows.size k.rows.each)

-- to no rows at all
pub appends-alone : (value : ℕ → ℤ) (bytes : List ℕ) (width start end : ℕ) (new : List ℤ) → AppendsRows value bytes width start end [] new → IsUnpackedAs value bytes width start end new
appends-alone value bytes width start end new h = subst (IsUnpackedAs value bytes width start end) (sym h.behind) h.rows

-- ---- rows that are wrapped into a type of enough bits

pub row-wrapped : (kind : PType) (bytes : List ℕ) (width i : ℕ) → width ≤ natural_bits kind → wrap kind (pos (packed_row bytes width i)) ≡ pos (packed_row bytes width i)
row-wrapped kind bytes width i h =
    let lt : packed_row bytes width i < 2 ^ width = nat.mod-lt (packed_number 8 bytes / 2 ^ (width * i)) (pow_pos width) in
    let le : 2 ^ width ≤ 2 ^ natural_bits kind = nat.pow-le-pow_right (omega arith) h in
    wrap-same kind (pos (packed_row bytes width i)) (lt-ltb _ _ (omega arith))

pub naturals_read : (kind : PType) (bytes : List ℕ) (width start end : ℕ) (wholes : List ℤ) → width ≤ natural_bits kind → IsUnpackedAs (λ n. wrap kind (pos n)) bytes width start end wholes → IsUnpackedAs pos bytes width start end wholes
naturals_read kind bytes width start end wholes h read = record { size = read.size; each = λ i below. read.each i below ∙ row-wrapped kind bytes width (start + i) h }

pub words_read : (bytes : List ℕ) (width start end : ℕ) (rows : List ℕ) → width ≤ 64 → IsUnpackedAs (λ n. wrap U64 (pos n)) bytes width start end (map pos rows) → IsUnpacked bytes width start end rows
words_read bytes width start end rows h read =
    let read' = naturals_read U64 bytes width start end (map pos rows) h read in
    let size : length rows ≡ end - start = sym (length-map rows pos) ∙ read'.size in
    record {
      size = size;
      each = λ i below. let e : pos (get_or rows i 0) ≡ pos (packed_row bytes width (start + i)) = sym (get_or-map pos rows i 0 (pos 0) (omega (arith, size))) ∙ read'.each i below in cc;
    }
