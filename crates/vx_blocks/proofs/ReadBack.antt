use Rattle.std.proofs.Common.{◌≡◌, ℕ, ◌+◌, ◌-◌, ◌<◌, Bool, false, List, length, get_or, map, ◌∙◌, arith, sym, refl, ℤ, pos}
use Rattle.std.proofs.lemmas.List.{length-map, get_or-map}
use Rattle.vx_base.specs.declared.ptype.PType.{PType}
use Rattle.vx_base.specs.Integers.{bits_in}
use Rattle.vx_base.specs.Packed.{packed_row, kept_row, kept_rows}
use Rattle.vx_blocks.specs.IsPacked.{IsPacked}
use Rattle.vx_blocks.specs.GivesBack.{Unpacks, bits_at, is_set_at, GivesBackValues, GivesBackKeptRows}
use Rattle.vx_blocks.proofs.Rows.{kept_row-fits, kept_rows-get, length-kept_rows, kept_rows-fit}
use Rattle.vx_blocks.proofs.Windows.{row_in-packed_number}

-- what was packed is read back: the value of a valid row that fits, else 0
pub unpacked : (width : ℕ) (bits : List ℕ) (valid : List Bool) (bytes : List ℕ) (i : ℕ) → length valid ≡ length bits → i < length bits → IsPacked width (kept_rows width bits valid) bytes
    → packed_row bytes width i ≡ kept_row width (get_or bits i 0) (get_or valid i false)
unpacked width bits valid bytes i e h packed =
    rw packed.number (row_in-packed_number width (kept_rows width bits valid) i (kept_rows-fit width bits valid) (rw (length-kept_rows width bits valid e) h) ∙ kept_rows-get width bits valid i e h)

gives-kept_row : (kind : PType) (values : List ℤ) (valid : List Bool) (width start end : ℕ) (rows : List ℕ) → Unpacks kind values valid width start end rows
    → (i : ℕ) → i < end - start → get_or rows i 0 ≡ kept_row width (bits_at kind values (start + i)) (is_set_at valid (start + i))
gives-kept_row kind values valid width start end rows u i h =
    let l : length (map (bits_in kind) values) ≡ length values = length-map values (bits_in kind) in
    let at : start + i < length values = omega (arith, u.within) in
    let bits : get_or (map (bits_in kind) values) (start + i) 0 ≡ bits_at kind values (start + i) = get_or-map (bits_in kind) values (start + i) (pos 0) 0 at in
    u.unpacked.each i h ∙ unpacked width (map (bits_in kind) values) valid u.bytes (start + i) (u.same ∙ sym l) (rw l at) u.packed ∙ rw bits refl

pub gives_back_kept_rows : GivesBackKeptRows
gives_back_kept_rows = gives-kept_row

pub gives_back_values : GivesBackValues
gives_back_values kind values valid width start end rows u i h is_valid fits =
    gives-kept_row kind values valid width start end rows u i h ∙ kept_row-fits width (bits_at kind values (start + i)) (is_set_at valid (start + i)) is_valid fits
