-- A list that grows by what the words of a block stand for.
use Rattle.std.proofs.Common.{◌≡◌, ◌∙◌, ◌<◌, ◌≤◌, ◌+◌, ◌-◌, min, ℕ, ℤ, pos, List, ◌++◌, length, map, get_or, take, drop, replicate, sym, ap, subst, arith}
use Rattle.std.proofs.lemmas.List.{get_or-map, length-map}
use Rattle.vx_base.specs.Packed.{packed_row, packed_size}
use Rattle.vx_base.proofs.PackedLemmas.{packed_size_le}
use Rattle.vx_blocks.specs.IsPacked.{IsUnpackedAs}
use Rattle.vx_blocks.proofs.Written.{grown-written}
use Rattle.vx_values.proofs.BlockGrowth.{IsGrown, grown-more}

-- the integer that a row's word stands for
abbrev pub of_row : (ℤ → ℤ) → List ℕ → ℕ → ℕ → ℤ
of_row g bytes width i = g (pos (packed_row bytes width i))

module _ {X Y : Type 0} (g : ℤ → ℤ) (whole : X → ℤ) (natural : Y → ℤ) (bytes : List ℕ) (width len : ℕ) where
  -- a block more: what is written over the items that `resize` adds stands for the block's words
  pub words-more : (items grown part rest : List X) (words : List Y) (x : X) (start n fill all next : ℕ) → start < len → n ≡ min (len - start) 1024 → next ≡ start + 1024 → IsGrown (of_row g bytes width) len (map whole items) start
      → IsUnpackedAs pos bytes width start (start + n) (map natural words) → map whole part ≡ map g (map natural words)
      → grown ≡ take (start + n) items ++ replicate fill x → (length items ≡ start → fill ≡ n) → all ≡ start + n
      → IsGrown (of_row g bytes width) len (map whole (take all ((take start grown ++ (part ++ drop (length part) (drop start grown))) ++ rest))) next
  words-more items grown part rest words x start n fill all next before few after w u is at fresh end =
      let size : length items ≡ start = sym (length-map items whole) ∙ w.full before in
      let count : length (map natural words) ≡ n = omega (arith, u.size) in
      let long : length part ≡ n = sym (length-map part whole) ∙ ap length is ∙ length-map (map natural words) g ∙ count in
      let written = grown-written items grown part rest x start n fill all (sym size) at (fresh size) long end in
      grown-more (pos 0) (of_row g bytes width) len whole items part _ start n next before few after long written w
      (λ k lt. ap (λ l. get_or l k (pos 0)) is ∙ get_or-map g (map natural words) k (pos 0) (pos 0) (omega (arith, count, lt)) ∙ ap g (u.each k (omega (arith, lt))))

-- the bytes of all rows hold those before one of them
pub some-bytes : (width len end size : ℕ) → end ≤ len → size ≡ packed_size width len → packed_size width end ≤ size
some-bytes width len end size le is = subst (λ s. packed_size width end ≤ s) (sym is) (packed_size_le width end len le)
