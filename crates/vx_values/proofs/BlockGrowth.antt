-- A list that grows by a block of 1,024 rows at a time, by the numbers of its rows.
use Rattle.std.proofs.Common.{◌≡◌, ◌∙◌, ℕ, ◌+◌, ◌-◌, ◌<◌, ◌≤◌, min, List, [], ◌++◌, length, map, get_or, refl, sym, ap, subst, arith}
use Rattle.std.specs.List.{range_with_len}
use Rattle.std.proofs.lemmas.List.{length-append, length-map, map-append}
use Rattle.vx_blocks.proofs.Ranges.{map-range_part}

-- the rows before `end`, or all `len` where `end` is beyond them, are those of f
pub record IsGrown {A : Type 0} (f : ℕ → A) (len : ℕ) (xs : List A) (end : ℕ) : Type 0 where
  pub full : end < len → length xs ≡ end
  pub last : len ≤ end → length xs ≡ len
  pub rows : xs ≡ map f (range_with_len 0 (length xs))

module _ {A : Type 0} (z : A) (f : ℕ → A) (len : ℕ) where
  pub grown-none : {X : Type 0} (h : X → A) (items : List X) → items ≡ [] → IsGrown f len (map h items) 0
  grown-none h items is = subst (λ l. IsGrown f len (map h l) 0) (sym is) (record { full = λ lt. refl; last = λ all. omega arith; rows = refl })

  pub grown-all : (xs : List A) (end : ℕ) → len ≤ end → IsGrown f len xs end → xs ≡ map f (range_with_len 0 len)
  grown-all xs end all w = w.rows ∙ ap (λ n. map f (range_with_len 0 n)) (w.last all)

  -- a block more, of items that stand for others
  pub grown-more : {X : Type 0} (h : X → A) (items part made : List X) (start n next : ℕ) → start < len → n ≡ min (len - start) 1024 → next ≡ start + 1024 → length part ≡ n → made ≡ items ++ part → IsGrown f len (map h items) start
      → ((k : ℕ) → k < n → get_or (map h part) k z ≡ f (start + k)) → IsGrown f len (map h made) next
  grown-more h items part made start n next before few end long is w each =
      let size : length (map h items) ≡ start = w.full before in
      let all : length (map h made) ≡ start + n = length-map made h ∙ ap length is ∙ length-append items part ∙ omega (arith, size, length-map items h, long) in
      record {
        full = λ more. all ∙ omega (arith, few);
        last = λ none. all ∙ omega (arith, few);
        rows = ap (map h) is ∙ map-append h items part ∙ ap (λ l. l ++ map h part) (w.rows ∙ ap (λ m. map f (range_with_len 0 m)) size)
            ∙ map-range_part f z start n (map h part) (length-map part h ∙ long) each ∙ ap (λ m. map f (range_with_len 0 m)) (sym all);
      }
