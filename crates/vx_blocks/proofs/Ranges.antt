-- Lists by the numbers of their rows, one row more at a time.
use Rattle.std.proofs.Common.{◌≡◌, ℕ, zero, suc, ◌+◌, ◌-◌, ◌<◌, ◌≤◌, Bool, cond, List, [], ◌∷◌, ◌++◌, length, map, get_or, take, replicate, refl, sym, ap, ◌∙◌, arith, append_assoc}
use Rattle.std.specs.Prelude.{filter}
use Rattle.std.specs.List.{range_with_len}
use Rattle.std.proofs.lemmas.List.{append-nil, length-map, map-append, take_all}
use Rattle.std.proofs.lemmas.List.Elements.{filter-append}
use Rattle.std.proofs.lemmas.List.FromFn.{map-range_with_len_more, length-map-range_with_len}

range-last : (start n j : ℕ) → start + n ≡ j → range_with_len start (suc n) ≡ range_with_len start n ++ j ∷ []
range-last start zero j e = let same : start ≡ j = omega arith in ap (λ k. k ∷ []) same
range-last start (suc n) j e = ap (λ l. start ∷ l) (range-last (start + 1) n j (omega arith))

-- what passes a test, with one number more
pub filter-range_more : (p : ℕ → Bool) (start n j : ℕ) → start + n ≡ j → filter p (range_with_len start (n + 1)) ≡ filter p (range_with_len start n) ++ cond (p j) (j ∷ []) []
filter-range_more p start n j e =
    let next : n + 1 ≡ suc n = omega arith in
    ap (λ m. filter p (range_with_len start m)) next ∙ ap (filter p) (range-last start n j e) ∙ filter-append p (range_with_len start n) (j ∷ [])

module _ {X : Type 0} (f : ℕ → X) where
  pub map-range_more : (n : ℕ) (x : X) → x ≡ f n → map f (range_with_len 0 (n + 1)) ≡ map f (range_with_len 0 n) ++ x ∷ []
  map-range_more n x is = map-range_with_len_more f 0 n n (omega arith) ∙ ap (λ y. map f (range_with_len 0 n) ++ y ∷ []) (sym is)

  -- some items more, each at its place
  pub map-range_part : (d : X) (n count : ℕ) (part : List X) → length part ≡ count → ((k : ℕ) → k < count → get_or part k d ≡ f (n + k)) → map f (range_with_len 0 n) ++ part ≡ map f (range_with_len 0 (n + count))
  map-range_part d n count [] long each = let same : n ≡ n + count = omega arith in append-nil (map f (range_with_len 0 n)) ∙ ap (λ m. map f (range_with_len 0 m)) same
  map-range_part d n count (x ∷ part) long each =
      let at : n + 0 ≡ n = omega arith in
      let end : n + 1 + (count - 1) ≡ n + count = omega arith in
      sym (append_assoc (map f (range_with_len 0 n)) (x ∷ []) part) ∙ ap (λ l. l ++ part) (sym (map-range_more n x (each 0 (omega arith) ∙ ap f at)))
      ∙ map-range_part d (n + 1) (count - 1) part (omega arith) (λ k h. let next : n + suc k ≡ n + 1 + k = omega arith in each (suc k) (omega arith) ∙ ap f next) ∙ ap (λ m. map f (range_with_len 0 m)) end

  -- ---- a list that is filled up with one item

  module _ (d : X) where
    padded : (n count : ℕ) → ((k : ℕ) → n ≤ k → f k ≡ d) → map f (range_with_len 0 (n + count)) ≡ map f (range_with_len 0 n) ++ replicate count d
    padded n zero none = let same : n + 0 ≡ n = omega arith in ap (λ m. map f (range_with_len 0 m)) same ∙ sym (append-nil (map f (range_with_len 0 n)))
    padded n (suc count) none =
        let next : n + suc count ≡ n + 1 + count = omega arith in
        ap (λ m. map f (range_with_len 0 m)) next ∙ padded (n + 1) count (λ k h. none k (omega arith)) ∙ ap (λ l. l ++ replicate count d) (map-range_more n d (sym (none n (omega arith))))
        ∙ append_assoc (map f (range_with_len 0 n)) (d ∷ []) (replicate count d)

    -- by `resize`, of items that stand for others
    pub resized : {Y : Type 0} (g : Y → X) (items made : List Y) (y : Y) (n size len : ℕ) → n ≤ size → ((k : ℕ) → n ≤ k → f k ≡ d) → len ≡ length items → g y ≡ d → map g items ≡ map f (range_with_len 0 n)
        → made ≡ take size items ++ replicate (size - len) y → map g made ≡ map f (range_with_len 0 size)
    resized g items made y n size len room none long is so_far made-is =
        let same : length items ≡ n = sym (length-map items g) ∙ ap length so_far ∙ length-map-range_with_len f 0 n in
        let rest : size - len ≡ size - n = omega arith in
        let end : n + (size - n) ≡ size = omega arith in
        ap (map g) (made-is ∙ ap (λ l. l ++ replicate (size - len) y) (take_all size items (omega arith))) ∙ map-append g items (replicate (size - len) y)
        ∙ (let fill = map-replicate g y (size - len) in λ k. so_far k ++ fill k) ∙ (λ k. map f (range_with_len 0 n) ++ replicate (rest k) (is k)) ∙ sym (padded n (size - n) none) ∙ ap (λ m. map f (range_with_len 0 m)) end
      where
        map-replicate : {A B : Type 0} (h : A → B) (a : A) (count : ℕ) → map h (replicate count a) ≡ replicate count (h a)
        map-replicate h a zero = refl
        map-replicate h a (suc count) = ap (λ l. h a ∷ l) (map-replicate h a count)
