-- Zeros beneath nulls, a block of rows at a time: n rows from a on are appended, and then they alone are passed over.
use Rattle.std.proofs.Common.{◌≡◌, ◌∙◌, ◌≤◌, ◌+◌, ◌-◌, ℕ, suc, ℤ, pos, Bool, List, [], ◌∷◌, ◌++◌, length, map, take, drop, refl, sym, ap, arith, append-nil, cond, take-add}
use Rattle.std.proofs.lemmas.List.{length-append, length-drop, length-map, length-take-le, map-append, take_all, drop_all, take_at, drop_at, take-map, drop-map}
use Rattle.vx_model.specs.Decoded.{zeroed}
use borrow.Rule.Slice.PartMut.{post_of}

zeroed-length : {A : Type 0} (default : A) (bits : List Bool) (xs : List A) → length (zeroed default bits xs) ≡ length xs
zeroed-length default [] xs = refl
zeroed-length default (b ∷ bits) [] = refl
zeroed-length default (b ∷ bits) (x ∷ xs) = ap suc (zeroed-length default bits xs)

zeroed-append : {A : Type 0} (default : A) (bits more : List Bool) (xs ys : List A) → length bits ≡ length xs → zeroed default (bits ++ more) (xs ++ ys) ≡ zeroed default bits xs ++ zeroed default more ys
zeroed-append default [] more [] ys h = refl
zeroed-append default [] more (x ∷ xs) ys h = absurd (omega (arith, h))
zeroed-append default (b ∷ bits) more [] ys h = absurd (omega (arith, h))
zeroed-append default (b ∷ bits) more (x ∷ xs) ys h = ap (λ zs. cond b x default ∷ zs) (zeroed-append default bits more xs ys (omega (arith, h)))

module _ {A : Type 0} (whole : A → ℤ) (copy items : List A) (bits : List Bool) (a : ℕ) (before : a ≤ length items) (done : map whole copy ≡ zeroed (pos 0) (take a bits) (take a (map whole items))) where
  -- the copy has a rows
  copied-length : length copy ≡ a
  copied-length =
      sym (length-map copy whole) ∙ ap length done ∙ zeroed-length (pos 0) (take a bits) (take a (map whole items))
      ∙ length-take-le a (map whole items) (omega (arith, length-map items whole, before))

  -- a block more is copied and passed over
  module _ (n : ℕ) (room : a + n ≤ length items) (same : length bits ≡ length items) (held new : List A) (is : held ≡ copy ++ take (a + n - a) (drop a items)) where
    abbrev part : List A
    part = take (a + n - a) (drop a items)

    part-long : length part ≡ n
    part-long = let own : a + n - a ≡ n = omega arith in ap (λ m. length (take m (drop a items))) own ∙ length-take-le n (drop a items) (omega (arith, length-drop a items, room))

    pub held-long : length held ≡ a + n
    held-long = ap length is ∙ length-append copy part ∙ (λ i. copied-length i + part-long i)

    pub tail-is : take (length held - a) (drop a held) ≡ part
    tail-is =
        let behind : drop a held ≡ part = ap (drop a) is ∙ drop_at copy part a copied-length in
        ap (take (length held - a)) behind ∙ take_all (length held - a) part (omega (arith, held-long, part-long))

    wholes-of-part : map whole part ≡ take n (drop a (map whole items))
    wholes-of-part =
        let own : a + n - a ≡ n = omega arith in
        ap (λ m. map whole (take m (drop a items))) own ∙ sym (ap (take n) (drop-map whole a items) ∙ take-map whole n (drop a items))

    abbrev pub written : List A
    written = take a held ++ (new ++ post_of a (length held - a) held)

    written-is : written ≡ copy ++ new
    written-is =
        let front : take a held ≡ copy = ap (take a) is ∙ take_at copy part a copied-length in
        let post : post_of a (length held - a) held ≡ [] = drop_all (length held - a) (drop a held) (omega (arith, length-drop a held)) in
        (λ i. front i ++ (new ++ post i)) ∙ ap (λ xs. copy ++ xs) (append-nil new)

    module _ (made : map whole new ≡ zeroed (pos 0) (take (a + n - a) (drop a bits)) (map whole (take (length held - a) (drop a held)))) where
      new-long : length new ≡ n
      new-long =
          let tail = take (length held - a) (drop a held) in
          sym (length-map new whole) ∙ ap length made ∙ zeroed-length (pos 0) (take (a + n - a) (drop a bits)) (map whole tail)
          ∙ length-map tail whole ∙ ap length tail-is ∙ part-long

      -- all rows are still there
      pub written-long : length written ≡ length held
      written-long = ap length written-is ∙ length-append copy new ∙ (λ i. copied-length i + new-long i) ∙ sym held-long

      pub block-zeroed : map whole written ≡ zeroed (pos 0) (take (a + n) bits) (take (a + n) (map whole items))
      block-zeroed =
          let own : a + n - a ≡ n = omega arith in
          let more : map whole new ≡ zeroed (pos 0) (take n (drop a bits)) (take n (drop a (map whole items))) =
          made ∙ (λ i. zeroed (pos 0) (take (own i) (drop a bits)) (map whole (tail-is i))) ∙ ap (zeroed (pos 0) (take n (drop a bits))) wholes-of-part in
          let long : length (take a bits) ≡ length (take a (map whole items)) =
          length-take-le a bits (omega (arith, same, before)) ∙ sym (length-take-le a (map whole items) (omega (arith, length-map items whole, before))) in
          ap (map whole) written-is ∙ map-append whole copy new ∙ (λ i. done i ++ more i)
          ∙ sym (zeroed-append (pos 0) (take a bits) (take n (drop a bits)) (take a (map whole items)) (take n (drop a (map whole items))) long)
          ∙ sym (λ i. zeroed (pos 0) (take-add a n bits i) (take-add a n (map whole items) i))
