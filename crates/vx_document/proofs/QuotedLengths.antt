-- The lengths of JSON strings.
use Rattle.std.proofs.Common.{◌≡◌, ◌∙◌, ◌<◌, ◌≤◌, ◌+◌, ◌∷◌, ◌++◌, [], ℕ, List, Bool, true, false, cond, length, get_or, take, sym, ap, arith, length-append}
use Rattle.std.specs.Prelude.{◌/◌, ◌%◌, nat_lt}
use Rattle.std.specs.Char.{digit_char}
use Rattle.std.specs.List.{flat_map}
use Rattle.std.proofs.lemmas.Grind.{flat_map-append}
use Rattle.std.proofs.lemmas.List.{take_more}
use Rattle.json.specs.Print.{escape_byte, escape_letter, quoted}

-- each byte takes at least one
some : (x : ℕ) → 1 ≤ length (escape_byte x)
unfolding escape_byte
some x = by (nat_lt 0 (escape_letter x)) (nat_lt x 32)
  where
    by : (short below : Bool)
        → 1 ≤ length (cond short (92 ∷ escape_letter x ∷ []) (cond below (92 ∷ 117 ∷ 48 ∷ 48 ∷ digit_char (x / 16) ∷ digit_char (x % 16) ∷ []) (x ∷ [])))
    by true below = omega arith
    by false true = omega arith
    by false false = omega arith

escaped-least : (xs : List ℕ) → length xs ≤ length (flat_map escape_byte xs)
escaped-least [] = omega arith
escaped-least (x ∷ xs) =
    let here = some x in
    let rest = escaped-least xs in
    omega (arith, length-append (escape_byte x) (flat_map escape_byte xs), here, rest)

-- a string has its quotes and at least a byte for each of its own
pub quoted-least : (xs : List ℕ) → length xs ≤ length (quoted xs)
quoted-least xs = let least = escaped-least xs in omega (arith, length-append (flat_map escape_byte xs) (34 ∷ []), least)

-- one byte more
pub escaped_more : (xs : List ℕ) (i x : ℕ) → i < length xs → x ≡ get_or xs i x
    → length (flat_map escape_byte (take (i + 1) xs)) ≡ length (flat_map escape_byte (take i xs)) + length (escape_byte x)
escaped_more xs i x l e =
    let next = take_more xs i x l ∙ ap (λ y. take i xs ++ y ∷ []) (sym e) in
    let apart = flat_map-append escape_byte (take i xs) (x ∷ []) in
    let last = length-append (escape_byte x) [] in
    omega (arith, ap (λ ys. length (flat_map escape_byte ys)) next, ap length apart, length-append (flat_map escape_byte (take i xs)) (escape_byte x ++ []), last)
