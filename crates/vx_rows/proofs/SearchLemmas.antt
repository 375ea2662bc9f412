-- The leftmost place at which a piece of a pattern fits, and its last piece at the end of a text.
use Rattle.std.proofs.Common.{◌≡◌, ◌<◌, ◌≤◌, ◌∙◌, ℕ, zero, suc, ◌+◌, ◌-◌, Bool, true, false, List, [], ◌∷◌, ◌++◌, map, take, drop, get_or, length, refl, sym, ap, arith}
use Rattle.std.specs.Prelude.{◌&&◌, ◌||◌, ◌==◌}
use Rattle.std.specs.List.{list_all, list_any}
use Rattle.std.proofs.lemmas.List.{drop-drop, drop-map, length-drop, length-map, take-append-drop, take-map, take_all}
use Rattle.std.proofs.lemmas.Bool.{and_from, and_parts, or_right}
use Rattle.vx_rules.specs.Patterns.{PatternItem, any_run, any_char, exactly, matches, suffixes}
use Rattle.vx_rows.specs.Items.{first_passes, starts, takes, takes_one}

-- ---- truth values

and-assoc : (a b d : Bool) → (a && (b && d)) ≡ ((a && b) && d)
and-assoc true b d = refl
and-assoc false b d = refl

and-none : (a b : Bool) → b ≡ false → (a && b) ≡ false
and-none true b h = h
and-none false b h = refl

or-none : (a b : Bool) → a ≡ false → b ≡ false → (a || b) ≡ false
or-none a b h k = λ i. h i || k i

-- what follows from the first alternative is no alternative
or-same : (a b : Bool) → (b ≡ true → a ≡ true) → (a || b) ≡ a
or-same true b h = refl
or-same false true h = sym (h refl)
or-same false false h = refl

-- ---- a piece in front of any characters

module _ (rest : List PatternItem) where
  -- whether the characters match the items behind the piece
  abbrev behind : List ℕ → Bool
  behind cs = matches (any_run ∷ rest) cs

  -- if a suffix matches what is behind any characters, so do more characters
  fewer : (m : ℕ) (cs : List ℕ) → behind (drop (suc m) cs) ≡ true → behind (drop m cs) ≡ true
  fewer zero [] h = h
  fewer (suc m) [] h = h
  fewer zero (c ∷ cs) h = or_right (matches rest (c ∷ cs)) (behind cs) h
  fewer (suc m) (c ∷ cs) h = fewer m cs h

  more : (n : ℕ) (c : ℕ) (cs : List ℕ) → behind (drop n cs) ≡ true → behind (drop n (c ∷ cs)) ≡ true
  more zero c cs h = or_right (matches rest (c ∷ cs)) (behind cs) h
  more (suc n) c cs h = fewer n cs h

-- a piece takes the first characters, and the others match what is behind it
split : (piece rest : List PatternItem) (cs : List ℕ) → list_all takes_one piece ≡ true → matches (piece ++ any_run ∷ rest) cs ≡ (starts piece cs && matches (any_run ∷ rest) (drop (length piece) cs))
split [] rest [] h = refl
split [] rest (c ∷ cs) h = refl
split (any_run ∷ piece) rest cs h = absurd cc
split (any_char ∷ piece) rest [] h = refl
split (any_char ∷ piece) rest (c ∷ cs) h = split piece rest cs h
split (exactly d ∷ piece) rest [] h = refl
split (exactly d ∷ piece) rest (c ∷ cs) h = ap (λ b. (c == d) && b) (split piece rest cs h) ∙ and-assoc (c == d) _ _

module _ (piece rest : List PatternItem) (ones : list_all takes_one piece ≡ true) where
  -- the items of the piece and those behind it
  abbrev all : List PatternItem
  all = piece ++ any_run ∷ rest

  after : (cs : List ℕ) → matches all cs ≡ true → behind rest (drop (length piece) cs) ≡ true
  after cs h = (and_parts _ _ (sym (split piece rest cs ones) ∙ h)).1

  -- wherever the piece fits, what is behind it matches what is behind the first place
  bound : (cs : List ℕ) → list_any (matches all) (suffixes cs) ≡ true → behind rest (drop (length piece) cs) ≡ true
  bound [] h = by (matches all []) refl h
    where
      by : (b : Bool) → matches all [] ≡ b → (b || false) ≡ true → behind rest (drop (length piece) []) ≡ true
      by true e k = after [] e
      by false e k = absurd cc
  bound (c ∷ cs) h = by (matches all (c ∷ cs)) refl h (λ k. more rest (length piece) c cs (bound cs k))
    where
      by : (b : Bool) → matches all (c ∷ cs) ≡ b → (b || list_any (matches all) (suffixes cs)) ≡ true → (list_any (matches all) (suffixes cs) ≡ true → behind rest (drop (length piece) (c ∷ cs)) ≡ true) → behind rest (drop (length piece) (c ∷ cs)) ≡ true
      by true e k later = after (c ∷ cs) e
      by false e k later = later k

  here : (cs : List ℕ) → starts piece cs ≡ true → matches all cs ≡ behind rest (drop (length piece) cs)
  here cs h = split piece rest cs ones ∙ ap (λ b. b && behind rest (drop (length piece) cs)) h

  not-here : (cs : List ℕ) → starts piece cs ≡ false → matches all cs ≡ false
  not-here cs h = split piece rest cs ones ∙ ap (λ b. b && behind rest (drop (length piece) cs)) h

  -- at the first place
  at-once : (cs : List ℕ) → starts piece cs ≡ true → list_any (matches all) (suffixes cs) ≡ behind rest (drop (length piece) cs)
  at-once [] h = or-same (matches all []) false (λ k. absurd cc) ∙ here [] h
  at-once (c ∷ cs) h = or-same (matches all (c ∷ cs)) _ (λ k. here (c ∷ cs) h ∙ more rest (length piece) c cs (bound cs k)) ∙ here (c ∷ cs) h

  -- at the leftmost place
  leftmost : (p : ℕ) (cs : List ℕ) → starts piece (drop p cs) ≡ true → ((k : ℕ) → k < p → starts piece (drop k cs) ≡ false) → list_any (matches all) (suffixes cs) ≡ behind rest (drop (length piece) (drop p cs))
  leftmost zero [] h none = at-once [] h
  leftmost (suc p) [] h none = at-once [] h
  leftmost zero (c ∷ cs) h none = at-once (c ∷ cs) h
  leftmost (suc p) (c ∷ cs) h none =
      ap (λ b. b || list_any (matches all) (suffixes cs)) (not-here (c ∷ cs) (none zero (omega arith)))
      ∙ leftmost p cs h (λ k l. none (suc k) (omega (arith, l)))

  pub found : (p k : ℕ) (cs : List ℕ) → k ≡ p + length piece → starts piece (drop p cs) ≡ true → ((k : ℕ) → k < p → starts piece (drop k cs) ≡ false) → matches (any_run ∷ piece ++ any_run ∷ rest) cs ≡ matches (any_run ∷ rest) (drop k cs)
  found p k cs e h none = leftmost p cs h none ∙ ap (behind rest) (drop-drop (length piece) p cs ∙ ap (λ m. drop m cs) (sym e))

  -- nowhere
  pub missed : (cs : List ℕ) → ((k : ℕ) → starts piece (drop k cs) ≡ false) → matches (any_run ∷ piece ++ any_run ∷ rest) cs ≡ false
  missed [] none = or-none _ _ (not-here [] (none zero)) refl
  missed (c ∷ cs) none = or-none _ _ (not-here (c ∷ cs) (none zero)) (missed cs (λ k. none (suc k)))

-- ---- the last piece

shorter : (piece : List PatternItem) (cs : List ℕ) → list_all takes_one piece ≡ true → length cs < length piece → matches piece cs ≡ false
shorter [] cs p h = absurd (omega arith)
shorter (any_run ∷ piece) cs p h = absurd cc
shorter (any_char ∷ piece) [] p h = refl
shorter (any_char ∷ piece) (c ∷ cs) p h = shorter piece cs p (omega arith)
shorter (exactly d ∷ piece) [] p h = refl
shorter (exactly d ∷ piece) (c ∷ cs) p h = and-none (c == d) _ (shorter piece cs p (omega arith))

longer : (piece : List PatternItem) (cs : List ℕ) → list_all takes_one piece ≡ true → length piece < length cs → matches piece cs ≡ false
longer piece [] p h = absurd (omega arith)
longer [] (c ∷ cs) p h = refl
longer (any_run ∷ piece) (c ∷ cs) p h = absurd cc
longer (any_char ∷ piece) (c ∷ cs) p h = longer piece cs p (omega arith)
longer (exactly d ∷ piece) (c ∷ cs) p h = and-none (c == d) _ (longer piece cs p (omega arith))

equal : (piece : List PatternItem) (cs : List ℕ) → list_all takes_one piece ≡ true → length piece ≡ length cs → matches piece cs ≡ starts piece cs
equal [] [] p h = refl
equal [] (c ∷ cs) p h = absurd (omega arith)
equal (any_run ∷ piece) cs p h = absurd cc
equal (any_char ∷ piece) [] p h = refl
equal (any_char ∷ piece) (c ∷ cs) p h = equal piece cs p (omega arith)
equal (exactly d ∷ piece) [] p h = refl
equal (exactly d ∷ piece) (c ∷ cs) p h = ap (λ b. (c == d) && b) (equal piece cs p (omega arith))

-- of a text with fewer characters
pub too-short : (piece : List PatternItem) (cs : List ℕ) → list_all takes_one piece ≡ true → length cs < length piece → matches (any_run ∷ piece) cs ≡ false
too-short piece [] p h = or-none _ _ (shorter piece [] p h) refl
too-short piece (c ∷ cs) p h = or-none _ _ (shorter piece (c ∷ cs) p h) (too-short piece cs p (omega arith))

-- and with as many or more
pub at-end : (piece : List PatternItem) (cs : List ℕ) (k : ℕ) → list_all takes_one piece ≡ true → k + length piece ≡ length cs → matches (any_run ∷ piece) cs ≡ starts piece (drop k cs)
at-end piece [] zero p h = or-same _ false (λ e. absurd cc) ∙ equal piece [] p (omega (arith, h))
at-end piece [] (suc k) p h = absurd (omega arith)
at-end piece (c ∷ cs) zero p h =
    ap (λ b. matches piece (c ∷ cs) || b) (too-short piece cs p (omega arith)) ∙ or-same _ false (λ e. absurd cc) ∙ equal piece (c ∷ cs) p (omega (arith, h))
at-end piece (c ∷ cs) (suc k) p h =
    ap (λ b. b || list_any (matches piece) (suffixes cs)) (longer piece (c ∷ cs) p (omega arith)) ∙ at-end piece cs k p (omega arith)

-- ---- item by item

pub ones-more : {A : Type 0} (plain : A → PatternItem) (xs : List A) (i k : ℕ) (x : A) → i < length xs → k ≡ i + 1 → list_all takes_one (take i (map plain xs)) ≡ true → takes_one (plain (get_or xs i x)) ≡ true → list_all takes_one (take k (map plain xs)) ≡ true
ones-more plain xs i k x h e so one =
    let next : k ≡ suc i = omega arith in
    ap (λ m. list_all takes_one (take m (map plain xs))) next ∙ more-of xs i h so one
  where
    more-of : (xs : List _) (i : ℕ) → i < length xs → list_all takes_one (take i (map plain xs)) ≡ true → takes_one (plain (get_or xs i x)) ≡ true → list_all takes_one (take (suc i) (map plain xs)) ≡ true
    more-of [] i h so one = absurd (omega arith)
    more-of (a ∷ xs) zero h so one = and_from _ _ one refl
    more-of (a ∷ xs) (suc i) h so one = let s = and_parts _ _ so in and_from _ _ s.0 (more-of xs i (omega arith) s.1 one)

pub run-is : (item : PatternItem) → takes_one item ≡ false → item ≡ any_run
run-is any_run h = refl
run-is any_char h = absurd cc
run-is (exactly d) h = absurd cc

-- none before, and not there
pub one-more : (F : ℕ → Bool) (p : ℕ) → ((k : ℕ) → k < p → F k ≡ false) → F p ≡ false → (k : ℕ) → k < p + 1 → F k ≡ false
one-more F zero none there zero h = there
one-more F zero none there (suc k) h = absurd (omega (arith, h))
one-more F (suc p) none there zero h = none zero (omega arith)
one-more F (suc p) none there (suc k) h = one-more (λ j. F (suc j)) p (λ j l. none (suc j) (omega (arith, l))) there k (omega (arith, h))

-- none before, and none from there on
pub everywhere : (F : ℕ → Bool) (p : ℕ) → ((k : ℕ) → k < p → F k ≡ false) → ((k : ℕ) → p ≤ k → F k ≡ false) → (k : ℕ) → F k ≡ false
everywhere F zero none later k = later k (omega arith)
everywhere F (suc p) none later zero = none zero (omega arith)
everywhere F (suc p) none later (suc k) = everywhere (λ j. F (suc j)) p (λ j l. none (suc j) (omega (arith, l))) (λ j l. later (suc j) (omega (arith, l))) k

unstarted : (items : List PatternItem) (cs : List ℕ) → length cs < length items → starts items cs ≡ false
unstarted [] cs h = absurd (omega arith)
unstarted (item ∷ items) [] h = refl
unstarted (item ∷ items) (c ∷ cs) h = and-none (takes item c) _ (unstarted items cs (omega arith))

pub rest-of : {B C : Type 0} (code : B → C) (ys : List B) (i : ℕ) → map code (take (length ys - i) (drop i ys)) ≡ drop i (map code ys)
rest-of code ys i = ap (map code) (take_all (length ys - i) (drop i ys) (omega (arith, length-drop i ys))) ∙ sym (drop-map code i ys)

module _ {A B : Type 0} (plain : A → PatternItem) (code : B → ℕ) where
  -- too near the end
  pub too-far : (xs : List A) (ys : List B) (k : ℕ) → 0 < length xs → length ys < length xs + k → starts (map plain xs) (drop k (map code ys)) ≡ false
  too-far xs ys k some h = unstarted (map plain xs) (drop k (map code ys)) (omega (arith, length-map xs plain, length-map ys code, length-drop k (map code ys)))

  -- the first item fails
  pub first-fails : (xs : List A) (ys : List B) (i : ℕ) (x : A) (r : B) → 0 < length xs → i < length ys → r ≡ get_or ys i r → takes (plain (get_or xs 0 x)) (code r) ≡ false → starts (map plain xs) (drop i (map code ys)) ≡ false
  first-fails xs ys i x r h k e fails = at xs ys i h k (ap (λ y. takes (plain (get_or xs 0 x)) (code y)) (sym e) ∙ fails)
    where
      at : (xs : List A) (ys : List B) (i : ℕ) → 0 < length xs → i < length ys → takes (plain (get_or xs 0 x)) (code (get_or ys i r)) ≡ false → starts (map plain xs) (drop i (map code ys)) ≡ false
      at [] ys i h k f = absurd (omega arith)
      at (a ∷ xs) [] i h k f = absurd (omega arith)
      at (a ∷ xs) (b ∷ ys) zero h k f = ap (λ t. t && starts (map plain xs) (map code ys)) f
      at (a ∷ xs) (b ∷ ys) (suc i) h k f = at (a ∷ xs) ys i h (omega arith) f

  step : (xs : List A) (ys : List B) (i : ℕ) (x : A) (y : B) → i < length xs → i < length ys → starts (drop i (map plain xs)) (drop i (map code ys)) ≡ (takes (plain (get_or xs i x)) (code (get_or ys i y)) && starts (drop (suc i) (map plain xs)) (drop (suc i) (map code ys)))
  step [] ys i x y h k = absurd (omega arith)
  step (a ∷ xs) [] i x y h k = absurd (omega arith)
  step (a ∷ xs) (b ∷ ys) zero x y h k = refl
  step (a ∷ xs) (b ∷ ys) (suc i) x y h k = step xs ys i x y (omega arith) (omega arith)

  module _ (xs : List A) (ys : List B) (i : ℕ) (x : A) (r : B) (whole b : Bool) (h : i < length xs) (k : i < length ys) (r_is : r ≡ get_or ys i r) (b_is : b ≡ takes (plain (get_or xs i x)) (code r)) (so : whole ≡ starts (drop i (map plain xs)) (drop i (map code ys))) where
    abbrev left : Bool
    left = starts (drop (suc i) (map plain xs)) (drop (suc i) (map code ys))

    both : whole ≡ (b && left)
    both = so ∙ step xs ys i x r h k ∙ ap (λ t. t && left) (sym (b_is ∙ ap (λ y. takes (plain (get_or xs i x)) (code y)) r_is))

    pub refused : b ≡ false → whole ≡ false
    refused e = both ∙ ap (λ t. t && left) e

    pub taken : (m : ℕ) → m ≡ i + 1 → b ≡ true → whole ≡ starts (drop m (map plain xs)) (drop m (map code ys))
    taken m f e =
        let one : m ≡ suc i = omega arith in
        both ∙ ap (λ t. t && left) e ∙ sym (ap (λ j. starts (drop j (map plain xs)) (drop j (map code ys))) one)

-- the first character behind a place
pub first-there : {B : Type 0} (code : B → ℕ) (passes : ℕ → Bool) (ys : List B) (i : ℕ) (y : B) → i < length ys → y ≡ get_or ys i y → passes (code y) ≡ first_passes passes (drop i (map code ys))
first-there code passes ys i y h e = ap (λ z. passes (code z)) e ∙ at ys i h
  where
    at : (ys : List _) (i : ℕ) → i < length ys → passes (code (get_or ys i y)) ≡ first_passes passes (drop i (map code ys))
    at [] i h = absurd (omega arith)
    at (b ∷ ys) zero h = refl
    at (b ∷ ys) (suc i) h = at ys i (omega arith)

-- characters are their own codes
pub codes_same : (cs : List ℕ) → map (λ c. c) cs ≡ cs
codes_same [] = refl
codes_same (c ∷ cs) = ap (λ ds. c ∷ ds) (codes_same cs)

pub length-plain : {A : Type 0} (plain : A → PatternItem) (xs : List A) → length (map plain xs) ≡ length xs
length-plain plain xs = length-map xs plain

-- ---- pieces of a pattern

module _ {A : Type 0} (plain : A → PatternItem) (xs : List A) (n k : ℕ) (h : n < length xs) (e : k ≡ n + 1) where
  -- a piece, any characters, and the items behind them
  pub cut : drop n (map plain xs) ≡ any_run ∷ drop k (map plain xs) → map plain xs ≡ map plain (take n xs) ++ any_run ∷ map plain (drop k xs)
  cut run = sym (take-append-drop n (map plain xs)) ∙ (λ i. take-map plain n xs i ++ run i) ∙ ap (λ ys. map plain (take n xs) ++ any_run ∷ ys) (drop-map plain k xs)

  pub ones-taken : list_all takes_one (take n (map plain xs)) ≡ true → list_all takes_one (map plain (take n xs)) ≡ true
  ones-taken ones = ap (list_all takes_one) (sym (take-map plain n xs)) ∙ ones

  pub fewer-left : length (take (length xs - k) (drop k xs)) < length xs
  fewer-left = omega (arith, h, e, length-drop k xs, ap length (take_all (length xs - k) (drop k xs) (omega (arith, length-drop k xs))))
