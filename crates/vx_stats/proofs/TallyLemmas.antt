-- What is seen of integers, step by step.
use Rattle.std.proofs.Common.{◌≡◌, ℕ, zero, suc, ◌+◌, ◌-◌, ◌<◌, ◌≤◌, ℤ, Bool, true, false, cond, List, [], ◌∷◌, ◌++◌, length, map, take, drop, get_or, refl, sym, ap, ◌∙◌, arith}
use Rattle.std.specs.Prelude.{◌≤ℤ◌, fold}
use Rattle.std.specs.List.{list_all, list_any}
use Rattle.std.specs.Int.{int_min, int_max}
use Rattle.std.specs.Ordering.{int_eq}
use Rattle.std.proofs.lemmas.Int.{ints}
use Rattle.std.proofs.lemmas.List.{drop_more, drop_all, drop-drop, length-drop}
use Rattle.std.proofs.lemmas.List.Sums.{fold-append}
use Rattle.vx_base.specs.PlainValue.{int}
use Rattle.vx_model.specs.Rows.{masked_rows}
use Rattle.vx_stats.specs.Stats.{valid_wholes, runs_after}
use Rattle.vx_stats.specs.Tally.{IsTallyAfter, SpansLast, last_from, tally_of}
use Rattle.vx_stats.specs.declared.integer.tally.Tally.{Tally}

-- ---- what is left to see from a row on

abbrev pub left : {T : Type 0} → (T → ℤ) → List T → List Bool → ℕ → List ℤ
left whole items bits row = valid_wholes (masked_rows (drop row bits) (map int (map whole (drop row items))))

valid_wholes-masked : {T : Type 0} (whole : T → ℤ) (bit : Bool) (bits : List Bool) (x : T) (items : List T)
    → valid_wholes (masked_rows (bit ∷ bits) (map int (map whole (x ∷ items)))) ≡ cond bit (whole x ∷ valid_wholes (masked_rows bits (map int (map whole items)))) (valid_wholes (masked_rows bits (map int (map whole items))))
valid_wholes-masked whole true bits x items = refl
valid_wholes-masked whole false bits x items = refl

pub left-next : {T : Type 0} (whole : T → ℤ) (items : List T) (bits : List Bool) (row : ℕ) (x : T) → row < length items → length bits ≡ length items → x ≡ get_or items row x
    → left whole items bits row ≡ cond (get_or bits row false) (whole x ∷ left whole items bits (row + 1)) (left whole items bits (row + 1))
left-next whole items bits row x within same is =
    let rest = drop_more items row x within in
    let flags = drop_more bits row false (omega arith) in
    rw (rest, flags, ← is) (valid_wholes-masked whole (get_or bits row false) (drop (row + 1) bits) x (drop (row + 1) items))

-- ---- one more integer, or the last one again

twice-min : (m x : ℤ) → int_min (int_min m x) x ≡ int_min m x
twice-min m x = grind (arith, ints)

twice-max : (m x : ℤ) → int_max (int_max m x) x ≡ int_max m x
twice-max m x = grind (arith, ints)

pub same-eq : (x : ℤ) → int_eq x x ≡ true
same-eq x = grind (arith, ints)

pub record IsStep (last min max item : ℤ) (change : ℕ) (low high : ℤ) (here next : List ℤ) : Type 0 where
  pub above : int_min low item ≡ low
  pub below : int_max high item ≡ high
  pub changes : change + runs_after item next ≡ runs_after last here
  pub least : fold int_min low next ≡ fold int_min min here
  pub greatest : fold int_max high next ≡ fold int_max max here
  pub final : last_from item next ≡ last_from last here

plain-step : (bit : Bool) (last min max x : ℤ) (next : List ℤ) → int_min min last ≡ min → int_max max last ≡ max
    → let item = cond bit x last in IsStep last min max item (cond (int_eq last item) 0 1) (int_min min item) (int_max max item) (cond bit (x ∷ next) next) next
plain-step true last min max x next above below = record { above = twice-min min x; below = twice-max max x; changes = refl; least = refl; greatest = refl; final = refl }
plain-step false last min max x next above below =
    record {
      above = twice-min min last;
      below = twice-max max last;
      changes = ap (λ t. cond t 0 1 + runs_after last next) (same-eq last) ∙ omega arith;
      least = ap (λ m. fold int_min m next) above;
      greatest = ap (λ m. fold int_max m next) below;
      final = refl;
    }

pub step : (bit : Bool) (last min max x item : ℤ) (change : ℕ) (low high : ℤ) (here next : List ℤ) → int_min min last ≡ min → int_max max last ≡ max
    → item ≡ cond bit x last → change ≡ cond (int_eq last item) 0 1 → low ≡ int_min min item → high ≡ int_max max item → here ≡ cond bit (x ∷ next) next
    → IsStep last min max item change low high here next
step bit last min max x item change low high here next above below is differs lower higher now = rw (now, differs, lower, higher, is) (plain-step bit last min max x next above below)

-- ---- the rows in parts

module _ {T : Type 0} (whole : T → ℤ) where
  -- the first n rows, and those behind them
  parted : (n : ℕ) (bits : List Bool) (items : List T) → length bits ≡ length items → left whole items bits 0 ≡ left whole (take n items) (take n bits) 0 ++ left whole items bits n
  parted zero bits items e = refl
  parted (suc n) [] [] e = refl
  parted (suc n) [] (x ∷ items) e = absurd (omega arith)
  parted (suc n) (bit ∷ bits) [] e = absurd (omega arith)
  parted (suc n) (true ∷ bits) (x ∷ items) e = ap (λ l. whole x ∷ l) (parted n bits items (omega arith))
  parted (suc n) (false ∷ bits) (x ∷ items) e = parted n bits items (omega arith)

  -- the rows of a group, and those behind it
  pub left-parted : (items : List T) (bits : List Bool) (start n : ℕ) → length bits ≡ length items
      → left whole items bits start ≡ left whole (take (start + n - start) (drop start items)) (take (start + n - start) (drop start bits)) 0 ++ left whole items bits (start + n)
  left-parted items bits start n same =
      let long : length (drop start bits) ≡ length (drop start items) = omega (arith, same, length-drop start bits, length-drop start items) in
      let few : start + n - start ≡ n = omega arith in
      rw (few, ← drop-drop n start items, ← drop-drop n start bits) (parted n (drop start bits) (drop start items) long)

  pub none-left : (items : List T) (bits : List Bool) (row : ℕ) → length bits ≤ row → left whole items bits row ≡ []
  none-left items bits row past = ap (λ b. valid_wholes (masked_rows b (map int (map whole (drop row items))))) (drop_all row bits past)

  pub all-valid : (bits : List Bool) (items : List T) → length bits ≡ length items → list_all (λ bit. bit) bits ≡ true → left whole items bits 0 ≡ map whole items
  all-valid [] [] e all = refl
  all-valid [] (x ∷ items) e all = absurd (omega arith)
  all-valid (bit ∷ bits) [] e all = absurd (omega arith)
  all-valid (true ∷ bits) (x ∷ items) e all = ap (λ l. whole x ∷ l) (all-valid bits items (omega arith) all)
  all-valid (false ∷ bits) (x ∷ items) e all = absurd cc

  pub none-valid : (bits : List Bool) (items : List T) → length bits ≡ length items → list_any (λ bit. bit) bits ≡ false → left whole items bits 0 ≡ []
  none-valid [] items e none = refl
  none-valid (bit ∷ bits) [] e none = absurd (omega arith)
  none-valid (true ∷ bits) (x ∷ items) e none = absurd cc
  none-valid (false ∷ bits) (x ∷ items) e none = none-valid bits items (omega arith) none

-- ---- one tally after another

runs_after-append : (z : ℤ) (zs ws : List ℤ) → runs_after z (zs ++ ws) ≡ runs_after z zs + runs_after (last_from z zs) ws
runs_after-append z [] ws = omega arith
runs_after-append z (y ∷ ys) ws = omega (arith, runs_after-append y ys ws)

last_from-append : (z : ℤ) (zs ws : List ℤ) → last_from z (zs ++ ws) ≡ last_from (last_from z zs) ws
last_from-append z [] ws = refl
last_from-append z (y ∷ ys) ws = last_from-append y ys ws

below-min : (m l : ℤ) (zs : List ℤ) → m ≤ℤ l → fold int_min m zs ≤ℤ last_from l zs
below-min m l [] h = h
below-min m l (z ∷ zs) h = below-min (int_min m z) z zs (grind (arith, ints))

above-max : (m l : ℤ) (zs : List ℤ) → l ≤ℤ m → last_from l zs ≤ℤ fold int_max m zs
above-max m l [] h = h
above-max m l (z ∷ zs) h = above-max (int_max m z) z zs (grind (arith, ints))

module _ {T : Type 0} (whole : T → ℤ) where
  -- a tally after numbers and then others is the one after both
  pub both-tallied : (zs ws : List ℤ) (before between after : Tally T) → IsTallyAfter whole before zs between → IsTallyAfter whole between ws after → IsTallyAfter whole before (zs ++ ws) after
  both-tallied zs ws before between after first second =
      let from = whole before.last in
      record {
        changes = omega (arith, first.changes, second.changes, ap (λ l. runs_after l ws) first.last, runs_after-append from zs ws);
        least = second.least ∙ ap (λ m. fold int_min m ws) first.least ∙ sym (fold-append int_min (whole before.min) zs ws);
        greatest = second.greatest ∙ ap (λ m. fold int_max m ws) first.greatest ∙ sym (fold-append int_max (whole before.max) zs ws);
        last = second.last ∙ ap (λ l. last_from l ws) first.last ∙ sym (last_from-append from zs ws);
      }

  pub still-spans : (zs : List ℤ) (before after : Tally T) → SpansLast whole before → IsTallyAfter whole before zs after → SpansLast whole after
  still-spans zs before after spans t =
      record {
        least = omega (arith, ints, t.least, t.last, below-min (whole before.min) (whole before.last) zs spans.least);
        greatest = omega (arith, ints, t.greatest, t.last, above-max (whole before.max) (whole before.last) zs spans.greatest);
      }

  pub none-tallied : (t : Tally T) → IsTallyAfter whole t [] t
  none-tallied t = record { changes = omega arith; least = refl; greatest = refl; last = refl }

  pub one-spans : (x : T) → SpansLast whole (tally_of x)
  one-spans x = record { least = omega (arith, ints); greatest = omega (arith, ints) }

pub min-above : (m l : ℤ) → m ≤ℤ l → int_min m l ≡ m
min-above m l h = grind (arith, ints)

pub max-below : (m l : ℤ) → l ≤ℤ m → int_max m l ≡ m
max-below m l h = grind (arith, ints)
