-- Items written one behind another, each over the one before that isn't kept.
use Rattle.std.proofs.Common.{◌≡◌, ◌<◌, ◌≤◌, ◌+◌, ◌++◌, ℕ, zero, suc, Bool, true, false, cond, List, [], ◌∷◌, length, take, drop, set, refl, sym, ap, subst, arith, ◌∙◌}
use Rattle.std.specs.Prelude.{slice_index_or}
use Rattle.std.proofs.lemmas.List.{length-set, take-append-drop, take-set-le, take_all}
use Rattle.std.proofs.lemmas.List.Sums.{count_by_more_no, count_by_more_yes, sum_by-append}
use Rattle.vx_base.specs.Masks.{true_count}
use Rattle.vx_rules.specs.Selections.{kept_items}
use Rattle.vx_selections.proofs.KeptItems.{kept-next, kept-end}

count-within : (bits : List Bool) (row : ℕ) → true_count (take row bits) ≤ true_count bits
count-within bits row =
    let parts : true_count bits ≡ true_count (take row bits) + true_count (drop row bits) =
    ap true_count (sym (take-append-drop row bits)) ∙ sum_by-append (λ b. cond b 1 0) (take row bits) (drop row bits) in
    omega arith

take-written : {A : Type 0} (xs : List A) (place : ℕ) (x : A) → place < length xs → take (suc place) (set xs place x) ≡ take place xs ++ x ∷ []
take-written [] place x l = absurd (omega arith)
take-written (y ∷ ys) zero x l = refl
take-written (y ∷ ys) (suc place) x l = ap (λ zs. y ∷ zs) (take-written ys place x (omega arith))

-- the front after the rows before `row`: as many items as bits are true there, and which
pub record IsFront {A : Type 0} (bits : List Bool) (xs : List A) (row place room : ℕ) (out : List A) : Type 0 where
  pub counted : place ≡ true_count (take row bits)
  pub front : take place out ≡ kept_items (take row bits) xs
  pub whole : length out ≡ room

module _ {A : Type 0} (bits : List Bool) (xs : List A) (row place room : ℕ) (out : List A) (x : A) (same : length bits ≡ length xs) (some : true_count bits < room) (l : row < length bits) (is : x ≡ slice_index_or xs row x) (h : IsFront bits xs row place room out) where
  pub front_room : place < length out
  front_room = omega (arith, h.counted, h.whole, count-within bits row, some)

  front_written : (b : Bool) → slice_index_or bits row false ≡ b → IsFront bits xs (row + 1) (cond b (place + 1) place) room (set out place x)
  front_written true e =
      let next : place + 1 ≡ suc place = omega arith in
      record {
        counted = ap (λ n. n + 1) h.counted ∙ sym (count_by_more_yes (λ b. b) bits row false l e);
        front =
            ap (λ n. take n (set out place x)) next ∙ take-written out place x front_room ∙ ap (λ ys. ys ++ x ∷ []) h.front
            ∙ sym (kept-next bits xs row x l same is ∙ ap (λ b. cond b (kept_items (take row bits) xs ++ x ∷ []) (kept_items (take row bits) xs)) e);
        whole = length-set out place x ∙ h.whole;
      }
  front_written false e = record {
    counted = h.counted ∙ sym (count_by_more_no (λ b. b) bits row false l e);
    front =
        take-set-le place out place x (omega arith) ∙ h.front
        ∙ sym (kept-next bits xs row x l same is ∙ ap (λ b. cond b (kept_items (take row bits) xs ++ x ∷ []) (kept_items (take row bits) xs)) e);
    whole = length-set out place x ∙ h.whole;
  }

  pub front_next : (b : Bool) (next : ℕ) → b ≡ slice_index_or bits row false → next ≡ cond b (place + 1) place → IsFront bits xs (row + 1) next room (set out place x)
  front_next b next e n = subst (λ k. IsFront bits xs (row + 1) k room (set out place x)) (sym n) (front_written b (sym e))

pub front_first : {A : Type 0} (bits : List Bool) (xs out : List A) → IsFront bits xs 0 0 (length out) out
front_first bits xs out = record { counted = refl; front = refl; whole = refl }

pub front_end : {A : Type 0} (bits : List Bool) (xs : List A) (row place room : ℕ) (out : List A) → length bits ≤ row → IsFront bits xs row place room out → take (true_count bits) out ≡ kept_items bits xs
front_end bits xs row place room out l h =
    let all : place ≡ true_count bits = h.counted ∙ ap true_count (take_all row bits l) in
    ap (λ n. take n out) (sym all) ∙ h.front ∙ kept-end bits xs row l
