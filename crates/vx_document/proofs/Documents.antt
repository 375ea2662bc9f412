-- A document's parts, one item or member at a time.
use Rattle.std.proofs.Common.{◌≡◌, ℕ, List, [], ◌∷◌, ◌++◌, length, map, Bool, cond, true, false, Option, Some, None, Err, option_map, refl, sym, ap, append_assoc, arith, rules}
use Rattle.std.specs.Prelude.{◌||◌, is_some, String, string_bytes}
use Rattle.std.specs.declared.alloc.Global.{Global}
use Rattle.std.specs.List.{list_any}
use Rattle.std.specs.Str.{IsUtf8, is_utf8}
use Rattle.std.proofs.lemmas.Str.{IsUtf8-from_is_utf8, is_utf8-from_IsUtf8}
use Rattle.std.proofs.lemmas.List.{append-nil}
use Rattle.serde_json.specs.Data.{Data, string}
use Rattle.serde_json.specs.Read.{read}
use Rattle.serde_json.specs.View.{view, items_view}
use Rattle.serde_json.specs.declared.value.Value.{Value, the_lemmas}
use Rattle.serde_json.specs.declared.value.Value as values
use Rattle.vx_document.specs.declared.document.unread.Unread.{Unread}
use Rattle.vx_document.specs.declared.document.unread.Unread.TheVariants.{NoMemory, BadDocument}
use Rattle.vx_document.specs.Reading.{value_of, all_by, Gives}

pub value_of-text : (bytes : List ℕ) (o : Option Data) → IsUtf8 bytes → read bytes ≡ o → value_of bytes ≡ o
unfolding value_of
value_of-text bytes o u e = rw (is_utf8-from_IsUtf8 bytes u) e

pub value_of-none : (bytes : List ℕ) → (IsUtf8 bytes → read bytes ≡ None) → value_of bytes ≡ None
unfolding value_of
value_of-none bytes h =
    elim (is_utf8 bytes) as (λ b. is_utf8 bytes ≡ b → cond b (read bytes) None ≡ None) [ true ↦ λ e. h (IsUtf8-from_is_utf8 bytes e) | false ↦ λ e. refl ] refl

pub view-String : (s : String Global) → view (values.String s) ≡ string (string_bytes s)
view-String s = search (rules, the_lemmas)

pub list_any-map : {A B : Type 0} (test : B → Bool) (f : A → B) (xs : List A) → list_any (λ x. test (f x)) xs ≡ list_any test (map f xs)
list_any-map test f [] = refl
list_any-map test f (x ∷ xs) = ap (λ b. test (f x) || b) (list_any-map test f xs)

pub is_some-option_map : {A B : Type 0} (f : A → B) (o : Option A) → is_some (option_map f o) ≡ is_some o
is_some-option_map f None = refl
is_some-option_map f (Some x) = refl

-- an error of a part is one of the whole
pub Gives-err : {X Y W Z : Type 0} (f : X → Y) (g : W → Z) (e : Unread) (o : Option Y) (whole : Option Z) → (o ≡ None → whole ≡ None) → Gives f (Err e) o → Gives g (Err e) whole
Gives-err f g NoMemory o whole h k = tt
Gives-err f g BadDocument o whole h k = h k

module _ {A : Type 0} (f : Data → Option A) where
  -- those that are read, and then the values that are left
  abbrev pub with_left : List A → List Value → Option (List A)
  with_left done vs = option_map (λ xs. done ++ xs) (all_by f (items_view vs))

  joined : (done : List A) (x : A) (o : Option (List A)) → option_map (λ xs. done ++ xs) (option_map (λ xs. x ∷ xs) o) ≡ option_map (λ xs. (done ++ x ∷ []) ++ xs) o
  joined done x None = refl
  joined done x (Some xs) = ap Some (sym (append_assoc done (x ∷ []) xs))

  none_before : (o : Option (List A)) → option_map (λ xs. [] ++ xs) o ≡ o
  none_before None = refl
  none_before (Some xs) = refl

  pub with_left_first : (vs : List Value) → with_left [] vs ≡ all_by f (items_view vs)
  with_left_first vs = none_before _

  pub with_left_more : (done : List A) (vs ws : List Value) (v : Value) (x : A) → vs ≡ v ∷ ws → f (view v) ≡ Some x → with_left done vs ≡ with_left (done ++ x ∷ []) ws
  with_left_more done vs ws v x e fe = rw (e, fe) (joined done x _)

  pub with_left_none : (done : List A) (vs ws : List Value) (v : Value) → vs ≡ v ∷ ws → f (view v) ≡ None → with_left done vs ≡ None
  with_left_none done vs ws v e fe = rw (e, fe) refl

  pub with_left_last : (done : List A) (vs : List Value) → length vs ≡ 0 → with_left done vs ≡ Some done
  with_left_last done [] e = ap Some (append-nil done)
  with_left_last done (v ∷ vs) e = absurd (omega arith)
