-- Documents as text: the pieces of one, how long it is, and one more of several.
use Rattle.std.proofs.Common.{◌≡◌, ◌∙◌, ◌<◌, ◌≤◌, ◌+◌, ◌++◌, ◌∷◌, [], ℕ, List, Option, None, Some, true, length, drop, get_or, refl, sym, ap, arith, append_assoc, append-nil, length-append}
use Rattle.std.specs.Prelude.{codes, is_none}
use Rattle.std.specs.List.{concat}
use Rattle.std.proofs.lemmas.List.{drop_more}
use Rattle.vx_base.specs.TypeText.{list_text}
use Rattle.vx_model.specs.Column.{Column, column_of}
use Rattle.vx_model.specs.Tree.{Tree}
use Rattle.vx_document.specs.CappedText.{put}
use Rattle.vx_document.specs.Writing.{document_text, documents_text, type_json}
use Rattle.vx_document.proofs.CappedTexts.{put_put}
use Rattle.vx_document.proofs.PartLengths.{list-least}

-- five pieces one behind the other are one text
five : (a b c d e : List ℕ) → a ++ b ++ c ++ d ++ e ≡ concat (a ∷ b ∷ c ∷ d ∷ e ∷ [])
five a b c d e = append_assoc (a ++ b ++ c) d e ∙ append_assoc (a ++ b) c (d ++ e) ∙ append_assoc a b (c ++ (d ++ e)) ∙ ap (λ x. a ++ (b ++ (c ++ (d ++ x)))) (sym (append-nil e))

pub document_pieces : (c : Column) → codes "{\"type\":" ++ type_json c.dtype ++ codes ",\"rows\":" ++ list_text c.dtype c.values ++ codes ",\"words\":[0]}\n" ≡ document_text c
unfolding document_text
document_pieces c = five (codes "{\"type\":") (type_json c.dtype) (codes ",\"rows\":") (list_text c.dtype c.values) (codes ",\"words\":[0]}\n")

-- a document is at least as long as it has rows
pub document-least : (c : Column) → length c.values ≤ length (document_text c)
document-least c =
    let rows = list_text c.dtype c.values in
    let begun = codes "{\"type\":" ++ type_json c.dtype ++ codes ",\"rows\":" in
    let least = list-least c.dtype c.values in
    omega (arith, ap length (document_pieces c), length-append (begun ++ rows) (codes ",\"words\":[0]}\n"), length-append begun rows, least)

-- a text to which a piece was appended is within the limit
pub put_within : (s new : Option (List ℕ)) (piece : List ℕ) → new ≡ put s piece → put new [] ≡ new
put_within s new piece e = ap (λ t. put t []) e ∙ put_put s piece [] ∙ ap (put s) (append-nil piece) ∙ sym e

pub documents_more : (s new total : Option (List ℕ)) (xs : List Tree) (i : ℕ) (x : Tree) → i < length xs → x ≡ get_or xs i x → new ≡ put s (document_text (column_of x)) → put s (documents_text (drop i xs)) ≡ total
    → put new (documents_text (drop (i + 1) xs)) ≡ total
documents_more s new total xs i x within read pushed before =
    let rest = documents_text (drop (i + 1) xs) in
    let split : documents_text (drop i xs) ≡ document_text (column_of x) ++ rest = ap documents_text (drop_more xs i x within ∙ ap (λ y. y ∷ drop (i + 1) xs) (sym read)) in
    ap (λ t. put t rest) pushed ∙ put_put s (document_text (column_of x)) rest ∙ ap (put s) (sym split) ∙ before

pub none_over : (s : Option (List ℕ)) → is_none s ≡ true → s ≡ None
none_over None e = refl
none_over (Some text) e = absurd cc
