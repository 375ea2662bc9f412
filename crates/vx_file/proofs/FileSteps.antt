-- Steps of the writer of files.
use Rattle.std.proofs.Common.{◌≡◌, ◌<◌, ◌+◌, ◌-◌, ◌^◌, ◌++◌, ◌∷◌, ◌↔◌, ℕ, zero, suc, true, List, [], length, get_or, drop, refl, sym, ap, ◌∙◌, append_assoc, arith, length-append}
use Rattle.std.specs.Prelude.{nat_le}
use Rattle.std.proofs.lemmas.Bool.{and_parts, and_from, leb-true, le-leb}
use Rattle.std.proofs.lemmas.List.{at_drop_more}
use Rattle.vx_codec.specs.FixedWidth.{little_endian}
use Rattle.vx_codec.specs.Lists.{AllFit, spell_all}
use Rattle.vx_codec.specs.Varint.{varint}
use Rattle.vx_model.specs.Tree.{Tree, of_list}
use Rattle.vx_model.specs.WellFormed.{AllWellFormed}
use Rattle.vx_spelling.specs.FileSpelling.{file_text, framed_tree, magic}
use Rattle.vx_spelling.specs.Storable.{IsStorable, all_within, depth}
use Rattle.vx_spelling.specs.TreeSpelling.{tree_text}
use Rattle.vx_file.specs.Answers.{are_storable, is_storable}
use Rattle.vx_file.specs.Lengths.{capped, text_size}
use Rattle.vx_file.proofs.Steps.{two_parts}

pub frames_more : (ts : List Tree) (i : ℕ) (t : Tree) → i < length ts → t ≡ get_or ts i t → spell_all framed_tree.spell (drop i ts) ≡ framed_tree.spell t ++ spell_all framed_tree.spell (drop (i + 1) ts)
frames_more ts i t h e = at_drop_more (λ us. spell_all framed_tree.spell us) ts i t h ∙ ap (λ (u : Tree). framed_tree.spell u ++ spell_all framed_tree.spell (drop (i + 1) ts)) (sym e)

pub storable_at : (ts : List Tree) (i : ℕ) (t : Tree) → i < length ts → t ≡ get_or ts i t → are_storable ts ≡ true → is_storable t ≡ true
storable_at [] i t h e s = absurd (omega arith)
storable_at (u ∷ ts) zero t h e s = rw e (and_parts (is_storable u) (are_storable ts) s).0
storable_at (u ∷ ts) (suc i) t h e s = storable_at ts i t (omega arith) e (and_parts (is_storable u) (are_storable ts) s).1

-- the test of well-formed trees is the definition
pub storable_each : (ts : List Tree) → AllWellFormed (of_list ts) → (are_storable ts ≡ true) ↔ AllFit IsStorable ts
storable_each [] w = (λ _. tt, λ _. refl)
storable_each (t ∷ ts) w =
    let rest = storable_each ts w.1 in (
      λ s.
          let p = and_parts (is_storable t) (are_storable ts) s in
          let q = and_parts (nat_le (depth t) 64) (all_within t) p.0 in
          (record { well_formed = w.0; shallow = leb-true _ _ q.0; within = q.1 }, rest.0 p.1),
      λ f. and_from (is_storable t) (are_storable ts) (and_from (nat_le (depth t) 64) (all_within t) (le-leb _ _ f.0.shallow) f.0.within) (rest.1 f.1),
    )

-- a tree behind its length, which no memory caps
pub framed : (old mid new : List ℕ) (t : Tree) (count : ℕ) → count ≡ capped (text_size t) → mid ≡ old ++ varint.spell count → new ≡ mid ++ tree_text t → length new < 2 ^ 64 → new ≡ old ++ framed_tree.spell t
unfolding text_size
framed old mid new t count c m n small =
    let all = ap length n ∙ length-append mid (tree_text t) in
    let exact : count ≡ length (tree_text t) = omega arith in
    two_parts old (varint.spell count) mid (tree_text t) new (framed_tree.spell t) m n (ap (λ (k : ℕ). varint.spell k ++ tree_text t) (sym exact))

-- the mark and the number of trees stand before the frames
pub file_start : (empty one two : List ℕ) (ts us : List Tree) (count : ℕ) → empty ≡ [] → one ≡ empty ++ little_endian 8 magic → count ≡ length ts → two ≡ one ++ varint.spell count → us ≡ ts → two ++ spell_all framed_tree.spell us ≡ file_text ts
file_start empty one two ts us count a b c d e =
    let head : one ≡ little_endian 8 magic = b ∙ ap (λ (x : List ℕ). x ++ little_endian 8 magic) a in
    ap (λ (x : List ℕ). x ++ spell_all framed_tree.spell us) (d ∙ (λ i. head i ++ varint.spell (c i)))
    ∙ append_assoc (little_endian 8 magic) (varint.spell (length ts)) (spell_all framed_tree.spell us)
    ∙ ap (λ (vs : List Tree). little_endian 8 magic ++ (varint.spell (length ts) ++ spell_all framed_tree.spell vs)) e
