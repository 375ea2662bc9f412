-- The laws of files.
use Rattle.std.proofs.Common.{◌≡◌, ℕ, List, [], ◌∷◌, ◌++◌, Some, refl, sym, ap, subst, ◌∙◌, arith}
use Rattle.std.proofs.lemmas.Bool.{eqb-true}
use Rattle.vx_codec.specs.FixedWidth.{fixed_width}
use Rattle.vx_codec.specs.Format.{IsLawful}
use Rattle.vx_codec.specs.Lists.{AllFit, counted, to_end}
use Rattle.vx_codec.proofs.FormatLaws.{bind_ok, some_is, one_reading, both_lawful, tested_lawful}
use Rattle.vx_codec.proofs.ListLaws.{counted_lawful, framed_lawful, to_end_canonical, to_end_round_trip}
use Rattle.vx_codec.proofs.NumberLaws.{fixed_width_lawful}
use Rattle.vx_model.specs.Tree.{Tree}
use Rattle.vx_spelling.specs.FileSpelling.{magic, is_magic, mark, framed_tree, file, file_text, file_at, CanBeStored, AllCanBeStored}
use Rattle.vx_spelling.specs.Storable.{IsStorable, NumbersFit}
use Rattle.vx_spelling.specs.TreeSpelling.{tree_text, tree_format, FitsAt}
use Rattle.vx_spelling.proofs.TreeLaws.{tree_lawful}

-- ---- one tree

pub storable_fits : (t : Tree) → IsStorable t → NumbersFit t → FitsAt 64 t
storable_fits t s n = (s.shallow, (s.well_formed, (s.within, n)))

pub texts_apart : (a b : Tree) (x y : List ℕ) → IsStorable a → NumbersFit a → IsStorable b → NumbersFit b → tree_text a ++ x ≡ tree_text b ++ y → (a ≡ b) × (x ≡ y)
texts_apart a b x y sa na sb nb e = one_reading (tree_format 64) (tree_lawful 64) a b x y (storable_fits a sa na) (storable_fits b sb nb) e

-- ---- a file

file_lawful : IsLawful file
file_lawful = both_lawful mark (counted framed_tree) (tested_lawful is_magic (fixed_width 8) (fixed_width_lawful 8)) (counted_lawful framed_tree (framed_lawful (tree_format 64) (tree_lawful 64)))

frame_fits : (t : Tree) → CanBeStored t → framed_tree.Fits t
frame_fits t c = let f = storable_fits t c.storable c.numbers in ((c.size, refl), to_end_round_trip (tree_format 64) (tree_lawful 64) t f)

fits_frame : (t : Tree) → framed_tree.Fits t → CanBeStored t
fits_frame t h =
    let f : FitsAt 64 t = (to_end_canonical (tree_format 64) (tree_lawful 64) (tree_text t) t h.1).1 in
    record { storable = record { well_formed = f.1.0; shallow = f.0; within = f.1.1.0 }; numbers = f.1.1.1; size = h.0.0 }

frames_fit : (ts : List Tree) → AllFit CanBeStored ts → AllFit framed_tree.Fits ts
frames_fit [] h = tt
frames_fit (t ∷ ts) h = (frame_fits t h.0, frames_fit ts h.1)

fit_frames : (ts : List Tree) → AllFit framed_tree.Fits ts → AllFit CanBeStored ts
fit_frames [] h = tt
fit_frames (t ∷ ts) h = (fits_frame t h.0, fit_frames ts h.1)

mark_fits : mark.Fits magic
mark_fits = (omega arith, refl)

file_fits : (ts : List Tree) → AllCanBeStored ts → file.Fits (magic, ts)
file_fits ts h = (mark_fits, (h.0, (refl, frames_fit ts h.1)))

pub file_read_back : (ts : List Tree) → AllCanBeStored ts → file_at (file_text ts) ≡ Some ts
file_read_back ts h = rw (to_end_round_trip file file_lawful (magic, ts) (file_fits ts h)) refl

pub file_canonical : (bytes : List ℕ) (ts : List Tree) → file_at bytes ≡ Some ts → AllCanBeStored ts × (bytes ≡ file_text ts)
file_canonical bytes ts e =
    let x = bind_ok (to_end file.parse bytes) (λ y. Some y.1) ts e in
    let t = to_end_canonical file file_lawful bytes x.0 x.1 in
    let is : x.0.0 ≡ magic = eqb-true x.0.0 magic t.1.0.1 in
    let stored : AllCanBeStored x.0.1 = (t.1.1.0, fit_frames x.0.1 t.1.1.1.1) in
    subst (λ (us : List Tree). AllCanBeStored us × (bytes ≡ file_text us)) (some_is x.0.1 ts x.2) (stored, t.0 ∙ ap (λ (n : ℕ). file.spell (n, x.0.1)) is)

pub files_apart : (ts us : List Tree) → AllCanBeStored ts → AllCanBeStored us → file_text ts ≡ file_text us → ts ≡ us
files_apart ts us h k e = some_is ts us (sym (file_read_back ts h) ∙ ap file_at e ∙ file_read_back us k)
