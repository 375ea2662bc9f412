-- What is written of one tree is its file.
use Rattle.std.proofs.Common.{◌≡◌, ◌∙◌, [], ◌∷◌, ℕ, List, Bool, true, false, Result, Ok, Err, refl, sym, ap}
use Rattle.std.specs.Prelude.{◌↔◌}
use Rattle.vx_ffi.specs.Files.{file_of}
use Rattle.vx_file.specs.Answers.{are_storable}
use Rattle.vx_file.specs.declared.error.FileError.{FileError}
use Rattle.vx_file.specs.declared.error.FileError.TheVariants.{NotStorable}
use Rattle.vx_model.specs.Tree.{Tree}
use Rattle.vx_spelling.specs.FileSpelling.{file_text}

-- a file is written only of trees that can be stored
are_stored : {A : Type 0} (trees : List Tree) (result : Result A FileError) (file : A) → result ≡ Ok file → ((result ≡ Err NotStorable) ↔ (are_storable trees ≡ false)) → are_storable trees ≡ true
are_stored trees result file is refused = by (are_storable trees) refl
  where
    by : (b : Bool) → are_storable trees ≡ b → are_storable trees ≡ true
    by true e = e
    by false e = let other : result ≡ Err NotStorable = refused.1 e in absurd cc

pub written_file : (tree : Tree) (trees : List Tree) (result : Result (List ℕ) FileError) (file : List ℕ) → trees ≡ tree ∷ [] → result ≡ Ok file → ((result ≡ Err NotStorable) ↔ (are_storable trees ≡ false))
    → file ≡ file_text trees → file_of tree ≡ Ok file
written_file tree trees result file one is refused e =
    let stored : are_storable (tree ∷ []) ≡ true = ap are_storable (sym one) ∙ are_stored trees result file is refused in
    let bytes : file ≡ file_text (tree ∷ []) = e ∙ ap file_text one in
    rw stored (ap (λ b. Ok b) (sym bytes))
