-- The reply of `store` to a tree.
use Rattle.std.proofs.Common.{◌≡◌, ◌∙◌, [], ◌∷◌, ℕ, List, Bool, true, false, Result, Ok, Err, refl, sym, ap}
use Rattle.std.specs.Prelude.{◌↔◌}
use Rattle.vx_file.specs.Answers.{are_storable}
use Rattle.vx_file.specs.declared.error.FileError.{FileError}
use Rattle.vx_file.specs.declared.error.FileError.TheVariants.{NotStorable}
use Rattle.vx_model.specs.Tree.{Tree}
use Rattle.vx_spelling.specs.FileSpelling.{file_text}
use Rattle.vx_program.specs.Answer.{kept}

-- a file is written only of trees that can be stored
is_stored : {A : Type 0} (trees : List Tree) (result : Result A FileError) (file : A) → result ≡ Ok file → ((result ≡ Err NotStorable) ↔ (are_storable trees ≡ false)) → are_storable trees ≡ true
is_stored trees result file is refused = by (are_storable trees) refl
  where
    by : (b : Bool) → are_storable trees ≡ b → are_storable trees ≡ true
    by true e = e
    by false e = let other : result ≡ Err NotStorable = refused.1 e in absurd cc

pub is_kept_file : (tree : Tree) (trees : List Tree) (result : Result (List ℕ) FileError) (file : List ℕ) → trees ≡ tree ∷ [] → result ≡ Ok file → ((result ≡ Err NotStorable) ↔ (are_storable trees ≡ false))
    → file ≡ file_text trees → (0, file) ≡ kept tree
is_kept_file tree trees result file one is refused e =
    let stored : are_storable (tree ∷ []) ≡ true = ap are_storable (sym one) ∙ is_stored trees result file is refused in
    let bytes : file ≡ file_text (tree ∷ []) = e ∙ ap file_text one in
    rw stored (ap (λ b. (0, b)) bytes)
