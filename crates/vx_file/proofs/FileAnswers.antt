-- What the reader's answer says of the bytes, by the laws of files.
use Rattle.std.proofs.Common.{◌≡◌, ℕ, List, Option, Some, Result, Ok, Err, refl, ap, subst, ◌∙◌}
use Rattle.std.specs.Prelude.{IfOk, MatchResult}
use Rattle.vx_file.specs.Answers.{ReadsFile}
use Rattle.vx_file.specs.declared.error.FileError.{FileError}
use Rattle.vx_file.specs.declared.error.FileError.TheVariants.{NoMemory, NotStorable, BadFile}
use Rattle.vx_model.specs.Tree.{Tree}
use Rattle.vx_spelling.specs.FileSpelling.{AllCanBeStored, file_at, file_text}
use Rattle.vx_spelling.proofs.FileLaws.{file_canonical, file_read_back}

pub file_found : (bytes : List ℕ) (r : Result (List Tree) FileError) → ReadsFile (λ ts. ts) r (file_at bytes) → IfOk r (λ ts. AllCanBeStored ts × (bytes ≡ file_text ts))
file_found bytes (Ok ts) given = file_canonical bytes ts given
file_found bytes (Err e) given = tt

-- a list that is read is the one that was written
some_list : (ts us : List Tree) → Some ts ≡ Some us → us ≡ ts
some_list ts us e = cc

pub read_again : (ts : List Tree) (r : Result (List Tree) FileError) → ReadsFile (λ us. us) r (Some ts) → MatchResult r (λ us. us ≡ ts) (λ e. e ≡ NoMemory)
read_again ts (Ok us) given = some_list ts us given
read_again ts (Err NoMemory) given = refl
read_again ts (Err NotStorable) given = absurd given
read_again ts (Err BadFile) given = absurd cc

pub file_again : (bytes : List ℕ) (ts : List Tree) (r : Result (List Tree) FileError) → AllCanBeStored ts → bytes ≡ file_text ts → ReadsFile (λ us. us) r (file_at bytes) → MatchResult r (λ us. us ≡ ts) (λ e. e ≡ NoMemory)
file_again bytes ts r fits is given = read_again ts r (subst (λ (f : Option (List Tree)). ReadsFile (λ us. us) r f) (ap file_at is ∙ file_read_back ts fits) given)
