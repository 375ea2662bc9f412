-- Answers that are Sparse over the places of the tree that is asked.
use Rattle.std.proofs.Common.{◌≡◌, ◌∙◌, ℕ, length, refl, sym, ap, Option, None, Some, Result, Ok, Err}
use Rattle.std.specs.Prelude.{IfOk}
use Rattle.std.proofs.lemmas.List.{length-replicate}
use Rattle.vx_base.specs.declared.array_id.ArrayId.TheVariants as ids
use Rattle.vx_base.specs.declared.error.VortexError.{VortexError}
use Rattle.vx_base.specs.Answers.{Answers}
use Rattle.vx_base.specs.PlainScalar.{PlainScalar}
use Rattle.vx_model.specs.Nodes.{encoding}
use Rattle.vx_model.specs.Rows.{rows}
use Rattle.vx_model.specs.Tree.{Tree, PlainPatches, chunked, constant, sparse_of}
use Rattle.vx_sparse.specs.Places.{places_in}
use Rattle.vx_sparse.specs.RowAnswers.{over_answers}

pub places-sparse_of : (p : PlainPatches) (fill : PlainScalar) → places_in (sparse_of p fill) ≡ Some (p.array_len, p.offset, p.indices)
places-sparse_of p fill = by p.chunks
  where
    by : (o : Option Tree) → places_in (sparse_of (chunked p.array_len p.offset p.indices p.values o) fill) ≡ Some (p.array_len, p.offset, p.indices)
    by None = refl
    by (Some chunks) = refl

-- the answers for patch values and fill are over the places of the patches
pub same-places : (p : PlainPatches) (fill : PlainScalar) (values fills : Tree) (result : Result Tree VortexError) → Answers result (over_answers p values fills)
    → IfOk result (λ out. places_in out ≡ places_in (sparse_of p fill))
same-places p fill values fills (Ok out) e = ap places_in e ∙ sym (places-sparse_of p fill)
same-places p fill values fills (Err error) e = tt

-- a fact of each answer
pub if_ok-each : {A : Type 0} (Q : A → Type 0) (result : Result A VortexError) → ((a : A) → Q a) → IfOk result Q
if_ok-each Q (Ok a) h = h a
if_ok-each Q (Err e) h = tt

-- ---- which tree is a Constant of a length

pub not-constant : (t : Tree) (s : PlainScalar) (n : ℕ) → (encoding t ≡ ids.Constant → ⊥) → t ≡ constant s n → ⊥
not-constant t s n other e = other (ap encoding e)

pub other-length : (t : Tree) (s : PlainScalar) (n : ℕ) → (length (rows t) ≡ n → ⊥) → t ≡ constant s n → ⊥
other-length t s n other e = other (ap (λ u. length (rows u)) e ∙ length-replicate n s.value)

pub that-length : (t : Tree) (s : PlainScalar) (n m : ℕ) → t ≡ constant s m → length (rows t) ≡ n → t ≡ constant s n
that-length t s n m e k = e ∙ ap (constant s) (sym (length-replicate m s.value) ∙ sym (ap (λ u. length (rows u)) e) ∙ k)

pub ruleset constants = (not-constant, other-length, that-length)
