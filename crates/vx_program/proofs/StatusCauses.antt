-- The status of a reply, and its cause.
use Rattle.std.proofs.Common.{◌≡◌, ◌<◌, ℕ, List, length, Bool, true, false, leb, ltb, Option, Some, None, Ok, Err, IfSome, codes, refl, ap, subst, sym, ◌∙◌, arith, inl, inr}
use Rattle.std.specs.Prelude.{◌↔◌, ◌⊎◌, IsSomeAnd, Result}
use Rattle.std.specs.List.{list_all}
use Rattle.std.proofs.lemmas.Bool.{ltb-true, ltb-false}
use Rattle.std.proofs.lemmas.Option.{IfSome_then}
use Rattle.vx_base.specs.declared.error.VortexError.{VortexError}
use Rattle.vx_model.specs.Tree.{Tree}
use Rattle.vx_btrblocks.specs.Shipped.{shipped_tree}
use Rattle.vx_document.specs.Document.{PlainDocument, document}
use Rattle.vx_document.specs.Writing.{documents_text, extents_are_few}
use Rattle.vx_query.specs.Queries.{query_lines}
use Rattle.vx_spelling.specs.FileSpelling.{file_at}
use Rattle.vx_program.specs.Answer.{Reply, IsReply, answer, refusal, read_fault, counts_fit, is_kept, of_column, stored, of_document, queried, of_commands, shown, written, of_file, of_input, of_bytes, of_form}
use Rattle.vx_program.specs.Causes.{Rose}
use Rattle.vx_program.specs.Forms.{form_of, is_supported}
use Rattle.vx_program.specs.Reading.{limit}
use Rattle.vx_program.specs.Statuses.{IsWritten, IsAnswered, ComesExactly, IsUsage, IsRead, Has, IsBad, Refuses, Answers, IsBadInput, IsRefused, IsAnswerable, IsCompress, IsBadDocument, HasTooManyRows, IsCompressible, can_be_stored, can_be_asked, can_be_written}
use Rattle.vx_program.specs.declared.forms.Form.{Form}
use Rattle.vx_program.specs.declared.forms.Form.TheVariants.{Compress, Store, Show, Rows, Query}

both : {A B : Type 0} → A → B → A ↔ B
both a b = (λ _. b, λ _. a)

neither : {A B : Type 0} → (A → ⊥) → (B → ⊥) → A ↔ B
neither f g = (λ a. absurd (f a), λ b. absurd (g b))

-- ---- of a form and bytes within the limit

-- a status that answers them: each comes exactly where its cause holds
record FormCauses (form : Form) (bytes : List ℕ) (status : ℕ) : Type 0 where
  pub answered : IsAnswered status
  pub read : (status ≡ 2 → ⊥) × (status ≡ 7 → ⊥)
  pub bad : status ≡ 3 ↔ IsBad form bytes
  pub refused : status ≡ 4 ↔ Refuses form bytes
  pub done : status ≡ 0 ↔ Answers form bytes

module _ (form : Form) (bytes : List ℕ) where
  is_bad : IsBad form bytes → (Refuses form bytes → ⊥) → (Answers form bytes → ⊥) → FormCauses form bytes 3
  is_bad b r a =
      record {
        answered = (λ k. omega (arith, k), λ k. omega (arith, k), λ k. omega (arith, k));
        read = (λ k. omega (arith, k), λ k. omega (arith, k));
        bad = both refl b;
        refused = neither (λ k. omega (arith, k)) r;
        done = neither (λ k. omega (arith, k)) a;
      }

  is_refused : (IsBad form bytes → ⊥) → Refuses form bytes → (Answers form bytes → ⊥) → FormCauses form bytes 4
  is_refused b r a =
      record {
        answered = (λ k. omega (arith, k), λ k. omega (arith, k), λ k. omega (arith, k));
        read = (λ k. omega (arith, k), λ k. omega (arith, k));
        bad = neither (λ k. omega (arith, k)) b;
        refused = both refl r;
        done = neither (λ k. omega (arith, k)) a;
      }

  is_done : (IsBad form bytes → ⊥) → (Refuses form bytes → ⊥) → Answers form bytes → FormCauses form bytes 0
  is_done b r a =
      record {
        answered = (λ k. omega (arith, k), λ k. omega (arith, k), λ k. omega (arith, k));
        read = (λ k. omega (arith, k), λ k. omega (arith, k));
        bad = neither (λ k. omega (arith, k)) b;
        refused = neither (λ k. omega (arith, k)) r;
        done = both refl a;
      }

module _ (bytes : List ℕ) where
  compress_counts : (d : PlainDocument) → document bytes ≡ Some d → (fit : Bool) → counts_fit d.column ≡ fit → FormCauses Compress bytes (of_column d.words d.column).0
  unfolding of_column
  compress_counts d e true f = rw f (is_done Compress bytes (λ b. cc) (λ r. let few : counts_fit d.column ≡ false = rw e at r in cc) (rw e f))
  compress_counts d e false f = rw f (is_refused Compress bytes (λ b. cc) (rw e f) (λ a. let few : counts_fit d.column ≡ true = rw e at a in cc))

  compress_causes : (o : Option PlainDocument) → document bytes ≡ o → FormCauses Compress bytes (of_document of_column o).0
  compress_causes None e = is_bad Compress bytes e (λ r. rw e at r) (λ a. rw e at a)
  compress_causes (Some d) e = compress_counts d e (counts_fit d.column) refl

  store_tests : (d : PlainDocument) → document bytes ≡ Some d → (fit keeps : Bool) → counts_fit d.column ≡ fit → is_kept (shipped_tree d.words d.column) ≡ keeps
      → FormCauses Store bytes (stored d.words d.column).0
  unfolding stored
  store_tests d e true true f k =
      let all : can_be_stored d ≡ true = rw (f, k) refl in
      rw (f, k) (is_done Store bytes (λ b. cc) (λ r. let no : can_be_stored d ≡ false = rw e at r in cc) (rw e all))
  store_tests d e true false f k =
      let all : can_be_stored d ≡ false = rw (f, k) refl in
      rw (f, k) (is_refused Store bytes (λ b. cc) (rw e all) (λ a. let yes : can_be_stored d ≡ true = rw e at a in cc))
  store_tests d e false keeps f k =
      let all : can_be_stored d ≡ false = rw f refl in
      rw f (is_refused Store bytes (λ b. cc) (rw e all) (λ a. let yes : can_be_stored d ≡ true = rw e at a in cc))

  store_causes : (o : Option PlainDocument) → document bytes ≡ o → FormCauses Store bytes (of_document stored o).0
  store_causes None e = is_bad Store bytes e (λ r. rw e at r) (λ a. rw e at a)
  store_causes (Some d) e = store_tests d e (counts_fit d.column) (is_kept (shipped_tree d.words d.column)) refl refl

  query_tests : (d : PlainDocument) → document bytes ≡ Some d → (fit : Bool) (lines : Result (List ℕ) VortexError) → counts_fit d.column ≡ fit → query_lines d.column d.commands ≡ lines
      → FormCauses Query bytes (queried d.commands d.column).0
  unfolding queried
  query_tests d e true (Ok lines) f k =
      let all : can_be_asked d ≡ true = rw (f, k) refl in
      rw (f, k) (is_done Query bytes (λ b. cc) (λ r. let no : can_be_asked d ≡ false = rw e at r in cc) (rw e all))
  query_tests d e true (Err error) f k =
      let all : can_be_asked d ≡ false = rw (f, k) refl in
      rw (f, k) (is_refused Query bytes (λ b. cc) (rw e all) (λ a. let yes : can_be_asked d ≡ true = rw e at a in cc))
  query_tests d e false lines f k =
      let all : can_be_asked d ≡ false = rw f refl in
      rw f (is_refused Query bytes (λ b. cc) (rw e all) (λ a. let yes : can_be_asked d ≡ true = rw e at a in cc))

  query_causes : (o : Option PlainDocument) → document bytes ≡ o → FormCauses Query bytes (of_commands o).0
  query_causes None e = is_bad Query bytes e (λ r. rw e at r) (λ a. rw e at a)
  query_causes (Some d) e = query_tests d e (counts_fit d.column) (query_lines d.column d.commands) refl refl

  show_causes : (o : Option (List Tree)) → file_at bytes ≡ o → FormCauses Show bytes (of_file shown o).0
  show_causes None e = is_bad Show bytes e (λ r. r) (λ a. rw e at a)
  show_causes (Some trees) e = is_done Show bytes (λ b. cc) (λ r. r) (rw e tt)

  rows_tests : (trees : List Tree) → file_at bytes ≡ Some trees → (few short : Bool) → list_all extents_are_few trees ≡ few → leb (length (documents_text trees)) limit ≡ short
      → FormCauses Rows bytes (written trees).0
  unfolding written
  rows_tests trees e true true f k =
      let all : can_be_written trees ≡ true = rw (f, k) refl in
      rw (f, k) (is_done Rows bytes (λ b. cc) (λ r. let no : can_be_written trees ≡ false = rw e at r in cc) (rw e all))
  rows_tests trees e true false f k =
      let all : can_be_written trees ≡ false = rw (f, k) refl in
      rw (f, k) (is_refused Rows bytes (λ b. cc) (rw e all) (λ a. let yes : can_be_written trees ≡ true = rw e at a in cc))
  rows_tests trees e false short f k =
      let all : can_be_written trees ≡ false = rw f refl in
      rw f (is_refused Rows bytes (λ b. cc) (rw e all) (λ a. let yes : can_be_written trees ≡ true = rw e at a in cc))

  rows_causes : (o : Option (List Tree)) → file_at bytes ≡ o → FormCauses Rows bytes (of_file written o).0
  rows_causes None e = is_bad Rows bytes e (λ r. rw e at r) (λ a. rw e at a)
  rows_causes (Some trees) e = rows_tests trees e (list_all extents_are_few trees) (leb (length (documents_text trees)) limit) refl refl

form_causes : (form : Form) (bytes : List ℕ) → FormCauses form bytes (of_input form bytes).0
unfolding of_input
form_causes Compress bytes = compress_causes bytes (document bytes) refl
form_causes Store bytes = store_causes bytes (document bytes) refl
form_causes Show bytes = show_causes bytes (file_at bytes) refl
form_causes Rows bytes = rows_causes bytes (file_at bytes) refl
form_causes Query bytes = query_causes bytes (document bytes) refl

-- the reply to bytes within the limit is never that of an input that is too long
pub not_too_long : (form : Form) (bytes : List ℕ) (reply : Reply) → reply ≡ of_input form bytes → reply.0 ≡ 7 → ⊥
not_too_long form bytes reply e k = (form_causes form bytes).read.1 (sym (ap (λ r. r.0) e) ∙ k)

-- ---- of arguments and bytes

-- a command line that isn't supported has no form
pub no_form : (args : List (List ℕ)) → is_supported args ≡ false → form_of args ≡ None
no_form args e = by (form_of args) refl e
  where
    by : (o : Option Form) → form_of args ≡ o → is_supported args ≡ false → form_of args ≡ None
    by None f e = f
    by (Some form) f e = let built : is_supported args ≡ true = rw f refl in absurd cc

-- the status that answers these arguments and bytes: each comes exactly where its cause holds
record Causes (args : List (List ℕ)) (bytes : List ℕ) (status : ℕ) : Type 0 where
  pub answered : IsAnswered status
  pub usage : status ≡ 2 ↔ IsUsage args
  pub bad_input : status ≡ 3 ↔ IsBadInput args bytes
  pub refused : status ≡ 4 ↔ IsRefused args bytes
  pub done : status ≡ 0 ↔ IsAnswerable args bytes

module _ (args : List (List ℕ)) (bytes : List ℕ) where
  not_supported : {X : Type 0} → is_supported args ≡ false → IsRead args bytes × X → ⊥
  not_supported e h = let built = h.0.0 in cc

  too_long : {X : Type 0} → limit < length bytes → IsRead args bytes × X → ⊥
  too_long long h = let short = h.0.1 in omega arith

  -- a cause of the form is one of the command line
  caused : (Cause : Form → List ℕ → Type 0) (form : Form) (status : ℕ) (P : Type 0) → form_of args ≡ Some form → IsRead args bytes → P ↔ Cause form bytes → P ↔ Has Cause args bytes
  caused Cause form status P e read iff = (λ p. (read, rw e (iff.0 p)), λ h. iff.1 (rw e at h.1))

  of_read : (form : Form) → form_of args ≡ Some form → IsRead args bytes → Causes args bytes (of_input form bytes).0
  of_read form e read =
      let c = form_causes form bytes in
      record {
        answered = c.answered;
        usage = neither c.read.0 (λ h. let built = read.0 in cc);
        bad_input = caused IsBad form 3 _ e read c.bad;
        refused = caused Refuses form 4 _ e read c.refused;
        done = caused Answers form 0 _ e read c.done;
      }

  is_long : is_supported args ≡ true → limit < length bytes → Causes args bytes 7
  is_long built long =
      record {
        answered = (λ k. omega (arith, k), λ k. omega (arith, k), λ k. omega (arith, k));
        usage = neither (λ k. omega (arith, k)) (λ h. cc);
        bad_input = neither (λ k. omega (arith, k)) (too_long long);
        refused = neither (λ k. omega (arith, k)) (too_long long);
        done = neither (λ k. omega (arith, k)) (too_long long);
      }

  of_length : (form : Form) → form_of args ≡ Some form → is_supported args ≡ true → (long : Bool) → ltb limit (length bytes) ≡ long → Causes args bytes (of_bytes form bytes).0
  unfolding of_bytes
  of_length form e built true f = rw f (is_long built (ltb-true limit (length bytes) f))
  of_length form e built false f = rw f (of_read form e (built, ltb-false limit (length bytes) f))

  of_args : (o : Option Form) → form_of args ≡ o → Causes args bytes (of_form o bytes).0
  of_args (Some form) e = let built : is_supported args ≡ true = rw e refl in of_length form e built (ltb limit (length bytes)) refl
  of_args None e =
      let none : is_supported args ≡ false = rw e refl in
      record {
        answered = (λ k. omega (arith, k), λ k. omega (arith, k), λ k. omega (arith, k));
        usage = both refl none;
        bad_input = neither (λ k. omega (arith, k)) (not_supported none);
        refused = neither (λ k. omega (arith, k)) (not_supported none);
        done = neither (λ k. omega (arith, k)) (not_supported none);
      }

  causes-answer : Causes args bytes (answer args bytes).0
  unfolding answer
  causes-answer = of_args (form_of args) refl

-- ---- the status of a reply, which may be that of a failed read

-- what holds of each value holds of the one that is known
of_each : {A : Type 0} (o : Option A) (P : A → Type 0) → ((x : A) → P x) → IfSome o P
of_each None P f = tt
of_each (Some x) P f = f x

module _ (left : Option (List ℕ)) (before now : ℕ) (args : List (List ℕ)) (reply : Reply) where
  pub reply_written : IsReply left before now args reply → IsWritten reply.0
  reply_written (inl h) = subst (λ r. IsWritten r.0) (sym h.2) (let c = (causes-answer args h.0).answered in (c.0, c.2))
  reply_written (inr h) = let e = ap (λ r. r.0) h.1 in (λ k. omega (arith, e, k), λ k. omega (arith, e, k))

  pub reply_usage_causes : IsReply left before now args reply → reply.0 ≡ 2 ↔ IsUsage args
  reply_usage_causes (inl h) = subst (λ r. r.0 ≡ 2 ↔ IsUsage args) (sym h.2) (causes-answer args h.0).usage
  reply_usage_causes (inr h) = let e = ap (λ r. r.0) h.1 in let built = h.0 in neither (λ k. omega (arith, e, k)) (λ u. cc)

  pub reply_is_usage : IsReply left before now args reply → IsUsage args → reply ≡ refusal 2 (codes "Usage")
  unfolding answer
  reply_is_usage (inl h) other = h.2 ∙ ap (λ o. of_form o h.0) (no_form args other)
  reply_is_usage (inr h) other = let built = h.0 in absurd cc

  pub reply_rose : IsReply left before now args reply → reply.0 ≡ 5 → Rose before now
  reply_rose (inl h) e = absurd ((causes-answer args h.0).answered.1 (subst (λ r. r.0 ≡ 5) h.2 e))
  reply_rose (inr h) e = h.2

  -- a reply that isn't that of a failed read comes with no fault
  pub reply_faultless : IsReply left before now args reply → (reply ≡ read_fault → ⊥) → now ≡ before
  reply_faultless (inl h) other = h.3
  reply_faultless (inr h) other = absurd (other h.1)

  -- the causes, by all bytes of the source, where they are known
  reply_causes : IsReply left before now args reply → (reply.0 ≡ 5 → ⊥) → IfSome left (λ all. Causes args all reply.0)
  reply_causes (inl h) other = IfSome_then left h.1 (λ all e. subst (λ r. Causes args all r.0) (sym h.2) (subst (λ b. Causes args all (answer args b).0) (sym e) (causes-answer args all)))
  reply_causes (inr h) other = absurd (other (ap (λ r. r.0) h.1))

  pub reply_bad_input : IsReply left before now args reply → ComesExactly 3 reply.0 left (IsBadInput args)
  reply_bad_input h = λ answered. IfSome_then left (reply_causes h answered.1) (λ all (c : Causes args all reply.0). c.bad_input)

  pub reply_refused : IsReply left before now args reply → ComesExactly 4 reply.0 left (IsRefused args)
  reply_refused h = λ answered. IfSome_then left (reply_causes h answered.1) (λ all (c : Causes args all reply.0). c.refused)

  pub reply_answered : IsReply left before now args reply → ComesExactly 0 reply.0 left (IsAnswerable args)
  reply_answered h = λ answered. IfSome_then left (reply_causes h answered.1) (λ all (c : Causes args all reply.0). c.done)

  -- where the form is known, a cause is that of the form
  of_the_form : (Cause : Form → List ℕ → Type 0) (form : Form) (status : ℕ) → form_of args ≡ Some form → ComesExactly status reply.0 left (Has Cause args)
      → ComesExactly status reply.0 left (λ bytes. IsRead args bytes × Cause form bytes)
  of_the_form Cause form status e h = λ answered. subst (λ o. IfSome left (λ all. reply.0 ≡ status ↔ (IsRead args all × IsSomeAnd o (λ f. Cause f all)))) e (h answered)

  pub reply_bad_document : IsReply left before now args reply → IsCompress args → ComesExactly 3 reply.0 left (IsBadDocument args)
  reply_bad_document h e = of_the_form IsBad Compress 3 e (reply_bad_input h)

  pub reply_too_many_rows : IsReply left before now args reply → IsCompress args → ComesExactly 4 reply.0 left (HasTooManyRows args)
  reply_too_many_rows h e = of_the_form Refuses Compress 4 e (reply_refused h)

  pub reply_done : IsReply left before now args reply → IsCompress args → ComesExactly 0 reply.0 left (IsCompressible args)
  reply_done h e = of_the_form Answers Compress 0 e (reply_answered h)

  pub reply_complete : (P : Type 0) → IsReply left before now args reply
      → IfSome left (λ all. IsAnswerable args all → (Rose before now → ⊥) → P → (reply.0 ≡ 0) ⊎ (reply.0 ≡ 1))
  reply_complete P (inl h) =
      IfSome_then left (reply_causes (inl h) (λ k. (causes-answer args h.0).answered.1 (subst (λ r. r.0 ≡ 5) h.2 k)))
      (λ all (c : Causes args all reply.0) fits sure p. inl (c.done.1 fits))
  reply_complete P (inr h) = of_each left (λ all. IsAnswerable args all → (Rose before now → ⊥) → P → (reply.0 ≡ 0) ⊎ (reply.0 ≡ 1)) (λ all fits sure p. absurd (sure h.2))
