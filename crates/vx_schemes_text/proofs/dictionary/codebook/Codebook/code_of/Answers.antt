use Rattle.std.proofs.Common.{arith, ◌≡◌, ◌∙◌, ◌++◌, ◌∷◌, [], ℕ, List, Option, Some, cond, length, map, pos, refl, sym, ap, unwrap_or, bytes_eq}
use Rattle.std.specs.HashMap.{get_by}
use Rattle.std.specs.HashMap.Entry.{map_with_value}
use Rattle.std.specs.List.{position_or_len}
use Rattle.std.proofs.lemmas.Grind.{common_steps}
use Rattle.std.proofs.lemmas.List.{length-map}
use Rattle.std.proofs.lemmas.Map.Text.{hash_map_updates_str}
use Rattle.vx_base.specs.PlainValue.{bytes, same_value}
use Rattle.vx_model.specs.Rows.{row_at}
use Rattle.vx_schemes_text.specs.Dictionary.Codebook.{place_in}
use Rattle.vx_schemes_text.specs.Dictionary.Tree.{appearing}
use Rattle.vx_schemes_text.proofs.AppearanceLemmas.{appearing-more}
use Rattle.vx_schemes_text.proofs.CodebookLemmas.{code-placed, finds-more, is-known, is-new, map-last, same-bytes}
use Rattle.vx_schemes_text.proofs.dictionary.codebook.Codebook.code_of.Goals as goal

pub returns-in_ok-push-clause-code : goal.returns-in_ok-push-clause-code
returns-in_ok-push-clause-code c = λ values seen knows.
    let value = c.args.value.now in
    let code = c.or_insert-code.result.now in
    let ds = appearing seen in
    let before : List ℕ → Option ℕ = λ q. get_by (λ k. bytes_eq q k.now) c.args.self.now.codes in
    let after : List ℕ → Option ℕ = λ q. get_by (λ k. bytes_eq q k.now) (map_with_value c.in_ok-self.field-0 code) in
    let sets = hash_map_updates_str value c.args.self.now.codes (map_with_value c.in_ok-self.field-0 code) _ (c.in_ok-self.ensures.update.0 code) in
    let long : length c.args.self.now.firsts.items ≡ length ds = sym (length-map c.args.self.now.firsts.items (row_at values)) ∙ ap length knows.firsts in
    let code_is : code ≡ unwrap_or (before value) (length ds) = grind (arith, common_steps, long) in
    let writes = λ (q : List ℕ). sets q ∙ ap (λ b. cond b (Some code) (before q)) (same-bytes value q) in
    let grown = sym (appearing-more seen (bytes value)) in
    ap pos (code-placed ds before after value (length ds) code knows.codes refl code_is writes ∙ ap (position_or_len (same_value (bytes value))) grown)

pub returns-in_ok-push-clause-knows : goal.returns-in_ok-push-clause-knows
returns-in_ok-push-clause-knows c = λ values seen knows here.
    let value = c.args.value.now in
    let code = c.or_insert-code.result.now in
    let ds = appearing seen in
    let before : List ℕ → Option ℕ = λ q. get_by (λ k. bytes_eq q k.now) c.args.self.now.codes in
    let after : List ℕ → Option ℕ = λ q. get_by (λ k. bytes_eq q k.now) (map_with_value c.in_ok-self.field-0 code) in
    let sets = hash_map_updates_str value c.args.self.now.codes (map_with_value c.in_ok-self.field-0 code) _ (c.in_ok-self.ensures.update.0 code) in
    let long : length c.args.self.now.firsts.items ≡ length ds = sym (length-map c.args.self.now.firsts.items (row_at values)) ∙ ap length knows.firsts in
    let code_is : code ≡ unwrap_or (before value) (length ds) = grind (arith, common_steps, long) in
    let writes = λ (q : List ℕ). sets q ∙ ap (λ b. cond b (Some code) (before q)) (same-bytes value q) in
    let grown = sym (appearing-more seen (bytes value)) in
    let next : code ≡ length ds = grind (arith, common_steps, long) in
    let new = is-new ds before after value (length ds) code knows.codes refl code_is writes next in
    let more = λ (q : List ℕ). finds-more ds before after value (length ds) code knows.codes refl code_is writes q ∙ ap (λ l. place_in l (bytes q)) grown in
    record {
      firsts = ap (map (row_at values)) c.in_ok-push.ensures.items ∙ map-last (row_at values) c.args.self.now.firsts.items c.args.row ∙ (λ i. knows.firsts i ++ here i ∷ []) ∙ ap (λ b. cond b ds (ds ++ bytes value ∷ [])) (sym new) ∙ grown;
      codes = λ q. grind (arith, common_steps, more q);
    }

pub returns-else-code-next-clause-code : goal.returns-else-code-next-clause-code
returns-else-code-next-clause-code c = λ values seen knows.
    let value = c.args.value.now in
    let code = c.or_insert-code.result.now in
    let ds = appearing seen in
    let before : List ℕ → Option ℕ = λ q. get_by (λ k. bytes_eq q k.now) c.args.self.now.codes in
    let after : List ℕ → Option ℕ = λ q. get_by (λ k. bytes_eq q k.now) (map_with_value c.in_ok-self.field-0 code) in
    let sets = hash_map_updates_str value c.args.self.now.codes (map_with_value c.in_ok-self.field-0 code) _ (c.in_ok-self.ensures.update.0 code) in
    let long : length c.args.self.now.firsts.items ≡ length ds = sym (length-map c.args.self.now.firsts.items (row_at values)) ∙ ap length knows.firsts in
    let code_is : code ≡ unwrap_or (before value) (length ds) = grind (arith, common_steps, long) in
    let writes = λ (q : List ℕ). sets q ∙ ap (λ b. cond b (Some code) (before q)) (same-bytes value q) in
    let grown = sym (appearing-more seen (bytes value)) in
    ap pos (code-placed ds before after value (length ds) code knows.codes refl code_is writes ∙ ap (position_or_len (same_value (bytes value))) grown)

pub returns-else-code-next-clause-knows : goal.returns-else-code-next-clause-knows
returns-else-code-next-clause-knows c = λ values seen knows here.
    let value = c.args.value.now in
    let code = c.or_insert-code.result.now in
    let ds = appearing seen in
    let before : List ℕ → Option ℕ = λ q. get_by (λ k. bytes_eq q k.now) c.args.self.now.codes in
    let after : List ℕ → Option ℕ = λ q. get_by (λ k. bytes_eq q k.now) (map_with_value c.in_ok-self.field-0 code) in
    let sets = hash_map_updates_str value c.args.self.now.codes (map_with_value c.in_ok-self.field-0 code) _ (c.in_ok-self.ensures.update.0 code) in
    let long : length c.args.self.now.firsts.items ≡ length ds = sym (length-map c.args.self.now.firsts.items (row_at values)) ∙ ap length knows.firsts in
    let code_is : code ≡ unwrap_or (before value) (length ds) = grind (arith, common_steps, long) in
    let writes = λ (q : List ℕ). sets q ∙ ap (λ b. cond b (Some code) (before q)) (same-bytes value q) in
    let grown = sym (appearing-more seen (bytes value)) in
    let known = is-known ds before after value (length ds) code knows.codes refl code_is writes (λ e. grind (arith, common_steps, long, e)) in
    let more = λ (q : List ℕ). finds-more ds before after value (length ds) code knows.codes refl code_is writes q ∙ ap (λ l. place_in l (bytes q)) grown in
    record {
      firsts = knows.firsts ∙ ap (λ b. cond b ds (ds ++ bytes value ∷ [])) (sym known) ∙ grown;
      codes = λ q. grind (arith, common_steps, more q);
    }
