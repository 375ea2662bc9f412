-- Characters match a pattern exactly where they can be cut into spans that its items stand for.
use Rattle.std.proofs.Common.{◌≡◌, ℕ, Bool, true, false, List, [], ◌∷◌, ◌++◌, refl, sym, ap, subst, arith}
use Rattle.std.specs.Prelude.{◌||◌, ◌==◌}
use Rattle.std.specs.List.{AllZip, list_any}
use Rattle.std.proofs.lemmas.Bool.{and_parts, and_from, eqb-true, eq-eqb, or_right, or_left}
use Rattle.vx_model.specs.Nested.{concatenated}
use Rattle.vx_rules.specs.Laws.{StandsFor, IsCutBy, MatchesAreCuts}
use Rattle.vx_rules.specs.Patterns.{PatternItem, any_run, any_char, exactly, suffixes, matches}

-- one span more, in front
in_front : (item : PatternItem) (items : List PatternItem) (span cs : List ℕ) → StandsFor item span → IsCutBy items cs → IsCutBy (item ∷ items) (span ++ cs)
in_front item items span cs s c = record {
  spans = span ∷ c.spans;
  stand = (s, c.stand);
  whole = ap (λ xs. span ++ xs) c.whole;
}

-- a test of some suffix of a list that passes, with the suffix and what stands before it
record Suffix (test : List ℕ → Bool) (cs : List ℕ) : Type 0 where
  before : List ℕ
  rest : List ℕ
  passes : test rest ≡ true
  whole : before ++ rest ≡ cs

suffix_of : (test : List ℕ → Bool) (cs : List ℕ) → list_any test (suffixes cs) ≡ true → Suffix test cs
suffix_of test [] h = by (test []) refl h
  where
    by : (b : Bool) → test [] ≡ b → (b || false) ≡ true → Suffix test []
    by true e h = record { before = []; rest = []; passes = e; whole = refl }
    by false e h = absurd cc
suffix_of test (c ∷ cs) h = by (test (c ∷ cs)) refl h (suffix_of test cs)
  where
    later : Suffix test cs → Suffix test (c ∷ cs)
    later s = record { before = c ∷ s.before; rest = s.rest; passes = s.passes; whole = ap (λ xs. c ∷ xs) s.whole }

    by : (b : Bool) → test (c ∷ cs) ≡ b → (b || list_any test (suffixes cs)) ≡ true → (list_any test (suffixes cs) ≡ true → Suffix test cs) → Suffix test (c ∷ cs)
    by true e h behind = record { before = []; rest = c ∷ cs; passes = e; whole = refl }
    by false e h behind = later (behind h)

-- and the other way round
passes-suffixes : (test : List ℕ → Bool) (before rest : List ℕ) → test rest ≡ true → list_any test (suffixes (before ++ rest)) ≡ true
passes-suffixes test [] [] h = or_left _ _ h
passes-suffixes test [] (c ∷ cs) h = or_left _ _ h
passes-suffixes test (c ∷ before) rest h = or_right _ _ (passes-suffixes test before rest h)

cut_of : (items : List PatternItem) (cs : List ℕ) → matches items cs ≡ true → IsCutBy items cs
cut_of [] [] h = record { spans = []; stand = tt; whole = refl }
cut_of [] (c ∷ cs) h = absurd cc
cut_of (any_run ∷ items) cs h =
    let s = suffix_of (matches items) cs h in
    subst (IsCutBy (any_run ∷ items)) s.whole (in_front any_run items s.before s.rest tt (cut_of items s.rest s.passes))
cut_of (any_char ∷ items) [] h = absurd cc
cut_of (any_char ∷ items) (c ∷ cs) h = in_front any_char items (c ∷ []) cs refl (cut_of items cs h)
cut_of (exactly d ∷ items) [] h = absurd cc
cut_of (exactly d ∷ items) (c ∷ cs) h =
    let b = and_parts (c == d) (matches items cs) h in
    in_front (exactly d) items (c ∷ []) cs (ap (λ x. x ∷ []) (eqb-true c d b.0)) (cut_of items cs b.1)

match_of : (items : List PatternItem) (spans : List (List ℕ)) → AllZip StandsFor items spans → matches items (concatenated spans) ≡ true
match_of [] [] s = refl
match_of [] (span ∷ spans) s = absurd s
match_of (item ∷ items) [] s = absurd s
match_of (any_run ∷ items) (span ∷ spans) s = passes-suffixes (matches items) span (concatenated spans) (match_of items spans s.1)
match_of (any_char ∷ items) ([] ∷ spans) s = absurd (omega (arith, s.0))
match_of (any_char ∷ items) ((c ∷ []) ∷ spans) s = match_of items spans s.1
match_of (any_char ∷ items) ((c ∷ d ∷ cs) ∷ spans) s = absurd (omega (arith, s.0))
match_of (exactly d ∷ items) (span ∷ spans) s =
    subst (λ xs. matches (exactly d ∷ items) (xs ++ concatenated spans) ≡ true) (sym s.0) (and_from _ _ (eq-eqb d d refl) (match_of items spans s.1))

pub matches_are_cuts : MatchesAreCuts
matches_are_cuts items cs = (cut_of items cs, λ c. subst (λ xs. matches items xs ≡ true) c.whole (match_of items c.spans c.stand))
