-- How many rows a sample has, and how few bytes a plain tree.
use Rattle.std.proofs.Common.{◌≡◌, ◌<◌, ◌≤◌, ◌+◌, ◌*◌, ◌^◌, ℕ, zero, suc, Bool, true, false, List, [], ◌∷◌, map, length, Option, refl, ◌∙◌, ap, sym, subst, arith, length-append, length-drop}
use Rattle.std.specs.Prelude.{◌||◌}
use Rattle.std.specs.List.{range_with_len}
use Rattle.std.proofs.lemmas.Bool.{cond_both, leb-false}
use Rattle.std.proofs.lemmas.List.{length-take}
use Rattle.vx_base.specs.Gathered.{gathered}
use Rattle.vx_base.specs.Masks.{rows_between}
use Rattle.vx_base.specs.PlainScalar.{fits}
use Rattle.vx_model.specs.Cascade.{Leaves}
use Rattle.vx_model.specs.Column.{Column, IsColumn, column, column_of}
use Rattle.vx_model.specs.Site.{Site}
use Rattle.vx_model.specs.Tree.{Tree}
use Rattle.vx_model.specs.Plain.{plain}
use Rattle.vx_model.specs.Rows.{below}
use Rattle.vx_model.specs.Size.{size}
use Rattle.vx_model.proofs.GatheredLemmas.{all-gathered}
use Rattle.vx_model.proofs.SizeLemmas.{size-plain_of-le}
use Rattle.vx_scheme.specs.Asked.{IsSiteTree}
use Rattle.vx_scheme.specs.Contexts.{sample_site}
use Rattle.vx_scheme.specs.Meaning.{Meaning}
use Rattle.vx_stats.specs.declared.options.GenerateStatsOptions.{GenerateStatsOptions}
use Rattle.vx_compressor.specs.declared.choice.Score.{Score}
use Rattle.vx_compressor.specs.Cascade.{trial, size_score, sample_score}
use Rattle.vx_compressor.specs.Judging.{IsAskable, IsReady}
use Rattle.vx_compressor.specs.Reach.{IsInReach}
use Rattle.vx_compressor.specs.Sampling.{slice_of, slice_count, slices, is_short, sample}
use Rattle.vx_compressor.proofs.HeldLemmas.{column_of-is, plain-is}
use Rattle.vx_compressor.proofs.SamplingLemmas.{slices_lie, end-within, counts_are_least}

-- ---- rows

-- a slice of 64 rows
record IsSlice (len : ℕ) (range : ℕ × ℕ) : Type 0 where
  long : range.1 ≡ range.0 + 64
  within : range.1 ≤ len

length-slice : {A : Type 0} (xs : List A) (range : ℕ × ℕ) → IsSlice (length xs) range → length (rows_between xs range.0 range.1) ≡ 64
length-slice xs range slice =
    let l = slice.long in
    let w = slice.within in
    simp (length-take, length-drop) (omega (arith, l, w))

length-gathered : {A : Type 0} (xs : List A) (f : ℕ → ℕ × ℕ) (a n : ℕ) → ((i : ℕ) → i < a + n → IsSlice (length xs) (f i)) → length (gathered (map f (range_with_len a n)) xs) ≡ 64 * n
length-gathered xs f a zero each = refl
length-gathered xs f a (suc n) each =
    let first = length-slice xs (f a) (each a (omega arith)) in
    let others = length-gathered xs f (a + 1) n (λ i l. each i (omega arith)) in
    omega (arith, length-append (rows_between xs (f a).0 (f a).1) (gathered (map f (range_with_len (a + 1) n)) xs), first, others)

slice_is : (len : ℕ) (words : List ℕ) (i : ℕ) → is_short len ≡ false → i < slice_count len → IsSlice len (slice_of len words i)
slice_is len words i e l =
    let lies = slices_lie len words i e in
    let least = counts_are_least len in
    let within = end-within len (slice_count len) i (omega (arith, least.some)) l in
    record { long = lies.0; within = omega (arith, lies.1.not_beyond, within) }

-- the sample of a long column has some of its rows
sampled_rows : {A : Type 0} (xs : List A) (words : List ℕ) → is_short (length xs) ≡ false → (0 < length (gathered (below (slice_of (length xs) words) (slice_count (length xs))) xs)) × (length (gathered (below (slice_of (length xs) words) (slice_count (length xs))) xs) ≤ length xs)
sampled_rows xs words e =
    let all = length-gathered xs (slice_of (length xs) words) 0 (slice_count (length xs)) (λ i l. slice_is (length xs) words i e (omega (arith, l))) in
    let least = counts_are_least (length xs) in
    let fewer : 64 * slice_count (length xs) < length xs = leb-false _ _ e in
    (omega (arith, all, least.some), omega (arith, all, fewer))

pub sample-column : (sampled : Bool) (words : List ℕ) (c : Column) → IsColumn c → IsColumn (sample sampled words c)
sample-column sampled words c h = cond_both (sampled || is_short (length c.values)) c (column c.dtype (gathered (slices (length c.values) words) c.values)) IsColumn (λ e. h) (λ e. all-gathered (fits c.dtype) (slices (length c.values) words) c.values h)

pub sample_askable : (sampled : Bool) (words : List ℕ) (c : Column) → IsAskable c → IsAskable (sample sampled words c)
sample_askable true words c askable = askable
sample_askable false words c askable =
    cond_both (is_short (length c.values)) c (column c.dtype (gathered (slices (length c.values) words) c.values)) IsAskable (λ e. askable)
    (λ e. cond_both (is_short (length c.values)) ((0, length c.values) ∷ []) (below (slice_of (length c.values) words) (slice_count (length c.values))) (λ ranges. IsAskable (column c.dtype (gathered ranges c.values))) (λ t. absurd cc) (λ f. long e))
  where
    long : is_short (length c.values) ≡ false → IsAskable (column c.dtype (gathered (below (slice_of (length c.values) words) (slice_count (length c.values))) c.values))
    long e = let rows = sampled_rows c.values words e in record { column = all-gathered (fits c.dtype) (below (slice_of (length c.values) words) (slice_count (length c.values))) c.values askable.column; flat = askable.flat; some = rows.0; few = omega (arith, rows.1, askable.few) }

pub sample-fewer : (sampled : Bool) (words : List ℕ) (c : Column) → length (sample sampled words c).values ≤ length c.values
sample-fewer true words c = omega arith
sample-fewer false words c =
    cond_both (is_short (length c.values)) c (column c.dtype (gathered (slices (length c.values) words) c.values)) (λ s. length s.values ≤ length c.values) (λ e. omega arith)
    (λ e. cond_both (is_short (length c.values)) ((0, length c.values) ∷ []) (below (slice_of (length c.values) words) (slice_count (length c.values))) (λ ranges. length (gathered ranges c.values) ≤ length c.values) (λ t. absurd cc) (λ f. (sampled_rows c.values words e).1))

pub sample-dtype : (sampled : Bool) (words : List ℕ) (c : Column) → (sample sampled words c).dtype ≡ c.dtype
sample-dtype true words c = refl
sample-dtype false words c = cond_both (is_short (length c.values)) c (column c.dtype (gathered (slices (length c.values) words) c.values)) (λ s. s.dtype ≡ c.dtype) (λ e. refl) (λ e. refl)

-- ---- bytes

-- the plain tree of a column that schemes are asked about is small
pub size-askable : (c : Column) → IsAskable c → size (plain c) < 2 ^ 64
size-askable c askable = let most = size-plain_of-le c.dtype c.values askable.flat askable.column in omega (arith, askable.few)

-- ---- what may be asked of a sample's plain tree, and the score of what is made of it

module _ (part : Tree) (c : Column) (sampled : Bool) (words : List ℕ) (e : part ≡ plain (sample sampled words c)) where
  sampled-fits : IsAskable c → IsColumn (sample sampled words c)
  sampled-fits askable = sample-column sampled words c askable.column

  column-sampled : IsAskable c → column_of part ≡ sample sampled words c
  column-sampled askable = column_of-is part (sample sampled words c) (sampled-fits askable) e

  askable-sampled : IsAskable c → IsAskable (column_of part)
  askable-sampled askable = subst IsAskable (sym (column-sampled askable)) (sample_askable sampled words c askable)

  pub site_tree-sampled : IsAskable c → IsSiteTree part
  site_tree-sampled askable = let own = askable-sampled askable in record { plain = plain-is part (sample sampled words c) (sampled-fits askable) e; some = own.some; few = own.few }

  pub reach-sampled : IsAskable c → (budget : ℕ) → IsInReach c budget → IsInReach (column_of part) budget
  reach-sampled askable budget reach =
      let fewer = sample-fewer sampled words c in
      let few = reach.few in
      subst (λ s. IsInReach s budget) (sym (column-sampled askable)) (record { few = omega (arith, fewer, few); within = reach.within })

  pub ready-sampled : IsAskable c → (opts : GenerateStatsOptions) (m : Meaning) → IsReady c opts m → IsReady (column_of part) opts m
  ready-sampled askable opts m ready = record { taken = ap m.takes (ap (λ s. s.dtype) (column-sampled askable) ∙ sample-dtype sampled words c) ∙ ready.taken; included = ready.included }

  pub size-sampled : IsAskable c → size part < 2 ^ 64
  size-sampled askable = rw e (size-askable (sample sampled words c) (sample_askable sampled words c askable))

  pub score-sampled : IsAskable c → (child : Leaves) (m : Meaning) (site : Site) (tree part' : Tree) (r : Option Score) → tree ≡ trial child m (column_of part) (sample_site site) → part' ≡ part → r ≡ size_score (size part') (size tree)
      → r ≡ sample_score child m (sample sampled words c) site
  score-sampled askable child m site tree part' r made same scored =
      scored ∙ (λ i. size_score (size ((same ∙ e) i)) (size ((made ∙ ap (λ s. trial child m s (sample_site site)) (column-sampled askable)) i)))
