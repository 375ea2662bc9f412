-- Worked values, counted by hand, so that a wrong rule in the definitions does not check.
use Rattle.std.specs.Prelude.{◌≡◌, ◌<◌, ℕ, true, false, List, [], ◌∷◌, map, replicate, take, drop, Option, Some, None, option_map, pos, refl, codes, Bool}
use Rattle.std.proofs.Common.{arith}
use Rattle.vx_base.specs.declared.error.VortexError.TheVariants.{DuplicateScheme}
use Rattle.vx_base.specs.declared.ptype.PType.TheVariants.{U8, I64}
use Rattle.vx_base.specs.declared.dtype.Nullability.TheVariants.{NonNullable}
use Rattle.vx_base.specs.declared.timestamp.TimeUnit.TheVariants.{Seconds}
use Rattle.vx_base.specs.PlainType.{PlainType, is_integer, is_timestamp}
use Rattle.vx_base.specs.PlainType as types
use Rattle.vx_base.specs.PlainScalar.{scalar}
use Rattle.vx_base.specs.PlainValue.{int}
use Rattle.vx_base.specs.PlainValue as values
use Rattle.vx_base.specs.Timestamps.{PlainTimestamp, kind}
use Rattle.vx_model.specs.Cascade.{cascade}
use Rattle.vx_model.specs.Column.{Column, column}
use Rattle.vx_model.specs.Plain.{plain}
use Rattle.vx_model.specs.Rows.{below}
use Rattle.vx_model.specs.Site.{fresh, down}
use Rattle.vx_model.specs.Tree.{Tree, primitive, var_bin_view, timestamp, constant}
use Rattle.vx_scheme.specs.Asked.{most_rows}
use Rattle.vx_scheme.specs.Contexts.{leaf_site}
use Rattle.vx_scheme.specs.Excluded.{root_name}
use Rattle.vx_scheme.specs.Meaning.{Meaning, PlainSplit, kept, finished, parts}
use Rattle.vx_scheme.specs.declared.estimate.CompressionEstimate.{CompressionEstimate}
use Rattle.vx_scheme.specs.declared.estimate.CompressionEstimate.TheVariants.{Verdict, Deferred}
use Rattle.vx_scheme.specs.declared.estimate.DeferredEstimate.TheVariants.{Sample, Callback}
use Rattle.vx_scheme.specs.declared.estimate.EstimateVerdict.{EstimateVerdict}
use Rattle.vx_scheme.specs.declared.estimate.EstimateVerdict.TheVariants.{Skip, AlwaysUse, Ratio}
use Rattle.vx_scheme.specs.declared.selection.ChildSelection.{ChildSelection}
use Rattle.vx_scheme.specs.declared.selection.ChildSelection.TheVariants.{One}
use Rattle.vx_compressor.specs.declared.choice.Score.{Score}
use Rattle.vx_compressor.specs.declared.choice.Score.TheVariants.{Always, Finite}
use Rattle.vx_compressor.specs.Cascade.{Setting, choice, plain_parts, leaf_tree, compressed_child}
use Rattle.vx_compressor.specs.Choice.{choice_of}
use Rattle.vx_compressor.specs.Distinct.{schemes_refusal}
use Rattle.vx_compressor.specs.Reach.{most_site_rows, most_part_rows}
use Rattle.vx_compressor.specs.Sampling.{partitions, slice_count, slices, sample}

-- ---- samples

-- ten rows in three parts
pub partitions-ten : partitions 10 3 ≡ (0, 4) ∷ (4, 7) ∷ (7, 10) ∷ []
partitions-ten = refl

-- sixteen, up to a hundredth of 102,400 rows in slices of 64; with a hundredth of 108,800 it is 17, so 32
pub slice_counts : map slice_count (0 ∷ 1_000 ∷ 100_000 ∷ 102_400 ∷ 108_799 ∷ 108_800 ∷ 204_800 ∷ 4_294_967_296 ∷ []) ≡ 16 ∷ 16 ∷ 16 ∷ 16 ∷ 16 ∷ 32 ∷ 32 ∷ 671_088 ∷ []
slice_counts = refl

-- sixteen partitions of 128 rows, in which a slice has 65 places: 5, and 70 less 65
pub slices-2048 : take 3 (slices 2_048 (5 ∷ 70 ∷ [])) ≡ (5, 69) ∷ (133, 197) ∷ (261, 325) ∷ []
slices-2048 = refl

-- the greatest word that begins at the last place, and the one above it
pub slices-ends : take 2 (slices 2_048 (64 ∷ 65 ∷ [])) ≡ (64, 128) ∷ (128, 192) ∷ []
slices-ends = refl

-- 1,024 rows are all taken; of 1,025 the first partition has one row more
pub slices-short : (slices 1_024 (5 ∷ []) ≡ (0, 1_024) ∷ []) × (take 3 (slices 1_025 (5 ∷ [])) ≡ (1, 65) ∷ (65, 129) ∷ (129, 193) ∷ [])
slices-short = (refl, refl)

abbrev counting : ℕ → Column
counting n = column (types.primitive U8 NonNullable) (below (λ i. int (pos i)) n)

-- a sample is its own sample, and leaves out what lies in no slice
pub samples : (sample true (5 ∷ []) (counting 1_025) ≡ counting 1_025) × (take 2 (sample false (5 ∷ []) (counting 1_025)).values ≡ int (pos 1) ∷ int (pos 2) ∷ [])
samples = (refl, refl)

-- ---- choices, of schemes that are numbers

abbrev times : (m n : ℕ) → 0 < n → Option Score
times m n h = Some (Finite (record { num = m; den = n; positive = h }))

abbrev chosen : List (ℕ × Option Score) → Option ℕ
chosen xs = choice_of xs

-- the first always-use stands, before the greatest fraction too
pub always_stands : chosen ((0, times 9 1 (omega arith)) ∷ (1, Some Always) ∷ (2, Some Always) ∷ (3, times 99 1 (omega arith)) ∷ []) ≡ Some 1
always_stands = refl

-- of two equal fractions the earlier
pub earlier_stands : chosen ((0, None) ∷ (1, times 3 2 (omega arith)) ∷ (2, times 6 4 (omega arith)) ∷ (3, times 5 4 (omega arith)) ∷ []) ≡ Some 1
earlier_stands = refl

-- a greater one wins wherever it stands
pub greater_wins : chosen ((0, times 3 2 (omega arith)) ∷ (1, times 5 2 (omega arith)) ∷ (2, times 2 1 (omega arith)) ∷ []) ≡ Some 1
greater_wins = refl

-- one, or less, is no reason to choose
pub none_counts : chosen ((0, times 7 7 (omega arith)) ∷ (1, times 2 3 (omega arith)) ∷ (2, None) ∷ []) ≡ None
none_counts = refl

-- and never hides what is above one
pub one_above : chosen ((0, times 7 7 (omega arith)) ∷ (1, times 8 7 (omega arith)) ∷ []) ≡ Some 1
one_above = refl

-- ---- a site, of schemes that tell and make the same of every column

abbrev telling : List ℕ → CompressionEstimate → EstimateVerdict → PlainSplit → Meaning
telling name estimate resolve made = record {
  name = name;
  takes = λ t. true;
  children = 1;
  options = record { count_distinct_values = false };
  produces = λ id. false;
  descendants = [];
  ancestors = [];
  estimate = λ c site. estimate;
  resolve = λ c site. resolve;
  splits = λ c site. made;
  joined = λ c site trees. plain c;
}

abbrev times_as_much : (m n : ℕ) → 0 < n → EstimateVerdict
times_as_much m n h = Ratio (record { num = m; den = n; positive = h })

abbrev at_once : ℕ → EstimateVerdict → Meaning
at_once name verdict = telling (name ∷ []) (Verdict verdict) Skip kept

abbrev later : ℕ → EstimateVerdict → Meaning
later name verdict = telling (name ∷ []) (Deferred Callback) verdict kept

-- one that is tried on samples, of which it makes this tree
abbrev by_sample : ℕ → Tree → Meaning
by_sample name tree = telling (name ∷ []) (Deferred Sample) Skip (finished tree)

abbrev among : List Meaning → Setting
among schemes = record { schemes = schemes; words = 0 ∷ [] }

-- three bytes
abbrev three : Column
three = column (types.primitive U8 NonNullable) (int (pos 7) ∷ int (pos 8) ∷ int (pos 7) ∷ [])

-- trees of no byte, of one, of two and of three
abbrev of_bytes : ℕ → Tree
of_bytes n = plain (column (types.primitive U8 NonNullable) (below (λ i. int (pos i)) n))

abbrev chosen_among : List Meaning → Option (List ℕ)
chosen_among schemes = option_map (λ m. m.name) (choice plain_parts (among schemes) three fresh)

-- the first always-use wins, and a verdict before one that is put off
pub first_always : (chosen_among (at_once 0 (times_as_much 9 1 (omega arith)) ∷ later 1 AlwaysUse ∷ at_once 2 AlwaysUse ∷ at_once 3 AlwaysUse ∷ []) ≡ Some (2 ∷ []))
    × (chosen_among (at_once 0 (times_as_much 9 1 (omega arith)) ∷ later 1 AlwaysUse ∷ later 2 AlwaysUse ∷ []) ≡ Some (1 ∷ []))
first_always = (refl, refl)

-- of equal ratios the earlier stands, but a verdict before one that is put off
pub earlier_tie : (chosen_among (at_once 0 (times_as_much 3 2 (omega arith)) ∷ at_once 1 (times_as_much 6 4 (omega arith)) ∷ []) ≡ Some (0 ∷ []))
    × (chosen_among (later 0 (times_as_much 3 2 (omega arith)) ∷ at_once 1 (times_as_much 6 4 (omega arith)) ∷ []) ≡ Some (1 ∷ []))
earlier_tie = (refl, refl)

-- a greater ratio wins though it is put off
pub later_greater : chosen_among (at_once 0 (times_as_much 3 2 (omega arith)) ∷ later 1 (times_as_much 2 1 (omega arith)) ∷ []) ≡ Some (1 ∷ [])
later_greater = refl

-- a ratio of one, or below, doesn't count
pub no_more_than_one : chosen_among (at_once 0 (times_as_much 7 7 (omega arith)) ∷ later 1 (times_as_much 1 2 (omega arith)) ∷ at_once 2 Skip ∷ []) ≡ None
no_more_than_one = refl

-- three bytes by one is a ratio of three, by three of none; no byte is out of the race
pub sampled : (chosen_among (at_once 0 (times_as_much 2 1 (omega arith)) ∷ by_sample 1 (of_bytes 1) ∷ []) ≡ Some (1 ∷ []))
    × (chosen_among (by_sample 0 (of_bytes 0) ∷ by_sample 1 (of_bytes 2) ∷ []) ≡ Some (1 ∷ []))
    × (chosen_among (by_sample 0 (of_bytes 0) ∷ by_sample 1 (of_bytes 3) ∷ []) ≡ None)
sampled = (refl, refl, refl)

-- a name that stands above is not chosen again
pub not_below_itself : option_map (λ m. m.name) (choice plain_parts (among (at_once 0 AlwaysUse ∷ at_once 1 (times_as_much 2 1 (omega arith)) ∷ [])) three (down fresh (0 ∷ []) 0)) ≡ Some (1 ∷ [])
not_below_itself = refl

-- the chosen tree stands where it is smaller, and only there
pub smaller_stands : (leaf_tree (among (telling (0 ∷ []) (Verdict AlwaysUse) Skip (finished (of_bytes 2)) ∷ [])) three fresh ≡ of_bytes 2)
    × (leaf_tree (among (telling (0 ∷ []) (Verdict AlwaysUse) Skip (finished (of_bytes 3)) ∷ [])) three fresh ≡ plain three)
    × (leaf_tree (among (at_once 0 AlwaysUse ∷ [])) three fresh ≡ plain three)
smaller_stands = (refl, refl, refl)

abbrev first_of : List Tree → Tree
first_of [] = of_bytes 3
first_of (t ∷ ts) = t

abbrev second_of : List Tree → Tree
second_of [] = of_bytes 3
second_of (t ∷ ts) = first_of ts

-- ---- parts, each at a site of its own

abbrev bytes : List ℕ → Column
bytes ns = column (types.primitive U8 NonNullable) (map (λ n. int (pos n)) ns)

-- one that is always chosen, and becomes the tree of the one part that it makes of a column
abbrev by_part : ℕ → (Column → Column) → Meaning
by_part name part = record (telling (name ∷ []) (Verdict AlwaysUse) Skip kept) { splits = λ c site. parts (part c ∷ []); joined = λ c site trees. first_of trees }

abbrev six : Column
six = bytes (1 ∷ 2 ∷ 3 ∷ 4 ∷ 5 ∷ 6 ∷ [])

abbrev fives : ℕ → Column
fives n = bytes (replicate n 5)

-- a part of one byte stays plain; one of three equal bytes becomes a constant, unless no scheme may follow
pub parts_below : (leaf_tree (among (by_part 0 (λ c. fives 1) ∷ [])) six fresh ≡ plain (fives 1))
    × (leaf_tree (among (by_part 0 (λ c. fives 3) ∷ [])) six fresh ≡ constant (scalar (types.primitive U8 NonNullable) (int (pos 5))) 3)
    × (leaf_tree (among (by_part 0 (λ c. fives 3) ∷ [])) six (leaf_site fresh) ≡ plain (fives 3))
parts_below = (refl, refl, refl)

abbrev without_first : Column → Column
without_first c = column c.dtype (drop 1 c.values)

-- a scheme never stands below itself: two that leave out a row each leave out two, and one leaves out one
pub each_once : (leaf_tree (among (by_part 0 without_first ∷ [])) six fresh ≡ plain (bytes (2 ∷ 3 ∷ 4 ∷ 5 ∷ 6 ∷ [])))
    × (leaf_tree (among (by_part 0 without_first ∷ by_part 1 without_first ∷ [])) six fresh ≡ plain (bytes (3 ∷ 4 ∷ 5 ∷ 6 ∷ [])))
each_once = (refl, refl)

abbrev seven : Column
seven = bytes (1 ∷ 2 ∷ 3 ∷ 4 ∷ 5 ∷ 6 ∷ 7 ∷ [])

-- of six that leave out a row five stand on one path
pub five_levels : leaf_tree (among (map (λ n. by_part n without_first) (0 ∷ 1 ∷ 2 ∷ 3 ∷ 4 ∷ 5 ∷ []))) seven fresh ≡ plain (bytes (6 ∷ 7 ∷ []))
five_levels = refl

-- below a budget of 2, three
pub three_levels : leaf_tree (among (map (λ n. by_part n without_first) (0 ∷ 1 ∷ 2 ∷ 3 ∷ 4 ∷ []))) six (record fresh { budget = 2 }) ≡ plain (bytes (4 ∷ 5 ∷ 6 ∷ []))
three_levels = refl

-- one that has a rule against the scheme 1, below these of its children
abbrev against : ChildSelection → Meaning
against children = record (by_part 0 without_first) { descendants = record { scheme = 1 ∷ []; children = children } ∷ [] }

-- its part is child 0; the rule is one for what stands below it, and none for what stands above
pub rules_below : (leaf_tree (among (against (One 0) ∷ by_part 1 without_first ∷ [])) six fresh ≡ plain (bytes (2 ∷ 3 ∷ 4 ∷ 5 ∷ 6 ∷ [])))
    × (leaf_tree (among (against (One 1) ∷ by_part 1 without_first ∷ [])) six fresh ≡ plain (bytes (3 ∷ 4 ∷ 5 ∷ 6 ∷ [])))
    × (leaf_tree (among (by_part 1 without_first ∷ against (One 0) ∷ [])) six fresh ≡ plain (bytes (3 ∷ 4 ∷ 5 ∷ 6 ∷ [])))
rules_below = (refl, refl, refl)

-- the second of two parts is child 1
abbrev by_second : Meaning
by_second = record (against (One 1)) { splits = λ c site. parts (c ∷ without_first c ∷ []); joined = λ c site trees. second_of trees }

pub second_part : leaf_tree (among (by_second ∷ by_part 1 without_first ∷ [])) six fresh ≡ plain (bytes (2 ∷ 3 ∷ 4 ∷ 5 ∷ 6 ∷ []))
second_part = refl

abbrev sevens : Tree
sevens = plain (bytes (replicate 3 7))

-- a child stays as it is below a budget of 0; else its type and rows decide, and what stands above
pub children : (compressed_child (among []) sevens (leaf_site fresh) (0 ∷ []) 0 ≡ sevens)
    × (compressed_child (among []) sevens fresh (0 ∷ []) 0 ≡ constant (scalar (types.primitive U8 NonNullable) (int (pos 7))) 3)
    × (compressed_child (among (by_part 0 without_first ∷ [])) (plain six) fresh (0 ∷ []) 0 ≡ plain six)
    × (compressed_child (among (by_part 0 without_first ∷ [])) (plain six) fresh (1 ∷ []) 0 ≡ plain (bytes (2 ∷ 3 ∷ 4 ∷ 5 ∷ 6 ∷ [])))
children = (refl, refl, refl, refl)

-- ---- texts and timestamps

abbrev texts : List (List ℕ) → Column
texts vs = column (types.utf8 NonNullable) (map values.bytes vs)

-- two equal texts are a constant of 3 bytes; two that differ take 16 bytes each, and go by the schemes
pub of_texts : (leaf_tree (among []) (texts (codes "ab" ∷ codes "ab" ∷ [])) fresh ≡ constant (scalar (types.utf8 NonNullable) (values.bytes (codes "ab"))) 2)
    × (leaf_tree (among []) (texts (codes "ab" ∷ codes "b" ∷ [])) fresh ≡ var_bin_view (codes "ab" ∷ codes "b" ∷ []) None (types.utf8 NonNullable))
    × (leaf_tree (among (by_part 0 (λ c. fives 1) ∷ [])) (texts (codes "ab" ∷ codes "b" ∷ [])) fresh ≡ plain (fives 1))
of_texts = (refl, refl, refl)

abbrev seconds : PlainTimestamp
seconds = kind Seconds None

abbrev stamps : List ℕ → Column
stamps ns = column (types.timestamp seconds NonNullable) (map (λ n. int (pos n)) ns)

-- the plain tree of whole numbers of 64 bits
abbrev wholes : List ℕ → Tree
wholes ns = primitive I64 (map pos ns) None NonNullable

-- one that makes a tree of 2 bytes of the columns of some types
abbrev two_bytes_of : (PlainType → Bool) → Meaning
two_bytes_of takes = record (telling (0 ∷ []) (Verdict AlwaysUse) Skip (finished (of_bytes 2))) { takes = takes }

-- equal timestamps are a constant of their own type; others are what their whole numbers become, unless a scheme for timestamps
-- makes less of them
pub of_stamps : (cascade (leaf_tree (among [])) (stamps (5 ∷ 5 ∷ [])) ≡ constant (scalar (types.timestamp seconds NonNullable) (int (pos 5))) 2)
    × (cascade (leaf_tree (among [])) (stamps (5 ∷ 6 ∷ [])) ≡ timestamp (wholes (5 ∷ 6 ∷ [])) seconds)
    × (cascade (leaf_tree (among (two_bytes_of is_integer ∷ []))) (stamps (5 ∷ 6 ∷ [])) ≡ timestamp (of_bytes 2) seconds)
    × (cascade (leaf_tree (among (two_bytes_of is_timestamp ∷ []))) (stamps (5 ∷ 6 ∷ [])) ≡ of_bytes 2)
    × (cascade (leaf_tree (among (two_bytes_of (λ t. true) ∷ []))) (stamps (5 ∷ 6 ∷ [])) ≡ timestamp (of_bytes 2) seconds)
of_stamps = (refl, refl, refl, refl, refl)

-- ---- rows

-- the greatest column and an offset, and 1,024 more at each level; at the last, parts are as long as schemes may be asked about
pub most_rows_by_level : (map most_site_rows (4 ∷ 3 ∷ 2 ∷ 1 ∷ 0 ∷ []) ≡ 2_147_483_649 ∷ 2_147_484_673 ∷ 2_147_485_697 ∷ 2_147_486_721 ∷ 2_147_487_745 ∷ [])
    × (map most_part_rows (4 ∷ 3 ∷ 2 ∷ 1 ∷ 0 ∷ []) ≡ 2_147_484_673 ∷ 2_147_485_697 ∷ 2_147_486_721 ∷ 2_147_487_745 ∷ 2_147_488_769 ∷ []) × (most_part_rows 0 ≡ most_rows)
most_rows_by_level = (refl, refl, refl)

-- ---- names

pub own_names : (schemes_refusal (at_once 0 Skip ∷ at_once 1 Skip ∷ []) ≡ None) × (schemes_refusal (at_once 0 Skip ∷ at_once 1 Skip ∷ at_once 0 Skip ∷ []) ≡ Some DuplicateScheme)
    × (schemes_refusal (telling root_name (Verdict Skip) Skip kept ∷ []) ≡ Some DuplicateScheme)
own_names = (refl, refl, refl)
