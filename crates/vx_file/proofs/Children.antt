-- What is known of a tree by its children: how deep it is, whether its nodes are within the limits, how many they are.
use Rattle.std.proofs.Common.{◌≡◌, ◌≤◌, ◌<◌, ◌+◌, ◌-◌, ℕ, zero, suc, max, Bool, true, false, ◌&&◌, List, [], ◌∷◌, Some, slice_get, refl, sym, ap, ◌∙◌, arith}
use Rattle.std.specs.Prelude.{nat_le}
use Rattle.std.specs.List.{list_all}
use Rattle.std.proofs.lemmas.Bool.{and_parts}
use Rattle.std.proofs.lemmas.Bool.Decides.{nat_tests}
use Rattle.vx_model.specs.Nodes.{children}
use Rattle.vx_model.specs.Tree.{Tree, Trees, bool, primitive, var_bin_view, var_bin, timestamp, constant, masked, bit_packed, bit_packed_with, frame_of_reference, zig_zag, dict, nulls, structure, list, fixed_size_list, none, more, list_of, sparse, run_end, rle, sequence, delta, datetime_parts, bit_packed_v2, bit_packed_v2_with, frame_of_reference_v2, sparse_chunked, node_count, nodes_count}
use Rattle.vx_spelling.specs.Storable.{depth, depths, is_within, is_within_below, are_within, all_within}

-- the number of nodes on the longest path of several trees
abbrev pub deepest : List Tree → ℕ
deepest [] = 0
deepest (t ∷ ts) = max (depth t) (deepest ts)

deepest-list_of : (ts : Trees) → depths ts ≡ deepest (list_of ts)
deepest-list_of none = refl
deepest-list_of (more t ts) = ap (λ (d : ℕ). max (depth t) d) (deepest-list_of ts)

pub depth-children : (t : Tree) → depth t ≡ suc (deepest (children t))
depth-children (bool bs valid n) = refl
depth-children (primitive p xs valid n) = refl
depth-children (var_bin_view vs valid t) = refl
depth-children (var_bin offsets bs valid t) = omega arith
depth-children (timestamp storage k) = omega arith
depth-children (constant s len) = refl
depth-children (masked child valid) = omega arith
depth-children (bit_packed k) = refl
depth-children (bit_packed_with k len offset indices values) = omega arith
depth-children (frame_of_reference encoded reference) = omega arith
depth-children (zig_zag encoded) = omega arith
depth-children (dict codes values) = omega arith
depth-children (nulls len) = refl
depth-children (structure names fields len valid n) = ap suc (deepest-list_of fields)
depth-children (list elements offsets valid n) = omega arith
depth-children (fixed_size_list elements size len valid n) = omega arith
depth-children (sparse len offset indices values fill) = omega arith
depth-children (run_end ends values) = omega arith
depth-children (rle values indices offsets len) = omega arith
depth-children (sequence p n first step len) = refl
depth-children (delta bases deltas len valid n) = omega arith
depth-children (datetime_parts k n days seconds subseconds) = omega arith
depth-children (bit_packed_v2 k offsets) = omega arith
depth-children (bit_packed_v2_with k offsets len offset indices values) = omega arith
depth-children (frame_of_reference_v2 encoded references) = omega arith
depth-children (sparse_chunked len offset indices values chunks fill) = omega arith

within-list_of : (ts : Trees) → are_within ts ≡ list_all all_within (list_of ts)
within-list_of none = refl
within-list_of (more t ts) = ap (λ (b : Bool). all_within t && b) (within-list_of ts)

one : (a : Bool) → a ≡ (a && true)
one true = refl
one false = refl

two : (a b : Bool) → (a && b) ≡ (a && (b && true))
two true b = one b
two false b = refl

three : (a b c : Bool) → (a && (b && c)) ≡ (a && (b && (c && true)))
three true b c = two b c
three false b c = refl

three_left : (a b c : Bool) → ((a && b) && c) ≡ (a && (b && (c && true)))
three_left true b c = two b c
three_left false b c = refl

pub within-children : (t : Tree) → is_within_below t ≡ list_all all_within (children t)
within-children (bool bs valid n) = refl
within-children (primitive p xs valid n) = refl
within-children (var_bin_view vs valid t) = refl
within-children (var_bin offsets bs valid t) = one (all_within offsets)
within-children (timestamp storage k) = one (all_within storage)
within-children (constant s len) = refl
within-children (masked child valid) = one (all_within child)
within-children (bit_packed k) = refl
within-children (bit_packed_with k len offset indices values) = two (all_within indices) (all_within values)
within-children (frame_of_reference encoded reference) = one (all_within encoded)
within-children (zig_zag encoded) = one (all_within encoded)
within-children (dict codes values) = two (all_within codes) (all_within values)
within-children (nulls len) = refl
within-children (structure names fields len valid n) = within-list_of fields
within-children (list elements offsets valid n) = two (all_within elements) (all_within offsets)
within-children (fixed_size_list elements size len valid n) = one (all_within elements)
within-children (sparse len offset indices values fill) = two (all_within indices) (all_within values)
within-children (run_end ends values) = two (all_within ends) (all_within values)
within-children (rle values indices offsets len) = three (all_within values) (all_within indices) (all_within offsets)
within-children (sequence p n first step len) = refl
within-children (delta bases deltas len valid n) = two (all_within bases) (all_within deltas)
within-children (datetime_parts k n days seconds subseconds) = three (all_within days) (all_within seconds) (all_within subseconds)
within-children (bit_packed_v2 k offsets) = one (all_within offsets)
within-children (bit_packed_v2_with k offsets len offset indices values) = three (all_within offsets) (all_within indices) (all_within values)
within-children (frame_of_reference_v2 encoded references) = two (all_within encoded) (all_within references)
within-children (sparse_chunked len offset indices values chunks fill) = three_left (all_within indices) (all_within values) (all_within chunks)

-- the nodes of several trees
abbrev pub counts : List Tree → ℕ
counts [] = 0
counts (t ∷ ts) = node_count t + counts ts

counts-list_of : (ts : Trees) → counts (list_of ts) ≤ nodes_count ts
counts-list_of none = omega arith
counts-list_of (more t ts) = omega (arith, counts-list_of ts)

counts-children : (t : Tree) → counts (children t) < node_count t
counts-children (bool bs valid n) = omega arith
counts-children (primitive p xs valid n) = omega arith
counts-children (var_bin_view vs valid t) = omega arith
counts-children (var_bin offsets bs valid t) = omega arith
counts-children (timestamp storage k) = omega arith
counts-children (constant s len) = omega arith
counts-children (masked child valid) = omega arith
counts-children (bit_packed k) = omega arith
counts-children (bit_packed_with k len offset indices values) = omega arith
counts-children (frame_of_reference encoded reference) = omega arith
counts-children (zig_zag encoded) = omega arith
counts-children (dict codes values) = omega arith
counts-children (nulls len) = omega arith
counts-children (structure names fields len valid n) = omega (arith, counts-list_of fields)
counts-children (list elements offsets valid n) = omega arith
counts-children (fixed_size_list elements size len valid n) = omega arith
counts-children (sparse len offset indices values fill) = omega arith
counts-children (run_end ends values) = omega arith
counts-children (rle values indices offsets len) = omega arith
counts-children (sequence p n first step len) = omega arith
counts-children (delta bases deltas len valid n) = omega arith
counts-children (datetime_parts k n days seconds subseconds) = omega arith
counts-children (bit_packed_v2 k offsets) = omega arith
counts-children (bit_packed_v2_with k offsets len offset indices values) = omega arith
counts-children (frame_of_reference_v2 encoded references) = omega arith
counts-children (sparse_chunked len offset indices values chunks fill) = omega arith

-- ---- the child at a place

count_at : (ts : List Tree) (i : ℕ) (t : Tree) → slice_get ts i ≡ Some t → node_count t ≤ counts ts
count_at [] i t e = absurd cc
count_at (s ∷ ts) zero t e = let same : s ≡ t = cc in rw (← same) (omega arith)
count_at (s ∷ ts) (suc i) t e = omega (arith, count_at ts i t e)

pub child_falls : (t : Tree) (i : ℕ) (child : Tree) → slice_get (children t) i ≡ Some child → node_count child < node_count t
child_falls t i child e = omega (arith, count_at (children t) i child e, counts-children t)

pub test_at : (test : Tree → Bool) (ts : List Tree) (i : ℕ) (t : Tree) → slice_get ts i ≡ Some t → list_all test ts ≡ true → test t ≡ true
test_at test [] i t e h = absurd cc
test_at test (s ∷ ts) zero t e h = let same : s ≡ t = cc in rw (← same) (and_parts (test s) (list_all test ts) h).0
test_at test (s ∷ ts) (suc i) t e h = test_at test ts i t e (and_parts (test s) (list_all test ts) h).1

pub child_within : (t : Tree) (i : ℕ) (child : Tree) → slice_get (children t) i ≡ Some child → all_within t ≡ true → all_within child ≡ true
child_within t i child e h = test_at all_within (children t) i child e (sym (within-children t) ∙ (and_parts (is_within t) (is_within_below t) h).1)

-- ---- both tests at once

-- whether a tree has at most d nodes on a path, each within the limits
abbrev pub is_stored : ℕ → Tree → Bool
is_stored d t = nat_le (depth t) d && all_within t

le-suc : (a d : ℕ) → nat_le (suc a) (suc d) ≡ nat_le a d
le-suc a d = grind (arith, nat_tests)

le-max : (a b d : ℕ) → nat_le (max a b) d ≡ (nat_le a d && nat_le b d)
le-max a b d = grind (arith, nat_tests)

each_stored : (d : ℕ) (ts : List Tree) → (nat_le (deepest ts) d && list_all all_within ts) ≡ list_all (is_stored d) ts
each_stored d [] = grind (arith, nat_tests)
each_stored d (t ∷ ts) = rw (le-max (depth t) (deepest ts) d, ← each_stored d ts) (apart (nat_le (depth t) d) (nat_le (deepest ts) d) (all_within t) (list_all all_within ts))
  where
    apart : (a b c e : Bool) → ((a && b) && (c && e)) ≡ ((a && c) && (b && e))
    apart true true c e = refl
    apart true false true e = refl
    apart true false false e = refl
    apart false b c e = refl

stored-children : (t : Tree) (d : ℕ) → is_stored (suc d) t ≡ (is_within t && list_all (is_stored d) (children t))
stored-children t d =
    rw (depth-children t, within-children t, ← each_stored d (children t), le-suc) (apart (nat_le (deepest (children t)) d) (is_within t) (list_all all_within (children t)))
  where
    apart : (a b c : Bool) → (a && (b && c)) ≡ (b && (a && c))
    apart true b c = refl
    apart false true c = refl
    apart false false c = refl

-- at most `limit` nodes, by the children
pub stored-step : (t : Tree) (limit : ℕ) → 0 < limit → is_stored limit t ≡ (is_within t && list_all (is_stored (limit - 1)) (children t))
stored-step t zero h = absurd (omega arith)
stored-step t (suc d) h = let e : suc d - 1 ≡ d = omega arith in rw e (stored-children t d)

pub stored-none : (t : Tree) (limit : ℕ) → limit ≤ 0 → is_stored limit t ≡ false
stored-none t limit h = let d = depth-children t in let none : nat_le (depth t) limit ≡ false = grind (arith, nat_tests, d, h) in rw none refl

pub ruleset storing = (stored-step, stored-none)

pub ruleset children_of = (child_within, child_falls)
