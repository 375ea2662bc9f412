-- Steps of the reader of trees.
use Rattle.std.proofs.Common.{◌≡◌, ℕ, zero, suc, ◌-◌, ◌<◌, Bool, cond, List, Some, None, refl, subst, arith}
use Rattle.vx_base.specs.declared.array_id.ArrayId.{ArrayId}
use Rattle.vx_codec.specs.declared.error.ReadError.{ReadError}
use Rattle.vx_codec.specs.declared.error.ReadError.TheVariants.{NoMemory, Malformed}
use Rattle.vx_codec.specs.Reads.{Fails}
use Rattle.vx_model.specs.Tree.{Tree}
use Rattle.vx_spelling.specs.Storable.{is_within}
use Rattle.vx_spelling.specs.TreeSpelling.{node_behind, node_id, tree_at, trees_by}

-- a tree is what stands behind its id, where that is within the limits
pub tree_found : (d : ℕ) (bytes : List ℕ) (id : ArrayId) (rest : List ℕ) (t : Tree) (after : List ℕ) (b : Bool) → 0 < d → node_id.parse bytes ≡ Some (id, rest) → node_behind (trees_by (tree_at (d - 1))) id rest ≡ Some (t, after)
    → is_within t ≡ b → tree_at d bytes ≡ cond b (Some (t, after)) None
tree_found zero bytes id rest t after b p hk hn w = absurd (omega arith)
tree_found (suc d) bytes id rest t after b p hk hn w =
    let e : suc d - 1 ≡ d = omega arith in
    let h = subst (λ (m : ℕ). node_behind (trees_by (tree_at m)) id rest ≡ Some (t, after)) e hn in
    rw (hk, h, w) refl

-- where nothing stands behind the id, there is no tree
pub tree_failed : (d : ℕ) (bytes : List ℕ) (id : ArrayId) (rest : List ℕ) (e : ReadError) → 0 < d → node_id.parse bytes ≡ Some (id, rest) → Fails e (node_behind (trees_by (tree_at (d - 1))) id rest) → Fails e (tree_at d bytes)
tree_failed d bytes id rest NoMemory p hk hn = tt
tree_failed zero bytes id rest Malformed p hk hn = absurd (omega arith)
tree_failed (suc d) bytes id rest Malformed p hk hn =
    let e : suc d - 1 ≡ d = omega arith in
    let h = subst (λ (m : ℕ). node_behind (trees_by (tree_at m)) id rest ≡ None) e hn in
    rw (hk, h) refl
