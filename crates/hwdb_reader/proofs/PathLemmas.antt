-- The table of a path's open nodes, node by node.
use Rattle.std.proofs.Common.{◌≡◌, ◌≤◌, ◌<◌, ◌-◌, ◌+◌, ℕ, zero, suc, List, ◌∷◌, length, set, get_or, refl, sym, ap, ◌∙◌, arith, add-one, get_or-set_same, get_or-set_other}
use Rattle.hwdb_spec.specs.Format.{max_levels}
use Rattle.hwdb_reader.specs.Internal.Paths.{open_nodes}

pub length-open_nodes : (xs ds : List ℕ) (n : ℕ) → length (open_nodes xs ds n) ≡ n
unfolding open_nodes
length-open_nodes xs ds zero = refl
length-open_nodes xs ds (suc n) = ap suc (length-open_nodes xs ds n)

-- what comes after the first n doesn't matter
pub open_nodes-set : (xs ds : List ℕ) (i x d n : ℕ) → n ≤ i → open_nodes (set xs i x) (set ds i d) n ≡ open_nodes xs ds n
unfolding open_nodes
open_nodes-set xs ds i x d zero le = refl
open_nodes-set xs ds i x d (suc n) le =
    let rest = open_nodes-set xs ds i x d n (omega arith) in
    rw (rest, get_or-set_other xs i n x 0 (λ e. omega (arith, e)), get_or-set_other ds i n d 0 (λ e. omega (arith, e))) refl

-- one more node
pub pushed : (xs ds : List ℕ) (n x d : ℕ) → n < length xs → n < length ds → open_nodes (set xs n x) (set ds n d) (n + 1) ≡ (x, d) ∷ open_nodes xs ds n
unfolding open_nodes
pushed xs ds n x d lx ld =
    rw add-one
    (rw (open_nodes-set xs ds n x d n (omega arith), get_or-set_same xs n x 0 lx, get_or-set_same ds n d 0 ld) refl)

-- the last node
pub popped : (xs ds : List ℕ) (n : ℕ) → 0 < n → open_nodes xs ds n ≡ (get_or xs (n - 1) 0, get_or ds (n - 1) 0) ∷ open_nodes xs ds (n - 1)
unfolding open_nodes
popped xs ds zero lt = absurd (omega (arith, lt))
popped xs ds (suc n) lt = let e : suc n - 1 ≡ n = omega arith in rw e refl

-- a list that is shorter than the table leaves room in it
pub table_room : (now : List (ℕ × ℕ)) (xs ds : List ℕ) (n : ℕ) → open_nodes xs ds n ≡ now → length now < max_levels → n < max_levels
table_room now xs ds n is room =
    let size : n ≡ length now = sym (length-open_nodes xs ds n) ∙ ap length is in
    omega (arith, size, room)
