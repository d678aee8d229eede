-- A database has more bytes than twice as many as it has assignments.
use Rattle.std.proofs.Common.{◌≡◌, ◌≤◌, ◌<◌, ℕ, zero, suc, ◌+◌, ◌*◌, List, [], ◌∷◌, ◌++◌, map, length, arith, Option, None, Some}
use Rattle.std.specs.Prelude.{flat_map}
use Rattle.std.proofs.lemmas.List.{length-append, length-map}
use Rattle.std.proofs.lemmas.Nat.{mul-le}
use Rattle.hwdb_spec.specs.declared.Layout.{Layout}
use Rattle.hwdb_spec.specs.Format.{NodeText, ChildrenText, IsDatabase, IsHeader, record_end, layout_of, child_entry, child_off, values_count, max_levels}
use Rattle.hwdb_spec.specs.Tree.{Tree, Children, Value, assigned_at, key_of, members_under, values_below, values_under}
use Rattle.hwdb_spec.specs.Tree.Tree.{Node}
use Rattle.hwdb_spec.specs.Tree.Children.{NoMore, Child}

-- the values of a record come after the record's beginning
values_room : (l : Layout) (b : List ℕ) (off n : ℕ) → 32 ≤ l.value_size → n ≡ values_count b off → off + 32 * n ≤ record_end l b off
unfolding record_end
values_room l b off n big is = let m = mul-le 32 n l.value_size (values_count b off) big (omega (arith, is)) in omega (arith, m)

abbrev at_path : List ℕ → Value → List ℕ × Value
at_path path v = (path, v)

mutual
  unfolding NodeText values_under

  value_room : (l : Layout) (b : List ℕ) (big : 32 ≤ l.value_size) (levels from off : ℕ) (path : List ℕ) (t : Tree) → NodeText l b levels from off t → from + 32 * length (values_under path t) ≤ record_end l b off
  value_room l b big zero from off path (Node prefix values children) h = absurd h
  value_room l b big (suc levels) from off path (Node prefix values children) h =
      let below = values_room_below l b big levels from (child_entry l off 0) 0 off (path ++ prefix) children h.5 in
      let own = values_room l b off (length values) big h.2 in
      let all = length-append (map (at_path (path ++ prefix)) values) (values_below (path ++ prefix) children) in
      let mapped = length-map values (at_path (path ++ prefix)) in
      omega (arith, below, own, all, mapped)

  values_room_below : (l : Layout) (b : List ℕ) (big : 32 ≤ l.value_size) (levels from entry byte end : ℕ) (path : List ℕ) (ks : Children) → ChildrenText l b levels from entry byte end ks
      → from + 32 * length (values_below path ks) ≤ end
  values_room_below l b big levels from entry byte end path NoMore h = omega (arith, h)
  values_room_below l b big levels from entry byte end path (Child c t more) h =
      let first = value_room l b big levels from (child_off b entry) (path ++ c ∷ []) t h.2 in
      let rest = values_room_below l b big levels (record_end l b (child_off b entry)) (entry + l.child_size) c end path more h.3 in
      let all = length-append (values_under (path ++ c ∷ []) t) (values_below path more) in
      omega (arith, first, rest, all)

-- a value assigns once at most
assigned_few : (pattern : List ℕ) (v : Value) (key : Option (List ℕ)) → length (assigned_at pattern v key) ≤ 1
assigned_few pattern v None = omega arith
assigned_few pattern v (Some key) = omega arith

members_few : (ps : List (List ℕ × Value)) → length (flat_map (λ p. assigned_at p.0 p.1 (key_of p.1.key)) ps) ≤ length ps
members_few [] = omega arith
members_few (p ∷ ps) =
    let first = assigned_few p.0 p.1 (key_of p.1.key) in
    let rest = members_few ps in
    let all = length-append (assigned_at p.0 p.1 (key_of p.1.key)) (flat_map (λ p. assigned_at p.0 p.1 (key_of p.1.key)) ps) in
    omega (arith, first, rest, all)

large_values : (b : List ℕ) → IsHeader b → 32 ≤ (layout_of b).value_size
unfolding layout_of
large_values b h = let k = h.sizes.value in omega (arith, k)

strings_within : (b : List ℕ) → IsHeader b → (layout_of b).strings ≤ length b
unfolding layout_of
strings_within b h = let k = h.lengths.parts in omega (arith, k)

pub few_members : (b : List ℕ) (t : Tree) → IsDatabase b t → length (members_under [] t) + length (members_under [] t) < length b
few_members b t h =
    let room = value_room (layout_of b) b (large_values b h.header) max_levels _ _ [] t h.text in
    let few = members_few (values_under [] t) in
    let whole = h.whole in
    let strings = strings_within b h.header in
    let long = h.header.long in
    omega (arith, room, few, whole, strings, long)

-- half of each of two sizes
pub halves : (x y m n limit : ℕ) → x + x < m → y + y < n → m < limit → n < limit → x + y < limit
halves x y m n limit a b c d = omega (arith, a, b, c, d)

pub half : (x n limit : ℕ) → x + x < n → n < limit → x < limit
half x n limit a b = omega (arith, a, b)
