-- The tree that a database holds (systemd's hwdb-internal.h: a trie with prefixes), and the map from patterns and keys
-- that it represents (hwdb(7)). And its answers for a device, and its live nodes. That a stored key without the leading
-- space assigns nothing, and which nodes are live, is our choice.
use Rattle.std.specs.Prelude.{List, ℕ, suc, [], ◌∷◌, ◌+◌, None, Option, Some, ◌≡◌, if◌then◌else◌, ◌==◌, map, ◌++◌, flat_map, ◌<◌, reverse, filter, Bool, false, zero, ◌-◌, length, take, ◌≤◌, true}
use Rattle.std.specs.declared.cmp.Ordering.TheVariants.{Less}
use Rattle.std.specs.Ordering.{ordering_then}
use Rattle.std.specs.declared.cmp.Ordering.{Ordering}
use Rattle.hwdb_spec.specs.Assignment.{Assignment, text_cmp, assignment_cmp, in_order, Position}
use Rattle.hwdb_spec.specs.Lines.{byte}
use Rattle.hwdb_spec.specs.Folders.{Source, all_assignments}
use Rattle.hwdb_spec.specs.Answers.{is_wanted, is_behind}
use Rattle.hwdb_spec.specs.Patterns.{Token, bracket, literal, one, star, token_at, token_size, Matches, tokens, matches}
use Rattle.std.specs.FinMap as finite

-- A value of a node: its stored key, and what is beside it.
pub record Value : Type 0 where
  pub priority : ℕ
  pub line : ℕ
  pub key : List ℕ
  pub value : List ℕ
  pub path : List ℕ

mutual
  -- a node: its prefix, its values and its children
  pub data Tree : Type 0 where
    Node : List ℕ → List Value → Children → Tree

  -- the children of a node, in order, each under its byte
  pub data Children : Type 0 where
    NoMore : Children
    Child : ℕ → Tree → Children → Children

-- the prefix of the root
unfoldable pub prefix_of : Tree → List ℕ
prefix_of (Node prefix values children) = prefix

-- the values of the root
unfoldable pub values_of : Tree → List Value
values_of (Node prefix values children) = values

-- how many children
unfoldable pub count : Children → ℕ
count NoMore = 0
count (Child byte tree more) = suc (count more)

-- a key is above the one before it, if there is one
abbrev pub IsAbove : Option (List ℕ) → List ℕ → Type 0
IsAbove None key = Unit {0}
IsAbove (Some before) key = text_cmp before key ≡ Less

-- the key after the space that a stored key begins with
abbrev pub key_of : List ℕ → Option (List ℕ)
key_of [] = None
key_of (c ∷ key) = if c == byte " " then Some key else None

unfoldable mutual
  -- the values of a tree, each with its path, from a path on
  pub values_under : List ℕ → Tree → List (List ℕ × Value)
  values_under path (Node prefix values children) =
      map (λ v. (path ++ prefix, v)) values ++ values_below (path ++ prefix) children

  -- the same of children, each under its byte
  pub values_below : List ℕ → Children → List (List ℕ × Value)
  values_below path NoMore = []
  values_below path (Child byte tree more) = values_under (path ++ byte ∷ []) tree ++ values_below path more

-- what a value assigns at a pattern; nothing if its stored key begins with no space
abbrev pub assigned_at : List ℕ → Value → Option (List ℕ) → List Assignment
assigned_at pattern v None = []
assigned_at pattern v (Some key) =
    record { position = record { priority = v.priority; line = v.line; pattern = pattern; key = key }; value = v.value; path = v.path } ∷ []

-- the assignments of a tree, from a path on
abbrev pub members_under : List ℕ → Tree → List Assignment
members_under path t = flat_map (λ p. assigned_at p.0 p.1 (key_of p.1.key)) (values_under path t)

-- patterns and keys, by pattern and then by key
abbrev pub place_cmp : List ℕ × List ℕ → List ℕ × List ℕ → Ordering
place_cmp a b = ordering_then (text_cmp a.0 b.0) (text_cmp a.1 b.1)

-- from patterns and keys to what is assigned there
abbrev pub Map : Type 0
Map = finite.FinMap place_cmp Assignment

-- an assignment under its pattern and key
abbrev pub entry_of : Assignment → (List ℕ × List ℕ) × Assignment
entry_of a = ((a.position.pattern, a.position.key), a)

-- The map of a tree. For a pattern and a key it is looked up at the node with that path. It is the priority, line, value and
-- path of the value with the stored key 'space, key'.
unfoldable pub map_of : Tree → Map
map_of t = finite.from_entries (map entry_of (members_under [] t))

-- stored keys ascend, and the first is above `before`
abbrev pub KeysAscend : Option (List ℕ) → List Value → Type 0
KeysAscend before [] = Unit {0}
KeysAscend before (v ∷ vs) = IsAbove before v.key × KeysAscend (Some v.key) vs

unfoldable mutual
  -- at each node the stored keys ascend and the children's bytes ascend from 1
  pub IsTree : Tree → Type 0
  IsTree (Node prefix values children) = KeysAscend None values × BytesAscend 0 children

  -- the bytes of children ascend, the first above `before`, and each child is a tree
  pub BytesAscend : ℕ → Children → Type 0
  BytesAscend before NoMore = Unit {0}
  BytesAscend before (Child byte tree more) = (before < byte) × IsTree tree × BytesAscend byte more

-- the map of those that survive: of the assignments with one pattern and key the last, by priority and line (hwdb(7))
abbrev pub surviving : List Assignment → Map
surviving all = finite.from_entries (map entry_of (reverse all))

-- the map that they have
abbrev pub map_of_files : (etc usr : List Source) → Map
map_of_files etc usr = surviving (all_assignments etc usr)

-- the tree has the map of the files
abbrev pub IsTreeOfFiles : (etc usr : List Source) → Tree → Type 0
IsTreeOfFiles etc usr t = map_of t ≡ surviving (all_assignments etc usr)

-- the answers: the assignments of a tree whose pattern matches the device, ascending
unfoldable pub answers : List ℕ → Tree → List Assignment
answers device t = in_order assignment_cmp (filter (is_wanted device) (members_under [] t))

-- the answers after a position, which are strictly greater
unfoldable pub answers_after : List ℕ → Option Position → Tree → List Assignment
answers_after device after t = filter (is_behind after) (answers device t)

-- a `[` that begins no closed bracket: in a longer path it may begin one
abbrev pub is_open : Token → Bool
is_open star = false
is_open one = false
is_open (bracket found) = false
is_open (literal own) = own == byte "["

-- what is before the first open `[`; the text's first `skip` bytes belong to the token that was cut before
unfoldable pub closed_from : (skip : ℕ) → List ℕ → List ℕ
closed_from skip [] = []
closed_from (suc skip) (first ∷ rest) = first ∷ closed_from skip rest
closed_from zero (first ∷ rest) =
    if is_open (token_at (first ∷ rest)) then []
    else first ∷ closed_from (token_size (token_at (first ∷ rest)) - 1) rest

-- The closed part of a path: what is before its first `[`, cut from the left as a pattern, that begins no closed
-- bracket. It is the whole path if there is none.
abbrev pub closed_part : List ℕ → List ℕ
closed_part path = closed_from 0 path

-- A path is live for a device if its closed part, read as a pattern, matches some prefix of the device. `is_live` is the
-- test.
abbrev pub IsLive : List ℕ → List ℕ → Type 0
IsLive path device = (n : ℕ) × (n ≤ length device) × Matches (tokens (closed_part path)) (take n device)

-- whether a number up to `n` passes
unfoldable pub some_up_to : (ℕ → Bool) → ℕ → Bool
some_up_to test zero = test zero
some_up_to test (suc n) = if test (suc n) then true else some_up_to test n

-- `IsLive` as a test that computes
unfoldable pub is_live : List ℕ → List ℕ → Bool
is_live path device = some_up_to (λ n. matches (tokens (closed_part path)) (take n device)) (length device)

unfoldable mutual
  -- how many nodes of a tree have a live path, from a path on
  pub live_under : List ℕ → List ℕ → Tree → ℕ
  live_under device path (Node prefix values children) =
      (if is_live (path ++ prefix) device then 1 else 0) + live_below device (path ++ prefix) children

  -- the same of children, each under its byte
  pub live_below : List ℕ → List ℕ → Children → ℕ
  live_below device path NoMore = 0
  live_below device path (Child byte tree more) = live_under device (path ++ byte ∷ []) tree + live_below device path more

-- how many nodes of a tree have a live path
abbrev pub live_nodes : List ℕ → Tree → ℕ
live_nodes device t = live_under device [] t
