-- An assignment and its position, and the order of positions: by the priority of the file, the line, the pattern and
-- the key. By hwdb(7) later files and lines replace earlier ones. That the order goes on by pattern and key is our
-- choice.
use Rattle.std.specs.Prelude.{List, ℕ, [], ◌∷◌}
use Rattle.std.specs.declared.cmp.Ordering.{Ordering}
use Rattle.std.specs.Ordering.{nat_cmp, ordering_then, match_ordering}
use Rattle.std.specs.Cmp.Lexicographic.{slice_cmp}

-- the order of texts, by their bytes
abbrev pub text_cmp : List ℕ → List ℕ → Ordering
text_cmp a b = slice_cmp nat_cmp a b

-- where an assignment is: the priority of its file, the line of its property, its pattern and its key
pub record Position : Type 0 where
  pub priority : ℕ
  pub line : ℕ
  pub pattern : List ℕ
  pub key : List ℕ

-- what one property line gives one pattern; the path is the stored path of its file
pub record Assignment : Type 0 where
  pub position : Position
  pub value : List ℕ
  pub path : List ℕ

-- by priority, line, pattern, key
unfoldable pub position_cmp : Position → Position → Ordering
position_cmp a b =
    ordering_then (nat_cmp a.priority b.priority)
    (ordering_then (nat_cmp a.line b.line) (ordering_then (text_cmp a.pattern b.pattern) (text_cmp a.key b.key)))

-- assignments by their positions
unfoldable pub assignment_cmp : Assignment → Assignment → Ordering
assignment_cmp a b = position_cmp a.position b.position

-- a member put in its place; if its place is taken the list stays
unfoldable pub put : {A : Type 0} → (A → A → Ordering) → A → List A → List A
put cmp x [] = x ∷ []
put cmp x (y ∷ ys) = match_ordering (cmp x y) (x ∷ y ∷ ys) (y ∷ ys) (y ∷ put cmp x ys)

-- texts as a set: ascending, each once
unfoldable pub ascending : List (List ℕ) → List (List ℕ)
ascending [] = []
ascending (text ∷ more) = put text_cmp text (ascending more)

-- one after another put in their places
unfoldable pub put_all : {A : Type 0} → (A → A → Ordering) → List A → List A → List A
put_all cmp [] kept = kept
put_all cmp (x ∷ xs) kept = put_all cmp xs (put cmp x kept)

-- the members of a list, in order, each place once
abbrev pub in_order : {A : Type 0} → (A → A → Ordering) → List A → List A
in_order cmp xs = put_all cmp xs []
