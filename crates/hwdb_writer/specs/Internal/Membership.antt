-- Which strings a list has, in any order and however often.
use Rattle.std.specs.Prelude.{List, ℕ}
use Rattle.hwdb_text.specs.Lemmas.Members.{Holds}

-- each text of one list is one of the other
pub record SameMembers (xs ys : List (List ℕ)) : Type 0 where
  pub into : (s : List ℕ) → Holds xs s → Holds ys s
  pub back : (s : List ℕ) → Holds ys s → Holds xs s
