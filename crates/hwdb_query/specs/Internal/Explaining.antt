-- All hits, each at its position, and answers by key.
use Rattle.std.specs.Prelude.{Vec, List, ℕ, [], ◌∷◌, ◌≡◌, map, reverse, Option, None, Some}
use Rattle.std.specs.declared.alloc.Global.{Global}
use Rattle.std.specs.declared.rc.Rc.{Rc}
use Rattle.std.specs.Ordering.{match_ordering}
use Rattle.std.specs.Borrow.{Bor}
use Rattle.std.specs.BTreeMap.{get_by}
use Rattle.hwdb_spec.specs.Assignment.{Assignment, assignment_cmp, text_cmp}
use Rattle.hwdb_spec.specs.Explanations.{answers_with, explained}
use Rattle.hwdb_query.specs.Views.{assignment_of_answer}
use Rattle.hwdb_query.specs.declared.answer.StoredAssignment.{StoredAssignment}
use Rattle.hwdb_query.specs.declared.all_hits.HitValue.{HitValue}
use Rattle.hwdb_query.specs.declared.all_hits.AllHits.{AllHits}
use Rattle.hwdb_query.specs.declared.by_key.AnswersByKey.{AnswersByKey}

-- a member put in its place, in place of what stood there
unfoldable pub set : Assignment → List Assignment → List Assignment
set x [] = x ∷ []
set x (y ∷ ys) = match_ordering (assignment_cmp x y) (x ∷ y ∷ ys) (x ∷ ys) (y ∷ set x ys)

-- one after another put in their places
unfoldable pub set_all : List Assignment → List Assignment → List Assignment
set_all [] kept = kept
set_all (x ∷ xs) kept = set_all xs (set x kept)

-- a priority, a line, a pattern and a key
abbrev pub Place : Type 0
Place = ℕ × ℕ × Rc (Vec ℕ Global) Global × Bor (List ℕ)

-- the assignment of a place and what it has
abbrev pub assignment_at_place : Place × HitValue → Assignment
assignment_at_place e = record {
  position = record { priority = e.0.0; line = e.0.1; pattern = e.0.2.value.items; key = e.0.3.now };
  value = e.1.value.now;
  path = e.1.path.now;
}

-- the hits in their order, by position
abbrev pub all_shown : AllHits → List Assignment
all_shown a = map assignment_at_place a.hits.entries

-- some assignments were put in their places
unfoldable pub AllCollects : AllHits → List Assignment → AllHits → Type 0
AllCollects a xs b = all_shown b ≡ set_all xs (all_shown a)

-- answers, the last first
abbrev pub answers_backwards : Vec StoredAssignment Global → List Assignment
answers_backwards answers = reverse (map assignment_of_answer answers.items)

-- a key and its answers
abbrev pub explained_entry : Bor (List ℕ) × Vec StoredAssignment Global → List ℕ × List Assignment
explained_entry e = (e.0.now, answers_backwards e.1)

abbrev pub backwards_or_none : Option (Vec StoredAssignment Global) → List Assignment
backwards_or_none None = []
backwards_or_none (Some answers) = answers_backwards answers

-- the answers of a key
abbrev pub answers_at : AnswersByKey → List ℕ → List Assignment
answers_at m key = backwards_or_none (get_by (λ k. text_cmp key k.now) m.answers)

-- some assignments, by key
pub record IsByKey (m : AnswersByKey) (xs : List Assignment) : Type 0 where
  pub listed : map explained_entry m.answers.entries ≡ explained xs
  pub each : (key : List ℕ) → answers_at m key ≡ answers_with key xs
