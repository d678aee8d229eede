-- What the types of this crate mean: hits, positions and cursors as contracts see them.
use Rattle.std.specs.Prelude.{List, map, length, ℕ, None, Option, Some, [], ◌∷◌, ◌≡◌, option_map, Bool, false, reverse, true, ◌++◌, not, if◌then◌else◌, ◌==◌, min, drop, ◌-◌}
use Rattle.std.specs.Borrow.{Bor}
use Rattle.hwdb_query.specs.declared.position.Position.{Position as OwnedPosition}
use Rattle.hwdb_spec.specs.Assignment.{Position, Assignment}
use Rattle.hwdb_query.specs.declared.hit.Hit.{Hit}
use Rattle.hwdb_query.specs.declared.answer.StoredAssignment.{StoredAssignment}
use Rattle.hwdb_query.specs.declared.answer.Explained.{Explained}
use Rattle.hwdb_spec.specs.Tree.{Tree, answers_after}

-- the bytes of a key and of a value
abbrev pub pair_bytes : Bor (List ℕ) × Bor (List ℕ) → List ℕ × List ℕ
pair_bytes p = (p.0.now, p.1.now)

abbrev pub pairs_bytes : List (Bor (List ℕ) × Bor (List ℕ)) → List (List ℕ × List ℕ)
pairs_bytes pairs = map pair_bytes pairs

abbrev pub position_value : OwnedPosition → Position
position_value p = record { priority = p.priority; line = p.line; pattern = p.pattern.items; key = p.key.items }

abbrev pub assignment_of_hit : Hit → Assignment
assignment_of_hit h = record {
  position = record { priority = h.priority; line = h.line; pattern = h.pattern.items; key = h.key.now };
  value = h.value.now;
  path = h.path.now;
}

abbrev pub assignments_of_hits : List Hit → List Assignment
assignments_of_hits hits = map assignment_of_hit hits

abbrev pub assignment_of_answer : StoredAssignment → Assignment
assignment_of_answer a = record {
  position = record { priority = a.priority; line = a.line; pattern = a.pattern.value.items; key = a.key.now };
  value = a.value.now;
  path = a.path.now;
}

-- a key and its answers
abbrev pub explained_value : Explained → List ℕ × List Assignment
explained_value e = (e.key.now, map assignment_of_answer e.answers.items)

abbrev pub explained_values : List Explained → List (List ℕ × List Assignment)
explained_values explained = map explained_value explained

-- the hits that are held, and how many may be
pub record Page : Type 0 where
  pub hits : List Assignment
  pub most : ℕ

-- the first of what was to come is given, or nothing was to come
abbrev pub Gives : List Assignment → List Assignment → Option Hit → Type 0
Gives before after (Some hit) = before ≡ assignment_of_hit hit ∷ after
Gives before after None = (before ≡ []) × (after ≡ [])

abbrev pub next_position : Option OwnedPosition → Option Position
next_position after = option_map position_value after

-- the position that a caller gives
abbrev pub given_position : Option (Bor OwnedPosition) → Option Position
given_position after = option_map (λ p. position_value p.now) after

-- what a cursor has still to yield: the hits that it holds, and the answers after them
abbrev pub still_to_come : List ℕ → Option Position → Tree → Bool → List Assignment → List Assignment
still_to_come device after t true hits = reverse hits
still_to_come device after t false hits = reverse hits ++ answers_after device after t

-- what contracts see of a cursor
pub record Progress : Type 0 where
  -- the answers that it has still to yield
  pub to_come : List Assignment
  -- how many of these it holds, and how many it may
  pub held : ℕ
  pub page : ℕ
  -- whether the end was answered
  pub ended : Bool
  -- how many nodes its last finished filling entered, and how many have a live path
  pub entered : ℕ
  pub live : ℕ

-- before its first filling, if these are its answers and that many nodes have a live path
abbrev pub fresh : (to_come : List Assignment) (page live : ℕ) → Progress
fresh to_come page live = record { to_come = to_come; held = 0; page = page; ended = false; entered = 0; live = live }

-- whether `next` fills a page: no hit is held, and the end wasn't answered
abbrev pub fills : Progress → Bool
fills p = if p.held == 0 then not p.ended else false

-- A cursor after a `next` without an error. The first of what was to come is given, if there is one. If a page is
-- filled, it is the first of what is to come; if nothing is, the end is reached.
abbrev pub after_next : Progress → Progress
after_next p = record {
  to_come = drop 1 p.to_come;
  held = (if fills p then min p.page (length p.to_come) else p.held) - 1;
  page = p.page;
  ended = if fills p then length p.to_come == 0 else p.ended;
  entered = if fills p then p.live else p.entered;
  live = p.live;
}
