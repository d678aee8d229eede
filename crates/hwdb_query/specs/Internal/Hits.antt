-- Hits, and their places among those that are held.
use Rattle.std.specs.Prelude.{List, ℕ, Bool, drop, false, take, true, ◌++◌, ◌∷◌, ◌≡◌, get_or, length, suc, ◌≤◌, Option, option_map, None, Some, []}
use Rattle.hwdb_query.specs.declared.hit.Parts.{Parts}
use Rattle.hwdb_spec.specs.Assignment.{Position, Assignment, assignment_cmp, put}
use Rattle.hwdb_query.specs.declared.hit_page.NewHit.{NewHit}
use Rattle.hwdb_query.specs.declared.hit_page.Slot.{Slot}
use Rattle.hwdb_query.specs.declared.hit.Hit.{Hit}
use Rattle.hwdb_reader.specs.declared.view.Origin.{Origin}
use Rattle.hwdb_query.specs.declared.position.Position.{Position as OwnedPosition}
use Rattle.hwdb_query.specs.Views.{position_value}

abbrev pub parts_position : Parts → Position
parts_position p = record { priority = p.priority; line = p.line; pattern = p.pattern.now; key = p.key.now }

-- a hit whose pattern isn't copied yet
abbrev pub new_assignment : NewHit → Assignment
new_assignment h = record {
  position = record { priority = h.priority; line = h.line; pattern = h.pattern.now; key = h.key.now };
  value = h.value.now;
  path = h.path.now;
}

-- the place of a member in an ascending list
abbrev pub placed : Assignment → List Assignment → ℕ → Bool → List Assignment
placed x l i true = l
placed x l i false = take i l ++ x ∷ drop i l

abbrev pub PlaceOf : Assignment → List Assignment → Slot → Type 0
PlaceOf x l p = put assignment_cmp x l ≡ placed x l p.index p.is_taken

-- the last of some hits, which are as many as may be held or more
pub record IsLastOfFull (last : Hit) (hits : List Hit) (most : ℕ) : Type 0 where
  pub index : ℕ
  pub end : suc index ≡ length hits
  pub is : last ≡ get_or hits index last
  pub full : most ≤ length hits

-- a position, and a hit, with an origin
abbrev pub IsPositionOf : Origin → Position → Type 0
IsPositionOf o s = (s.priority ≡ o.priority) × (s.line ≡ o.line)

abbrev pub IsOf : Origin → Assignment → Type 0
IsOf o x = IsPositionOf o x.position

abbrev pub after_position : Option Parts → Option Position
after_position after = option_map parts_position after

-- the position of the first of a list, if there is one
abbrev pub IsFirst : List Assignment → Option OwnedPosition → Type 0
IsFirst [] None = Unit {0}
IsFirst [] (Some p) = ⊥
IsFirst (f ∷ more) None = ⊥
IsFirst (f ∷ more) (Some p) = position_value p ≡ f.position
