-- How far a file was read: what the state of the reader says about the lines so far.
use Rattle.std.specs.Prelude.{Bool, List, [], true, ◌∷◌, ◌≡◌, flat_map, map, ◌++◌}
use Rattle.hwdb_spec.specs.Lines.{Line, is_match, is_property, is_empty, clean}
use Rattle.hwdb_spec.specs.Records.{Section, sections, Origin, section_assignments, section_faults, long_faults, patterns, property_faults, spoilt_faults}
use Rattle.hwdb_text.specs.declared.records.Reader.{Reader}
use Rattle.hwdb_text.specs.declared.records.Stage.TheVariants.{Start, Matches, Properties}
use Rattle.hwdb_text.specs.Views.{given_in, text_of}
use Rattle.hwdb_text.specs.declared.records.Stage.{Stage}

abbrev pub AllPass : (Line → Bool) → List Line → Type 0
AllPass test [] = Unit {0}
AllPass test (l ∷ more) = (test l ≡ true) × AllPass test more

-- a section of these lines
abbrev pub section : List Line → List Line → List Line → List Line → Section
section leading matches properties stray =
    record { leading = leading; matches = matches; properties = properties; stray = stray }

-- what the sections of some clean lines give
abbrev pub gives : {X : Type 0} → (Section → List X) → List Line → List X
gives out ls = flat_map out (sections ls)

-- nothing was read yet
pub record IsFresh (r : Reader) : Type 0 where
  pub start : r.stage ≡ Start
  pub spoilt : r.spoilt.items ≡ []
  pub faults : r.faults.items ≡ []

-- nothing has begun that the next line could belong to
pub record AtStart (o : Origin) (whole rest : List Line) (r : Reader) : Type 0 where
  pub assignments : gives (section_assignments o) whole ≡ map (given_in o) r.assignments.items ++ gives (section_assignments o) rest
  pub faults : gives section_faults whole ≡ r.faults.items ++ gives section_faults rest

-- the reader holds the match lines `m` and `ms` and the properties `ps` of a section that may go on
pub record IsPending (r : Reader) (m : Line) (ms ps : List Line) : Type 0 where
  pub are_matches : AllPass is_match (m ∷ ms)
  pub are_properties : AllPass is_property ps
  pub first : r.first ≡ m.number
  pub pattern : map text_of r.patterns.items ≡ patterns (m ∷ ms)

-- of what the lines `whole` give, all before the lines `ahead` was given, and then `so_far` of what these give
pub record IsGiven {X : Type 0} (out : Section → List X) (whole ahead : List Line) (so_far given : List X) : Type 0 where
  pub before : List X
  pub all : gives out whole ≡ before ++ gives out ahead
  pub now : given ≡ before ++ so_far

-- a section was begun: these lines are pending, and each was given what it gives
pub record InSection (o : Origin) (whole rest : List Line) (r : Reader) (m : Line) (ms ps : List Line) : Type 0 where
  pub pending : IsPending r m ms ps
  pub assignments : IsGiven (section_assignments o) whole (m ∷ (ms ++ (ps ++ rest)))
      (section_assignments o (section [] (m ∷ ms) ps [])) (map (given_in o) r.assignments.items)
  pub faults : IsGiven section_faults whole (m ∷ (ms ++ (ps ++ rest)))
      (flat_map long_faults (m ∷ ms) ++ flat_map property_faults ps) r.faults.items

-- what was read of the clean lines `whole`, if `rest` is left of them
abbrev pub HoldsAt : Stage → Origin → List Line → List Line → Reader → Type 0
HoldsAt Start o whole rest r = AtStart o whole rest r
HoldsAt Matches o whole rest r = (m : Line) × (ms : List Line) × InSection o whole rest r m ms []
HoldsAt Properties o whole rest r = (m : Line) × (ms : List Line) × (p : Line) × (ps : List Line) × InSection o whole rest r m ms (p ∷ ps)

abbrev pub Holds : Origin → List Line → List Line → Reader → Type 0
Holds o whole rest r = HoldsAt r.stage o whole rest r

-- the end, or an empty line
abbrev pub Closes : List Line → Type 0
Closes [] = Unit {0}
Closes (l ∷ more) = is_empty l ≡ true

-- what was read of the lines `whole`, if `rest` is left of them
pub record Reads (o : Origin) (whole rest : List Line) (r : Reader) : Type 0 where
  pub spoilt : spoilt_faults whole ≡ r.spoilt.items ++ spoilt_faults rest
  pub clean : Holds o (clean whole) (clean rest) r
