-- What a file assigns, and its faults, after hwdb(7). Clean lines are cut into blocks at the empty ones, and blocks into
-- sections. Each property of a section goes with each match line of it. Where a record ends early, what is a fault, and
-- the faults' numbers and texts are our choice.
use Rattle.std.specs.Prelude.{Bool, List, [], if◌then◌else◌, ◌∷◌, take, length, ℕ, ◌+◌, suc, zero, ◌-◌, flat_map, map, codes, ◌++◌}
use Rattle.std.specs.List.{take_while}
use Rattle.std.specs.declared.cmp.Ordering.{Ordering}
use Rattle.std.specs.Ordering.{nat_cmp, ordering_then, is_gt}
use Rattle.hwdb_spec.specs.Lines.{Line, is_match, is_property, is_empty, pieces, is_long, key, value, has_equals, has_key, clean, lines, is_spoilt}
use Rattle.hwdb_spec.specs.Assignment.{Assignment}
use Rattle.hwdb_spec.specs.declared.FaultKind.TheVariants.{EmptyKey, LongMatch, NoEquals, NoProperty, StrayMatch, StrayProperty, ZeroByte}
use Rattle.hwdb_spec.specs.declared.FaultKind.{FaultKind}
use Rattle.hwdb_spec.specs.declared.Fault.{Fault}

-- what is after the longest run at the front of lines that pass the test
unfoldable pub behind : (Line → Bool) → List Line → List Line
behind test [] = []
behind test (l ∷ more) = if test l then behind test more else l ∷ more

-- Properties that belong to no match line, match lines, properties, and the line after them, if one is left: this is a match line then.
pub record Section : Type 0 where
  pub leading : List Line
  pub matches : List Line
  pub properties : List Line
  pub stray : List Line

-- the section at the beginning of some lines
unfoldable pub first_section : List Line → Section
first_section ls =
    let from_matches = behind is_property ls in
    let from_properties = behind is_match from_matches in
    record {
      leading = take_while is_property ls;
      matches = take_while is_match from_matches;
      properties = take_while is_property from_properties;
      stray = take 1 (behind is_property from_properties);
    }

-- how many lines a section has
abbrev pub size : Section → ℕ
size s = length s.leading + length s.matches + length s.properties + length s.stray

-- the sections of a block, the first `skip` lines of which belong to the section before
unfoldable pub sections_from : (skip : ℕ) → List Line → List Section
sections_from skip [] = []
sections_from (suc skip) (l ∷ more) = sections_from skip more
sections_from zero (l ∷ more) = first_section (l ∷ more) ∷ sections_from (size (first_section (l ∷ more)) - 1) more

-- The clean lines, cut at the empty ones into blocks, and these into sections. A section is leading properties, the longest
-- run of match lines, the longest run of properties. A match line that is left is a section, too. `SectionsAreTheBlock`
-- says that they are the whole block.
abbrev pub sections : List Line → List Section
sections ls = flat_map (sections_from 0) (pieces is_empty ls)

-- what the assignments of one file share
pub record Origin : Type 0 where
  pub path : List ℕ
  pub priority : ℕ

-- the texts of the match lines that aren't too long
abbrev pub patterns : List Line → List (List ℕ)
patterns [] = []
patterns (l ∷ more) = if is_long l then patterns more else l.text ∷ patterns more

-- the assignment of a property with a pattern
abbrev pub assign : Origin → Line → List ℕ → Assignment
assign o l pattern = record {
  position = record { priority = o.priority; line = l.number; pattern = pattern; key = key l };
  value = value l;
  path = o.path;
}

-- the assignments of a property, one with each pattern
abbrev pub property_assignments : Origin → List (List ℕ) → Line → List Assignment
property_assignments o ps l = if has_equals l then (if has_key l then map (assign o l) ps else []) else []

-- the assignments of a section: by property, and then by match line
abbrev pub section_assignments : Origin → Section → List Assignment
section_assignments o s = flat_map (property_assignments o (patterns s.matches)) s.properties

-- The assignments of a file: each property with a key goes with each match line of its run that has at most 4,096 bytes. By
-- property line, and then by match line (hwdb(7)).
abbrev pub assignments : Origin → List ℕ → List Assignment
assignments o file = flat_map (section_assignments o) (sections (clean (lines file)))

-- the number of a fault, F1 to F7
abbrev pub fault_number : FaultKind → ℕ
fault_number StrayProperty = 1
fault_number NoProperty = 2
fault_number StrayMatch = 3
fault_number NoEquals = 4
fault_number EmptyKey = 5
fault_number ZeroByte = 6
fault_number LongMatch = 7

-- what is printed of a fault
abbrev pub fault_text : FaultKind → List ℕ
fault_text StrayProperty = codes "property where a match is expected, ignored"
fault_text NoProperty = codes "record without properties, ignored"
fault_text StrayMatch = codes "match line inside a record, ignored; the record ends here"
fault_text NoEquals = codes "property without =, ignored"
fault_text EmptyKey = codes "empty key, ignored"
fault_text ZeroByte = codes "byte 0 in the line, ignored"
fault_text LongMatch = codes "match line longer than 4096 bytes, ignored"

-- a fault at a line
abbrev pub fault : FaultKind → Line → Fault
fault kind l = record { line = l.number; kind = kind }

-- a property without `=`, or with an empty key
abbrev pub property_faults : Line → List Fault
property_faults l =
    if has_equals l then (if has_key l then [] else fault EmptyKey l ∷ []) else fault NoEquals l ∷ []

-- a match line that is too long
abbrev pub long_faults : Line → List Fault
long_faults l = if is_long l then fault LongMatch l ∷ [] else []

-- match lines without a property; at the first of them
abbrev pub lonely_faults : List Line → List Line → List Fault
lonely_faults (l ∷ more) [] = fault NoProperty l ∷ []
lonely_faults ms ps = []

-- the faults of a section, by kind
abbrev pub section_faults : Section → List Fault
section_faults s =
    map (fault StrayProperty) s.leading
    ++ (flat_map long_faults s.matches
    ++ (lonely_faults s.matches s.properties
    ++ (flat_map property_faults s.properties
    ++ flat_map (λ l. fault StrayMatch l ∷ long_faults l) s.stray)))

-- the lines with a byte 0
abbrev pub spoilt_faults : List Line → List Fault
spoilt_faults [] = []
spoilt_faults (l ∷ more) = if is_spoilt l then fault ZeroByte l ∷ spoilt_faults more else spoilt_faults more

-- all faults of a file: those of dropped lines, then those of the records
abbrev pub all_faults : List ℕ → List Fault
all_faults file = spoilt_faults (lines file) ++ flat_map section_faults (sections (clean (lines file)))

-- by line, and then by number
abbrev pub fault_cmp : Fault → Fault → Ordering
fault_cmp f g = ordering_then (nat_cmp f.line g.line) (nat_cmp (fault_number f.kind) (fault_number g.kind))

-- a fault, put in front of the first that doesn't come before it
abbrev pub with_fault : Fault → List Fault → List Fault
with_fault f [] = f ∷ []
with_fault f (g ∷ more) = if is_gt (fault_cmp f g) then g ∷ with_fault f more else f ∷ (g ∷ more)

-- some faults, by line and then by number
abbrev pub by_line : List Fault → List Fault
by_line [] = []
by_line (f ∷ more) = with_fault f (by_line more)

-- The faults F1 to F7 of a file, by line and then by number. `FaultsAreAll` and `FaultsAscend` say that these are all, each
-- once, in order, and `OneListOfFaults` that a set of faults has one such list.
abbrev pub faults : List ℕ → List Fault
faults file = by_line (all_faults file)
