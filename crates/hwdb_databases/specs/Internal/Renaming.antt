-- Changes by record, and what is known of their properties, as the code has them.
use Rattle.std.specs.Prelude.{Bool, true, false, List, ℕ, [], ◌∷◌, ◌≡◌, None, Option, Some, if◌then◌else◌, map, not, option_map}
use Rattle.std.specs.Borrow.{Bor}
use Rattle.std.specs.BTreeMap.{BTreeMap, get_by}
use Rattle.std.specs.List.{position_or_len}
use Rattle.hwdb_spec.specs.Assignment.{text_cmp}
use Rattle.hwdb_spec.specs.Folders.{same}
use Rattle.hwdb_spec_commands.specs.Differences.{Change}
use Rattle.hwdb_spec_commands.specs.Renamed as spec
use Rattle.hwdb_spec_commands.specs.Renamed.{any_went, changed_pattern, first_came, is_told, properties}
use Rattle.hwdb_databases.specs.Views.{change_shown}
use Rattle.hwdb_databases.specs.declared.pairs.Pair.{Pair}
use Rattle.hwdb_databases.specs.declared.groups.Group.{Group}
use Rattle.hwdb_databases.specs.declared.renamed.Moved.{Moved}

-- whether a change has another pattern
abbrev pub is_other : (pattern : List ℕ) → Change → Bool
is_other pattern c = not (same pattern (changed_pattern c))

-- how many of the first changes have a pattern
abbrev pub run : (pattern : List ℕ) → List Change → ℕ
run pattern cs = position_or_len (is_other pattern) cs

abbrev pub run_in : (pattern : List ℕ) → List Pair → ℕ
run_in pattern ps = position_or_len (λ p. is_other pattern (change_shown p)) ps

abbrev pub first_pattern : List Change → List ℕ
first_pattern [] = []
first_pattern (c ∷ more) = changed_pattern c

-- changes of one pattern
abbrev pub group_in : List Change → spec.Group
group_in cs = record { pattern = first_pattern cs; changes = cs }

abbrev pub shown : Group → spec.Group
shown g = group_in (map change_shown g.changes.now)

-- what is known of some properties: the first pattern that came with them, and whether one went with them
abbrev pub Known : Type 0
Known = Option spec.Group × Bool

abbrev pub group_shown : Moved → Known
group_shown m = (option_map (λ s. group_in (map change_shown s.now)) m.came, m.went)

abbrev pub or_nothing : Option Known → Known
or_nothing None = (None, false)
or_nothing (Some known) = known

abbrev pub Moves : Type 0
Moves = BTreeMap (Bor (List ℕ)) Moved

abbrev pub at : Moves → (text : List ℕ) → Known
at m text = or_nothing (option_map group_shown (get_by (λ k. text_cmp text k.now) m))

-- a pattern was noted that came, or that went
unfoldable pub IsCameNoted : Moves → spec.Group → Moves → Type 0
IsCameNoted m g n = (text : List ℕ) → at n text ≡ ((if is_told text (properties true g.changes) then Some g else (at m text).0), (at m text).1)

unfoldable pub IsWentNoted : Moves → spec.Group → Moves → Type 0
IsWentNoted m g n = (text : List ℕ) → at n text ≡ ((at m text).0, (if is_told text (properties false g.changes) then true else (at m text).1))

-- what is known is that of some patterns
unfoldable pub IsOf : Moves → List spec.Group → Type 0
IsOf m all = (text : List ℕ) → at m text ≡ (first_came text all, any_went text all)
