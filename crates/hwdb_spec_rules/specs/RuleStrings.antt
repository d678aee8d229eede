-- The strings that a system's own rules ask for a device, in their order. Each has the rules file and the line that ask it.
use Rattle.std.specs.Prelude.{List, [], ◌∷◌, ◌++◌, Bool, if◌then◌else◌, ℕ, codes, filter, flat_map, get_or, map, not, Option, Some, None}
use Rattle.std.specs.Fmt.{decimal}
use Rattle.std.specs.List.{list_any}
use Rattle.hwdb_spec.specs.Lines.{byte}
use Rattle.hwdb_spec_commands.specs.Lookups.{Found, Question, asked_in}
use Rattle.hwdb_spec_commands.specs.Sysfs.{Ancestor, Device}
use Rattle.hwdb_rulefiles.specs.RuleLines.{RuleLine}
use Rattle.hwdb_rulerun.specs.Sights.{Known}
use Rattle.hwdb_ruleevents.specs.Changes.{Change}
use Rattle.hwdb_ruleevents.specs.Effects.{Knowledge}
use Rattle.hwdb_ruleevents.specs.Events.{Turn}
use Rattle.hwdb_ruleevents.specs.Parents.{Nobody}
use Rattle.hwdb_ruleevents.specs.Reasons.{Reason, reasons_of_files}
use Rattle.hwdb_ruleevents.specs.Telling.{Told, tell_files}
use Rattle.hwdb_spec_rules.specs.DeviceCommands.{Tells, commands, questions_of}
use Rattle.hwdb_spec_rules.specs.RuleNames.{names_read}
use Rattle.hwdb_spec_rules.specs.RuleReasons.{cause_text, doubt_at, rather_all, same_turn}
use Rattle.hwdb_spec_rules.specs.RuleSights.{first_properties, others, sight}
use Rattle.hwdb_spec_rules.specs.RuleWhys.{Why}

-- a rules file: its name without `.rules`, and its lines
pub record RulesFile : Type 0 where
  pub name : List ℕ
  pub lines : List RuleLine

-- the lines of files
abbrev pub lines_in : List RulesFile → List (List RuleLine)
lines_in files = map (λ f. f.lines) files

-- ---- what is told at an action

-- all that is known of a device at an action
abbrev pub knowledge : Tells → (names : List (List ℕ)) (action machine : List ℕ) → (own : Ancestor) (parents : List Ancestor) → Knowledge
knowledge tells names action machine own parents =
    record { sight = sight names action own parents; parent = Nobody; others = others machine; commands = commands tells (own ∷ parents) }

-- what is told at an action: lookups, and why lines ask or don't
pub record Account : Type 0 where
  pub told : List Told
  pub reasons : List Reason

-- by what is known, and the properties that the device begins with
abbrev pub account : Knowledge → List Change → List (List RuleLine) → Account
account k cs lines = record { told = tell_files k 0 cs lines; reasons = reasons_of_files k 0 cs lines }

-- of a device and its parents
abbrev pub account_at : Tells → List (List RuleLine) → (action machine : List ℕ) → (chain : List Ancestor) → Account
account_at tells lines action machine [] = record { told = []; reasons = [] }
account_at tells lines action machine (own ∷ parents) =
    account (knowledge tells (names_read lines) action machine own parents) (first_properties action own) lines

-- ---- of both actions

-- whether a lookup is of this line
abbrev pub is_of : Turn → Told → Bool
is_of n t = same_turn n t.at

-- a lookup of a line that none of these has
abbrev pub is_new : List Told → Told → Bool
is_new told t = not (list_any (is_of t.at) told)

-- ---- strings

-- a file without lines
abbrev pub no_file : RulesFile
no_file = record { name = []; lines = [] }

-- a line without a number
abbrev pub no_line : RuleLine
no_line = record { number = 0; tokens = []; label = None; goto = None }

-- a file's name, and the number of a line
abbrev pub line_place : RulesFile → (line : ℕ) → List ℕ
line_place f line = f.name ++ (byte ":" ∷ decimal (get_or f.lines line no_line).number)

-- the place of a lookup: its file's name, and its line
abbrev pub place : List RulesFile → Turn → List ℕ
place files n = line_place (get_or files n.file no_file) n.line

-- who asks, and if that isn't certain, why
abbrev pub asker : (doubt : Option (List ℕ)) → (place : List ℕ) → List ℕ
asker None place = place
asker (Some cause) place = codes "perhaps " ++ (place ++ (codes " (" ++ (cause ++ byte ")" ∷ [])))

-- a command whose strings aren't known is shown as the rule has it
abbrev pub unknown : (rule command : List ℕ) → Found
unknown rule command = record { rule = rule; parent = 0; text = command; told = [] }

-- a command that is run for certain, and whose strings aren't known
abbrev pub unknown_strings : (doubt : Option (List ℕ)) → Option (List ℕ)
unknown_strings None = Some (codes "what it asks isn't known")
unknown_strings (Some cause) = Some cause

-- the strings of a lookup, if they are known, or else its command
abbrev pub found_by : Tells → (place : List ℕ) (doubt : Option (List ℕ)) (command : List ℕ) → Option (List Question) → List Found
found_by tells place doubt command None = unknown (asker (unknown_strings doubt) place) command ∷ []
found_by tells place doubt command (Some questions) = asked_in tells (asker doubt place) questions

-- the strings of a text that is known, if its words are followed
abbrev pub by_text : List Ancestor → (alias : Known) → (text : Option (List ℕ)) → Option (List Question)
by_text chain alias None = None
by_text chain alias (Some text) = questions_of chain alias text

-- why a lookup may not be asked
abbrev pub doubt_of : List Reason → Told → Option (List ℕ)
doubt_of reasons t = if t.certain then None else Some (doubt_at reasons t.at)

-- the strings of a lookup
abbrev pub found_of : Tells → List RulesFile → List Ancestor → List Reason → Told → List Found
found_of tells files chain reasons t = found_by tells (place files t.at) (doubt_of reasons t) t.token.value (by_text chain t.alias t.text)

-- those that are asked when a device is added, and then what a change asks besides
abbrev pub found_in : Tells → List RulesFile → List Ancestor → (added changed : Account) → List Found
found_in tells files chain added changed =
    flat_map (found_of tells files chain added.reasons) added.told
    ++ flat_map (found_of tells files chain changed.reasons) (filter (is_new added.told) changed.told)

-- the strings that are asked for a device, and what each gets
abbrev pub found_by_rules : Tells → List RulesFile → Device → List Found
found_by_rules tells files d =
    let lines = lines_in files in
    found_in tells files d.chain (account_at tells lines (codes "add") d.machine d.chain) (account_at tells lines (codes "change") d.machine d.chain)

-- ---- why

-- whether a line asks, and what decides
abbrev pub why_of : List RulesFile → Reason → Why
why_of files r = record { rule = place files r.at; asks = r.asks; cause = cause_text r.asks r.cause }

-- of each line, at the action at which it rather asks
abbrev pub whys_in : List RulesFile → (added changed : Account) → List Why
whys_in files added changed = map (why_of files) (rather_all added.reasons changed.reasons)

-- whether the lines with lookups ask for a device, and what decides
abbrev pub whys_by_rules : Tells → List RulesFile → Device → List Why
whys_by_rules tells files d =
    let lines = lines_in files in
    whys_in files (account_at tells lines (codes "add") d.machine d.chain) (account_at tells lines (codes "change") d.machine d.chain)
