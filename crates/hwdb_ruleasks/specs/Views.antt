-- What the types of this crate mean.
use Rattle.std.specs.Prelude.{◌≡◌, List, ℕ, Option, Some, None, Vec, map}
use Rattle.std.specs.declared.alloc.Global.{Global}
use Rattle.std.specs.Borrow.{Bor}
use Rattle.std.specs.BTreeSet.{BTreeSet}
use Rattle.hwdb_spec.specs.Assignment.{in_order, text_cmp}
use Rattle.hwdb_spec.specs.Tree.{Tree}
use Rattle.hwdb_spec_commands.specs.DeviceTexts.{told_by, told_nothing}
use Rattle.hwdb_spec_commands.specs.Lookups.{Found, Question}
use Rattle.hwdb_query.specs.Views.{explained_values}
use Rattle.hwdb_rules.specs.Views.{questions_of}
use Rattle.hwdb_rules.specs.declared.plans.Question.{Question as OwnedQuestion}
use Rattle.hwdb_rulefiles.specs.LineViews.{line_of}
use Rattle.hwdb_ruleevents.specs.EffectViews.{knowledge_of}
use Rattle.hwdb_spec_rules.specs.DeviceCommands.{Tells}
use Rattle.hwdb_spec_rules.specs.RuleStrings.{RulesFile}
use Rattle.hwdb_spec_rules.specs.RuleWhys as whys
use Rattle.hwdb_ruleasks.specs.declared.strings.Why.{Why}
use Rattle.hwdb_ruleasks.specs.declared.strings.RulesFile.{RulesFile as ReadFile}
use Rattle.hwdb_ruleasks.specs.declared.answers.Found.{Found as Asked}

abbrev pub own_text : Bor (List ℕ) → List ℕ
own_text text = text.now

-- what strings get: of a database, or nothing
abbrev pub tells_of : Option (Bor Tree) → Tells
tells_of None = told_nothing
tells_of (Some db) = told_by db.now

-- the set of some texts
abbrev pub IsSetOf : List (List ℕ) → BTreeSet (Bor (List ℕ)) → Type 0
IsSetOf texts set = map own_text set.keys ≡ in_order text_cmp texts

abbrev pub questions_view : Option (Vec OwnedQuestion Global) → Option (List Question)
questions_view None = None
questions_view (Some questions) = Some (questions_of questions.items)

abbrev pub file_of : ReadFile → RulesFile
file_of f = record { name = f.name.now; lines = map line_of f.lines.now }

-- a string that was asked, and what it gets
abbrev pub found_of : Asked → Found
found_of f = record { rule = f.rule.items; parent = f.parent; text = f.text.items; told = explained_values f.told.items }

-- a line with a lookup
abbrev pub why_view : Why → whys.Why
why_view w = record { rule = w.rule.items; asks = w.asks; cause = w.cause.items }
