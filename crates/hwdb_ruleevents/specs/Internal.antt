-- Words of contracts, which nobody has to believe: what was told of the lines so far, and texts.
use Rattle.std.specs.Prelude.{List, ◌++◌, ℕ, Bool, if◌then◌else◌, Option, Some, None}
use Rattle.hwdb_spec_commands.specs.Sysfs.{is_left, left_whole}
use Rattle.hwdb_spec.specs.Lines.{is_none}
use Rattle.hwdb_rulefiles.specs.RuleTokens.{Token}
use Rattle.hwdb_rulefiles.specs.RuleLines.{RuleLine}
use Rattle.hwdb_ruleevents.specs.Effects.{Knowledge, with_chosen}
use Rattle.hwdb_ruleevents.specs.Events.{Turn}
use Rattle.hwdb_ruleevents.specs.Telling.{Story, Tale, Ways, arrived, jumped, known_after, tell_line, told_before, tell_tokens, story_before, tell_lines}

pub record Progress : Type 0 where
  pub story : Story
  pub ways : Ways

abbrev pub tried : Knowledge → (sure : Bool) → Turn → Progress → RuleLine → Progress
tried k sure n p l =
    let tale = tell_line (with_chosen k p.story.parent) sure n p.story.changes l in
    let after = known_after sure (with_chosen k p.story.parent) p.story.changes l in
    record {
      story = record { told = p.story.told ++ tale.told; changes = tale.changes; parent = after.parent };
      ways = jumped tale.passed l.goto p.ways;
    }

abbrev pub step : Knowledge → Turn → Progress → RuleLine → Progress
step k n p l =
    let at = arrived l.label p.ways in
    if at.here then tried k (is_none at.waiting) n (record { story = p.story; ways = at }) l else record { story = p.story; ways = at }

-- what was told of tokens, and what is told of the others
abbrev pub rest_of : Knowledge → (sure : Bool) → Turn → Tale → List Token → Tale
rest_of k sure n tale tokens = told_before tale.told tale.passed (tell_tokens k sure n tale.changes tokens)

-- what was told of lines, and what is told of the others
abbrev pub lines_from : Knowledge → (file line : ℕ) → Progress → List RuleLine → Story
lines_from k file n p lines = story_before p.story.told (tell_lines (with_chosen k p.story.parent) file n p.story.changes p.ways lines)

-- a text that is known, or isn't
abbrev pub if_known : (known : Bool) → (text : List ℕ) → Option (List ℕ)
if_known known text = if known then Some text else None

-- how many bytes from here on are left as they are
abbrev pub left_size : ℕ → List ℕ → ℕ
left_size b rest = if is_left b then 1 else left_whole b rest
