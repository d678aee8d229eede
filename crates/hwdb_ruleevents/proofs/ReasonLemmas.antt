-- Reasons, one line and one file after the other.
use Rattle.std.proofs.Common.{◌≡◌, ◌∙◌, ℕ, ◌+◌, Bool, true, false, List, [], ◌∷◌, ◌++◌, refl, sym, ap, append_assoc}
use Rattle.std.specs.Prelude.{if◌then◌else◌}
use Rattle.hwdb_spec.specs.Lines.{is_none}
use Rattle.hwdb_rulefiles.specs.RuleLines.{RuleLine}
use Rattle.hwdb_ruleevents.specs.Changes.{Change}
use Rattle.hwdb_ruleevents.specs.Effects.{Knowledge, with_chosen}
use Rattle.hwdb_ruleevents.specs.Events.{Turn, turn}
use Rattle.hwdb_ruleevents.specs.Telling
use Rattle.hwdb_ruleevents.specs.Telling.{Story, Tale, Ways}
use Rattle.hwdb_ruleevents.specs.Internal.{Progress, step, tried}
use Rattle.hwdb_ruleevents.specs.Reasons.{Reason, reasons_at, reasons_of_files, reasons_of_lines}

-- the reasons of the lines that are left
abbrev pub left : Knowledge → (file line : ℕ) → Progress → List RuleLine → List Reason
left k file n p lines = reasons_of_lines (with_chosen k p.story.parent) file n p.story.changes p.ways lines

left_by : (k : Knowledge) (file n : ℕ) (p : Progress) (at : Ways) (l : RuleLine) (more : List RuleLine) (c : Bool)
    → left k file (n + 1)
    (if c then tried k (is_none at.waiting) (turn file n) (record { story = p.story; ways = at }) l else record { story = p.story; ways = at }) more
    ≡ (if c
    then (let now = with_chosen k p.story.parent in
    let tale = Telling.tell_line now (is_none at.waiting) (turn file n) p.story.changes l in
    reasons_of_lines (Telling.known_after (is_none at.waiting) now p.story.changes l) file (n + 1) tale.changes (Telling.jumped tale.passed l.goto at) more)
    else reasons_of_lines (with_chosen k p.story.parent) file (n + 1) p.story.changes at more)
left_by k file n p at l more true = refl
left_by k file n p at l more false = refl

-- one more line
pub line_added : (k : Knowledge) (file n : ℕ) (p next : Progress) (l : RuleLine) (more : List RuleLine) (old new : List Reason) → next ≡ step k (turn file n) p l
    → new ≡ old ++ reasons_at (with_chosen k p.story.parent) (Telling.arrived l.label p.ways) (turn file n) p.story.changes l
    → new ++ left k file (n + 1) next more ≡ old ++ left k file n p (l ∷ more)
line_added k file n p next l more old new e f =
    let at : Ways = Telling.arrived l.label p.ways in
    let here : List Reason = reasons_at (with_chosen k p.story.parent) at (turn file n) p.story.changes l in
    ap (λ (x : List Reason). x ++ left k file (n + 1) next more) f
    ∙ append_assoc old here (left k file (n + 1) next more)
    ∙ ap (λ (x : Progress). old ++ (here ++ left k file (n + 1) x more)) e
    ∙ ap (λ (x : List Reason). old ++ (here ++ x)) (left_by k file n p at l more at.here)

-- one more file
pub file_added : (k : Knowledge) (n : ℕ) (story next : Story) (lines : List RuleLine) (more : List (List RuleLine)) (old new : List Reason)
    → next ≡ Telling.story_before story.told (Telling.tell_lines (with_chosen k story.parent) n 0 story.changes Telling.start lines)
    → new ≡ old ++ reasons_of_lines (with_chosen k story.parent) n 0 story.changes Telling.start lines
    → new ++ reasons_of_files (with_chosen k next.parent) (n + 1) next.changes more
    ≡ old ++ reasons_of_files (with_chosen k story.parent) n story.changes (lines ∷ more)
file_added k n story next lines more old new e f =
    let ran : Story = Telling.tell_lines (with_chosen k story.parent) n 0 story.changes Telling.start lines in
    let here : List Reason = reasons_of_lines (with_chosen k story.parent) n 0 story.changes Telling.start lines in
    ap (λ (x : List Reason). x ++ reasons_of_files (with_chosen k next.parent) (n + 1) next.changes more) f
    ∙ append_assoc old here (reasons_of_files (with_chosen k next.parent) (n + 1) next.changes more)
    ∙ ap (λ (x : Story). old ++ (here ++ reasons_of_files (with_chosen k x.parent) (n + 1) x.changes more)) e
