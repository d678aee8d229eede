-- Why a line with a lookup asks, may ask, or doesn't. Our choice of what is told: the first that decides, in the order in which a line is tried.
use Rattle.std.specs.Prelude.{List, [], ◌∷◌, ◌++◌, Bool, true, false, if◌then◌else◌, ℕ, ◌+◌, nat_lt, length, is_some, Option, Some, None}
use Rattle.std.specs.List.{list_any}
use Rattle.std.specs.Str.{bytes_eq}
use Rattle.hwdb_spec.specs.Lines.{is_none}
use Rattle.hwdb_rulefiles.specs.RuleTokens.{Token}
use Rattle.hwdb_rulefiles.specs.RuleLines.{RuleLine}
use Rattle.hwdb_rulerun.specs.Asking.{is_lookup, runs}
use Rattle.hwdb_rulerun.specs.Causes.{cause}
use Rattle.hwdb_rulerun.specs.Sights.{Sight}
use Rattle.hwdb_rulerun.specs.Telling.{line_told}
use Rattle.hwdb_ruleevents.specs.Changes.{Change}
use Rattle.hwdb_ruleevents.specs.Effects.{Knowledge, with_chosen}
use Rattle.hwdb_ruleevents.specs.Events.{Turn, turn}
use Rattle.hwdb_ruleevents.specs.Telling.{Told, Ways, arrived, is_no, jumped, known_after, sight_at, start, tell_line, tell_lines}

-- what decides over a line: jumps to labels after it, at most four of them, or tokens of its own
pub data Cause : Type 0 where
  Jumped : (labels : List (List ℕ)) → Cause
  By : List Token → Cause

-- whether the line of this turn asks, if that is known, and what decides over it
pub record Reason : Type 0 where
  pub at : Turn
  pub asks : Option Bool
  pub cause : Cause

abbrev pub reason : (at : Turn) → (asks : Option Bool) → Cause → Reason
reason n asks c = record { at = n; asks = asks; cause = c }

-- one more label, unless it is there, or four are
abbrev pub with_label : (labels : List (List ℕ)) → (label : List ℕ) → List (List ℕ)
with_label labels label =
    if nat_lt (length labels) 4 then (if list_any (bytes_eq label) labels then labels else labels ++ (label ∷ [])) else labels

-- these labels and those that wait, each once, and no more than four: what many jumps pass over is told by a few of them
abbrev pub with_waiting : (labels waiting : List (List ℕ)) → List (List ℕ)
with_waiting labels [] = labels
with_waiting labels (w ∷ more) = with_waiting (with_label labels w) more

-- what passes over a line
abbrev pub jumps : (waiting : List (List ℕ)) → Cause
jumps waiting = Jumped (with_waiting [] waiting)

-- what a line runs before its first lookup
abbrev pub run_first : List Token → List Token
run_first [] = []
run_first (t ∷ more) = if is_lookup t then [] else (if runs t.kind then t ∷ run_first more else run_first more)

-- the token whose text isn't known, or what is run before it
abbrev pub open_by : List Token → Told → List Token
open_by tokens t = if is_some t.text then run_first tokens else t.token ∷ []

-- why a lookup may not be asked: a jump may pass over its line, or a condition isn't known, or what is run
abbrev pub doubt : (waiting : List (List ℕ)) → (holds : Option Bool) → (decided tokens : List Token) → Told → Cause
doubt waiting holds decided tokens t =
    if is_none waiting then By (if is_some holds then open_by tokens t else decided) else jumps waiting

-- of a line that is tried, by its lookups that are told
abbrev pub by_told : (waiting : List (List ℕ)) → (holds : Option Bool) → (decided tokens : List Token) → (at : Turn) → List Told → Reason
by_told waiting holds decided tokens n [] = reason n (Some false) (By (run_first tokens))
by_told waiting holds decided tokens n (t ∷ more) =
    if t.certain then reason n (Some true) (By []) else reason n None (doubt waiting holds decided tokens t)

-- by whether its conditions hold
abbrev pub by_holds : (waiting : List (List ℕ)) → (holds : Option Bool) → (decided tokens : List Token) → (at : Turn) → List Told → Reason
by_holds waiting holds decided tokens n told =
    if is_no holds then reason n (Some false) (By decided) else by_told waiting holds decided tokens n told

-- what decides over the conditions of a line
abbrev pub decided_in : Sight → List Token → List Token
decided_in s tokens = cause (is_no (line_told s tokens)) s tokens

abbrev pub has_lookup : List Token → Bool
has_lookup tokens = list_any is_lookup tokens

-- of a line that some way comes to, for certain or not
abbrev pub reason_here : Knowledge → (sure : Bool) (waiting : List (List ℕ)) → (at : Turn) → List Change → RuleLine → Reason
reason_here k sure waiting n cs l =
    let s = sight_at k.sight cs l.tokens in
    by_holds waiting (line_told s l.tokens) (decided_in s l.tokens) l.tokens n (tell_line k sure n cs l).told

abbrev pub reasons_here : Knowledge → (sure : Bool) (waiting : List (List ℕ)) → (at : Turn) → List Change → RuleLine → List Reason
reasons_here k sure waiting n cs l = if has_lookup l.tokens then reason_here k sure waiting n cs l ∷ [] else []

-- of a line that no way comes to
abbrev pub reasons_past : (waiting : List (List ℕ)) → (at : Turn) → RuleLine → List Reason
reasons_past waiting n l = if has_lookup l.tokens then reason n (Some false) (jumps waiting) ∷ [] else []

-- of a line, if it has a lookup
abbrev pub reasons_at : Knowledge → Ways → (at : Turn) → List Change → RuleLine → List Reason
reasons_at k w n cs l = if w.here then reasons_here k (is_none w.waiting) w.waiting n cs l else reasons_past w.waiting n l

-- of the lines of a file that have lookups, of which the first line has this number
abbrev pub reasons_of_lines : Knowledge → (file line : ℕ) → List Change → Ways → List RuleLine → List Reason
reasons_of_lines k file n cs w [] = []
reasons_of_lines k file n cs w (l ∷ more) =
    let at = arrived l.label w in
    reasons_at k at (turn file n) cs l
    ++ (if at.here
    then (let tale = tell_line k (is_none at.waiting) (turn file n) cs l in
    reasons_of_lines (known_after (is_none at.waiting) k cs l) file (n + 1) tale.changes (jumped tale.passed l.goto at) more)
    else reasons_of_lines k file (n + 1) cs at more)

-- of files, one after the other, of which the first has this number
abbrev pub reasons_of_files : Knowledge → (file : ℕ) → List Change → List (List RuleLine) → List Reason
reasons_of_files k n cs [] = []
reasons_of_files k n cs (lines ∷ more) =
    reasons_of_lines k n 0 cs start lines
    ++ reasons_of_files (with_chosen k (tell_lines k n 0 cs start lines).parent) (n + 1) (tell_lines k n 0 cs start lines).changes more
