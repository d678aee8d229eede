-- What is told of the lookups of a device from what is known. It follows `Events`, step by step.
use Rattle.std.specs.Prelude.{List, [], ◌∷◌, ◌++◌, Bool, true, false, if◌then◌else◌, ℕ, ◌+◌, codes, map, filter, not, Option, Some, None}
use Rattle.std.specs.List.{list_any}
use Rattle.hwdb_spec.specs.Lines.{is_none}
use Rattle.hwdb_rulefiles.specs.RuleTokens.{Token, is_word}
use Rattle.hwdb_rulefiles.specs.RuleLines.{RuleLine}
use Rattle.hwdb_rulefiles.specs.declared.pairs.Operator.{Operator}
use Rattle.hwdb_rulefiles.specs.declared.tokens.TokenKind.{TokenKind}
use Rattle.hwdb_rulerun.specs.Asking.{runs, is_lookup}
use Rattle.hwdb_rulerun.specs.Sights.{Known, Sight, Entry}
use Rattle.hwdb_rulerun.specs.Telling.{and_then, by_operator_told, line_told}
use Rattle.hwdb_ruleevents.specs.Changes.{Change, Put, value_in, by_sure}
use Rattle.hwdb_ruleevents.specs.Events.{Turn, turn}
use Rattle.hwdb_ruleevents.specs.Effects.{Effect, Knowledge, assigned_told, effect_of, is_env, known_as, with_chosen}
use Rattle.hwdb_ruleevents.specs.Parents.{Chosen, is_for_all, parent_after_told, parent_told}
use Rattle.hwdb_ruleevents.specs.Texts.{text_told}

abbrev pub entry_for : List Change → Token → Entry
entry_for cs t = record { name = t.attribute; value = value_in cs t.attribute }

-- what a line sees: what is known of the properties that it names
abbrev pub sight_at : Sight → List Change → List Token → Sight
sight_at s cs tokens = record s { properties = map (entry_for cs) tokens; closed = false }

-- what is known of the property that ENV sets, by the text of its value, if that is known
abbrev pub new_known : List Change → Token → (text : Option (List ℕ)) → Known
new_known cs t text = known_as t.attribute (assigned_told t.operator t.value text (value_in cs t.attribute))

-- the effect of ENV
abbrev pub env_effect : List Change → Token → (text : Option (List ℕ)) → Effect
env_effect cs t text = record { succeeds = None; changes = Put t.attribute (new_known cs t text) ∷ [] }

-- the effect of a token, by the text of its value
abbrev pub effect_by_text : Knowledge → List Change → Token → (text : Option (List ℕ)) → Effect
effect_by_text k cs t text = if is_env t.kind then env_effect cs t text else effect_of k cs t text

-- the effect of a token
abbrev pub effect_told : Knowledge → List Change → Token → Effect
effect_told k cs t = effect_by_text k cs t (text_told k cs t)

-- whether a line goes on after something that succeeds, or not
abbrev pub passes_by : TokenKind → Operator → (succeeds : Option Bool) → Option Bool
passes_by kind o succeeds = if runs kind then by_operator_told o succeeds else Some true

abbrev pub passes_told : Token → Effect → Option Bool
passes_told t effect = passes_by t.kind t.operator effect.succeeds

-- what is known of MODALIAS, by which a walk asks
abbrev pub alias_told : List Change → Known
alias_told cs = value_in cs (codes "MODALIAS")

-- a lookup that is told: the turn of its line, its token, its text, if it is known, what is known of MODALIAS then, and whether it is certain
pub record Told : Type 0 where
  pub at : Turn
  pub token : Token
  pub text : Option (List ℕ)
  pub alias : Known
  pub certain : Bool

-- a lookup is certain only if its text is known, which may be too long else
abbrev pub is_certain : (sure : Bool) → (text : Option (List ℕ)) → Bool
is_certain sure None = false
is_certain sure (Some text) = sure

abbrev pub told_by_text : List Change → (text : Option (List ℕ)) → (sure : Bool) → (at : Turn) → Token → List Told
told_by_text cs text sure n t =
    if is_lookup t then record { at = n; token = t; text = text; alias = alias_told cs; certain = is_certain sure text } ∷ [] else []

abbrev pub told_in : Knowledge → List Change → (sure : Bool) → (at : Turn) → Token → List Told
told_in k cs sure n t = told_by_text cs (text_told k cs t) sure n t

-- what is told of a line: its lookups, whether it comes to its end, and what is known of properties after it
pub record Tale : Type 0 where
  pub told : List Told
  pub passed : Option Bool
  pub changes : List Change

abbrev pub ended : (passed : Bool) → List Change → Tale
ended passed cs = record { told = []; passed = Some passed; changes = cs }

abbrev pub told_before : List Told → (passes : Option Bool) → Tale → Tale
told_before told passes tale = record { told = told ++ tale.told; passed = and_then passes tale.passed; changes = tale.changes }

abbrev pub asked : Tale → List Told → Tale
asked tale told = record tale { told = tale.told ++ told }

-- whether what comes after a condition is certain
abbrev pub is_sure : (sure : Bool) → (passes : Option Bool) → Bool
is_sure sure None = false
is_sure sure (Some passes) = sure

-- the other tokens, after one that is passed, or not, or perhaps
abbrev pub is_no : Option Bool → Bool
is_no (Some false) = true
is_no passes = false

-- what is told, and what one more token adds to it
abbrev pub run_in : Knowledge → (sure : Bool) → (at : Turn) → Tale → Token → Tale
run_in k sure n tale t =
    record {
      told = tale.told ++ told_in k tale.changes sure n t;
      passed = and_then tale.passed (passes_told t (effect_told k tale.changes t));
      changes = tale.changes ++ by_sure sure (effect_told k tale.changes t).changes;
    }

-- tokens that run, or that may run
abbrev pub tell_tokens : Knowledge → (sure : Bool) → (at : Turn) → List Change → List Token → Tale
tell_tokens k sure n cs [] = ended true cs
tell_tokens k sure n cs (t ∷ more) =
    let effect = effect_told k cs t in
    let passes = passes_told t effect in
    let next = cs ++ by_sure sure effect.changes in
    told_before (told_in k cs sure n t) passes (if is_no passes then ended false next else tell_tokens k (is_sure sure passes) n next more)

abbrev pub tell_by : (holds : Option Bool) → Knowledge → (sure : Bool) → (at : Turn) → List Change → List Token → Tale
tell_by holds k sure n cs tokens = told_before [] holds (if is_no holds then ended false cs else tell_tokens k (is_sure sure holds) n cs tokens)

-- what is known when the tokens of a line are run, and after it
abbrev pub known_in : Knowledge → List Change → RuleLine → Knowledge
known_in k cs l = with_chosen k (parent_told (sight_at k.sight cs l.tokens) l.tokens k.parent)

abbrev pub known_after : (sure : Bool) → Knowledge → List Change → RuleLine → Knowledge
known_after sure k cs l = with_chosen k (parent_after_told (if is_for_all l then sure else false) (sight_at k.sight cs l.tokens) l.tokens k.parent)

-- a line that is tried, or that may be tried
abbrev pub tell_line : Knowledge → (sure : Bool) → (at : Turn) → List Change → RuleLine → Tale
tell_line k sure n cs l = tell_by (line_told (sight_at k.sight cs l.tokens) l.tokens) (known_in k cs l) sure n cs l.tokens

-- what is told of lines: their lookups, and what is known of properties and of the parent after them
pub record Story : Type 0 where
  pub told : List Told
  pub changes : List Change
  pub parent : Chosen

abbrev pub story_before : List Told → Story → Story
story_before told s = record s { told = told ++ s.told }

-- where the ways are of which one is taken: here, or at labels for which they wait
pub record Ways : Type 0 where
  pub here : Bool
  pub waiting : List (List ℕ)

abbrev pub start : Ways
start = record { here = true; waiting = [] }

-- those that waited for a line are here
abbrev pub arrived : (label : Option (List ℕ)) → Ways → Ways
arrived label w = record { here = if w.here then true else list_any (is_word label) w.waiting; waiting = filter (λ name. not (is_word label name)) w.waiting }

-- one more way waits
abbrev pub waiting_for : (here : Bool) → Ways → (name : List ℕ) → Ways
waiting_for here w name = record { here = here; waiting = w.waiting ++ (name ∷ []) }

-- a line that comes to its end, or may come to it, jumps
abbrev pub jumped : (passed : Option Bool) → (goto : Option (List ℕ)) → Ways → Ways
jumped passed None w = w
jumped (Some false) (Some name) w = w
jumped (Some true) (Some name) w = waiting_for false w name
jumped None (Some name) w = waiting_for w.here w name

-- the lines of a file, of which the first has this number
abbrev pub tell_lines : Knowledge → (file line : ℕ) → List Change → Ways → List RuleLine → Story
tell_lines k file n cs w [] = record { told = []; changes = cs; parent = k.parent }
tell_lines k file n cs w (l ∷ more) =
    let at = arrived l.label w in
    if at.here
    then (let tale = tell_line k (is_none at.waiting) (turn file n) cs l in
    story_before tale.told (tell_lines (known_after (is_none at.waiting) k cs l) file (n + 1) tale.changes (jumped tale.passed l.goto at) more))
    else tell_lines k file (n + 1) cs at more

-- what is told of the lookups of files, one after the other, of which the first has this number
abbrev pub tell_files : Knowledge → (file : ℕ) → List Change → List (List RuleLine) → List Told
tell_files k n cs [] = []
tell_files k n cs (lines ∷ more) =
    (tell_lines k n 0 cs start lines).told
    ++ tell_files (with_chosen k (tell_lines k n 0 cs start lines).parent) (n + 1) (tell_lines k n 0 cs start lines).changes more
