-- What the lines of rules do for one device, after `udev_rules_apply_to_event`, `udev_rule_apply_line_to_event` and
-- `udev_rule_apply_token_to_event` of udev-rules.c (systemd 257).
use Rattle.std.specs.Prelude.{List, [], ◌∷◌, ◌++◌, Bool, true, false, if◌then◌else◌, ℕ, ◌+◌, codes, Option, Some, None, is_some, unwrap_or}
use Rattle.std.specs.Str.{bytes_eq}
use Rattle.hwdb_spec.specs.Lines.{is_none}
use Rattle.hwdb_rulefiles.specs.RuleTokens.{Token, is_word}
use Rattle.hwdb_rulefiles.specs.RuleLines.{RuleLine}
use Rattle.hwdb_rulerun.specs.Conditions.{by_operator, line_holds, text_of}
use Rattle.hwdb_rulerun.specs.Asking.{runs, is_lookup}
use Rattle.hwdb_rulerun.specs.Sights.{Device, World}
use Rattle.hwdb_ruleevents.specs.Parents.{is_for_all, parent_after, parent_in}
use Rattle.hwdb_ruleevents.specs.Changes.{Properties}
use Rattle.hwdb_ruleevents.specs.Effects.{assigned, is_env, is_value_as_is}
use Rattle.hwdb_ruleevents.specs.Texts.{Meaning, attribute_text, names_other, number, other_text, value_text}
use Rattle.hwdb_ruleevents.specs.declared.pieces.Variable.TheVariants as Variables

-- the turn of a line: its file, and its number among the lines of that, both from 0
pub record Turn : Type 0 where
  pub file : ℕ
  pub line : ℕ

-- the turn of a line, and the parent that a line chose
pub record Moment : Type 0 where
  pub at : Turn
  pub parent : Option Device

-- All that lines see but properties: the device, the parent that a line chose, and attributes of other devices, by the texts in braces that
-- name them. Five answers stand for what isn't followed here: whether a condition is passed, or what is run succeeds; what a token makes of
-- properties; its text; whether that is too long; and whether a line is tried that isn't for all devices. Each is asked at a moment.
pub record Event : Type 0 where
  pub world : World
  pub parent : Option Device
  pub other : (argument : List ℕ) → Option (List ℕ)
  pub passes : (now : Moment) → Properties → Token → (index : ℕ) → Bool
  pub sets : (now : Moment) → Properties → Token → Properties
  pub text : (now : Moment) → Properties → Token → List ℕ
  pub cuts : (now : Moment) → Properties → Token → Bool
  pub tries : (now : Moment) → RuleLine → Bool

abbrev pub moment : Event → (at : Turn) → Moment
moment e n = record { at = n; parent = e.parent }

abbrev pub with_parent : Event → Option Device → Event
with_parent e parent = record e { parent = parent }

abbrev pub with_answers : World → Properties → (passes : Token → ℕ → Bool) → World
with_answers w p passes = record w { property = p; passes = passes }

-- what a line sees
abbrev pub world_at : Event → (at : Turn) → Properties → World
world_at e n p = with_answers e.world p (e.passes (moment e n) p)

-- the text of an attribute, or another one if the device has none
abbrev pub own_text : Option (List ℕ) → (otherwise : Option (List ℕ)) → Option (List ℕ)
own_text None otherwise = otherwise
own_text (Some text) otherwise = attribute_text text

-- the texts of a parent: an attribute, the name and the driver; without a parent they are empty
abbrev pub parent_attribute : Option Device → (name : List ℕ) → Option (List ℕ)
parent_attribute None name = Some []
parent_attribute (Some d) name = own_text (d.attribute name) (Some [])

abbrev pub parent_name : Option Device → List ℕ
parent_name None = []
parent_name (Some d) = d.name

abbrev pub parent_driver : Option Device → List ℕ
parent_driver None = []
parent_driver (Some d) = text_of d.driver

abbrev pub attribute_meaning : Event → (argument : List ℕ) → Option (List ℕ)
attribute_meaning e argument = if names_other argument then Some (other_text (e.other argument)) else own_text (e.world.own.attribute argument) (parent_attribute e.parent argument)

-- the text that a variable stands for; None if it isn't followed
abbrev pub meaning : Event → Properties → Meaning
meaning e p Variables.Kernel argument = Some e.world.own.name
meaning e p Variables.Number argument = Some (number e.world.own.name)
meaning e p Variables.Devpath argument = Some e.world.path
meaning e p Variables.Env argument = Some (text_of (p argument))
meaning e p Variables.Attr argument = attribute_meaning e argument
meaning e p Variables.Id argument = Some (parent_name e.parent)
meaning e p Variables.Driver argument = Some (parent_driver e.parent)
meaning e p Variables.Root argument = Some (codes "/dev")
meaning e p Variables.Sys argument = Some (codes "/sys")
meaning e p variable argument = None

-- the text of a token's value, if it is followed
abbrev pub followed : Event → Properties → Token → Option (List ℕ)
followed e p t = value_text (meaning e p) t.kind t.value

-- the text of a token's value
abbrev pub text_at : Event → (at : Turn) → Properties → Token → List ℕ
text_at e n p t = unwrap_or (followed e p t) (e.text (moment e n) p t)

-- what ENV makes of its property; a text that isn't set as it is isn't followed
abbrev pub new_value : Event → (at : Turn) → Properties → Token → Option (List ℕ)
new_value e n p t =
    let v = assigned t.operator t.value (text_at e n p t) (p t.attribute) in
    if is_none t.value then v else (if is_value_as_is v then v else e.sets (moment e n) p t t.attribute)

abbrev pub with_value : Properties → (name : List ℕ) → Option (List ℕ) → Properties
with_value p own value = λ name. if bytes_eq own name then value else p name

-- the properties after a token
abbrev pub after : Event → (at : Turn) → Properties → Token → Properties
after e n p t = if is_env t.kind then with_value p t.attribute (new_value e n p t) else e.sets (moment e n) p t

-- whether a token's text is too long for udev
abbrev pub is_cut : Event → (at : Turn) → Properties → Token → Bool
is_cut e n p t = if is_some (followed e p t) then false else e.cuts (moment e n) p t

-- whether a line goes on after something that is run: not if its text is too long, whatever the operator
abbrev pub goes_on_after : Event → (at : Turn) → Properties → Token → Bool
goes_on_after e n p t = if is_cut e n p t then false else by_operator t.operator (e.passes (moment e n) p t 0)

-- whether a line goes on after a token
abbrev pub goes_on : Event → (at : Turn) → Properties → Token → Bool
goes_on e n p t = if runs t.kind then goes_on_after e n p t else true

-- a lookup: the turn of its line, its token, the text of its command, and the device's MODALIAS then
pub record Ask : Type 0 where
  pub at : Turn
  pub token : Token
  pub text : List ℕ
  pub alias : Option (List ℕ)

-- a command whose text is too long isn't run
abbrev pub asked_in : Event → (at : Turn) → Properties → Token → List Ask
asked_in e n p t = if is_cut e n p t then [] else record { at = n; token = t; text = text_at e n p t; alias = p (codes "MODALIAS") } ∷ []

abbrev pub ask_in : Event → (at : Turn) → Properties → Token → List Ask
ask_in e n p t = if is_lookup t then asked_in e n p t else []

-- what a line did: its lookups, whether it came to its end, and the properties after it
pub record Done : Type 0 where
  pub asks : List Ask
  pub passed : Bool
  pub properties : Properties

abbrev pub stopped : (passed : Bool) → Properties → Done
stopped passed p = record { asks = []; passed = passed; properties = p }

abbrev pub asked_before : List Ask → Done → Done
asked_before asks d = record d { asks = asks ++ d.asks }

-- tokens run up to one that fails, which has run, too
abbrev pub run_tokens : Event → (at : Turn) → Properties → List Token → Done
run_tokens e n p [] = stopped true p
run_tokens e n p (t ∷ more) =
    asked_before (ask_in e n p t) (if goes_on e n p t then run_tokens e n (after e n p t) more else stopped false (after e n p t))

abbrev pub is_tried : Event → (at : Turn) → RuleLine → Bool
is_tried e n l = if is_for_all l then true else e.tries (moment e n) l

-- what the tokens of a line see when they are run, and what the lines after it see
abbrev pub event_in : Event → (at : Turn) → Properties → RuleLine → Event
event_in e n p l = with_parent e (parent_in (world_at e n p) l.tokens e.parent)

abbrev pub event_after : Event → (at : Turn) → Properties → RuleLine → Event
event_after e n p l = with_parent e (if is_tried e n l then parent_after (world_at e n p) l.tokens e.parent else e.parent)

abbrev pub run_line : Event → (at : Turn) → Properties → RuleLine → Done
run_line e n p l = if line_holds (world_at e n p) l.tokens then run_tokens (event_in e n p l) n p l.tokens else stopped false p

-- what lines did
pub record Ran : Type 0 where
  pub asks : List Ask
  pub properties : Properties
  pub parent : Option Device

abbrev pub ran_before : List Ask → Ran → Ran
ran_before asks r = record r { asks = asks ++ r.asks }

-- a line that came to its end jumps
abbrev pub jump : (passed : Bool) → (goto : Option (List ℕ)) → Option (List ℕ)
jump passed goto = if passed then goto else None

-- whether a line is tried: after a jump the first one with its label
abbrev pub is_reached : (until label : Option (List ℕ)) → Bool
is_reached None label = true
is_reached (Some name) label = is_word label name

abbrev pub turn : (file line : ℕ) → Turn
turn file line = record { file = file; line = line }

-- the lines of a file, of which the first has this number
abbrev pub run_lines : Event → (file line : ℕ) → Properties → (until : Option (List ℕ)) → List RuleLine → Ran
run_lines e file n p until [] = record { asks = []; properties = p; parent = e.parent }
run_lines e file n p until (l ∷ more) =
    if is_reached until l.label
    then ran_before (run_line e (turn file n) p l).asks
    (run_lines (event_after e (turn file n) p l) file (n + 1) (run_line e (turn file n) p l).properties (jump (run_line e (turn file n) p l).passed l.goto) more)
    else run_lines e file (n + 1) p until more

-- the lookups of files, one after the other, of which the first has this number
abbrev pub run_files : Event → (file : ℕ) → Properties → List (List RuleLine) → List Ask
run_files e n p [] = []
run_files e n p (lines ∷ more) =
    (run_lines e n 0 p None lines).asks
    ++ run_files (with_parent e (run_lines e n 0 p None lines).parent) (n + 1) (run_lines e n 0 p None lines).properties more
