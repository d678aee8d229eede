-- What is said if a command prints nothing: what to try next, in a line on standard error. It is said on a terminal alone. Our choice.
use Rattle.std.specs.Option.{option_map_or}
use Rattle.std.specs.Prelude.{◌≡◌, ◌++◌, ◌∷◌, ℕ, Bool, true, List, [], None, Option, Some, codes, find, if◌then◌else◌, map, option_map}
use Rattle.hwdb_spec.specs.Folders.{same}
use Rattle.hwdb_spec_commands.specs.Given.{is_dash}
use Rattle.hwdb_spec_commands.specs.Refusals.{refusal_line}
use Rattle.hwdb_spec_commands.specs.Told.{Reads}
use Rattle.hwdb_spec_commands.specs.Told.Stop.{NoDatabase}
use Rattle.hwdb_plan.specs.Plans.{End, Ends, Plan}
use Rattle.hwdb_plan.specs.Plans.End.{Answers, Stops, Streams}
use Rattle.hwdb_plan.specs.Plans.Plan.{Compile, Database, Decode, Done, Folder, Ignored, Input, Inspect, Names, Spell, Text}

-- ---- what to try next
-- Commands that may well print nothing, and what to try then. `explain -` has no line: it answers the devices of standard input as they come.
abbrev pub advices : (device : List ℕ) → List (List ℕ × Option (List ℕ))
advices device =
    (codes "explain", if is_dash device then None else Some (codes "no pattern matches: 'hwdb near' says where each stops"))
    ∷ (codes "near", Some (codes "no pattern is near: 'hwdb device' says what udev asks for a device"))
    ∷ (codes "device", Some (codes "nothing is asked: 'hwdb device' lists the devices for which something is, --root DIR those below another root"))
    ∷ []

-- the line of a command, by its word and the device that is asked; of others none
abbrev pub advice_of : (word device : List ℕ) → Option (List ℕ)
advice_of word device = option_map refusal_line (option_map_or (λ row. row.1) (find (λ row. same row.0 word) (advices device)) None)

-- ---- a plan with that line
-- a line, if both texts are empty
abbrev pub if_nothing : (err out line : List ℕ) → List ℕ
if_nothing [] [] line = line
if_nothing err out line = []

-- an end with a line on standard error, if it is an answer that prints nothing
abbrev pub with_advice : (line : List ℕ) → End → End
with_advice line (Answers status err out) = Answers status (err ++ if_nothing err out line) out
with_advice line e = e

-- a plan whose answers have that line if they print nothing
unfoldable pub advised : (line : List ℕ) → Plan → Plan
advised line (Done e) = Done (with_advice line e)
advised line (Input path next) = Input path (λ r. advised line (next r))
advised line (Text path next) = Text path (λ r. advised line (next r))
advised line (Database path next) = Database path (λ r. advised line (next r))
advised line (Names folder next) = Names folder (λ r. advised line (next r))
advised line (Folder path next) = Folder path (λ r. advised line (next r))
advised line (Ignored folder next) = Ignored folder (λ r. advised line (next r))
advised line (Spell at next) = Spell at (λ p. advised line (next p))
advised line (Inspect bytes next) = Inspect bytes (λ t. advised line (next t))
advised line (Decode bytes bad next) = Decode bytes bad (λ t. advised line (next t))
advised line (Compile etc usr most bad next) = Compile etc usr most bad (λ bytes. advised line (next bytes))

-- the same on a terminal, if there is a line; else the plan as it is
abbrev pub advised_if : (at_terminal : Bool) (line : Option (List ℕ)) → Plan → Plan
advised_if true (Some line) p = advised line p
advised_if at_terminal line p = p

-- ---- what is so of every plan
-- what a plan ends in, with the line if it prints nothing, the plan with the line ends in
abbrev pub AdvisedIsSaid : Type 0
AdvisedIsSaid = (line : List ℕ) (w : Reads) (p : Plan) (e : End) → Ends w p e → Ends w (advised line p) (with_advice line e)

-- and in nothing else
abbrev pub AdvisedIsNoMore : Type 0
AdvisedIsNoMore = (line : List ℕ) (w : Reads) (p : Plan) (e : End) → Ends w (advised line p) e → (f : End) × Ends w p f × (e ≡ with_advice line f)

-- Which commands have a line, and that `explain -` has none.
abbrev pub AdviceRows : Type 0
AdviceRows =
    (map (λ word. advice_of word (codes "usb:v1")) (codes "explain" ∷ codes "near" ∷ codes "query" ∷ codes "list" ∷ [])
    ≡ Some (codes "hwdb: no pattern matches: 'hwdb near' says where each stops\n")
    ∷ Some (codes "hwdb: no pattern is near: 'hwdb device' says what udev asks for a device\n") ∷ None ∷ None ∷ [])
    × (advice_of (codes "explain") (codes "-") ≡ None)

-- The line is added to an answer that prints nothing: neither to one with a text on either output, nor to an error, nor to what is told of the
-- lines of standard input.
abbrev pub AdvisedRows : Type 0
AdvisedRows =
    map (with_advice (codes "l")) (Answers 1 [] [] ∷ Answers 0 [] (codes "o") ∷ Answers 0 (codes "e") [] ∷ Stops NoDatabase ∷ Streams (λ lines. []) ∷ [])
    ≡ Answers 1 (codes "l") [] ∷ Answers 0 [] (codes "o") ∷ Answers 0 (codes "e") [] ∷ Stops NoDatabase ∷ Streams (λ lines. []) ∷ []
