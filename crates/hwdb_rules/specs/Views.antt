-- What the types of this crate mean.
use Rattle.std.specs.Prelude.{List, flat_map, map}
use Rattle.hwdb_sysfs.specs.Views.{ancestor_of}
use Rattle.hwdb_spec_commands.specs.Inputs.{Kinds}
use Rattle.hwdb_spec_commands.specs.Lookups.{Lookup, Question, Scene}
use Rattle.hwdb_rules.specs.declared.inputs.Kinds.{Kinds as SeenKinds}
use Rattle.hwdb_rules.specs.declared.plans.Plan.{Plan}
use Rattle.hwdb_rules.specs.declared.plans.Question.{Question as OwnedQuestion}
use Rattle.hwdb_rules.specs.declared.scene.Scene.{Scene as SeenScene}

-- what kinds a device has
abbrev pub kinds_of : SeenKinds → Kinds
kinds_of k = record { mouse = k.mouse; touchpad = k.touchpad; joystick = k.joystick; accelerometer = k.accelerometer }

-- what a rule sees
abbrev pub scene_of : SeenScene → Scene
scene_of s = record { own = ancestor_of s.own.now; chain = map ancestor_of s.chain.now; machine = s.machine.now }

-- a string, and which parent it comes from
abbrev pub question_of : OwnedQuestion → Question
question_of q = record { parent = q.parent; text = q.text.items }

-- some strings
abbrev pub questions_of : List OwnedQuestion → List Question
questions_of questions = map question_of questions

-- strings of a rules file
abbrev pub plan_of : Plan → Lookup
plan_of p = record { rule = p.rule.now; questions = questions_of p.questions.items }

-- strings of rules files
abbrev pub plans_of : List Plan → List Lookup
plans_of plans = map plan_of plans

-- the strings that are asked
abbrev pub strings_in : List Lookup → List Question
strings_in lookups = flat_map (λ (l : Lookup). l.questions) lookups
