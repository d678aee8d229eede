-- What `explain` says of a device: for each key the answer that counts, and those that it overrides. Each has the line
-- that it comes from. The command and its form are our choice.
use Rattle.std.specs.Prelude.{codes, List, ℕ, [], ◌∷◌, ◌++◌, map, filter, flat_map, reverse, None}
use Rattle.hwdb_spec.specs.Assignment.{Assignment, in_order, text_cmp}
use Rattle.hwdb_spec.specs.Lines.{byte}
use Rattle.hwdb_spec.specs.Folders.{Source, all_assignments}
use Rattle.hwdb_spec.specs.Tree.{Tree, answers}
use Rattle.hwdb_spec.specs.Answers.{key_of_answer, has_key, last_assignments}
use Rattle.hwdb_spec.specs.Texts.{property_text, place_text}

-- the answers with a key, the last first
abbrev pub answers_with : List ℕ → List Assignment → List Assignment
answers_with key answers = filter (has_key key) (reverse answers)

-- For each key among the answers the answers with that key, the last first, ascending by key. `ExplainedAreEffective` says
-- that the first of them are the effective list.
unfoldable pub explained : List Assignment → List (List ℕ × List Assignment)
explained answers = map (λ key. (key, answers_with key answers)) (in_order text_cmp (map key_of_answer answers))

-- where an answer comes from: four spaces, the path, `:`, the line, two spaces, the pattern
abbrev pub origin_line : Assignment → List ℕ
origin_line f = codes "    " ++ (place_text f.path f.position.line ++ codes "  " ++ (f.position.pattern ++ byte "\n" ∷ []))

-- an answer that is overridden: after `  overrides ` its `KEY=VALUE`, and below that where it comes from
abbrev pub overridden_text : Assignment → List ℕ
overridden_text f = codes "  overrides " ++ (property_text (f.position.key, f.value) ++ origin_line f)

-- a key and its answers: `KEY=VALUE` of the first, where that comes from, and the others, which it overrides
abbrev pub explanation_text : List ℕ → List Assignment → List ℕ
explanation_text key [] = []
explanation_text key (f ∷ overridden) = property_text (key, f.value) ++ (origin_line f ++ flat_map overridden_text overridden)

-- one key's after another's
abbrev pub explanations_text : List (List ℕ × List Assignment) → List ℕ
explanations_text explanations = flat_map (λ p. explanation_text p.0 p.1) explanations

-- what a database gives a device, and where it comes from, as text
abbrev pub explain_text : List ℕ → Tree → List ℕ
explain_text device t = explanations_text (explained (answers device t))

-- of the last assignments that match the device, for each key the last one, and those that it overrides, as text
abbrev pub explained_text : (device : List ℕ) (etc usr : List Source) → List ℕ
explained_text device etc usr = explanations_text (explained (last_assignments device None (all_assignments etc usr)))
