-- What is asked depends on what each string gets, and on nothing else of a database.
use Rattle.std.proofs.Common.{◌≡◌, ◌∙◌, ap, refl, ℕ, List, [], ◌∷◌, ◌++◌, if◌then◌else◌}
use Rattle.hwdb_spec_commands.specs.Inputs.{Kinds, no_kinds}
use Rattle.hwdb_spec.specs.Lines.{is_none}
use Rattle.hwdb_spec_commands.specs.Lookups.{Found, Lookup, Question, Scene, Told, all_asked, asked_in, early_rules, found_for, found_in, input_id_rules, kinds_after, kinds_seen, late_rules, middle_rules}
use Rattle.hwdb_spec_commands.specs.Sysfs.{Ancestor, cut_short}

-- a string, and what it gets
abbrev with_told : (rule : List ℕ) → Question → Told → Found
with_told rule q told = record { rule = rule; parent = q.parent; text = q.text; told = told }

-- the kinds after the first two stages
abbrev kinds_of : List Found → List Found → Scene → Kinds
kinds_of early inputs s = kinds_after (kinds_seen (kinds_after no_kinds early) s) inputs

-- what is asked after the first two stages, and after three
abbrev from_third : (List ℕ → Told) → Scene → Kinds → (early inputs middle : List Found) → List Found
from_third tells s kinds early inputs middle = early ++ (inputs ++ (middle ++ all_asked tells (late_rules (kinds_after kinds middle) s)))

abbrev from_second : (List ℕ → Told) → Scene → (early inputs : List Found) → List Found
from_second tells s early inputs =
    from_third tells s (kinds_of early inputs s) early inputs (all_asked tells (middle_rules (kinds_of early inputs s) s))

module _ (f g : List ℕ → Told) (same : (text : List ℕ) → f text ≡ g text) where
  asked_same : (rule : List ℕ) (questions : List Question) → asked_in f rule questions ≡ asked_in g rule questions
  unfolding asked_in
  asked_same rule [] = refl
  asked_same rule (q ∷ more) =
      ap (λ (t : Told). with_told rule q t ∷ (if is_none t then asked_in f rule more else [])) (same q.text)
      ∙ ap (λ (l : List Found). with_told rule q (g q.text) ∷ (if is_none (g q.text) then l else [])) (asked_same rule more)

  all_same : (lookups : List Lookup) → all_asked f lookups ≡ all_asked g lookups
  all_same [] = refl
  all_same (l ∷ more) =
      ap (λ (x : List Found). x ++ all_asked f more) (asked_same l.rule l.questions)
      ∙ ap (λ (x : List Found). asked_in g l.rule l.questions ++ x) (all_same more)

  in_same : (s : Scene) → found_in f s ≡ found_in g s
  in_same s =
      let early = all_asked g (early_rules s) in
      let inputs = all_asked g (input_id_rules s) in
      let kinds = kinds_of early inputs s in
      let middle = all_asked g (middle_rules kinds s) in
      ap (λ (e : List Found). from_second f s e (all_asked f (input_id_rules s))) (all_same (early_rules s))
      ∙ ap (λ (i : List Found). from_second f s early i) (all_same (input_id_rules s))
      ∙ ap (λ (m : List Found). from_third f s kinds early inputs m) (all_same (middle_rules kinds s))
      ∙ ap (λ (l : List Found). early ++ (inputs ++ (middle ++ l))) (all_same (late_rules (kinds_after kinds middle) s))

  pub for_same : (machine : List ℕ) (chain : List Ancestor) → found_for f machine chain ≡ found_for g machine chain
  for_same machine [] = refl
  for_same machine (own ∷ parents) = in_same (record { own = own; chain = own ∷ parents; machine = cut_short machine })
