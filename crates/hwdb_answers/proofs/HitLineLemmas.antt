-- Lines of hits, one after another.
use Rattle.std.proofs.Common.{◌≡◌, ◌≢◌, ◌∙◌, ℕ, zero, suc, ◌+◌, ◌-◌, refl, ap, sym, subst, List, [], ◌∷◌, ◌++◌, Option, None, Some, length, take, arith, length-append, Bool, false, true, not, nat_eq, true≢false}
use Rattle.std.specs.Option.{option_eq}
use Rattle.std.specs.Prelude.{flat_map}
use Rattle.std.proofs.Math.Seq.{take-append-add}
use Rattle.std.proofs.lemmas.List.{take-append-le}
use Rattle.std.proofs.KnownBytes.{Appends-trans, Appends-nil}
use Rattle.std.specs.Io.KnownBytes.{Appends}
use Rattle.hwdb_query.specs.Views.{Gives, assignment_of_hit}
use Rattle.hwdb_query.specs.declared.hit.Hit.{Hit}
use Rattle.hwdb_spec.specs.Outputs.{AppendsPrefix}
use Rattle.hwdb_answers.specs.Internal.{AppendsLines}
use Rattle.hwdb_answers.specs.Lookups.{TookLines, last_list, one_less}
use Rattle.hwdb_spec_commands.specs.Listings.{line_of}
use Rattle.hwdb_spec.specs.Answers.{last_assignments}
use Rattle.hwdb_spec_commands.specs.Asked.{list_form}
use Rattle.hwdb_spec.specs.Assignment.{Assignment, Position}
use Rattle.hwdb_spec.specs.Folders.{Source, all_assignments}
use Rattle.hwdb_spec.specs.Texts.{within_limit}
use Rattle.hwdb_spec.specs.Tree.{Tree, answers_after}

-- what a limit leaves of a list that isn't empty
pub next_within : (limit : Option ℕ) (f : Assignment) (more : List Assignment) → limit ≢ Some 0
    → within_limit limit (f ∷ more) ≡ f ∷ within_limit (one_less limit) more
next_within None f more some = refl
next_within (Some zero) f more some = absurd (some refl)
next_within (Some (suc n)) f more some = let e : suc n - 1 ≡ n = omega arith in ap (λ k. f ∷ take k more) (sym e)

pub none_within : (hits : List Assignment) → within_limit (Some 0) hits ≡ []
none_within hits = refl

pub end_within : (limit : Option ℕ) → within_limit limit [] ≡ []
end_within None = refl
end_within (Some zero) = refl
end_within (Some (suc n)) = refl

-- a line was taken, and then a text
pub whole_behind : (a b c : Option (List ℕ)) (line rest : List ℕ) → Appends a b line → Appends b c rest → Appends a c (line ++ rest)
whole_behind a b c line rest p q = Appends-trans a b c _ _ p q

pub part_behind : (a b c : Option (List ℕ)) (line rest : List ℕ) → Appends a b line → AppendsPrefix b c rest → AppendsPrefix a c (line ++ rest)
part_behind a b c line rest p q = (
  length line + q.0,
  omega (arith, length-append line rest, q.1),
  (let P : List ℕ → Type 0 = λ l. Appends a c l in subst P (sym (take-append-add line rest q.0)) (Appends-trans a b c _ _ p q.2)),
)

pub part_in_front : (a b : Option (List ℕ)) (line rest : List ℕ) → AppendsPrefix a b line → AppendsPrefix a b (line ++ rest)
part_in_front a b line rest q = (
  q.0,
  omega (arith, length-append line rest, q.1),
  (let P : List ℕ → Type 0 = λ l. Appends a b l in subst P (sym (take-append-le q.0 line rest q.1)) q.2),
)

pub lines_behind : (text : Assignment → List ℕ) (a b c : Option (List ℕ)) (f : Assignment) (more : List Assignment) → Appends a b (text f) → AppendsLines text b c more
    → AppendsLines text a c (f ∷ more)
lines_behind text a b c f more p q = (suc q.0, Appends-trans a b c _ _ p q.1)

pub no_lines : (text : Assignment → List ℕ) (a : Option (List ℕ)) (hits : List Assignment) → AppendsLines text a a hits
no_lines text a hits = (0, Appends-nil a)

-- what was given is the first of what was to come
pub given : (before after : List Assignment) (o : Option Hit) (hit : Hit) → o ≡ Some hit → Gives before after o → before ≡ assignment_of_hit hit ∷ after
given before after o hit e g = let P : Option Hit → Type 0 = λ x. Gives before after x in subst P e g

-- what is printed of a list after its first line
pub whole_step : (text : Assignment → List ℕ) (a b end : Option (List ℕ)) (limit : Option ℕ) (all more : List Assignment) (f : Assignment) (line : List ℕ) → all ≡ f ∷ more → limit ≢ Some 0 → line ≡ text f
    → Appends a b line → Appends b end (flat_map text (within_limit (one_less limit) more)) → Appends a end (flat_map text (within_limit limit all))
whole_step text a b end limit all more f line e some is p q =
    let P : List ℕ → Type 0 = λ l. Appends a end l in
    subst P (sym (ap (flat_map text) (ap (within_limit limit) e ∙ next_within limit f more some)))
    (let Q : List ℕ → Type 0 = λ l. Appends a end (l ++ flat_map text (within_limit (one_less limit) more)) in subst Q is (whole_behind a b end line _ p q))

pub part_step : (text : Assignment → List ℕ) (a b end : Option (List ℕ)) (limit : Option ℕ) (all more : List Assignment) (f : Assignment) (line : List ℕ) → all ≡ f ∷ more → limit ≢ Some 0 → line ≡ text f
    → Appends a b line → AppendsPrefix b end (flat_map text (within_limit (one_less limit) more)) → AppendsPrefix a end (flat_map text (within_limit limit all))
part_step text a b end limit all more f line e some is p q =
    let P : List ℕ → Type 0 = λ l. AppendsPrefix a end l in
    subst P (sym (ap (flat_map text) (ap (within_limit limit) e ∙ next_within limit f more some)))
    (let Q : List ℕ → Type 0 = λ l. AppendsPrefix a end (l ++ flat_map text (within_limit (one_less limit) more)) in subst Q is (part_behind a b end line _ p q))

pub part_of_line : (text : Assignment → List ℕ) (a b : Option (List ℕ)) (limit : Option ℕ) (all more : List Assignment) (f : Assignment) (line : List ℕ) → all ≡ f ∷ more → limit ≢ Some 0 → line ≡ text f
    → AppendsPrefix a b line → AppendsPrefix a b (flat_map text (within_limit limit all))
part_of_line text a b limit all more f line e some is p =
    let P : List ℕ → Type 0 = λ l. AppendsPrefix a b l in
    subst P (sym (ap (flat_map text) (ap (within_limit limit) e ∙ next_within limit f more some)))
    (let Q : List ℕ → Type 0 = λ l. AppendsPrefix a b (l ++ flat_map text (within_limit (one_less limit) more)) in subst Q is (part_in_front a b line _ p))

pub lines_step : (text : Assignment → List ℕ) (a b end : Option (List ℕ)) (limit : Option ℕ) (all more : List Assignment) (f : Assignment) (line : List ℕ) → all ≡ f ∷ more → limit ≢ Some 0 → line ≡ text f
    → Appends a b line → AppendsLines text b end (within_limit (one_less limit) more) → AppendsLines text a end (within_limit limit all)
lines_step text a b end limit all more f line e some is p q =
    let P : List Assignment → Type 0 = λ l. AppendsLines text a end l in
    subst P (sym (ap (within_limit limit) e ∙ next_within limit f more some))
    (lines_behind text a b end f _ (let Q : List ℕ → Type 0 = λ l. Appends a b l in subst Q is p) q)

-- a limit that isn't reached
pub not_reached : (limit : Option ℕ) → true ≡ not (option_eq nat_eq limit (Some 0)) → limit ≢ Some 0
not_reached limit h e = let P : Option ℕ → Type 0 = λ o. true ≡ not (option_eq nat_eq o (Some 0)) in absurd (true≢false (subst P e h))

-- the lines are the text, in both forms
pub list_is : (json : Bool) (device : List ℕ) (from : Option Position) (limit : Option ℕ) (t : Tree)
    → flat_map (line_of json) (within_limit limit (answers_after device from t)) ≡ list_form json device from limit t
list_is false device from limit t = refl
list_is true device from limit t = refl

pub last_list_is : (json : Bool) (device : List ℕ) (from : Option Position) (limit : Option ℕ) (etc usr : List Source)
    → flat_map (line_of json) (within_limit limit (last_assignments device from (all_assignments etc usr))) ≡ last_list json device from limit etc usr
last_list_is false device from limit etc usr = refl
last_list_is true device from limit etc usr = refl

-- the first lines were taken, and no call failed
pub took_lines : (text : Assignment → List ℕ) (hits : List Assignment) (before now : Option (List ℕ)) (failures_before failures_now : ℕ) → AppendsLines text before now hits → failures_now ≡ failures_before
    → TookLines text hits before now failures_before failures_now
took_lines text hits before now failures_before failures_now p same = (p.0, record { whole = p.1; unfailed = same })
