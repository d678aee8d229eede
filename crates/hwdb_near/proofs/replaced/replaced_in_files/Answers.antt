use Rattle.std.proofs.Common.{Bool, List, [], ap, false, sym, true, ◌++◌, ◌∙◌, ◌≡◌, filter, map, ℕ}
use Rattle.hwdb_compile.specs.Lemmas.Files.{same_assignments}
use Rattle.hwdb_spec.specs.Answers.{is_wanted}
use Rattle.hwdb_spec_commands.specs.Once.{once}
use Rattle.hwdb_spec_commands.specs.Replacements.{Replacement, masked_form, replaced_form, replacements, replacements_for, replacements_form}
use Rattle.hwdb_near.specs.Views.{assignment_of, replacement_of}
use Rattle.hwdb_near.specs.declared.replacements.Replaced.{Replaced}
use Rattle.hwdb_near.specs.declared.wanted.FileAssignment.{FileAssignment}
use Rattle.hwdb_near.proofs.replaced.replaced_in_files.Goals as goal

pub returns-then-json : goal.returns-then-json
returns-then-json c = λ etc usr of masks.
    let device = c.args.device.now in
    let masked : List (List ℕ) = map (λ p. p.items) c.args.masked.now in
    let pairs : map replacement_of c.in_ok-pairs.pairs.items ≡ replacements_for device etc usr =
    c.in_ok-pairs.ensures ∙ ap (λ (l : List FileAssignment). replacements (map assignment_of l)) c.deref-2.ensures.value
    ∙ ap replacements (c.in_ok-each.ensures ∙ ap (λ (l : List FileAssignment). once (map assignment_of l)) c.deref.ensures.value)
    ∙ ap (λ l. replacements (once l)) (c.in_ok-found.ensures ∙ ap (filter (is_wanted device)) (same_assignments etc usr c.args.files.now of)) in
    c.in_ok-json_of.ensures
    ∙ ap (λ (l : List Replaced). replaced_form true device (map replacement_of l) ++ masked_form true masked) c.deref-then-json.ensures.value
    ∙ ap (λ (l : List Replacement). replaced_form true device l ++ masked_form true masked) pairs
    ∙ ap (λ (l : List (List ℕ)). replaced_form true device (replacements_for device etc usr) ++ masked_form true l) masks
    ∙ ap (λ (j : Bool). replacements_form j device etc usr) (sym c.if-json.true)

pub returns : goal.returns
returns c = λ etc usr of masks.
    let device = c.args.device.now in
    let masked : List (List ℕ) = map (λ p. p.items) c.args.masked.now in
    let pairs : map replacement_of c.in_ok-pairs.pairs.items ≡ replacements_for device etc usr =
    c.in_ok-pairs.ensures ∙ ap (λ (l : List FileAssignment). replacements (map assignment_of l)) c.deref-2.ensures.value
    ∙ ap replacements (c.in_ok-each.ensures ∙ ap (λ (l : List FileAssignment). once (map assignment_of l)) c.deref.ensures.value)
    ∙ ap (λ l. replacements (once l)) (c.in_ok-found.ensures ∙ ap (filter (is_wanted device)) (same_assignments etc usr c.args.files.now of)) in
    c.in_ok-text_of.ensures
    ∙ ap (λ (l : List Replaced). replaced_form false [] (map replacement_of l) ++ masked_form false masked) c.deref-3.ensures.value
    ∙ ap (λ (l : List Replacement). replaced_form false device l ++ masked_form false masked) pairs
    ∙ ap (λ (l : List (List ℕ)). replaced_form false device (replacements_for device etc usr) ++ masked_form false l) masks
    ∙ ap (λ (j : Bool). replacements_form j device etc usr) (sym c.if-json.false)
