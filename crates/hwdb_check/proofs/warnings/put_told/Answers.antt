use Rattle.std.proofs.Common.{◌≡◌, ◌∙◌, ◌++◌, ◌∷◌, [], ℕ, List, Option, OnOk, ap, false, subst}
use Rattle.hwdb_spec_commands.specs.Findings as spec
use Rattle.hwdb_spec_commands.specs.Findings.{fix_for, one_warning}
use Rattle.hwdb_spec_commands.specs.Kinds.{warning_name}
use Rattle.hwdb_spec_commands.specs.Warnings.{warning_hint, warning_place, warning_text}
use Rattle.hwdb_check.specs.Found.{finds}
use Rattle.hwdb_check.specs.Internal.{clean_of, line_of}
use Rattle.hwdb_check.proofs.PieceLemmas.{same_fix_for, same_hint}
use Rattle.hwdb_check.proofs.warnings.put_told.Goals as goal

pub returns : goal.returns
unfolding one_warning
returns c =
    let old : List spec.Finding = finds c.args.found.now.items in
    let format = c.args.format in
    let kind = c.args.kind in
    let number : ℕ = c.args.line.now.number in
    let text : List ℕ = c.args.line.now.text.now in
    let clean : List ℕ = c.args.line.now.clean.now in
    let read : List ℕ = (clean_of c.args.line.now).text in
    let last : List spec.Finding = finds c.put_found.new.all.items in
    let at : (place : ℕ) (name words hint : List ℕ) (line : Option (List ℕ)) → spec.Finding = λ place name words hint line. record {
      path = c.args.line.now.path.now;
      line = number;
      place = place;
      fault = false;
      kind = name;
      text = words;
      hint = hint;
      source = text;
      fix = line;
    } in
    let Is : spec.Finding → Type 0 = λ f. OnOk c.put_found.result (last ≡ old ++ f ∷ []) in
    subst (λ (l : Option (List ℕ)). Is (at (warning_place kind text read) (warning_name kind) (warning_text kind) (warning_hint kind (line_of number read)) l))
    (same_fix_for format kind 0 number read text)
    (subst (λ (h : List ℕ). Is (at (warning_place kind text read) (warning_name kind) (warning_text kind) h (fix_for format kind (line_of 0 read) text)))
    (same_hint kind 0 number read)
    (subst (λ (t : List ℕ). Is (at (warning_place kind text t) (warning_name kind) (warning_text kind) (warning_hint kind (line_of 0 t)) (fix_for format kind (line_of 0 t) text)))
    c.requires.clean
    (subst (λ (p : ℕ). Is (at p (warning_name kind) (warning_text kind) (warning_hint kind (line_of 0 clean)) (fix_for format kind (line_of 0 clean) text)))
    c.warning_place.ensures
    (subst (λ (k : List ℕ). Is (at c.warning_place.result k (warning_text kind) (warning_hint kind (line_of 0 clean)) (fix_for format kind (line_of 0 clean) text)))
    c.warning_name.ensures
    (subst (λ (w : List ℕ). Is (at c.warning_place.result c.warning_name.result.now w (warning_hint kind (line_of 0 clean)) (fix_for format kind (line_of 0 clean) text)))
    (c.deref.ensures.value ∙ c.in_ok-words.ensures)
    (subst (λ (h : List ℕ). Is (at c.warning_place.result c.warning_name.result.now c.deref.result.now h (fix_for format kind (line_of 0 clean) text)))
    (c.deref-2.ensures.value ∙ c.in_ok-push_hint.ensures ∙ ap (λ (f : List ℕ). f ++ warning_hint kind (line_of 0 clean)) c.new-hint.ensures.items)
    (subst (λ (l : Option (List ℕ)). Is (at c.warning_place.result c.warning_name.result.now c.deref.result.now c.deref-2.result.now l))
    c.in_ok-fix.ensures
    c.put_found.ensures)))))))
