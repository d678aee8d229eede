-- Which findings a baseline lets pass.
use Rattle.std.proofs.Common.{◌≡◌, ◌∙◌, ◌||◌, ℕ, zero, suc, Bool, true, false, List, [], ◌∷◌, ap, cond, drop, filter, length, refl, subst, sym}
use Rattle.std.specs.List.{list_any}
use Rattle.std.specs.Char.{encode_utf8}
use Rattle.std.specs.Fmt.{digits}
use Rattle.std.specs.Str.{chars, is_utf8}
use Rattle.json.proofs.OnLiterals.{json_on_literals}
use Rattle.json.specs.Print.{escape_byte, print_from}
use Rattle.hwdb_spec_commands.specs.Json.{escaped_after, items_of, members_of}
use Rattle.hwdb_spec.specs.Folders.{same}
use Rattle.hwdb_spec.specs.Lines.{pieces}
use Rattle.hwdb_spec.specs.Visible.{visible_after}
use Rattle.hwdb_spec.specs.Lemmas.Orders.{same_text}
use Rattle.hwdb_spec_commands.specs.Baselines.{mark_of, marks_from, new_findings, without_first}
use Rattle.hwdb_spec_commands.specs.Findings.{Finding}
use Rattle.hwdb_check.specs.Passing.{AsManyPass, BaselineRows, NothingPasses, has}
use Rattle.hwdb_check.proofs.BaselineLemmas.{nothing_known}

none_left : {A : Type 0} (n : ℕ) (xs : List A) → xs ≡ [] → drop n xs ≡ []
none_left zero xs e = e
none_left (suc n) [] e = refl
none_left (suc n) (x ∷ xs) e = cc

-- ---- what is used up

count_taken : (m : List ℕ) (ks : List (List ℕ)) → list_any (same m) ks ≡ true → length (filter (same m) ks) ≡ suc (length (filter (same m) (without_first m ks)))
unfolding without_first
count_taken m [] h = cc
count_taken m (k ∷ ks) h = by (same m k) refl h (λ g. count_taken m ks g)
  where
    by : (b : Bool) → same m k ≡ b → (b || list_any (same m) ks) ≡ true
        → (list_any (same m) ks ≡ true → length (filter (same m) ks) ≡ suc (length (filter (same m) (without_first m ks))))
        → length (cond b (k ∷ filter (same m) ks) (filter (same m) ks)) ≡ suc (length (filter (same m) (cond b ks (k ∷ without_first m ks))))
    by true e h later = refl
    by false e h later =
        later h
        ∙ ap suc (sym (ap (λ (c : Bool). length (cond c (k ∷ filter (same m) (without_first m ks)) (filter (same m) (without_first m ks)))) e))

both_counts : (c : Bool) (k : List ℕ) (xs ys : List (List ℕ)) → length xs ≡ length ys → length (cond c (k ∷ xs) xs) ≡ length (cond c (k ∷ ys) ys)
both_counts true k xs ys e = ap suc e
both_counts false k xs ys e = e

count_other : (mark m : List ℕ) → same mark m ≡ false → (ks : List (List ℕ)) → length (filter (same mark) (without_first m ks)) ≡ length (filter (same mark) ks)
unfolding without_first
count_other mark m e [] = refl
count_other mark m e (k ∷ ks) = by (same m k) refl (count_other mark m e ks)
  where
    by : (b : Bool) → same m k ≡ b → length (filter (same mark) (without_first m ks)) ≡ length (filter (same mark) ks)
        → length (filter (same mark) (cond b ks (k ∷ without_first m ks))) ≡ length (cond (same mark k) (k ∷ filter (same mark) ks) (filter (same mark) ks))
    by true f later =
        sym (ap (λ (c : Bool). length (cond c (k ∷ filter (same mark) ks) (filter (same mark) ks))) (ap (λ (t : List ℕ). same mark t) (sym (same_text m k f)) ∙ e))
    by false f later = both_counts (same mark k) k (filter (same mark) (without_first m ks)) (filter (same mark) ks) later

count_none : (m : List ℕ) (ks : List (List ℕ)) → list_any (same m) ks ≡ false → length (filter (same m) ks) ≡ 0
count_none m [] h = refl
count_none m (k ∷ ks) h = by (same m k) h (λ g. count_none m ks g)
  where
    by : (b : Bool) → (b || list_any (same m) ks) ≡ false → (list_any (same m) ks ≡ false → length (filter (same m) ks) ≡ 0) → length (cond b (k ∷ filter (same m) ks) (filter (same m) ks)) ≡ 0
    by true h later = cc
    by false h later = later h

-- ---- what is left

pub as_many : AsManyPass
unfolding new_findings
as_many known [] mark = sym (none_left (length (filter (same mark) known)) [] refl)
as_many known (f ∷ fs) mark = by (λ ks. as_many ks fs mark) (list_any (same (mark_of f)) known) (same mark (mark_of f)) refl refl
  where
    by : ((ks : List (List ℕ)) → filter (has mark) (new_findings ks fs) ≡ drop (length (filter (same mark) ks)) (filter (has mark) fs))
        → (b c : Bool) → list_any (same (mark_of f)) known ≡ b → same mark (mark_of f) ≡ c
        → filter (has mark) (cond b (new_findings (without_first (mark_of f) known) fs) (f ∷ new_findings known fs))
        ≡ drop (length (filter (same mark) known)) (cond c (f ∷ filter (has mark) fs) (filter (has mark) fs))
    by later true true e d =
        later (without_first (mark_of f) known)
        ∙ sym (ap (λ (n : ℕ). drop n (f ∷ filter (has mark) fs))
        (subst (λ (t : List ℕ). length (filter (same t) known) ≡ suc (length (filter (same t) (without_first (mark_of f) known)))) (sym (same_text mark (mark_of f) d))
        (count_taken (mark_of f) known e)))
    by later true false e d =
        later (without_first (mark_of f) known)
        ∙ ap (λ (n : ℕ). drop n (filter (has mark) fs)) (count_other mark (mark_of f) d known)
    by later false true e d =
        let none : length (filter (same mark) known) ≡ 0 = subst (λ (t : List ℕ). length (filter (same t) known) ≡ 0) (sym (same_text mark (mark_of f) d)) (count_none (mark_of f) known e) in
        ap (λ (c : Bool). cond c (f ∷ filter (has mark) (new_findings known fs)) (filter (has mark) (new_findings known fs))) d
        ∙ ap (λ (l : List Finding). f ∷ l) (later known)
        ∙ ap (λ (n : ℕ). f ∷ drop n (filter (has mark) fs)) none
        ∙ sym (ap (λ (n : ℕ). drop n (f ∷ filter (has mark) fs)) none)
    by later false false e d =
        ap (λ (c : Bool). cond c (f ∷ filter (has mark) (new_findings known fs)) (filter (has mark) (new_findings known fs))) d
        ∙ later known

pub nothing_passes : NothingPasses
nothing_passes fs = nothing_known fs

pub baseline_rows : BaselineRows
unfolding json_on_literals pieces marks_from without_first new_findings items_of members_of escaped_after print_from escape_byte visible_after is_utf8 chars encode_utf8 digits
baseline_rows = record {
  first = refl;
  empty = refl;
  read = refl;
  wrong = refl;
  lacking = refl;
  no_text = refl;
  other = refl;
}
