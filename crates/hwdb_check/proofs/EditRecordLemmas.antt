-- The lines of a file, record by record.
use Rattle.std.proofs.Common.{◌≡◌, ◌≤◌, ◌<◌, ◌+◌, ◌-◌, ◌∙◌, ◌++◌, arith, ℕ, Bool, true, false, List, [], ◌∷◌, ap, append-nil, append_assoc, cond, drop, get_or, length, map, refl, sym, take}
use Rattle.std.specs.Prelude.{nat_le}
use Rattle.std.specs.List.{prefix_len}
use Rattle.std.proofs.lemmas.List.{drop-drop, drop-map, drop_all, get_or-drop, length-drop, map-append, take-map}
use Rattle.std.proofs.lemmas.List.Sums.{prefix_len-drop_all, prefix_len-drop_no, prefix_len-drop_yes}
use Rattle.hwdb_spec_commands.specs.AllowedKinds.{ends_record}
use Rattle.hwdb_spec_commands.specs.Findings as found
use Rattle.hwdb_spec_commands.specs.Patches as spec
use Rattle.hwdb_check.specs.Found.{finds, kept_of}
use Rattle.hwdb_check.specs.Patching.{edit_of, edits_of}
use Rattle.hwdb_check.specs.declared.edits.Edit.{Edit}
use Rattle.hwdb_check.specs.declared.findings.Found.{Found}
use Rattle.hwdb_check.proofs.EditLemmas.{left_begin, one_more}

pub last_step : (es : List Edit) (i last : ℕ) (d : Edit) (now : ℕ) → i < length es → d ≡ get_or es i d → now ≡ d.number
    → spec.last_number last (edits_of (drop i es)) ≡ spec.last_number 0 (edits_of es) → spec.last_number now (edits_of (drop (i + 1) es)) ≡ spec.last_number 0 (edits_of es)
last_step es i last d now h is so so_far =
    ap (λ n. spec.last_number n (edits_of (drop (i + 1) es))) so ∙ sym (ap (spec.last_number last) (left_begin edit_of es i d h is)) ∙ so_far

pub last_end : (es : List Edit) (i last : ℕ) → length es ≤ i → spec.last_number last (edits_of (drop i es)) ≡ spec.last_number 0 (edits_of es) → last ≡ spec.last_number 0 (edits_of es)
last_end es i last h so_far = sym (ap (λ l. spec.last_number last (edits_of l)) (drop_all i es h)) ∙ so_far

-- ---- findings up to a line

module _ (fs : List Found) (from at last : ℕ) (so_far : from + prefix_len (λ f. nat_le f.line last) (drop from fs) ≡ at + prefix_len (λ f. nat_le f.line last) (drop at fs)) where
  pub until_more : (d : Found) → at < length fs → nat_le (get_or fs at d).line last ≡ true
      → from + prefix_len (λ f. nat_le f.line last) (drop from fs) ≡ at + 1 + prefix_len (λ f. nat_le f.line last) (drop (at + 1) fs)
  until_more d h of_it = let s = prefix_len-drop_yes (λ f. nat_le f.line last) fs at d h of_it in omega (arith, s, so_far)

  pub until_stop : (d : Found) → at < length fs → nat_le (get_or fs at d).line last ≡ false → at ≡ from + prefix_len (λ f. nat_le f.line last) (drop from fs)
  until_stop d h of_it = let s = prefix_len-drop_no (λ f. nat_le f.line last) fs at d h of_it in omega (arith, s, so_far)

  pub until_end : length fs ≤ at → at ≡ from + prefix_len (λ f. nat_le f.line last) (drop from fs)
  until_end h = let s = prefix_len-drop_all (λ f. nat_le f.line last) fs at h in omega (arith, s, so_far)

-- ---- one record

pub line_put : (own : List Found) (es : List Edit) (i : ℕ) (d : Edit) (now : spec.Edit) (all before after : List spec.Edit) → i < length es → d ≡ get_or es i d → now ≡ spec.take_back (finds own) (edit_of d)
    → after ≡ before ++ now ∷ [] → before ≡ all ++ map (spec.take_back (finds own)) (edits_of (take i es)) → after ≡ all ++ map (spec.take_back (finds own)) (edits_of (take (i + 1) es))
line_put own es i d now all before after h is so grown so_far =
    let back = spec.take_back (finds own) in
    grown ∙ ap (λ e. before ++ e ∷ []) (so ∙ ap (λ x. back (edit_of x)) is)
    ∙ ap (λ l. l ++ back (edit_of (get_or es i d)) ∷ []) so_far
    ∙ append_assoc all (map back (edits_of (take i es))) (back (edit_of (get_or es i d)) ∷ [])
    ∙ ap (λ l. all ++ l) (sym (map-append back (edits_of (take i es)) (edit_of (get_or es i d) ∷ [])) ∙ sym (ap (map back) (one_more edit_of es i d h)))

-- ---- records, one after another

size_of : (last : ℕ) (fs : List Found) → prefix_len (λ f. nat_le f.line last) (finds fs) ≡ prefix_len (λ f. nat_le f.line last) fs
size_of last [] = refl
size_of last (f ∷ fs) = ap (λ k. cond (nat_le f.line last) (1 + k) 0) (size_of last fs)

module _ (fs : List Found) (seen end : ℕ) (lines : List spec.Edit) (all now : List Edit) where
  -- the first of them was put, by the findings that are left
  put : end ≡ seen + prefix_len (λ f. nat_le f.line (spec.last_number 0 lines)) (drop seen fs)
      → edits_of now ≡ edits_of all ++ map (spec.take_back (finds (take (end - seen) (drop seen fs)))) lines
      → (more : List (List spec.Edit)) → edits_of now ++ spec.record_by_record (finds (drop end fs)) more ≡ edits_of all ++ spec.record_by_record (finds (drop seen fs)) (lines ∷ more)
  unfolding spec.record_by_record
  put ends so more =
      let left = drop seen fs in
      let last = spec.last_number 0 lines in
      let back : List found.Finding → List spec.Edit = λ own. map (spec.take_back own) lines in
      let size : prefix_len (λ f. nat_le f.line last) (finds left) ≡ end - seen = let s = size_of last left in omega (arith, s, ends) in
      let far : seen + (end - seen) ≡ end = omega (arith, ends) in
      ap (λ l. l ++ spec.record_by_record (finds (drop end fs)) more) so
      ∙ append_assoc (edits_of all) (back (finds (take (end - seen) left))) (spec.record_by_record (finds (drop end fs)) more)
      ∙ ap (λ l. edits_of all ++ (back l ++ spec.record_by_record (finds (drop end fs)) more)) (sym (take-map kept_of (end - seen) left))
      ∙ ap (λ l. edits_of all ++ (back (take (end - seen) (finds left)) ++ spec.record_by_record l more))
      (sym (drop-map kept_of (end - seen) left ∙ ap finds (drop-drop (end - seen) seen fs ∙ ap (λ n. drop n fs) far)))
      ∙ sym (ap (λ n. edits_of all ++ (back (take n (finds left)) ++ spec.record_by_record (drop n (finds left)) more)) size)

module _ (fs : List Found) (es : List Edit) (seen from at : ℕ) (all : List Edit) (whole : List spec.Edit)
    (so_far : edits_of all ++ spec.record_by_record (finds (drop seen fs)) (spec.records_from (edits_of (take (at - from) (drop from es))) (edits_of (drop at es))) ≡ whole) where
  -- the lines of the record that has begun, and those that are left
  abbrev begun : List spec.Edit
  begun = edits_of (take (at - from) (drop from es))

  abbrev more : List spec.Edit
  more = edits_of (drop (at + 1) es)

  module _ (d : Edit) (f : from ≤ at) (h : at < length es) (is : d ≡ get_or es at d) where
    grown : edits_of (take (at + 1 - from) (drop from es)) ≡ begun ++ edit_of d ∷ []
    grown =
        let one : at + 1 - from ≡ at - from + 1 = omega (arith, f) in
        let near : at - from < length (drop from es) = omega (arith, length-drop from es, f, h) in
        let back : from + (at - from) ≡ at = omega (arith, f) in
        ap (λ n. edits_of (take n (drop from es))) one ∙ one_more edit_of (drop from es) (at - from) d near
        ∙ ap (λ e. begun ++ edit_of e ∷ []) (get_or-drop from es (at - from) d ∙ ap (λ n. get_or es n d) back ∙ sym is)

    step : (b : Bool) → ends_record d.old.now ≡ b
        → edits_of all ++ spec.record_by_record (finds (drop seen fs)) (cond b (spec.before_runs (begun ++ edit_of d ∷ []) (spec.records_from [] more)) (spec.records_from (begun ++ edit_of d ∷ []) more)) ≡ whole
    unfolding spec.records_from
    step b e =
        sym (ap (λ (c : Bool). edits_of all ++ spec.record_by_record (finds (drop seen fs)) (cond c (spec.before_runs (begun ++ edit_of d ∷ []) (spec.records_from [] more)) (spec.records_from (begun ++ edit_of d ∷ []) more))) e)
        ∙ sym (ap (λ l. edits_of all ++ spec.record_by_record (finds (drop seen fs)) (spec.records_from begun l)) (left_begin edit_of es at d h is)) ∙ so_far

    -- the next line is in the same record
    pub same_record : false ≡ ends_record d.old.now
        → edits_of all ++ spec.record_by_record (finds (drop seen fs)) (spec.records_from (edits_of (take (at + 1 - from) (drop from es))) more) ≡ whole
    same_record e = ap (λ l. edits_of all ++ spec.record_by_record (finds (drop seen fs)) (spec.records_from l more)) grown ∙ step false (sym e)

    -- it ends it
    pub record_ends : (end : ℕ) (now : List Edit) → true ≡ ends_record d.old.now
        → end ≡ seen + prefix_len (λ f. nat_le f.line (spec.last_number 0 (edits_of (take (at + 1 - from) (drop from es))))) (drop seen fs)
        → edits_of now ≡ edits_of all ++ map (spec.take_back (finds (take (end - seen) (drop seen fs)))) (edits_of (take (at + 1 - from) (drop from es)))
        → edits_of now ++ spec.record_by_record (finds (drop end fs)) (spec.records_from (edits_of (take (at + 1 - (at + 1)) (drop (at + 1) es))) more) ≡ whole
    record_ends end now e ends so =
        let none : at + 1 - (at + 1) ≡ 0 = omega arith in
        ap (λ n. edits_of now ++ spec.record_by_record (finds (drop end fs)) (spec.records_from (edits_of (take n (drop (at + 1) es))) more)) none
        ∙ put fs seen end (edits_of (take (at + 1 - from) (drop from es))) all now ends so (spec.records_from [] more)
        ∙ ap (λ l. edits_of all ++ spec.record_by_record (finds (drop seen fs)) (l ∷ spec.records_from [] more)) grown
        ∙ ap (λ l. edits_of all ++ spec.record_by_record (finds (drop seen fs)) l) (sym (one_run begun (edit_of d) (spec.records_from [] more)))
        ∙ step true (sym e)
      where
        one_run : (es : List spec.Edit) (e : spec.Edit) (runs : List (List spec.Edit)) → spec.before_runs (es ++ e ∷ []) runs ≡ (es ++ e ∷ []) ∷ runs
        one_run [] e runs = refl
        one_run (x ∷ xs) e runs = refl

  -- no line is left
  pub all_records : (end : ℕ) (now : List Edit) → length es ≤ at
      → end ≡ seen + prefix_len (λ f. nat_le f.line (spec.last_number 0 begun)) (drop seen fs)
      → edits_of now ≡ edits_of all ++ map (spec.take_back (finds (take (end - seen) (drop seen fs)))) begun
      → edits_of now ≡ whole
  unfolding spec.records_from spec.record_by_record
  all_records end now h ends so =
      last begun (sym (append-nil (edits_of now)) ∙ put fs seen end begun all now ends so []) so
      ∙ sym (ap (λ l. edits_of all ++ spec.record_by_record (finds (drop seen fs)) (spec.records_from begun (edits_of l))) (drop_all at es h)) ∙ so_far
    where
      last : (run : List spec.Edit) → edits_of now ≡ edits_of all ++ spec.record_by_record (finds (drop seen fs)) (run ∷ [])
          → edits_of now ≡ edits_of all ++ map (spec.take_back (finds (take (end - seen) (drop seen fs)))) run
          → edits_of now ≡ edits_of all ++ spec.record_by_record (finds (drop seen fs)) (spec.before_runs run [])
      last [] e so = so
      last (x ∷ xs) e so = e
