-- The patch of a file, line by line, and that of files, one after another.
use Rattle.std.proofs.Common.{◌≡◌, ◌≤◌, ◌<◌, ◌+◌, ◌-◌, ◌∙◌, ◌++◌, ◌||◌, arith, ℕ, Bool, true, false, List, [], ◌∷◌, Result, Ok, Err, IfErr, ap, append-nil, append_assoc, cond, drop, get_or, length, map, refl, subst, sym, take}
use Rattle.std.specs.Prelude.{flat_map, is_some}
use Rattle.std.specs.List.{list_any}
use Rattle.std.specs.Result.{IsErrAnd}
use Rattle.std.proofs.lemmas.List.{drop_all, drop_more, get_or-drop, length-drop, take_all}
use Rattle.hwdb_spec.specs.Folders.{Source}
use Rattle.hwdb_spec.specs.declared.errors.ScanError.{ScanError}
use Rattle.hwdb_spec_commands.specs.CheckErrors.{IsCheckRefusal}
use Rattle.hwdb_spec_commands.specs.Checks.{both}
use Rattle.hwdb_spec_commands.specs.Patches as spec
use Rattle.hwdb_spec_commands.specs.declared.formats.Format.{Format}
use Rattle.hwdb_spec_commands.specs.declared.formats.Format.TheVariants.{Json as JsonLines}
use Rattle.hwdb_check.specs.Checks.{source_of}
use Rattle.hwdb_check.specs.Patching.{edit_of, edits_of}
use Rattle.hwdb_check.specs.Summed.{after_file}
use Rattle.hwdb_check.specs.declared.edits.Edit.{Edit}
use Rattle.hwdb_check.specs.declared.files.TextFile.{TextFile}
use Rattle.hwdb_check.proofs.EditLemmas.{left_begin, one_more}

abbrev mended : spec.Edit → Bool
mended e = is_some e.new

-- ---- whether one is mended

module _ (es : List Edit) (i : ℕ) (d : Edit) (h : i < length es) (is : d ≡ get_or es i d) where
  begins : list_any mended (edits_of (drop i es)) ≡ (mended (edit_of d) || list_any mended (edits_of (drop (i + 1) es)))
  begins = ap (list_any mended) (left_begin edit_of es i d h is)

  pub one_mended : true ≡ mended (edit_of d) → list_any mended (edits_of (drop i es)) ≡ true
  one_mended so = begins ∙ ap (λ b. b || list_any mended (edits_of (drop (i + 1) es))) (sym so)

  pub one_kept : false ≡ mended (edit_of d) → list_any mended (edits_of (drop i es)) ≡ list_any mended (edits_of (drop (i + 1) es))
  one_kept so = begins ∙ ap (λ b. b || list_any mended (edits_of (drop (i + 1) es))) (sym so)

pub none_mended : (es : List Edit) (i : ℕ) → length es ≤ i → list_any mended (edits_of (drop i es)) ≡ false
none_mended es i h = ap (λ l. list_any mended (edits_of l)) (drop_all i es h)

-- ---- the lines of a hunk

module _ (bare : ℕ) (es : List Edit) (i : ℕ) where
  pub hunk_step : (d : Edit) (text mid added now whole : List ℕ) → i < length es → d ≡ get_or es i d → mid ≡ text ++ spec.old_line bare added (edit_of d) → now ≡ spec.added_after bare added (edit_of d)
      → text ++ spec.hunk_lines bare added (edits_of (drop i es)) ≡ whole → mid ++ spec.hunk_lines bare now (edits_of (drop (i + 1) es)) ≡ whole
  unfolding spec.hunk_lines
  hunk_step d text mid added now whole h is grown due so_far =
      let more = edits_of (drop (i + 1) es) in
      ap (λ l. l ++ spec.hunk_lines bare now more) grown
      ∙ append_assoc text (spec.old_line bare added (edit_of d)) (spec.hunk_lines bare now more)
      ∙ ap (λ l. text ++ (spec.old_line bare added (edit_of d) ++ spec.hunk_lines bare l more)) due
      ∙ sym (ap (λ l. text ++ spec.hunk_lines bare added l) (left_begin edit_of es i d h is)) ∙ so_far

  pub hunk_end : (text after added whole : List ℕ) → length es ≤ i → after ≡ text ++ added → text ++ spec.hunk_lines bare added (edits_of (drop i es)) ≡ whole → after ≡ whole
  unfolding spec.hunk_lines
  hunk_end text after added whole h grown so_far = grown ∙ sym (ap (λ l. text ++ spec.hunk_lines bare added (edits_of l)) (drop_all i es h)) ∙ so_far

-- ---- hunks, one after another

-- what is printed of some
abbrev printed : (bare : ℕ) → List (List spec.Edit) → List ℕ
printed bare hunks = flat_map (spec.hunk_text bare) hunks

first_printed : (bare : ℕ) (begun : List spec.Edit) (hunks : List (List spec.Edit)) → printed bare (spec.before_runs begun hunks) ≡ spec.hunk_text bare begun ++ printed bare hunks
first_printed bare [] hunks = refl
first_printed bare (e ∷ more) hunks = refl

module _ (bare : ℕ) (es : List Edit) (from at left : ℕ) where
  -- the lines that are open, and those that are left
  abbrev begun : List spec.Edit
  begun = edits_of (take (at - from) (drop from es))

  begun_more : (d : Edit) → from ≤ at → at < length es → edits_of (take (at + 1 - from) (drop from es)) ≡ begun ++ edit_of (get_or es at d) ∷ []
  begun_more d f h =
      let one : at + 1 - from ≡ at - from + 1 = omega (arith, f) in
      let near : at - from < length (drop from es) = omega (arith, length-drop from es, f, h) in
      let back : from + (at - from) ≡ at = omega (arith, f) in
      ap (λ n. edits_of (take n (drop from es))) one ∙ one_more edit_of (drop from es) (at - from) d near
      ∙ ap (λ e. begun ++ edit_of e ∷ []) (get_or-drop from es (at - from) d ∙ ap (λ n. get_or es n d) back)

  module _ (d : Edit) (text whole : List ℕ) (f : from ≤ at) (h : at < length es) (is : d ≡ get_or es at d)
      (so_far : text ++ printed bare (spec.hunks_from left begun (edits_of (drop at es))) ≡ whole) where
    abbrev more : List spec.Edit
    more = edits_of (drop (at + 1) es)

    cut : (b : Bool) → spec.is_shown left (edits_of (drop at es)) ≡ b
        → text ++ printed bare (cond b (spec.hunks_from (spec.left_after left (edit_of d)) (begun ++ edit_of d ∷ []) more) (spec.before_runs begun (spec.hunks_from 0 [] more))) ≡ whole
    unfolding spec.hunks_from
    cut b e =
        let starts = left_begin edit_of es at d h is in
        sym (ap (λ (c : Bool). text ++ printed bare (cond c (spec.hunks_from (spec.left_after left (edit_of d)) (begun ++ edit_of d ∷ []) more) (spec.before_runs begun (spec.hunks_from 0 [] more))))
        (sym (ap (spec.is_shown left) starts) ∙ e))
        ∙ sym (ap (λ l. text ++ printed bare (spec.hunks_from left begun l)) starts) ∙ so_far

    -- the next one is shown
    pub shown : (now : ℕ) → spec.is_shown left (edits_of (drop at es)) ≡ true → now ≡ spec.left_after left (edit_of d)
        → text ++ printed bare (spec.hunks_from now (edits_of (take (at + 1 - from) (drop from es))) more) ≡ whole
    shown now e due =
        ap (λ n. text ++ printed bare (spec.hunks_from n (edits_of (take (at + 1 - from) (drop from es))) more)) due
        ∙ ap (λ l. text ++ printed bare (spec.hunks_from (spec.left_after left (edit_of d)) l more)) (begun_more d f h ∙ ap (λ x. begun ++ edit_of x ∷ []) (sym is))
        ∙ cut true e

    -- the next one isn't shown
    pub hidden : (mid : List ℕ) → spec.is_shown left (edits_of (drop at es)) ≡ false → mid ≡ text ++ spec.hunk_text bare begun
        → mid ++ printed bare (spec.hunks_from 0 (edits_of (take (at + 1 - (at + 1)) (drop (at + 1) es))) more) ≡ whole
    hidden mid e grown =
        let none : at + 1 - (at + 1) ≡ 0 = omega arith in
        ap (λ n. mid ++ printed bare (spec.hunks_from 0 (edits_of (take n (drop (at + 1) es))) more)) none
        ∙ ap (λ l. l ++ printed bare (spec.hunks_from 0 [] more)) grown
        ∙ append_assoc text (spec.hunk_text bare begun) (printed bare (spec.hunks_from 0 [] more))
        ∙ ap (λ l. text ++ l) (sym (first_printed bare begun (spec.hunks_from 0 [] more)))
        ∙ cut false e

  -- none is left
  pub all_hunks : (text after whole : List ℕ) → length es ≤ at → after ≡ text ++ spec.hunk_text bare begun
      → text ++ printed bare (spec.hunks_from left begun (edits_of (drop at es))) ≡ whole → after ≡ whole
  unfolding spec.hunks_from
  all_hunks text after whole h grown so_far =
      grown ∙ ap (λ l. text ++ l) (sym (append-nil (spec.hunk_text bare begun)) ∙ sym (first_printed bare begun []))
      ∙ sym (ap (λ l. text ++ printed bare (spec.hunks_from left begun (edits_of l))) (drop_all at es h)) ∙ so_far

-- a slice up to the end is what is left
pub is_rest : (es : List Edit) (at : ℕ) → take (length es - at) (drop at es) ≡ drop at es
is_rest es at = take_all (length es - at) (drop at es) (omega (arith, length-drop at es))

-- so far lines were shown, and their hunks printed but for one that has begun
pub record IsUpTo (bare : ℕ) (es : List Edit) (at : ℕ) (text : List ℕ) (left from : ℕ) (whole : List ℕ) : Type 0 where
  pub before : from ≤ at
  pub within : at ≤ length es
  pub so_far : text ++ printed bare (spec.hunks_from left (edits_of (take (at - from) (drop from es))) (edits_of (drop at es))) ≡ whole

pub up_to : (bare : ℕ) (es : List Edit) (at : ℕ) (text now : List ℕ) (left later from start : ℕ) (whole : List ℕ) → now ≡ text → later ≡ left → start ≡ from → IsUpTo bare es at text left from whole
    → IsUpTo bare es at now later start whole
up_to bare es at text now left later from start whole e f g so =
    subst (λ (t : List ℕ). IsUpTo bare es at t later start whole) (sym e) (subst (λ (n : ℕ). IsUpTo bare es at text n start whole) (sym f) (subst (λ (n : ℕ). IsUpTo bare es at text left n whole) (sym g) so))

-- ---- files

module _ (format : Format) (allowed : List (List ℕ)) (fs : List TextFile) (i : ℕ) where
  pub next_file : (d : TextFile) (so_far now whole : spec.Patched) → format ≡ JsonLines → i < length fs → now ≡ after_file format allowed so_far (source_of (get_or fs i d))
      → spec.patched_from so_far allowed (map source_of (drop i fs)) ≡ whole → spec.patched_from now allowed (map source_of (drop (i + 1) fs)) ≡ whole
  next_file d so_far now whole mends h made before =
      let more = map source_of (drop (i + 1) fs) in
      ap (λ p. spec.patched_from p allowed more) (made ∙ ap (λ f. after_file f allowed so_far (source_of (get_or fs i d))) mends)
      ∙ sym (ap (λ l. spec.patched_from so_far allowed (map source_of l)) (drop_more fs i d h)) ∙ before

  pub all_files : (so_far whole : spec.Patched) → length fs ≤ i → spec.patched_from so_far allowed (map source_of (drop i fs)) ≡ whole → so_far ≡ whole
  all_files so_far whole h before = sym (ap (λ l. spec.patched_from so_far allowed (map source_of l)) (drop_all i fs h)) ∙ before

-- the patch of some files, and of one more that was mended so
pub file_added : (m : spec.Mended) (so_far : spec.Patched) (path file text : List ℕ) (edits : List spec.Edit) (before left n k : ℕ) → edits ≡ m.edits → before ≡ length m.before → left ≡ length m.left
    → text ≡ so_far.text ++ spec.patch_of path file edits → n ≡ both so_far.found before → k ≡ both so_far.left left
    → record { text = text; found = n; left = k } ≡ spec.with_file so_far path file m
file_added m so_far path file text edits before left n k e b l grown f g =
    let all : spec.Patched = spec.with_file so_far path file m in
    let first : spec.Patched = record { text = text; found = n; left = k } in
    let one : first ≡ record { text = all.text; found = n; left = k } =
    ap (λ (t : List ℕ). record { text = t; found = n; left = k }) (grown ∙ ap (λ x. so_far.text ++ spec.patch_of path file x) e) in
    let two : record { text = all.text; found = n; left = k } ≡ record { text = all.text; found = all.found; left = k } =
    ap (λ (x : ℕ). record { text = all.text; found = x; left = k }) (f ∙ ap (both so_far.found) b) in
    let three : record { text = all.text; found = all.found; left = k } ≡ all = ap (λ (x : ℕ). record { text = all.text; found = all.found; left = x }) (g ∙ ap (both so_far.left) l) in
    one ∙ two ∙ three

-- an error is handed on
pub err_of : {X : Type 0} (ss : List Source) (e : ScanError) (r : Result X ScanError) → IsErrAnd r (λ x. x ≡ e) → IsCheckRefusal ss e → IfErr r (IsCheckRefusal ss)
err_of ss e (Ok x) same p = tt
err_of ss e (Err x) same p = subst (IsCheckRefusal ss) (sym same) p
