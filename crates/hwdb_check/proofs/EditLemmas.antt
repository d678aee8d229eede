-- The lines of a file, one after another, and the findings of each.
use Rattle.std.proofs.Common.{◌≡◌, ◌≤◌, ◌<◌, ◌+◌, ◌-◌, ◌∙◌, ◌++◌, None, Some, arith, ℕ, true, false, List, [], ◌∷◌, ap, append-nil, append_assoc, cond, drop, get_or, length, map, refl, sym, take}
use Rattle.std.specs.Prelude.{flat_map}
use Rattle.std.specs.List.{prefix_len}
use Rattle.std.specs.Option.{option_map, option_or}
use Rattle.std.proofs.lemmas.Grind.{flat_map-append}
use Rattle.std.proofs.lemmas.List.{drop-drop, drop-map, drop_all, drop_more, map-append, take-map, take_more}
use Rattle.std.proofs.lemmas.List.Sums.{prefix_len-drop_all, prefix_len-drop_no, prefix_len-drop_yes}
use Rattle.hwdb_spec.specs.Lines.{is, numbered}
use Rattle.hwdb_spec_commands.specs.Findings as found
use Rattle.hwdb_spec_commands.specs.Patches as spec
use Rattle.hwdb_check.specs.Found.{finds, kept_of}
use Rattle.hwdb_check.specs.Patching.{edit_of, edits_of}
use Rattle.hwdb_check.specs.declared.edits.Edit.{Edit}
use Rattle.hwdb_check.specs.declared.findings.Found.{Found}

-- ---- one more of some

module _ {X Y : Type 0} (view : X → Y) (xs : List X) (i : ℕ) (d : X) where
  -- the first of them
  pub one_more : i < length xs → map view (take (i + 1) xs) ≡ map view (take i xs) ++ view (get_or xs i d) ∷ []
  one_more h = ap (map view) (take_more xs i d h) ∙ map-append view (take i xs) (get_or xs i d ∷ [])

  -- what is made of one more
  pub made_step : {Z : Type 0} (make : Y → Z) (before after : List Z) (made : Z) → i < length xs → d ≡ get_or xs i d → made ≡ make (view d) → after ≡ before ++ made ∷ []
      → before ≡ map make (map view (take i xs)) → after ≡ map make (map view (take (i + 1) xs))
  made_step make before after made h is so grown so_far =
      grown ∙ ap (λ z. before ++ z ∷ []) (so ∙ ap (λ x. make (view x)) is) ∙ ap (λ l. l ++ make (view (get_or xs i d)) ∷ []) so_far
      ∙ sym (map-append make (map view (take i xs)) (view (get_or xs i d) ∷ [])) ∙ sym (ap (map make) (one_more h))

  -- what is printed of one more
  pub text_step : (told : Y → List ℕ) (before after : List ℕ) → i < length xs → d ≡ get_or xs i d → after ≡ before ++ told (view d)
      → before ≡ flat_map told (map view (take i xs)) → after ≡ flat_map told (map view (take (i + 1) xs))
  text_step told before after h is grown so_far =
      grown ∙ ap (λ x. before ++ told (view x)) is ∙ ap (λ l. l ++ told (view (get_or xs i d))) so_far
      ∙ ap (λ l. flat_map told (map view (take i xs)) ++ l) (sym (append-nil (told (view (get_or xs i d)))))
      ∙ sym (flat_map-append told (map view (take i xs)) (view (get_or xs i d) ∷ []))
      ∙ sym (ap (flat_map told) (one_more h))

  -- those that are left begin with it
  pub left_begin : i < length xs → d ≡ get_or xs i d → map view (drop i xs) ≡ view d ∷ map view (drop (i + 1) xs)
  left_begin h is = ap (map view) (drop_more xs i d h) ∙ ap (λ x. view x ∷ map view (drop (i + 1) xs)) (sym is)

-- ---- a file, line by line

pub next_line : (before after : List spec.Edit) (e : spec.Edit) (n : ℕ) (left : List (List ℕ)) (text : List ℕ) (rest : List (List ℕ)) (whole : List spec.Edit) → after ≡ before ++ e ∷ []
    → e ≡ spec.kept (record { number = n; text = text }) → left ≡ text ∷ rest
    → before ++ map spec.kept (numbered n left) ≡ whole → after ++ map spec.kept (numbered (n + 1) rest) ≡ whole
unfolding numbered
next_line before after e n left text rest whole grown so steps so_far =
    let more = map spec.kept (numbered (n + 1) rest) in
    ap (λ l. l ++ more) grown ∙ append_assoc before (e ∷ []) more
    ∙ ap (λ x. before ++ x ∷ more) so ∙ sym (ap (λ l. before ++ map spec.kept (numbered n l)) steps) ∙ so_far

pub all_lines : (es : List Edit) (n : ℕ) (left : List (List ℕ)) (whole : List spec.Edit) → left ≡ [] → edits_of es ++ map spec.kept (numbered n left) ≡ whole → edits_of es ≡ whole
unfolding numbered
all_lines es n left whole none so_far = sym (append-nil (edits_of es)) ∙ sym (ap (λ l. edits_of es ++ map spec.kept (numbered n l)) none) ∙ so_far

-- ---- the findings of a line

-- one more is of it
pub own_more : (fs : List Found) (from at n : ℕ) (d : Found) → at < length fs → is n (get_or fs at d).line ≡ true
    → from + prefix_len (λ f. is n f.line) (drop from fs) ≡ at + prefix_len (λ f. is n f.line) (drop at fs)
    → from + prefix_len (λ f. is n f.line) (drop from fs) ≡ at + 1 + prefix_len (λ f. is n f.line) (drop (at + 1) fs)
own_more fs from at n d h of_it so_far = let s = prefix_len-drop_yes (λ f. is n f.line) fs at d h of_it in omega (arith, s, so_far)

-- the next one isn't
pub own_stop : (fs : List Found) (from at n : ℕ) (d : Found) → at < length fs → is n (get_or fs at d).line ≡ false
    → from + prefix_len (λ f. is n f.line) (drop from fs) ≡ at + prefix_len (λ f. is n f.line) (drop at fs)
    → at ≡ from + prefix_len (λ f. is n f.line) (drop from fs)
own_stop fs from at n d h of_it so_far = let s = prefix_len-drop_no (λ f. is n f.line) fs at d h of_it in omega (arith, s, so_far)

-- none is left
pub own_end : (fs : List Found) (from at n : ℕ) → length fs ≤ at
    → from + prefix_len (λ f. is n f.line) (drop from fs) ≡ at + prefix_len (λ f. is n f.line) (drop at fs)
    → at ≡ from + prefix_len (λ f. is n f.line) (drop from fs)
own_end fs from at n h so_far = let s = prefix_len-drop_all (λ f. is n f.line) fs at h in omega (arith, s, so_far)

own_size : (n : ℕ) (fs : List Found) → prefix_len (λ f. is n f.line) (finds fs) ≡ prefix_len (λ f. is n f.line) fs
own_size n [] = refl
own_size n (f ∷ fs) = ap (λ k. cond (is n f.line) (1 + k) 0) (own_size n fs)

-- a line, with its findings, before the lines after it
pub line_changed : (change : List found.Finding → spec.Edit → spec.Edit) (fs own : List Found) (from end i : ℕ) (es : List Edit) (all after : List spec.Edit) (d : Edit) (now : spec.Edit) (whole : List spec.Edit) → i < length es → d ≡ get_or es i d
    → end ≡ from + prefix_len (λ f. is d.number f.line) (drop from fs) → own ≡ take (end - from) (drop from fs) → now ≡ change (finds own) (edit_of d) → after ≡ all ++ now ∷ []
    → all ++ spec.line_by_line change (finds (drop from fs)) (edits_of (drop i es)) ≡ whole
    → after ++ spec.line_by_line change (finds (drop end fs)) (edits_of (drop (i + 1) es)) ≡ whole
unfolding spec.line_by_line
line_changed change fs own from end i es all after d now whole h here ends owns so grown so_far =
    let left = drop from fs in
    let size : prefix_len (λ f. is d.number f.line) (finds left) ≡ end - from = let s = own_size d.number left in omega (arith, s, ends) in
    let mine : take (end - from) (finds left) ≡ finds own = take-map kept_of (end - from) left ∙ sym (ap finds owns) in
    let far : end ≡ from + (end - from) = omega (arith, ends) in
    let rest : drop (end - from) (finds left) ≡ finds (drop end fs) =
    drop-map kept_of (end - from) left ∙ ap finds (drop-drop (end - from) from fs ∙ ap (λ n. drop n fs) (sym far)) in
    let more = edits_of (drop (i + 1) es) in
    ap (λ l. l ++ spec.line_by_line change (finds (drop end fs)) more) grown
    ∙ append_assoc all (now ∷ []) (spec.line_by_line change (finds (drop end fs)) more)
    ∙ ap (λ e. all ++ e ∷ spec.line_by_line change (finds (drop end fs)) more) (so ∙ ap (λ l. change l (edit_of d)) (sym mine))
    ∙ ap (λ l. all ++ change (take (end - from) (finds left)) (edit_of d) ∷ spec.line_by_line change l more) (sym rest)
    ∙ sym (ap (λ n. all ++ change (take n (finds left)) (edit_of d) ∷ spec.line_by_line change (drop n (finds left)) more) size)
    ∙ sym (ap (λ l. all ++ spec.line_by_line change (finds left) l) (left_begin edit_of es i d h here)) ∙ so_far

pub all_changed : (change : List found.Finding → spec.Edit → spec.Edit) (left : List found.Finding) (i : ℕ) (es all : List Edit) (whole : List spec.Edit) → length es ≤ i
    → edits_of all ++ spec.line_by_line change left (edits_of (drop i es)) ≡ whole → edits_of all ≡ whole
unfolding spec.line_by_line
all_changed change left i es all whole h so_far =
    sym (append-nil (edits_of all)) ∙ sym (ap (λ l. edits_of all ++ spec.line_by_line change left (edits_of l)) (drop_all i es h)) ∙ so_far

-- ---- the first mend

pub mend_here : (fs : List Found) (i : ℕ) (d : Found) (text : List ℕ) → i < length fs → d ≡ get_or fs i d → option_map (λ t. t.items) d.fix ≡ Some text
    → spec.first_mend (finds (drop i fs)) ≡ Some text
unfolding spec.first_mend
mend_here fs i d text h is has = ap spec.first_mend (left_begin kept_of fs i d h is) ∙ ap (λ o. option_or o (spec.first_mend (finds (drop (i + 1) fs)))) has

pub no_mend_here : (fs : List Found) (i : ℕ) (d : Found) → i < length fs → d ≡ get_or fs i d → option_map (λ t. t.items) d.fix ≡ None
    → spec.first_mend (finds (drop i fs)) ≡ spec.first_mend (finds (drop (i + 1) fs))
unfolding spec.first_mend
no_mend_here fs i d h is has = ap spec.first_mend (left_begin kept_of fs i d h is) ∙ ap (λ o. option_or o (spec.first_mend (finds (drop (i + 1) fs)))) has

pub no_mend_left : (fs : List Found) (i : ℕ) → length fs ≤ i → spec.first_mend (finds (drop i fs)) ≡ None
unfolding spec.first_mend
no_mend_left fs i h = ap (λ l. spec.first_mend (finds l)) (drop_all i fs h)
