-- Baselines: the texts of one, and which findings pass.
use Rattle.std.proofs.Common.{◌≡◌, ◌==◌, ◌≤◌, ◌<◌, ◌+◌, ◌∙◌, ◌++◌, Option, None, Some, arith, ℕ, zero, suc, Bool, true, false, List, [], ◌∷◌, Result, Ok, Err, ap, append-nil, append_assoc, cond, drop, get_or, length, map, refl, sym, take}
use Rattle.std.specs.Prelude.{filter, flat_map, if◌then◌else◌, option_and_then}
use Rattle.std.proofs.lemmas.Bool.{eqb-true}
use Rattle.std.proofs.lemmas.List.{drop_all, length-append}
use Rattle.std.proofs.Math.Seq.{drop-cons}
use Rattle.std.proofs.lemmas.List.Elements.{filter-append}
use Rattle.std.proofs.lemmas.Grind.{flat_map-append}
use Rattle.std.specs.Str.{IsUtf8, is_utf8}
use Rattle.std.proofs.lemmas.Str.{IsUtf8-from_is_utf8, is_utf8-from_IsUtf8}
use Rattle.json.specs.Json.{Json, document}
use Rattle.hwdb_spec.specs.Lines.{is_none}
use Rattle.hwdb_spec_commands.specs.Baselines.{first_mark, line_mark, mark_in, marks_from, new_findings}
use Rattle.hwdb_spec_commands.specs.Findings as spec
use Rattle.hwdb_check.specs.Found.{finds, kept_of}
use Rattle.hwdb_check.specs.Known.{after_marks}
use Rattle.hwdb_check.specs.declared.findings.Found.{Found}

-- ---- findings, one after another

-- one after another
pub next_finding : (fs : List Found) (i : ℕ) (d : Found) (known left : List (List ℕ)) (new after whole : List spec.Finding) → i < length fs → d ≡ get_or fs i d
    → after ++ new_findings left (finds (drop (i + 1) fs)) ≡ new ++ new_findings known (kept_of d ∷ finds (drop (i + 1) fs))
    → new ++ new_findings known (finds (drop i fs)) ≡ whole → after ++ new_findings left (finds (drop (i + 1) fs)) ≡ whole
next_finding fs i d known left new after whole h same_one step so_far =
    let s : suc i ≡ i + 1 = omega arith in
    step ∙ ap (λ (f : Found). new ++ new_findings known (kept_of f ∷ finds (drop (i + 1) fs))) same_one ∙ sym (ap (λ (l : List Found). new ++ new_findings known (finds l)) (drop-cons fs i d h ∙ ap (λ (n : ℕ). get_or fs i d ∷ drop n fs) s)) ∙ so_far

-- no finding is left
pub all_new : (fs : List Found) (i : ℕ) (known : List (List ℕ)) (new whole : List spec.Finding) → length fs ≤ i → new ++ new_findings known (finds (drop i fs)) ≡ whole → new ≡ whole
unfolding new_findings
all_new fs i known new whole h so_far =
    sym (append-nil new) ∙ sym (ap (λ (l : List Found). new ++ new_findings known (finds l)) (drop_all i fs h)) ∙ so_far

-- ---- the first of some findings

pub first_finds : (fs : List Found) (i : ℕ) (d : Found) → i < length fs → finds (take (i + 1) fs) ≡ finds (take i fs) ++ kept_of (get_or fs i d) ∷ []
first_finds [] i d h = absurd (omega (arith, h))
first_finds (f ∷ fs) zero d h = refl
first_finds (f ∷ fs) (suc i) d h =
    let s : suc i + 1 ≡ suc (i + 1) = omega arith in
    ap (λ (n : ℕ). finds (take n (f ∷ fs))) s ∙ ap (λ (l : List spec.Finding). kept_of f ∷ l) (first_finds fs i d (omega (arith, h)))

-- what is printed of one more
pub printed_step : (told : spec.Finding → List ℕ) (fs : List Found) (i : ℕ) (d : Found) (before after : List ℕ) → i < length fs → d ≡ get_or fs i d → after ≡ before ++ told (kept_of d)
    → before ≡ flat_map told (finds (take i fs)) → after ≡ flat_map told (finds (take (i + 1) fs))
printed_step told fs i d before after h is grown so_far =
    grown ∙ ap (λ (f : Found). before ++ told (kept_of f)) is ∙ ap (λ (l : List ℕ). l ++ told (kept_of (get_or fs i d))) so_far
    ∙ ap (λ (l : List ℕ). flat_map told (finds (take i fs)) ++ l) (sym (append-nil (told (kept_of (get_or fs i d)))))
    ∙ sym (flat_map-append told (finds (take i fs)) (kept_of (get_or fs i d) ∷ []))
    ∙ sym (ap (flat_map told) (first_finds fs i d h))

-- how many there are with one more
counted_by : (test : spec.Finding → Bool) (fs : List spec.Finding) (f : spec.Finding) (b : Bool) → test f ≡ b
    → length (filter test (fs ++ f ∷ [])) ≡ length (filter test fs) + (if b then 1 else 0)
counted_by test fs f b e =
    ap length (filter-append test fs (f ∷ [])) ∙ length-append (filter test fs) (filter test (f ∷ []))
    ∙ ap (λ (n : ℕ). length (filter test fs) + n) (ap (λ (c : Bool). length (cond c (f ∷ []) [])) e ∙ one b)
  where
    one : (c : Bool) → length (cond c (f ∷ []) []) ≡ (if c then 1 else 0)
    one true = refl
    one false = refl

pub counted : (test : spec.Finding → Bool) (fs : List Found) (i : ℕ) (d : Found) (n : ℕ) → i < length fs → d ≡ get_or fs i d → test (kept_of d) ≡ true → n ≡ length (filter test (finds (take i fs)))
    → n + 1 ≡ length (filter test (finds (take (i + 1) fs)))
counted test fs i d n h is e so_far =
    ap (λ (m : ℕ). m + 1) so_far ∙ sym (counted_by test (finds (take i fs)) (kept_of (get_or fs i d)) true (sym (ap (λ (f : Found). test (kept_of f)) is) ∙ e)) ∙ sym (ap (λ (l : List spec.Finding). length (filter test l)) (first_finds fs i d h))

pub uncounted : (test : spec.Finding → Bool) (fs : List Found) (i : ℕ) (d : Found) (n : ℕ) → i < length fs → d ≡ get_or fs i d → test (kept_of d) ≡ false → n ≡ length (filter test (finds (take i fs)))
    → n ≡ length (filter test (finds (take (i + 1) fs)))
uncounted test fs i d n h is e so_far =
    so_far ∙ (let z : length (filter test (finds (take i fs))) ≡ length (filter test (finds (take i fs))) + 0 = omega arith in z)
    ∙ sym (counted_by test (finds (take i fs)) (kept_of (get_or fs i d)) false (sym (ap (λ (f : Found). test (kept_of f)) is) ∙ e)) ∙ sym (ap (λ (l : List spec.Finding). length (filter test l)) (first_finds fs i d h))

-- without a baseline each finding is new
pub nothing_known : (fs : List spec.Finding) → new_findings [] fs ≡ fs
unfolding new_findings
nothing_known [] = refl
nothing_known (f ∷ fs) = ap (λ (l : List spec.Finding). f ∷ l) (nothing_known fs)

pub nothing_known_by : {X : Type 0} (f : X → List ℕ) (ks : List X) (fs : List spec.Finding) → (length ks == 0) ≡ true → fs ≡ new_findings (map f ks) fs
nothing_known_by f [] fs h = sym (nothing_known fs)
nothing_known_by f (k ∷ ks) fs h = absurd (omega (arith, eqb-true (length (k ∷ ks)) 0 h))

-- ---- lines of a baseline

pub read_mark : (text : List ℕ) (value : Json) → IsUtf8 text → document text ≡ Some value → mark_in value ≡ line_mark text
read_mark text value utf8 e =
    sym (ap (λ (b : Bool). if b then option_and_then mark_in (document text) else None) (is_utf8-from_IsUtf8 text utf8) ∙ ap (λ (o : Option Json). option_and_then mark_in o) e)

pub no_mark : (text : List ℕ) → (IsUtf8 text → document text ≡ None) → None ≡ line_mark text
no_mark text none = go (is_utf8 text) refl
  where
    go : (b : Bool) → is_utf8 text ≡ b → None ≡ line_mark text
    go true e =
        sym (ap (λ (b : Bool). if b then option_and_then mark_in (document text) else None) e
        ∙ ap (λ (o : Option Json). option_and_then mark_in o) (none (IsUtf8-from_is_utf8 text e)))
    go false e = sym (ap (λ (b : Bool). if b then option_and_then mark_in (document text) else None) e)

pub no_marks : (r : Result (List (List ℕ)) ℕ) → after_marks [] r ≡ r
no_marks (Ok more) = refl
no_marks (Err number) = refl

one_more : (marks : List (List ℕ)) (mark : List ℕ) (number : ℕ) (r : Result (List (List ℕ)) ℕ)
    → after_marks (marks ++ mark ∷ []) r ≡ after_marks marks (first_mark number (Some mark) r)
one_more marks mark number (Ok more) = ap (λ (l : List (List ℕ)). Ok l) (append_assoc marks (mark ∷ []) more)
one_more marks mark number (Err wrong) = refl

module _ (marks : List (List ℕ)) (n : ℕ) (text : List ℕ) (rest : List (List ℕ)) where
  begun : (b : Bool) → is_none text ≡ b
      → after_marks marks (if b then marks_from (n + 1) rest else first_mark n (line_mark text) (marks_from (n + 1) rest)) ≡ after_marks marks (marks_from n (text ∷ rest))
  unfolding marks_from
  begun b e = sym (ap (λ (c : Bool). after_marks marks (if c then marks_from (n + 1) rest else first_mark n (line_mark text) (marks_from (n + 1) rest))) e)

  -- an empty line
  pub empty_line : is_none text ≡ true → after_marks marks (marks_from (n + 1) rest) ≡ after_marks marks (marks_from n (text ∷ rest))
  empty_line e = begun true e

  -- a line with a finding
  pub marked_line : (mark : List ℕ) (after : List (List ℕ)) → is_none text ≡ false → line_mark text ≡ Some mark → after ≡ marks ++ mark ∷ []
      → after_marks after (marks_from (n + 1) rest) ≡ after_marks marks (marks_from n (text ∷ rest))
  marked_line mark after e found grown =
      ap (λ (ms : List (List ℕ)). after_marks ms (marks_from (n + 1) rest)) grown
      ∙ one_more marks mark n (marks_from (n + 1) rest)
      ∙ sym (ap (λ (o : Option (List ℕ)). after_marks marks (first_mark n o (marks_from (n + 1) rest))) found)
      ∙ begun false e

  -- a line without one
  pub wrong_line : is_none text ≡ false → line_mark text ≡ None → after_marks marks (marks_from n (text ∷ rest)) ≡ Err n
  wrong_line e found =
      sym (begun false e) ∙ ap (λ (o : Option (List ℕ)). after_marks marks (first_mark n o (marks_from (n + 1) rest))) found

-- the lines after one
pub next_line : (marks after : List (List ℕ)) (n : ℕ) (left : List (List ℕ)) (text : List ℕ) (rest : List (List ℕ)) (whole : Result (List (List ℕ)) ℕ) → left ≡ text ∷ rest
    → after_marks after (marks_from (n + 1) rest) ≡ after_marks marks (marks_from n (text ∷ rest)) → after_marks marks (marks_from n left) ≡ whole
    → after_marks after (marks_from (n + 1) rest) ≡ whole
next_line marks after n left text rest whole is step so_far =
    step ∙ sym (ap (λ (l : List (List ℕ)). after_marks marks (marks_from n l)) is) ∙ so_far

-- no line is left
pub all_marked : (marks : List (List ℕ)) (n : ℕ) (left : List (List ℕ)) (whole : Result (List (List ℕ)) ℕ) → left ≡ [] → after_marks marks (marks_from n left) ≡ whole → whole ≡ Ok marks
unfolding marks_from
all_marked marks n left whole none so_far =
    sym so_far ∙ ap (λ (l : List (List ℕ)). after_marks marks (marks_from n l)) none ∙ ap (λ (ms : List (List ℕ)). Ok ms) (append-nil marks)

pub is_empty_none : (text : List ℕ) → (length text == 0) ≡ true → is_none text ≡ true
is_empty_none [] h = refl
is_empty_none (b ∷ more) h = absurd (omega (arith, eqb-true (length (b ∷ more)) 0 h))

pub is_some_none : (text : List ℕ) → (length text == 0) ≡ false → is_none text ≡ false
is_some_none [] h = cc
is_some_none (b ∷ more) h = refl
