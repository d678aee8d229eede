-- Which lines a comment lets kinds pass in, and how findings are shown beside lines.
use Rattle.std.proofs.Common.{◌≡◌, ℕ, suc, ◌+◌, List, [], ◌∷◌, ◌++◌, map, take, drop, length, refl, ap, ◌∙◌, sym, arith, Bool, true, false, cond}
use Rattle.hwdb_spec.specs.Lines.{Line, byte, is, numbered, pieces, trimmed}
use Rattle.hwdb_spec_commands.specs.AllowedKinds.{Marked, allowed_text, ends_record, found_in_line, left_of_line, marked, marked_from, names_at, names_in, names_to_end, one_unknown, told_unknown, unknown_names}
use Rattle.hwdb_spec_commands.specs.Findings.{Finding, faults_at, found_faults, one_fault, one_warning}
use Rattle.hwdb_spec_commands.specs.declared.formats.Format.{Format}
use Rattle.hwdb_spec.specs.declared.Fault.{Fault}
use Rattle.hwdb_check.proofs.AllowedLemmas.{bare_found}
use Rattle.hwdb_check.proofs.FollowLemmas.{all_told}
use Rattle.hwdb_text.specs.Laws.{FaultsAscend, SectionsAreTheLines}
use Rattle.hwdb_check.specs.Comments.{BareAreTold, CommentRows, FaultsStay, LeftAreTold, LinesAreMarked, RecordsAreApart}
use Rattle.std.specs.Prelude.{filter, flat_map}
use Rattle.std.proofs.lemmas.List.{append-nil, length-append}
use Rattle.std.proofs.lemmas.List.Elements.{filter-append}
use Rattle.hwdb_spec_commands.specs.Kinds.{is_told}
use Rattle.hwdb_spec_commands.specs.Warnings.{gets, line_kinds, line_warnings, warns}
use Rattle.hwdb_spec_commands.specs.declared.WarningKind.{WarningKind}
use Rattle.hwdb_spec.specs.Lines.{clean_line, is_dropped}
use Rattle.std.specs.Char.{encode_utf8}
use Rattle.std.specs.Fmt.{digits}
use Rattle.std.specs.Str.{chars, is_utf8}
use Rattle.hex.specs.Hex.{encode_with}
use Rattle.hwdb_spec.specs.Visible.{visible_after}

marked_lines : (names : List (List ℕ)) (number : ℕ) (texts : List (List ℕ)) → map (λ m. m.line) (marked_from names number texts) ≡ numbered number texts
unfolding marked_from numbered
marked_lines names number [] = refl
marked_lines names number (text ∷ more) =
    ap (λ (l : List Line). record { number = number; text = text } ∷ l) (marked_lines (cond (ends_record text) (names_to_end more) names) (number + 1) more)

pub lines_marked : LinesAreMarked
lines_marked file = marked_lines (names_to_end (pieces (is (byte "\n")) file)) 1 (pieces (is (byte "\n")) file)

-- names up to a line that ends the record
cut : (b : Bool) (own one two : List (List ℕ)) → b ≡ true → own ++ cond b [] one ≡ own ++ cond b [] two
cut true own one two e = refl
cut false own one two e = cc

cut_or : (b : Bool) (own one two : List (List ℕ)) → one ≡ two → own ++ cond b [] one ≡ own ++ cond b [] two
cut_or b own one two e = ap (λ l. own ++ cond b [] l) e

first_names : (first : List (List ℕ)) (last : List ℕ) (more : List (List ℕ)) → ends_record last ≡ true → names_to_end (first ++ last ∷ more) ≡ names_to_end (first ++ last ∷ [])
unfolding names_to_end
first_names [] last more e = cut (ends_record last) (names_in (allowed_text last)) (names_to_end more) (names_to_end []) e
first_names (text ∷ first) last more e = cut_or (ends_record text) (names_in (allowed_text text)) _ _ (first_names first last more e)

before_all : (names : List (List ℕ)) (number : ℕ) (first : List (List ℕ)) (last : List ℕ) (more : List (List ℕ)) → ends_record last ≡ true
    → take (length first + 1) (marked_from names number (first ++ last ∷ more)) ≡ marked_from names number (first ++ last ∷ [])
unfolding marked_from
before_all names number [] last more e = refl
before_all names number (text ∷ first) last more e =
    let s : suc (length first) + 1 ≡ suc (length first + 1) = omega arith in
    let here : Marked = record { line = record { number = number; text = text }; names = names } in
    ap (λ (n : ℕ). take n (marked_from names number (text ∷ (first ++ last ∷ more)))) s
    ∙ ap (λ (ns : List (List ℕ)). here ∷ take (length first + 1) (marked_from (cond (ends_record text) ns names) (number + 1) (first ++ last ∷ more))) (first_names first last more e)
    ∙ ap (λ (l : List Marked). here ∷ l) (before_all (cond (ends_record text) (names_to_end (first ++ last ∷ [])) names) (number + 1) first last more e)

next_names : (b : Bool) (names next : List (List ℕ)) (n m : ℕ) (more : List (List ℕ)) → b ≡ true → n ≡ m → marked_from (cond b next names) n more ≡ marked_from next m more
next_names true names next n m more e s = ap (λ k. marked_from next k more) s
next_names false names next n m more e s = cc

after_all : (names : List (List ℕ)) (number : ℕ) (first : List (List ℕ)) (last : List ℕ) (more : List (List ℕ)) → ends_record last ≡ true
    → drop (length first + 1) (marked_from names number (first ++ last ∷ more)) ≡ marked_from (names_to_end more) (number + (length first + 1)) more
unfolding marked_from
after_all names number [] last more e = next_names (ends_record last) names (names_to_end more) (number + 1) (number + (0 + 1)) more e (omega arith)
after_all names number (text ∷ first) last more e =
    let s : suc (length first) + 1 ≡ suc (length first + 1) = omega arith in
    let t : number + 1 + (length first + 1) ≡ number + (suc (length first) + 1) = omega arith in
    ap (λ (n : ℕ). drop n (marked_from names number (text ∷ (first ++ last ∷ more)))) s
    ∙ after_all (cond (ends_record text) (names_to_end (first ++ last ∷ more)) names) (number + 1) first last more e
    ∙ ap (λ (n : ℕ). marked_from (names_to_end more) n more) t

pub records_apart : RecordsAreApart
records_apart = record { before = before_all; first = first_names; after = after_all }

-- ---- what is left

module _ (names : List (List ℕ)) where
  one_left : (told warned : Bool) (k : WarningKind) (own all : List WarningKind) → is_told names k ≡ told → own ≡ filter (is_told names) all
      → cond (cond told warned false) (k ∷ own) own ≡ filter (is_told names) (cond warned (k ∷ all) all)
  one_left true true k own all e f =
      ap (λ (l : List WarningKind). k ∷ l) f ∙ ap (λ (b : Bool). cond b (k ∷ filter (is_told names) all) (filter (is_told names) all)) (sym e)
  one_left false true k own all e f = f ∙ ap (λ (b : Bool). cond b (k ∷ filter (is_told names) all) (filter (is_told names) all)) (sym e)
  one_left true false k own all e f = f
  one_left false false k own all e f = f

  all_left : (file : List ℕ) (line clean : Line) (ks : List WarningKind)
      → filter (gets names file line clean) ks ≡ filter (is_told names) (filter (gets [] file line clean) ks)
  all_left file line clean [] = refl
  all_left file line clean (k ∷ ks) = one_left (is_told names k) (warns file k line clean) k _ _ refl (all_left file line clean ks)

  kept_left : (dropped : Bool) (own all : List WarningKind) → own ≡ filter (is_told names) all → cond dropped [] own ≡ filter (is_told names) (cond dropped [] all)
  kept_left true own all e = refl
  kept_left false own all e = e

pub left_told : LeftAreTold
left_told allowed file m =
    kept_left (names_at allowed m) (is_dropped m.line) _ _ (all_left (names_at allowed m) file m.line (clean_line m.line) (line_kinds file (clean_line m.line)))

pub bare_told : BareAreTold
bare_told format allowed path file h = sym (bare_found format allowed path file h _ refl)

-- ---- how many faults there are

faults_all : (path text : List ℕ) (fs : List Fault) → length (filter (λ f. f.fault) (flat_map (one_fault path text) fs)) ≡ length fs
unfolding one_fault
faults_all path text [] = refl
faults_all path text (f ∷ fs) = ap suc (faults_all path text fs)

no_unknown : (path : List ℕ) (l : Line) (names : List (List ℕ)) → filter (λ f. f.fault) (flat_map (one_unknown path l) names) ≡ []
unfolding one_unknown
no_unknown path l [] = refl
no_unknown path l (n ∷ ns) = no_unknown path l ns

no_warning : (format : Format) (path : List ℕ) (l : Line) (ks : List WarningKind) → filter (λ f. f.fault) (flat_map (one_warning format path l) ks) ≡ []
unfolding one_warning
no_warning format path l [] = refl
no_warning format path l (k ∷ ks) = no_warning format path l ks

module _ (format : Format) (allowed : List (List ℕ)) (path file : List ℕ) where
  none_left : (m : Marked) → filter (λ f. f.fault) (left_of_line format allowed path file m) ≡ []
  none_left m =
      filter-append (λ f. f.fault) (flat_map (one_unknown path m.line) (unknown_names m.line.text)) (flat_map (one_warning format path m.line) (line_warnings (names_at allowed m) file m.line))
      ∙ ap (λ (l : List Finding). l ++ filter (λ f. f.fault) (flat_map (one_warning format path m.line) (line_warnings (names_at allowed m) file m.line))) (no_unknown path m.line (unknown_names m.line.text))
      ∙ no_warning format path m.line (line_warnings (names_at allowed m) file m.line)

  in_line : (m : Marked) → length (filter (λ f. f.fault) (found_in_line format allowed path file m)) ≡ length (faults_at file m.line.number)
  in_line m =
      ap length (filter-append (λ f. f.fault) (found_faults path file m.line) (left_of_line format allowed path file m))
      ∙ ap (λ (l : List Finding). length (filter (λ f. f.fault) (found_faults path file m.line) ++ l)) (none_left m)
      ∙ ap length (append-nil (filter (λ f. f.fault) (found_faults path file m.line)))
      ∙ faults_all path m.line.text (faults_at file m.line.number)

  in_lines : (ms : List Marked) → length (filter (λ f. f.fault) (flat_map (found_in_line format allowed path file) ms)) ≡ length (flat_map (λ m. faults_at file m.line.number) ms)
  in_lines [] = refl
  in_lines (m ∷ ms) =
      ap length (filter-append (λ f. f.fault) (found_in_line format allowed path file m) (flat_map (found_in_line format allowed path file) ms))
      ∙ length-append (filter (λ f. f.fault) (found_in_line format allowed path file m)) (filter (λ f. f.fault) (flat_map (found_in_line format allowed path file) ms))
      ∙ ap (λ (n : ℕ). n + length (filter (λ f. f.fault) (flat_map (found_in_line format allowed path file) ms))) (in_line m)
      ∙ ap (λ (n : ℕ). length (faults_at file m.line.number) + n) (in_lines ms)
      ∙ sym (length-append (faults_at file m.line.number) (flat_map (λ m. faults_at file m.line.number) ms))

by_line : (file : List ℕ) (ms : List Marked) → flat_map (λ m. faults_at file m.line.number) ms ≡ flat_map (λ l. faults_at file l.number) (map (λ m. m.line) ms)
by_line file [] = refl
by_line file (m ∷ ms) = ap (λ (fs : List Fault). faults_at file m.line.number ++ fs) (by_line file ms)

pub faults_stay : SectionsAreTheLines → FaultsAscend → FaultsStay
faults_stay law ascend = record {
  printed = λ format allowed path file. refl;
  each = all_told law ascend;
  counted = λ format allowed path file.
      in_lines format allowed path file (marked file) ∙ ap length (by_line file (marked file) ∙ ap (λ (ls : List Line). flat_map (λ l. faults_at file l.number) ls) (lines_marked file) ∙ all_told law ascend file);
}

pub comment_rows : CommentRows
unfolding pieces numbered trimmed names_to_end marked_from digits encode_with visible_after is_utf8 chars encode_utf8 told_unknown one_unknown one_fault one_warning
comment_rows = record {
  names = refl;
  ends = refl;
  above = refl;
  below = refl;
  alone = refl;
  unknown = refl;
  meant = refl;
  fault = refl;
  empty = refl;
  none = refl;
  place = refl;
  report = refl;
}
