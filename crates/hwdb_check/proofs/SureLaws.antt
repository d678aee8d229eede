-- Why mends are sure.
use lib.Pointwise.{pointwise}
use Rattle.std.proofs.Common.{◌≡◌, ◌==◌, codes, ◌&&◌, ◌+◌, ◌-◌, ◌∙◌, ◌++◌, ◌||◌, Option, None, Some, arith, ℕ, zero, suc, Bool, true, false, List, [], ◌∷◌, ap, append_assoc, cond, drop, filter, length, map, refl, sym, subst, take}
use Rattle.std.specs.Prelude.{IfSome, flat_map, if◌then◌else◌, is_some, nat_eq, nat_le}
use Rattle.std.specs.List.{list_any, prefix_len}
use Rattle.std.specs.Option.{option_or}
use Rattle.std.proofs.lemmas.Bool.{eqb-false, eqb-true}
use Rattle.std.proofs.lemmas.List.{drop-drop, map-append}
use Rattle.json.proofs.OnLiterals.{json_on_literals}
use Rattle.json.specs.Print.{escape_byte, print_from}
use Rattle.std.specs.Char.{encode_utf8}
use Rattle.std.specs.Fmt.{digits}
use Rattle.std.specs.Str.{chars, is_utf8}
use Rattle.hwdb_spec.specs.Folders.{same}
use Rattle.hwdb_spec.specs.Lines.{Line, is, is_none, lines, numbered, pieces, trimmed}
use Rattle.hwdb_spec.specs.Visible.{visible_after}
use Rattle.hwdb_spec.specs.Lemmas.Orders.{same_itself}
use Rattle.hwdb_spec_commands.specs.AllowedKinds.{ends_record, marked_from, names_to_end}
use Rattle.hwdb_spec_commands.specs.Baselines.{mark_of, new_findings, without_first}
use Rattle.hwdb_spec_commands.specs.Findings.{Finding}
use Rattle.hwdb_spec_commands.specs.Json.{escaped_after, items_of, members_of}
use Rattle.hwdb_spec_commands.specs.Patches.{Edit, all_or_none, all_tried, at_number, before_runs, first_mend, hunk_lines, hunks_from, is_ended, kept, last_number, line_by_line, mend, mend_again, mended, none_mended, not_worse, once_more, record_by_record, records_from, replaced_by, take_back, takes_place, text_of, unmended, whole_records, with_newline, worse}
use Rattle.hwdb_text.specs.Laws.{LinesAreTheFile, ended}
use Rattle.hwdb_check.specs.Sure.{AreWell, IsSure, IsWell, LinesStay, MendsAreSure, PatchRows, SaidRows, TriedRows, WorseRows, as_it_was}

-- ---- lines that stay

all_kept : (ls : List Line) → flat_map with_newline (map kept ls) ≡ flat_map (λ l. l.text ++ 10 ∷ []) ls
all_kept [] = refl
all_kept (l ∷ ls) = ap (λ t. (l.text ++ 10 ∷ []) ++ t) (all_kept ls)

-- a file, from what it is with a newline after its last line
cut : (ended_so : Bool) (whole : List ℕ) → List ℕ
cut ended_so whole = if ended_so then whole else take (length whole - 1) whole

cut_one : (b : ℕ) (q r : Bool) → (b == 10) ≡ q → nat_eq 10 b ≡ r → cut (is_ended (b ∷ [])) (ended (b ∷ [])) ≡ b ∷ []
unfolding ended cut
cut_one b true r e f = subst (λ (x : ℕ). cut (is_ended (x ∷ [])) (ended (x ∷ [])) ≡ x ∷ []) (sym (eqb-true b 10 e)) refl
cut_one b false true e f = absurd (eqb-false b 10 e (sym (eqb-true 10 b f)))
cut_one b false false e f =
    ap (λ (x : Bool). cut (is_ended (b ∷ [])) (if x then b ∷ [] else b ∷ (10 ∷ []))) e ∙ ap (λ (x : Bool). cut (x && true) (b ∷ (10 ∷ []))) f

cut_more : (b next : ℕ) (rest : List ℕ) (q : Bool) (whole : List ℕ) → cut q whole ≡ next ∷ rest → cut q (b ∷ whole) ≡ b ∷ next ∷ rest
unfolding cut
cut_more b next rest true whole e = ap (λ l. b ∷ l) e
cut_more b next rest false [] e = cc
cut_more b next rest false (x ∷ xs) e =
    ap (λ (k : ℕ). take k (b ∷ x ∷ xs)) (let s : length (b ∷ x ∷ xs) - 1 ≡ suc (length (x ∷ xs) - 1) = omega arith in s) ∙ ap (λ l. b ∷ l) e

same_end : (b next : ℕ) (rest : List ℕ) → is_ended (next ∷ rest) ≡ is_ended (b ∷ next ∷ rest)
same_end b next rest =
    ap (λ (k : ℕ). pointwise nat_eq (codes "\n") (drop k (next ∷ rest))) (let s : length (next ∷ rest) - 1 ≡ length rest = omega arith in s)
    ∙ sym (ap (λ (k : ℕ). pointwise nat_eq (codes "\n") (drop k (b ∷ next ∷ rest))) (let s : length (b ∷ next ∷ rest) - 1 ≡ suc (length rest) = omega arith in s))

cut_back : (file : List ℕ) → cut (is_ended file) (ended file) ≡ file
unfolding ended cut
cut_back [] = refl
cut_back (b ∷ []) = cut_one b (b == 10) (nat_eq 10 b) refl refl
cut_back (b ∷ next ∷ rest) =
    sym (ap (λ (q : Bool). cut q (b ∷ ended (next ∷ rest))) (same_end b next rest)) ∙ cut_more b next rest (is_ended (next ∷ rest)) (ended (next ∷ rest)) (cut_back (next ∷ rest))

pub lines_stay : LinesAreTheFile → LinesStay
unfolding cut
lines_stay joined file =
    ap (cut (is_ended file)) (all_kept (lines file) ∙ joined file) ∙ cut_back file

-- ---- what is compared

none_worse : (fs : List Finding) → worse fs fs ≡ []
unfolding new_findings without_first
none_worse [] = refl
none_worse (f ∷ fs) =
    let m = mark_of (at_number f) in
    let rest = map (λ f. mark_of (at_number f)) fs in
    ap (λ (b : Bool). cond (b || list_any (same m) rest) (new_findings (without_first m (m ∷ rest)) (map at_number fs)) (at_number f ∷ new_findings (m ∷ rest) (map at_number fs))) (same_itself m)
    ∙ ap (λ (b : Bool). new_findings (cond b rest (m ∷ without_first m rest)) (map at_number fs)) (same_itself m)
    ∙ none_worse fs

-- ---- lines as they were

module _ (change : List Finding → Edit → Edit) (keeps : (own : List Finding) (e : Edit) → as_it_was (change own e) ≡ as_it_was e) where
  lines_kept : (fs : List Finding) (es : List Edit) → map as_it_was (line_by_line change fs es) ≡ map as_it_was es
  unfolding line_by_line
  lines_kept fs [] = refl
  lines_kept fs (e ∷ es) =
      let size = prefix_len (λ f. is e.number f.line) fs in
      ap (λ x. x ∷ map as_it_was (line_by_line change (drop size fs) es)) (keeps (take size fs) e) ∙ ap (λ l. as_it_was e ∷ l) (lines_kept (drop size fs) es)

replaced_keeps : (o : Option (List ℕ)) (e : Edit) → as_it_was (replaced_by o e) ≡ as_it_was e
replaced_keeps None e = refl
replaced_keeps (Some text) e = by (takes_place e.old text)
  where
    by : (b : Bool) → as_it_was (cond b (record { number = e.number; old = e.old; new = Some text }) e) ≡ as_it_was e
    by true = refl
    by false = refl

mend_keeps : (own : List Finding) (e : Edit) → as_it_was (mend own e) ≡ as_it_was e
mend_keeps own e = replaced_keeps (first_mend own) e

again_keeps : (own : List Finding) (e : Edit) → as_it_was (mend_again own e) ≡ as_it_was e
again_keeps own e = by (is_some e.new)
  where
    by : (b : Bool) → as_it_was (cond b (mend own e) e) ≡ as_it_was e
    by true = mend_keeps own e
    by false = refl

back_keeps : (own : List Finding) (e : Edit) → as_it_was (take_back own e) ≡ as_it_was e
back_keeps own e = by (is_none own)
  where
    by : (b : Bool) → as_it_was (cond b e (record { number = e.number; old = e.old; new = None })) ≡ as_it_was e
    by true = refl
    by false = refl

-- ---- records

-- the lines of some runs
abbrev all_of : List (List Edit) → List Edit
all_of runs = flat_map (λ run. run) runs

runs_are : (run : List Edit) (runs : List (List Edit)) → all_of (before_runs run runs) ≡ run ++ all_of runs
runs_are [] runs = refl
runs_are (e ∷ es) runs = refl

records_are : (begun es : List Edit) → all_of (records_from begun es) ≡ begun ++ es
unfolding records_from
records_are begun [] = runs_are begun []
records_are begun (e ∷ es) = by (ends_record e.old) (records_are [] es) (records_are (begun ++ e ∷ []) es)
  where
    by : (b : Bool) → all_of (records_from [] es) ≡ es → all_of (records_from (begun ++ e ∷ []) es) ≡ (begun ++ e ∷ []) ++ es
        → all_of (cond b (before_runs (begun ++ e ∷ []) (records_from [] es)) (records_from (begun ++ e ∷ []) es)) ≡ begun ++ e ∷ es
    by true ends goes = runs_are (begun ++ e ∷ []) (records_from [] es) ∙ ap (λ l. (begun ++ e ∷ []) ++ l) ends ∙ append_assoc begun (e ∷ []) es
    by false ends goes = goes ∙ append_assoc begun (e ∷ []) es

all_back : (own : List Finding) (es : List Edit) → map as_it_was (map (take_back own) es) ≡ map as_it_was es
all_back own [] = refl
all_back own (e ∷ es) = ap (λ x. x ∷ map as_it_was (map (take_back own) es)) (back_keeps own e) ∙ ap (λ l. as_it_was e ∷ l) (all_back own es)

runs_kept : (fs : List Finding) (runs : List (List Edit)) → map as_it_was (record_by_record fs runs) ≡ map as_it_was (all_of runs)
unfolding record_by_record
runs_kept fs [] = refl
runs_kept fs (run ∷ runs) =
    let size = prefix_len (λ f. nat_le f.line (last_number 0 run)) fs in
    map-append as_it_was (map (take_back (take size fs)) run) (record_by_record (drop size fs) runs)
    ∙ ap (λ l. l ++ map as_it_was (record_by_record (drop size fs) runs)) (all_back (take size fs) run)
    ∙ ap (λ l. map as_it_was run ++ l) (runs_kept (drop size fs) runs)
    ∙ sym (map-append as_it_was run (all_of runs))

kept_as_it_was : (ls : List Line) → map as_it_was (map kept ls) ≡ map kept ls
kept_as_it_was [] = refl
kept_as_it_was (l ∷ ls) = ap (λ t. kept l ∷ t) (kept_as_it_was ls)

-- ---- lines that are mended well

-- among findings with what is before them
mend_more : (x : Option (List ℕ)) (y : Option (List ℕ)) → is_some y ≡ true → is_some (option_or x y) ≡ true
mend_more None y h = h
mend_more (Some t) y h = refl

module _ (p : Finding → Bool) where
  later : (f : Finding) (fs : List Finding) → is_some (first_mend (filter p fs)) ≡ true → is_some (first_mend (filter p (f ∷ fs))) ≡ true
  unfolding first_mend
  later f fs h = by (p f)
    where
      by : (b : Bool) → is_some (first_mend (cond b (f ∷ filter p fs) (filter p fs))) ≡ true
      by true = mend_more f.fix (first_mend (filter p fs)) h
      by false = h

  in_rest : (n : ℕ) (fs : List Finding) → is_some (first_mend (filter p (drop n fs))) ≡ true → is_some (first_mend (filter p fs)) ≡ true
  in_rest zero fs h = h
  in_rest (suc n) [] h = h
  in_rest (suc n) (f ∷ fs) h = later f fs (in_rest n fs h)

  in_front : (fs : List Finding) → is_some (first_mend (take (prefix_len p fs) fs)) ≡ true → is_some (first_mend (filter p fs)) ≡ true
  unfolding first_mend
  in_front [] h = h
  in_front (f ∷ fs) h = by (p f) h (in_front fs)
    where
      by : (b : Bool) → is_some (first_mend (take (cond b (1 + prefix_len p fs) 0) (f ∷ fs))) ≡ true
          → (is_some (first_mend (take (prefix_len p fs) fs)) ≡ true → is_some (first_mend (filter p fs)) ≡ true)
          → is_some (first_mend (cond b (f ∷ filter p fs) (filter p fs))) ≡ true
      by true h rest =
          first f.fix (first_mend (take (prefix_len p fs) fs)) (first_mend (filter p fs))
          (subst (λ (k : ℕ). is_some (first_mend (take k (f ∷ fs))) ≡ true) (let e : 1 + prefix_len p fs ≡ suc (prefix_len p fs) = omega arith in e) h) rest
        where
          first : (x y z : Option (List ℕ)) → is_some (option_or x y) ≡ true → (is_some y ≡ true → is_some z ≡ true) → is_some (option_or x z) ≡ true
          first None y z h rest = rest h
          first (Some t) y z h rest = refl
      by false h rest = absurd (cc)

module _ (before : List Finding) (change : List Finding → Edit → Edit) where
  -- of findings that are taken from these
  walk : (fs : List Finding)
      → ((n : ℕ) (e : Edit) → IsWell before e → IsWell before (change (take (prefix_len (λ f. is e.number f.line) (drop n fs)) (drop n fs)) e))
      → (n : ℕ) (es : List Edit) → AreWell before es → AreWell before (line_by_line change (drop n fs) es)
  unfolding line_by_line
  walk fs step n [] well = tt
  walk fs step n (e ∷ es) well =
      let size = prefix_len (λ f. is e.number f.line) (drop n fs) in (
        step n e well.0,
        subst (λ (l : List Finding). AreWell before (line_by_line change l es)) (sym (drop-drop size n fs)) (walk fs step (n + size) es well.1),
      )

  replaced_well : (o : Option (List ℕ)) (e : Edit) → IsWell before e → (is_some o ≡ true → is_some (first_mend (filter (λ f. is e.number f.line) before)) ≡ true) → IsWell before (replaced_by o e)
  replaced_well None e well has = well
  replaced_well (Some text) e well has = by (takes_place e.old text) refl
    where
      by : (b : Bool) → takes_place e.old text ≡ b → IsWell before (cond b (record { number = e.number; old = e.old; new = Some text }) e)
      by true may = (may, has refl)
      by false may = well

had_mend : (before : List Finding) (e : Edit) (o : Option (List ℕ)) → e.new ≡ o → is_some o ≡ true → IsWell before e → is_some (first_mend (filter (λ f. is e.number f.line) before)) ≡ true
had_mend before e None so h well = absurd (cc)
had_mend before e (Some text) so h well =
    let both : (takes_place e.old text ≡ true) × (is_some (first_mend (filter (λ f. is e.number f.line) before)) ≡ true) =
    subst (λ (x : Option (List ℕ)). IfSome x (λ text. (takes_place e.old text ≡ true) × (is_some (first_mend (filter (λ f. is e.number f.line) before)) ≡ true))) so well in
    both.1

again_well : (before own : List Finding) (e : Edit) → IsWell before e → IsWell before (mend_again own e)
again_well before own e well = by (is_some e.new) refl
  where
    by : (b : Bool) → is_some e.new ≡ b → IsWell before (cond b (mend own e) e)
    by true some = replaced_well before mend_again (first_mend own) e well (λ _. had_mend before e e.new refl some well)
    by false some = well

back_well : (before own : List Finding) (e : Edit) → IsWell before e → IsWell before (take_back own e)
back_well before own e well = by (is_none own)
  where
    by : (b : Bool) → IsWell before (cond b e (record { number = e.number; old = e.old; new = None }))
    by true = well
    by false = tt

kept_well : (before : List Finding) (ls : List Line) → AreWell before (map kept ls)
kept_well before [] = tt
kept_well before (l ∷ ls) = (tt, kept_well before ls)

-- ---- records of such lines

both_well : (before : List Finding) (one other : List Edit) → AreWell before one → AreWell before other → AreWell before (one ++ other)
both_well before [] other w v = v
both_well before (e ∷ es) other w v = (w.0, both_well before es other w.1 v)

first_well_of : (before : List Finding) (one other : List Edit) → AreWell before (one ++ other) → AreWell before one
first_well_of before [] other w = tt
first_well_of before (e ∷ es) other w = (w.0, first_well_of before es other w.1)

rest_well_of : (before : List Finding) (one other : List Edit) → AreWell before (one ++ other) → AreWell before other
rest_well_of before [] other w = w
rest_well_of before (e ∷ es) other w = rest_well_of before es other w.1

all_back_well : (before own : List Finding) (es : List Edit) → AreWell before es → AreWell before (map (take_back own) es)
all_back_well before own [] w = tt
all_back_well before own (e ∷ es) w = (back_well before own e w.0, all_back_well before own es w.1)

runs_well : (before fs : List Finding) (runs : List (List Edit)) → AreWell before (all_of runs) → AreWell before (record_by_record fs runs)
unfolding record_by_record
runs_well before fs [] w = tt
runs_well before fs (run ∷ runs) w =
    let size = prefix_len (λ f. nat_le f.line (last_number 0 run)) fs in
    both_well before (map (take_back (take size fs)) run) (record_by_record (drop size fs) runs)
    (all_back_well before (take size fs) run (first_well_of before run (all_of runs) w)) (runs_well before (drop size fs) runs (rest_well_of before run (all_of runs) w))

-- ---- a file

none_left : (fs : List Finding) → is_none fs ≡ true → fs ≡ []
none_left [] h = refl
none_left (f ∷ fs) h = absurd (cc)

module _ (told : List ℕ → List Finding) (file : List ℕ) where
  abbrev before : List Finding
  before = told file

  abbrev end : Bool
  end = is_ended file

  abbrev first : List Edit
  first = line_by_line mend before (unmended file)

  first_well : AreWell before first
  first_well =
      walk before mend before (λ n e well.
      replaced_well before mend (first_mend (take (prefix_len (λ f. is e.number f.line) (drop n before)) (drop n before))) e well
      (λ some. in_rest (λ f. is e.number f.line) n before (in_front (λ f. is e.number f.line) (drop n before) some)))
      0 (unmended file) (kept_well before (lines file))

  once_well : (es : List Edit) → AreWell before es → AreWell before (once_more told end es)
  once_well es well = walk before mend_again (told (text_of end es)) (λ n e w. again_well before (take (prefix_len (λ f. is e.number f.line) (drop n (told (text_of end es)))) (drop n (told (text_of end es)))) e w) 0 es well

  once_lines : (es : List Edit) → map as_it_was (once_more told end es) ≡ map as_it_was es
  once_lines es = lines_kept mend_again again_keeps (told (text_of end es)) es

  abbrev single : List Edit
  single = not_worse told end before (all_tried told end file before)

  single_well : AreWell before single
  single_well =
      let all = all_tried told end file before in
      let new = worse before (told (text_of end all)) in
      walk before take_back new (λ n e w. back_well before (take (prefix_len (λ f. is e.number f.line) (drop n new)) (drop n new)) e w) 0 all
      (once_well (once_more told end first) (once_well first first_well))

  single_lines : map as_it_was single ≡ unmended file
  single_lines =
      let all = all_tried told end file before in
      lines_kept take_back back_keeps (worse before (told (text_of end all))) all
      ∙ once_lines (once_more told end first) ∙ once_lines first ∙ lines_kept mend mend_keeps before (unmended file) ∙ kept_as_it_was (lines file)

  abbrev tries : List Edit
  tries = whole_records told end before single

  tries_well : AreWell before tries
  tries_well = runs_well before (worse before (told (text_of end single))) (records_from [] single) (subst (λ (l : List Edit). AreWell before l) (sym (records_are [] single)) single_well)

  tries_lines : map as_it_was tries ≡ unmended file
  tries_lines = runs_kept (worse before (told (text_of end single))) (records_from [] single) ∙ ap (map as_it_was) (records_are [] single) ∙ single_lines

  module _ (stays : LinesStay) where
    none_sure : IsSure told file (none_mended file before)
    none_sure = record {
      none_new = ap (λ t. worse before (told t)) (stays file) ∙ none_worse before;
      lines = kept_as_it_was (lines file);
      well = kept_well before (lines file);
      before = refl;
      left = ap told (sym (stays file));
    }

    abbrev left : List Finding
    left = told (text_of end tries)

    all_sure : IsSure told file (all_or_none told end file before tries)
    all_sure = by (is_none (worse before left)) refl
      where
        by : (b : Bool) → is_none (worse before left) ≡ b → IsSure told file (cond b (record { before = before; edits = tries; left = left }) (none_mended file before))
        by true e = record { none_new = none_left (worse before left) e; lines = tries_lines; well = tries_well; before = refl; left = refl }
        by false e = none_sure

    file_sure : IsSure told file (mended told file)
    file_sure = by (is_some (first_mend before))
      where
        by : (b : Bool) → IsSure told file (cond b (all_or_none told end file before tries) (none_mended file before))
        by true = all_sure
        by false = none_sure

pub mends_sure : LinesAreTheFile → MendsAreSure
mends_sure joined told file = file_sure told file (lines_stay joined)

-- ---- rows

pub worse_rows : WorseRows
unfolding new_findings without_first json_on_literals items_of members_of escaped_after print_from escape_byte visible_after is_utf8 chars encode_utf8 digits
worse_rows = record { same = refl; stays = refl; mended = refl; unmended = refl; line = refl; kind = refl; twice = refl }

pub mend_rows : TriedRows
unfolding pieces numbered line_by_line record_by_record records_from first_mend trimmed new_findings without_first json_on_literals items_of members_of escaped_after print_from escape_byte visible_after is_utf8 chars encode_utf8 digits
mend_rows = record { steps = refl; left = refl; record_left = refl; none = refl; as_before = refl; no_line = refl }

pub patch_rows : PatchRows
unfolding hunk_lines hunks_from visible_after is_utf8 chars encode_utf8 digits
patch_rows = record {
  one = refl;
  two = refl;
  neighbours = refl;
  hunks = refl;
  lone = refl;
  bare = refl;
  shown_bare = refl;
  hidden_bare = refl;
  carriage = refl;
  none = refl;
  status = refl;
  line = refl;
}

pub said_rows : SaidRows
unfolding pieces numbered marked_from names_to_end line_by_line first_mend hunks_from digits
said_rows = record { out = refl; err = refl; status = refl; asked = refl }
