-- The laws.
use Rattle.std.proofs.Common.{◌≡◌, ◌∙◌, ◌⊎◌, ◌||◌, ◌+◌, ◌++◌, ◌-◌, ◌<◌, ◌≤◌, ◌==◌, ap, sym, refl, subst, ◌↔◌, inl, inr, arith, append_assoc, eqb-true, ℕ, zero, suc, Bool, true, false, List, [], ◌∷◌, length, get_or, None, Option, Some}
use Rattle.std.specs.List.{position_or_len}
use Rattle.std.specs.Prelude.{Contains, drop, flat_map, is_some, nat_lt, if◌then◌else◌}
use Rattle.std.specs.List.{list_any}
use Rattle.std.specs.Option.{option_and_then, option_or}
use Rattle.std.specs.Ordering.{is_eq}
use Rattle.std.proofs.lemmas.Bool.{le-ltb}
use Rattle.std.proofs.lemmas.Cmp.{nat_list_cmp_total, tied_itself}
use Rattle.hwdb_spec.specs.Folders.{same}
use Rattle.hwdb_spec.specs.Forms.{CanMatch, Form, all_bytes_from, can_match, is_unknown, judged}
use Rattle.hwdb_spec_commands.specs.Fragile.{fragile_place, is_fragile, outlasting}
use Rattle.hwdb_spec_commands.specs.Kinds.{warning_name}
use Rattle.hwdb_spec.specs.Lines.{begins_with, byte, is, is_none, max_pattern, pieces}
use Rattle.hwdb_spec_commands.specs.Mends.{begins_field, follow, is_field_after, is_fine, likely_after, likely_judgement, mended_in, moved, moved_before, ordered, start_of, step}
use Rattle.hwdb_spec_commands.specs.Unmatched.{compare_hint, expected_after, is_unmatched, judgement_of, likelihood_of, runs_from}
use Rattle.hwdb_spec_commands.specs.FormTable.{asked}
use Rattle.hwdb_spec_commands.specs.LikelyForms.{likely}
use Rattle.hwdb_spec_commands.specs.Fields.{field_judgement, odd_field, with_fields}
use Rattle.hwdb_spec.specs.Patterns.{tokens}
use Rattle.hwdb_forms.specs.Laws.{FormsAreTested}
use Rattle.hwdb_spec.specs.declared.Judgement.{Judgement}
use Rattle.hwdb_spec.specs.declared.Judgement.TheVariants.{Dead, Fine, UnknownPrefix}
use Rattle.hwdb_spec_commands.specs.declared.WarningKind.TheVariants.{ByteOrderMark, CarriageReturn, CutValue, EmptyRange, Fragile, LeadingTab, MayBeTooDeep, Misused, OpenBracket, RepeatedMatch, Replaced, SpacedEquals, TooLongForUdev, Unlikely, Unmatched, Unpaired, Unread}
use Rattle.hwdb_spec_commands.specs.declared.WarningKind.{WarningKind}
use Rattle.hwdb_spec_commands.specs.declared.vocabulary.Misuse.TheVariants.{NearName, OldName, ScanCode, SingularMatrix, TwoDefaults, UnfitValue, UnknownKey, ZeroRow}
use Rattle.hwdb_check.specs.Laws.{FieldRows, FragileRows, KindsAreNamed, LikelihoodIsJudged, MendRows, MendsAreLikely, PatternsAreJudged, RunsAreAll, TooDeepRows, TooLongRows, UnmatchedRows, kind_number, kinds, run_bytes}

-- ---- runs
one_more : (n first : ℕ) → all_bytes_from (suc n) first ≡ all_bytes_from n first ++ (n + first) ∷ []
unfolding all_bytes_from
one_more zero first = let e : first ≡ 0 + first = omega arith in ap (λ (b : ℕ). b ∷ []) e
one_more (suc n) first =
    ap (λ (l : List ℕ). first ∷ l) (one_more n (suc first) ∙ ap (λ (b : ℕ). all_bytes_from n (suc first) ++ b ∷ []) (let e : n + suc first ≡ suc n + first = omega arith in e))

longer_run : (first last : ℕ) → first ≤ last → run_bytes (first, suc last) ≡ run_bytes (first, last) ++ suc last ∷ []
longer_run first last h =
    let n : suc (suc last) - first ≡ suc (suc last - first) = omega (arith, h) in
    let b : (suc last - first) + first ≡ suc last = omega (arith, h) in
    ap (λ (k : ℕ). all_bytes_from k first) n ∙ one_more (suc last - first) first ∙ ap (λ (x : ℕ). all_bytes_from (suc last - first) first ++ x ∷ []) b

one_byte : (b : ℕ) → run_bytes (b, b) ≡ b ∷ []
unfolding all_bytes_from
one_byte b = let n : suc b - b ≡ suc zero = omega arith in ap (λ (k : ℕ). all_bytes_from k b) n

from_run : (first last : ℕ) (bytes : List ℕ) → first ≤ last → flat_map run_bytes (runs_from first last bytes) ≡ run_bytes (first, last) ++ bytes
unfolding runs_from
from_run first last [] h = refl
from_run first last (b ∷ more) h = by (b == last + 1) refl (λ k. from_run first b more k) (from_run b b more (omega arith))
  where
    by : (c : Bool) → (b == last + 1) ≡ c → (first ≤ b → flat_map run_bytes (runs_from first b more) ≡ run_bytes (first, b) ++ more) → flat_map run_bytes (runs_from b b more) ≡ run_bytes (b, b) ++ more
        → flat_map run_bytes (if c then runs_from first b more else (first, last) ∷ runs_from b b more) ≡ run_bytes (first, last) ++ b ∷ more
    by true e longer other =
        let is : b ≡ suc last = (let k : b ≡ last + 1 = eqb-true b (last + 1) e in omega (arith, k)) in
        longer (omega (arith, is, h))
        ∙ ap (λ (x : ℕ). run_bytes (first, x) ++ more) is
        ∙ ap (λ (l : List ℕ). l ++ more) (longer_run first last h)
        ∙ append_assoc (run_bytes (first, last)) (suc last ∷ []) more
        ∙ ap (λ (x : ℕ). run_bytes (first, last) ++ x ∷ more) (sym is)
    by false e longer other = ap (λ (l : List ℕ). run_bytes (first, last) ++ l) (other ∙ ap (λ (l : List ℕ). l ++ more) (one_byte b))

pub all_runs : RunsAreAll
all_runs [] = refl
all_runs (b ∷ more) = from_run b b more (omega arith) ∙ ap (λ (l : List ℕ). l ++ more) (one_byte b)

-- ---- patterns
if_false : {X : Type 0} (b : Bool) (x y : X) → b ≡ false → (if b then x else y) ≡ y
if_false true x y e = absurd cc
if_false false x y e = refl

pub judged_patterns : PatternsAreJudged
unfolding judgement_of expected_after
judged_patterns = record {
  judges = λ text none space tab short.
      if_false (is_none text) Fine _ none ∙ if_false (begins_with (byte " ") text) Fine _ space ∙ if_false (begins_with (byte "\t") text) Fine _ tab
      ∙ if_false (nat_lt max_pattern (length text)) Fine _ (le-ltb max_pattern (length text) short);
  hints = λ front short. if_false (nat_lt 256 (length front)) compare_hint _ (le-ltb 256 (length front) short);
  place = λ place pattern. refl;
  nothing = refl;
  property = refl;
  tab = refl;
}

-- whether something is said of a pattern, by its forms
told_by : (b u : Bool) (n : ℕ) → is_unmatched (if b then Fine else (if u then UnknownPrefix else Dead n)) ≡ (if b then false else true)
told_by true u n = refl
told_by false true n = refl
told_by false false n = refl

told_is : (forms : List Form) (text : List ℕ) → is_unmatched (judged forms text) ≡ (if can_match forms (tokens text) then false else true)
told_is forms text = told_by (can_match forms (tokens text)) (is_unknown forms text) _

likelihood_is : (text : List ℕ) → is_none text ≡ false → begins_with (byte " ") text ≡ false → begins_with (byte "\t") text ≡ false
    → length text ≤ max_pattern → likelihood_of text ≡ (if is_unmatched (judged asked text) then Fine else with_fields (judged likely text) text)
unfolding likelihood_of
likelihood_is text none space tab short =
    if_false (is_none text) Fine _ none ∙ if_false (begins_with (byte " ") text) Fine _ space ∙ if_false (begins_with (byte "\t") text) Fine _ tab
    ∙ if_false (nat_lt max_pattern (length text)) Fine _ (le-ltb max_pattern (length text) short)

-- what is said of fields, if this is said of the form
field_told : (o : Option ℕ) → is_unmatched (field_judgement o) ≡ is_some o
field_told None = refl
field_told (Some place) = refl

fields_told : (j : Judgement) (l : Bool) (text : List ℕ) → is_unmatched j ≡ (if l then false else true)
    → is_unmatched (with_fields j text) ≡ (if l then is_some (odd_field text) else true)
fields_told Fine true text e = field_told (odd_field text)
fields_told Fine false text e = absurd (let no : false ≡ true = e in cc)
fields_told UnknownPrefix true text e = absurd (let no : true ≡ false = e in cc)
fields_told UnknownPrefix false text e = refl
fields_told (Dead place) true text e = absurd (let no : true ≡ false = e in cc)
fields_told (Dead place) false text e = refl

-- told exactly if one is met and the other one isn't, or there is an odd field
exactly_by : (a l f : Bool) (fine : Judgement) → is_unmatched fine ≡ (if l then f else true)
    → (is_unmatched (if (if a then false else true) then Fine else fine) ≡ true) ↔ ((a ≡ true) × (l ≡ true → f ≡ true))
exactly_by true true true fine e = (λ h. (refl, λ k. refl), λ p. e)
exactly_by true true false fine e = (λ h. absurd (let no : true ≡ false = sym h ∙ e in cc), λ p. absurd (let no : false ≡ true = p.1 refl in cc))
exactly_by true false f fine e = (λ h. (refl, λ k. cc), λ p. e)
exactly_by false l f fine e = (λ h. cc, λ p. (let no : false ≡ true = p.0 in cc))

is_exact : FormsAreTested → (text : List ℕ)
    → (is_unmatched (if is_unmatched (judged asked text) then Fine else with_fields (judged likely text) text) ≡ true)
    ↔ (CanMatch asked (tokens text) × (CanMatch likely (tokens text) → is_some (odd_field text) ≡ true))
is_exact tested text =
    let ts = tokens text in
    let said = with_fields (judged likely text) text in
    let same : is_unmatched (judged asked text) ≡ (if can_match asked ts then false else true) = told_is asked text in
    let both = exactly_by (can_match asked ts) (can_match likely ts) (is_some (odd_field text)) said (fields_told (judged likely text) (can_match likely ts) text (told_is likely text)) in (
      λ h. (let p = both.0 (sym (ap (λ (b : Bool). is_unmatched (if b then Fine else said)) same) ∙ h) in ((tested asked ts).0 p.0, λ m. p.1 ((tested likely ts).1 m))),
      λ p. ap (λ (b : Bool). is_unmatched (if b then Fine else said)) same ∙ both.1 ((tested asked ts).1 p.0, λ k. p.1 ((tested likely ts).0 k)),
    )

told_once_by : (n s t l u : Bool) (j k : Judgement) → is_unmatched j ≡ u
    → is_unmatched (if n then Fine else (if s then Fine else (if t then Fine else (if l then Fine else j)))) ≡ true
    → (if n then Fine else (if s then Fine else (if t then Fine else (if l then Fine else (if u then Fine else k))))) ≡ Fine
told_once_by true s t l u j k e h = refl
told_once_by false true t l u j k e h = refl
told_once_by false false true l u j k e h = refl
told_once_by false false false true u j k e h = refl
told_once_by false false false false true j k e h = refl
told_once_by false false false false false j k e h = absurd (let no : true ≡ false = sym h ∙ e in cc)

once_told : (text : List ℕ) → is_unmatched (judgement_of text) ≡ true → likelihood_of text ≡ Fine
unfolding judgement_of likelihood_of
once_told text h =
    told_once_by (is_none text) (begins_with (byte " ") text) (begins_with (byte "\t") text) (nat_lt max_pattern (length text)) (is_unmatched (judged asked text)) (judged asked text) (with_fields (judged likely text) text) refl h

pub field_rows : FieldRows
unfolding pieces
field_rows = record {
  other = refl;
  turned = refl;
  right = refl;
  longer = refl;
  begins = refl;
  value = refl;
  before = refl;
  elsewhere = refl;
  hint = refl;
  dead = refl;
}

pub judged_likelihood : FormsAreTested → LikelihoodIsJudged
unfolding likelihood_of likely_after all_bytes_from
judged_likelihood tested = record {
  judges = λ text none space tab short fine. likelihood_is text none space tab short ∙ if_false (is_unmatched (judged asked text)) Fine (with_fields (judged likely text) text) fine;
  told_once = once_told;
  exactly = λ text none space tab short. (
    λ h. (is_exact tested text).0 (sym (ap is_unmatched (likelihood_is text none space tab short)) ∙ h),
    λ p. ap is_unmatched (likelihood_is text none space tab short) ∙ (is_exact tested text).1 p,
  );
  hints = λ front short. if_false (nat_lt 256 (length front)) compare_hint _ (le-ltb 256 (length front) short);
  long = refl;
  begins = refl;
  said = refl;
  nothing = refl;
  property = refl;
  tab = refl;
}

-- ---- patterns as they were likely meant
likely_if : FormsAreTested → (text : List ℕ) → judged likely text ≡ Fine → CanMatch likely (tokens text)
likely_if tested text fine = by (can_match likely (tokens text)) refl
  where
    by : (b : Bool) → can_match likely (tokens text) ≡ b → CanMatch likely (tokens text)
    by true e = (tested likely (tokens text)).0 e
    by false e = absurd (let no : false ≡ true = ap is_unmatched (sym fine) ∙ told_is likely text ∙ ap (λ (b : Bool). if b then false else true) e in cc)

fine_after : (steps : ℕ) (pattern : List ℕ) (place : ℕ) (text : List ℕ) → mended_in steps pattern place ≡ Some text → likely_judgement text ≡ Fine
unfolding mended_in
fine_after zero pattern place text e = absurd cc
fine_after (suc n) pattern place text e = by (step pattern place) (λ now at k. fine_after n now at text k) e
  where
    later : (b : Bool) (now : List ℕ) (at : ℕ) → (mended_in n now at ≡ Some text → likely_judgement text ≡ Fine)
        → (if b then mended_in n now at else None) ≡ Some text → likely_judgement text ≡ Fine
    later true now at again k = again k
    later false now at again k = absurd cc

    told : (now : List ℕ) (j : Judgement) → ((at : ℕ) → mended_in n now at ≡ Some text → likely_judgement text ≡ Fine)
        → likely_judgement now ≡ j → follow (mended_in n) place now j ≡ Some text → likely_judgement text ≡ Fine
    told now Fine again is k = let same : now ≡ text = cc in subst (λ (t : List ℕ). likely_judgement t ≡ Fine) same is
    told now UnknownPrefix again is k = absurd cc
    told now (Dead at) again is k = later (nat_lt place at) now at (again at) k

    by : (s : Option (List ℕ)) → ((now : List ℕ) (at : ℕ) → mended_in n now at ≡ Some text → likely_judgement text ≡ Fine)
        → option_and_then (λ now. follow (mended_in n) place now (likely_judgement now)) s ≡ Some text → likely_judgement text ≡ Fine
    by None again k = absurd cc
    by (Some now) again k = told now (likely_judgement now) (again now) refl k

fine_by : (j : Judgement) → is_fine j ≡ true → j ≡ Fine
fine_by Fine e = refl
fine_by UnknownPrefix e = cc
fine_by (Dead place) e = cc

fine_moved : (pattern : List ℕ) (start end at : ℕ) (text : List ℕ) → moved_before pattern start end at ≡ Some text → likely_judgement text ≡ Fine
unfolding moved_before
fine_moved pattern start end zero text e = absurd cc
fine_moved pattern start end (suc n) text e =
    by (is_field_after n pattern) (is_fine (likely_judgement (moved pattern (suc n) start end))) refl (fine_moved pattern start end n text) e
  where
    by : (field fine : Bool) → is_fine (likely_judgement (moved pattern (suc n) start end)) ≡ fine → (moved_before pattern start end n ≡ Some text → likely_judgement text ≡ Fine)
        → (if field then (if fine then Some (moved pattern (suc n) start end) else moved_before pattern start end n) else moved_before pattern start end n) ≡ Some text
        → likely_judgement text ≡ Fine
    by true true is later e =
        let same : moved pattern (suc n) start end ≡ text = cc in
        subst (λ (t : List ℕ). likely_judgement t ≡ Fine) same (fine_by (likely_judgement (moved pattern (suc n) start end)) is)
    by true false is later e = later e
    by false fine is later e = later e

fine_ordered : (pattern : List ℕ) (place : ℕ) (text : List ℕ) → ordered pattern place ≡ Some text → likely_judgement text ≡ Fine
fine_ordered pattern place text e = by (begins_field (drop (start_of pattern place) pattern)) e
  where
    by : (b : Bool) → (if b then moved_before pattern (start_of pattern place) (start_of pattern place + position_or_len (is (byte ":")) (drop (start_of pattern place) pattern)) (start_of pattern place - 1) else None) ≡ Some text
        → likely_judgement text ≡ Fine
    by true e = fine_moved pattern (start_of pattern place) _ _ text e
    by false e = absurd cc

pub likely_mends : FormsAreTested → MendsAreLikely
unfolding likely_judgement
likely_mends tested pattern place text e = by (nat_lt 256 (length pattern)) e
  where
    by : (long : Bool) → (if long then None else option_or (mended_in 4 pattern place) (ordered pattern place)) ≡ Some text → CanMatch likely (tokens text)
    by true e = absurd cc
    by false e = likely_if tested text (either (mended_in 4 pattern place) (ordered pattern place) (fine_after 4 pattern place text) (fine_ordered pattern place text) e)
      where
        either : (a b : Option (List ℕ)) → (a ≡ Some text → likely_judgement text ≡ Fine) → (b ≡ Some text → likely_judgement text ≡ Fine) → option_or a b ≡ Some text
            → likely_judgement text ≡ Fine
        either None b f g e = g e
        either (Some now) b f g e = f e

pub mend_rows : MendRows
unfolding all_bytes_from start_of pieces
mend_rows = record {
  capital = refl;
  all_digits = refl;
  small = refl;
  letter = refl;
  blanks = refl;
  underlined = refl;
  kept = refl;
  no_underline = refl;
  colon = refl;
  other = refl;
  end = refl;
  missing = refl;
  in_its_place = refl;
  too_much = refl;
  second_colon = refl;
  in_a_word = refl;
  one_of_two = refl;
  no_rest = refl;
  long = refl;
  is_capital = refl;
  is_small = refl;
  is_letter = refl;
  is_blank = refl;
  is_colon = refl;
  is_underlined = refl;
  is_letter_led = refl;
  is_missing = refl;
  is_replaced = refl;
  is_too_much = refl;
  order = refl;
  start = refl;
  fields = refl;
  no_field = refl;
  reordered = refl;
  written = refl;
  named = refl;
}

pub unmatched_rows : UnmatchedRows
unfolding runs_from all_bytes_from pieces
unmatched_rows = record {
  fine = refl;
  unknown = refl;
  dead = refl;
  begins = refl;
  goes_on = refl;
  hex = refl;
  one = refl;
  three = refl;
  four = refl;
  none = refl;
  long = refl;
  meant = refl;
  other = refl;
  nothing = refl;
  property = refl;
  alike = refl;
  no_bus = refl;
  other_bus = refl;
}

-- ---- names
-- no member comes twice
distinct : List (List ℕ) → Bool
distinct [] = true
distinct (x ∷ xs) = if list_any (same x) xs then false else distinct xs

found_at : (x : List ℕ) (xs : List (List ℕ)) (i : ℕ) → i < length xs → x ≡ get_or xs i [] → list_any (same x) xs ≡ true
found_at x [] i lt is = absurd (omega (arith, lt))
found_at x (y ∷ xs) zero lt is = ap (λ b. b || list_any (same x) xs) (ap (λ (z : List ℕ). same x z) (sym is) ∙ ap is_eq (tied_itself nat_list_cmp_total x))
found_at x (y ∷ xs) (suc i) lt is = or_true (same x y) (list_any (same x) xs) (found_at x xs i (omega (arith, lt)) is)
  where
    or_true : (a b : Bool) → b ≡ true → (a || b) ≡ true
    or_true true b e = refl
    or_true false b e = e

parts : (a b : Bool) → (if a then false else b) ≡ true → (a ≡ false) × (b ≡ true)
parts true b e = absurd cc
parts false b e = (refl, e)

one_place : (xs : List (List ℕ)) (i j : ℕ) → distinct xs ≡ true → i < length xs → j < length xs → get_or xs i [] ≡ get_or xs j [] → i ≡ j
unfolding distinct
one_place [] i j d lt lt2 e = absurd (omega (arith, lt))
one_place (x ∷ xs) zero zero d lt lt2 e = refl
one_place (x ∷ xs) zero (suc j) d lt lt2 e =
    absurd (let no = (parts (list_any (same x) xs) (distinct xs) d).0 in let yes = found_at x xs j (omega (arith, lt2)) e in let both : true ≡ false = sym yes ∙ no in cc)
one_place (x ∷ xs) (suc i) zero d lt lt2 e =
    absurd (let no = (parts (list_any (same x) xs) (distinct xs) d).0 in let yes = found_at x xs i (omega (arith, lt)) (sym e) in let both : true ≡ false = sym yes ∙ no in cc)
one_place (x ∷ xs) (suc i) (suc j) d lt lt2 e = ap suc (one_place xs i j (parts (list_any (same x) xs) (distinct xs) d).1 (omega (arith, lt)) (omega (arith, lt2)) e)

-- all names, that of a fine pattern too
abbrev names : List (List ℕ)
names = kinds ++ [] ∷ []

-- where a kind's name is
abbrev IsAt : WarningKind → Type 0
IsAt kind = (kind_number kind < 26) × (warning_name kind ≡ get_or names (kind_number kind) [])

are_distinct : distinct names ≡ true
unfolding distinct pieces
are_distinct = refl

at : (kind : WarningKind) → IsAt kind
unfolding pieces
at ByteOrderMark = (omega arith, refl)
at LeadingTab = (omega arith, refl)
at CarriageReturn = (omega arith, refl)
at OpenBracket = (omega arith, refl)
at EmptyRange = (omega arith, refl)
at SpacedEquals = (omega arith, refl)
at CutValue = (omega arith, refl)
at RepeatedMatch = (omega arith, refl)
at (Replaced by) = (omega arith, refl)
at (Misused NearName) = (omega arith, refl)
at (Misused OldName) = (omega arith, refl)
at (Misused ScanCode) = (omega arith, refl)
at (Misused UnknownKey) = (omega arith, refl)
at (Misused UnfitValue) = (omega arith, refl)
at (Misused ZeroRow) = (omega arith, refl)
at (Misused SingularMatrix) = (omega arith, refl)
at (Misused TwoDefaults) = (omega arith, refl)
at (Unread true) = (omega arith, refl)
at (Unread false) = (omega arith, refl)
at Unpaired = (omega arith, refl)
at (Unmatched UnknownPrefix) = (omega arith, refl)
at (Unmatched (Dead place)) = (omega arith, refl)
at (Unmatched Fine) = (omega arith, refl)
at (Unlikely told) = (omega arith, refl)
at TooLongForUdev = (omega arith, refl)
at MayBeTooDeep = (omega arith, refl)
at Fragile = (omega arith, refl)

long : length names ≡ 26
unfolding pieces
long = refl

among : (n : ℕ) (name : List ℕ) → n < 26 → name ≡ get_or names n [] → (n ≡ 25) ⊎ Contains kinds name
unfolding pieces
among n name lt is = by (n == 25) refl
  where
    short : length kinds ≡ 25
    short = refl

    in_front : (xs : List (List ℕ)) (i : ℕ) → i < length xs → get_or (xs ++ [] ∷ []) i [] ≡ get_or xs i name
    in_front [] i h = absurd (omega (arith, h))
    in_front (x ∷ xs) zero h = refl
    in_front (x ∷ xs) (suc i) h = in_front xs i (omega (arith, h))

    by : (c : Bool) → (n == 25) ≡ c → (n ≡ 25) ⊎ Contains kinds name
    by true e = inl (eqb-true n 25 e)
    by false e =
        let other : n ≡ 25 → ⊥ = λ k. (let t : (n == 25) ≡ true = ap (λ (m : ℕ). m == 25) k in let both : true ≡ false = sym t ∙ e in cc) in
        let h : n < length kinds = subst (λ (m : ℕ). n < m) (sym short) (omega (arith, lt, other)) in
        inr (n, h, sym (in_front kinds n h) ∙ sym is)

pub too_long_rows : TooLongRows
too_long_rows = record {
  most = refl;
  star = refl;
  question_mark = refl;
  bracket = refl;
  plain = refl;
  property = refl;
  left_out = refl;
  place = refl;
}

pub too_deep_rows : TooDeepRows
too_deep_rows = record {
  most = refl;
  more = refl;
  wild = refl;
  told_once = refl;
  property = refl;
  left_out = refl;
  place = refl;
}

pub fragile_rows : FragileRows
unfolding is_fragile fragile_place outlasting pieces
fragile_rows = record {
  whole = refl;
  date = refl;
  releases = refl;
  any = refl;
  wildcard = refl;
  empty = refl;
  without = refl;
  unfilled = refl;
  before = refl;
  elsewhere = refl;
  places = refl;
  at = refl;
  written = refl;
  colon = refl;
  mended = refl;
}

pub named_kinds : KindsAreNamed
unfolding pieces
named_kinds = record {
  each = λ kind. among (kind_number kind) (warning_name kind) (at kind).0 (at kind).1;
  all = (
    ByteOrderMark ∷ LeadingTab ∷ CarriageReturn ∷ OpenBracket ∷ EmptyRange ∷ SpacedEquals ∷ CutValue ∷ RepeatedMatch ∷ Replaced 0 ∷ Misused NearName ∷ Misused OldName
        ∷ Misused ScanCode ∷ Misused UnknownKey ∷ Misused UnfitValue ∷ Misused ZeroRow ∷ Misused SingularMatrix ∷ Misused TwoDefaults
        ∷ Unread true ∷ Unread false ∷ Unpaired ∷ Unmatched UnknownPrefix ∷ Unmatched (Dead 0) ∷ Unlikely Fine ∷ TooLongForUdev ∷ Fragile ∷ [],
    refl,
  );
  own = λ one two e.
      one_place names (kind_number one) (kind_number two) are_distinct (subst (λ (m : ℕ). kind_number one < m) (sym long) (at one).0)
      (subst (λ (m : ℕ). kind_number two < m) (sym long) (at two).0) (sym (at one).1 ∙ e ∙ (at two).1);
}
