-- A recorded test file, read: its lines, its faults and its records.
use Rattle.std.proofs.Common.{◌≡◌, ◌∙◌, ◌+◌, ◌-◌, ◌≤◌, ◌==◌, ap, sym, refl, subst, ℕ, suc, Bool, true, false, ◌&&◌, not, cond, List, [], ◌∷◌, ◌++◌, length, take, append_assoc, append-nil, arith, eq-eqb, ne_eqb, None, Some, Option, if◌then◌else◌, flat_map, filter}
use Rattle.std.proofs.lemmas.Bool.{and_parts}
use Rattle.std.specs.Option.{option_or}
use Rattle.std.specs.Prelude.{codes, find, option_map}
use Rattle.std.specs.List.{AllByRecursion, onto_first, prefix_len, take_while}
use Rattle.hwdb_spec.specs.Folders.{same}
use Rattle.hwdb_spec.specs.Lemmas.Orders.{same_text}
use Rattle.hwdb_spec.specs.Lemmas.Truth.{or_neither}
use Rattle.hwdb_spec.specs.Lines.{Line, begins_with, clean, clean_line, has, has_equals, has_key, is, is_dropped, is_empty, is_long, is_match, is_none, is_property, is_spoilt, lines, numbered, pieces, trimmed}
use Rattle.hwdb_spec.specs.Records.{Section, all_faults, behind, by_line, fault, fault_cmp, first_section, property_faults, section_faults, sections, sections_from, size, spoilt_faults, with_fault}
use Rattle.hwdb_spec.specs.Tree.{Tree, answers}
use Rattle.hwdb_spec.specs.declared.Fault.{Fault}
use Rattle.hwdb_spec.specs.declared.FaultKind.TheVariants.{EmptyKey, LongMatch, NoEquals, ZeroByte}
use Rattle.std.specs.Ordering.{is_gt}
use Rattle.hwdb_check.specs.Lemmas.Lines.{clean_by}
use Rattle.hwdb_spec_commands.specs.Recorded.{comment_line, ended, first_unsaid, is_one_line, is_plain, is_sayable, lone_line, names_device, property_lines, record_lines, recorded_text, unsaid_among, unsaid_of, unsaid_words, wanting_line, wanting_lines, wants_given}
use Rattle.hwdb_spec_commands.specs.Reports.{text_of_line}
use Rattle.hwdb_spec_commands.specs.Wanted.{GivenValue, Record, counting, is_excused, is_given, malformed, no_record, records, records_from, wants_value}
use Rattle.hwdb_test.proofs.RecordLemmas.{read_by, with_by}

abbrev pub line : ℕ → List ℕ → Line
line n text = record { number = n; text = text }

-- ---- what can be said

refuted : (b : Bool) → not b ≡ true → b ≡ false
refuted true h = cc
refuted false h = refl

-- a text that is read as it is
pub record IsRead (text : List ℕ) : Type 0 where
  pub whole : has 10 text ≡ false
  pub kept : is_dropped (lone_line text) ≡ false
  pub as_is : (clean_line (lone_line text)).text ≡ text

is_read : (text : List ℕ) → is_plain (lone_line text) ≡ true → IsRead text
is_read text h =
    let a = and_parts (is_one_line text) (not (is_dropped (lone_line text)) && same (clean_line (lone_line text)).text text) h in
    let b = and_parts (not (is_dropped (lone_line text))) (same (clean_line (lone_line text)).text text) a.1 in
    record { whole = refuted (has 10 text) a.0; kept = refuted (is_dropped (lone_line text)) b.0; as_is = same_text (clean_line (lone_line text)).text text b.1 }

-- a device that is named
pub record IsNamed (device : List ℕ) : Type 0 where
  pub read : IsRead device
  pub match : is_match (lone_line device) ≡ true
  pub short : is_long (lone_line device) ≡ false

is_named : (device : List ℕ) → names_device (lone_line device) ≡ true → IsNamed device
is_named device h =
    let l = lone_line device in
    let a = and_parts (is_plain l) (is_match l && not (is_long l)) h in
    let b = and_parts (is_match l) (not (is_long l)) a.1 in
    record { read = is_read device a.0; match = b.0; short = refuted (is_long l) b.1 }

-- a property that is said
pub record IsSaid (g : GivenValue) : Type 0 where
  pub comment : has 10 (comment_line g) ≡ false
  pub read : IsRead (wanting_line g)
  pub wants : wants_value (lone_line (wanting_line g)) ≡ true
  pub given : is_given (lone_line (wanting_line g)) (g.key, g.value) ≡ true

is_said : (g : GivenValue) → is_sayable g ≡ true → IsSaid g
is_said g h =
    let l = lone_line (wanting_line g) in
    let a = and_parts (is_one_line (comment_line g)) (wants_given g l) h in
    let b = and_parts (is_plain l) (wants_value l && is_given l (g.key, g.value)) a.1 in
    let c = and_parts (wants_value l) (is_given l (g.key, g.value)) b.1 in
    record { comment = refuted (has 10 (comment_line g)) a.0; read = is_read (wanting_line g) b.0; wants = c.0; given = c.1 }

-- what is unsaid first, by the first of some properties
first_by : (device : List ℕ) (g : GivenValue) (more : List GivenValue) (b : Bool) → is_sayable g ≡ b
    → first_unsaid device (g ∷ more) ≡ option_map (unsaid_words device) (cond (not b) (Some g) (find (λ g. not (is_sayable g)) more))
first_by device g more b e = ap (λ (c : Bool). option_map (unsaid_words device) (cond (not c) (Some g) (find (λ g. not (is_sayable g)) more))) e

all_said : (device : List ℕ) (given : List GivenValue) → first_unsaid device given ≡ None → AllByRecursion IsSaid given
all_said device [] h = tt
all_said device (g ∷ more) h = by (λ k. all_said device more k) (is_sayable g) refl
  where
    by : (first_unsaid device more ≡ None → AllByRecursion IsSaid more) → (b : Bool) → is_sayable g ≡ b → AllByRecursion IsSaid (g ∷ more)
    by rest true e = (is_said g e, rest (sym (first_by device g more true e) ∙ h))
    by rest false e = let n : None ≡ Some (unsaid_words device g) = sym h ∙ first_by device g more false e in cc

-- a device whose record says it
pub record IsSayable (t : Tree) (device : List ℕ) : Type 0 where
  pub named : IsNamed device
  pub said : AllByRecursion IsSaid (counting (answers device t))

named_by : (b : Bool) (x : Option (List ℕ)) (w : List ℕ) → (if b then x else Some w) ≡ None → (b ≡ true) × (x ≡ None)
named_by true x w h = (refl, h)
named_by false x w h = cc

both_none : (a b : Option (List ℕ)) → option_or a b ≡ None → (a ≡ None) × (b ≡ None)
both_none None b h = (refl, h)
both_none (Some x) b h = cc

abbrev pub AreSayable : Tree → List (List ℕ) → Type 0
AreSayable t devices = AllByRecursion (IsSayable t) devices

pub are_sayable : (t : Tree) (devices : List (List ℕ)) → unsaid_among t devices ≡ None → AreSayable t devices
are_sayable t [] h = tt
are_sayable t (device ∷ more) h =
    let a = both_none (unsaid_of t device) (unsaid_among t more) h in
    let b = named_by (names_device (lone_line device)) (first_unsaid device (counting (answers device t))) _ a.0 in
    (record { named = is_named device b.0; said = all_said device (counting (answers device t)) b.1 }, are_sayable t more a.1)

-- ---- its lines

cut_text : (xs ys : List ℕ) → has 10 xs ≡ false → pieces (is 10) (xs ++ 10 ∷ ys) ≡ xs ∷ pieces (is 10) ys
unfolding pieces
cut_text [] ys h = refl
cut_text (x ∷ xs) ys h = let n = or_neither (x == 10) (has 10 xs) h in rw n.0 (ap (onto_first x) (cut_text xs ys n.1))

abbrev AreWhole : List (List ℕ) → Type 0
AreWhole texts = AllByRecursion (λ (p : List ℕ). has 10 p ≡ false) texts

cut_ended : (texts : List (List ℕ)) → AreWhole texts → pieces (is 10) (flat_map ended texts) ≡ texts
unfolding pieces
cut_ended [] h = refl
cut_ended (p ∷ more) h =
    ap (pieces (is 10)) (append_assoc p (10 ∷ []) (flat_map ended more)) ∙ cut_text p (flat_map ended more) h.0 ∙ ap (λ (l : List (List ℕ)). p ∷ l) (cut_ended more h.1)

whole_behind : (xs ys : List (List ℕ)) → AreWhole xs → AreWhole ys → AreWhole (xs ++ ys)
whole_behind [] ys h k = k
whole_behind (x ∷ xs) ys h k = (h.0, whole_behind xs ys h.1 k)

whole_properties : (given : List GivenValue) → AllByRecursion IsSaid given → AreWhole (flat_map property_lines given)
whole_properties [] h = tt
whole_properties (g ∷ more) h = (h.0.comment, (h.0.read.whole, whole_properties more h.1))

whole_wanting : (given : List GivenValue) → AllByRecursion IsSaid given → AreWhole (wanting_lines given)
whole_wanting [] h = (refl, tt)
whole_wanting (g ∷ more) h = whole_properties (g ∷ more) h

whole_records : (t : Tree) (devices : List (List ℕ)) → AreSayable t devices → AreWhole (flat_map (record_lines t) devices)
whole_records t [] h = tt
whole_records t (device ∷ more) h =
    let given = counting (answers device t) in
    (h.0.named.read.whole, whole_behind (wanting_lines given ++ [] ∷ []) (flat_map (record_lines t) more) (whole_behind (wanting_lines given) ([] ∷ []) (whole_wanting given h.0.said) (refl, tt)) (whole_records t more h.1))

-- the lines of the text are those of its records
recorded_lines : (t : Tree) (devices : List (List ℕ)) → AreSayable t devices → lines (recorded_text t devices) ≡ numbered 1 (flat_map (record_lines t) devices)
recorded_lines t devices h = ap (numbered 1) (cut_ended (flat_map (record_lines t) devices) (whole_records t devices h))

-- ---- its clean lines

-- those that want properties, and the number after them
abbrev pub wants_from : (k : ℕ) → List GivenValue → List Line
wants_from k [] = []
wants_from k (g ∷ more) = line (k + 1) (wanting_line g) ∷ wants_from (k + 1 + 1) more

abbrev after_properties : (k : ℕ) → List GivenValue → ℕ
after_properties k [] = k
after_properties k (g ∷ more) = after_properties (k + 1 + 1) more

-- those that want what a device has, and the number after them
abbrev pub body : (k : ℕ) → List GivenValue → List Line
body k [] = line k (codes " =") ∷ []
body k (g ∷ more) = wants_from k (g ∷ more)

abbrev pub after_body : (k : ℕ) → List GivenValue → ℕ
after_body k [] = k + 1
after_body k (g ∷ more) = after_properties k (g ∷ more)

abbrev pub given_to : Tree → List ℕ → List GivenValue
given_to t device = counting (answers device t)

-- those of some devices
abbrev lines_from : Tree → (k : ℕ) → List (List ℕ) → List Line
lines_from t k [] = []
lines_from t k (device ∷ more) =
    let m = after_body (k + 1) (given_to t device) in
    line k device ∷ (body (k + 1) (given_to t device) ++ line m [] ∷ lines_from t (m + 1) more)

clean_kept : (n : ℕ) (text : List ℕ) (more : List Line) → IsRead text → clean (line n text ∷ more) ≡ line n text ∷ clean more
clean_kept n text more h = clean_by false (line n text) more h.kept ∙ ap (λ (s : List ℕ). line n s ∷ clean more) h.as_is

clean_properties : (k : ℕ) (given : List GivenValue) (rest : List (List ℕ)) → AllByRecursion IsSaid given
    → clean (numbered k (flat_map property_lines given ++ rest)) ≡ wants_from k given ++ clean (numbered (after_properties k given) rest)
unfolding numbered
clean_properties k [] rest h = refl
clean_properties k (g ∷ more) rest h =
    clean_kept (k + 1) (wanting_line g) (numbered (k + 1 + 1) (flat_map property_lines more ++ rest)) h.0.read
    ∙ ap (λ (l : List Line). line (k + 1) (wanting_line g) ∷ l) (clean_properties (k + 1 + 1) more rest h.1)

nothing_read : IsRead (codes " =")
unfolding trimmed
nothing_read = record { whole = refl; kept = refl; as_is = refl }

clean_body : (k : ℕ) (given : List GivenValue) (rest : List (List ℕ)) → AllByRecursion IsSaid given
    → clean (numbered k (wanting_lines given ++ rest)) ≡ body k given ++ clean (numbered (after_body k given) rest)
unfolding numbered
clean_body k [] rest h = clean_kept k (codes " =") (numbered (k + 1) rest) nothing_read
clean_body k (g ∷ more) rest h = clean_properties k (g ∷ more) rest h

clean_end : (k : ℕ) (rest : List (List ℕ)) → clean (numbered k ([] ∷ rest)) ≡ line k [] ∷ clean (numbered (k + 1) rest)
unfolding numbered trimmed
clean_end k rest = refl

clean_records : (t : Tree) (k : ℕ) (devices : List (List ℕ)) → AreSayable t devices → clean (numbered k (flat_map (record_lines t) devices)) ≡ lines_from t k devices
unfolding numbered
clean_records t k [] h = refl
clean_records t k (device ∷ more) h =
    let given = given_to t device in
    let rest = flat_map (record_lines t) more in
    let m = after_body (k + 1) given in
    clean_kept k device (numbered (k + 1) ((wanting_lines given ++ [] ∷ []) ++ rest)) h.0.named.read
    ∙ ap (λ (ls : List Line). line k device ∷ ls)
    (ap (λ (ps : List (List ℕ)). clean (numbered (k + 1) ps)) (append_assoc (wanting_lines given) ([] ∷ []) rest)
    ∙ clean_body (k + 1) given ([] ∷ rest) h.0.said
    ∙ ap (λ (ls : List Line). body (k + 1) given ++ ls) (clean_end m rest ∙ ap (λ (ls : List Line). line m [] ∷ ls) (clean_records t (m + 1) more h.1)))

-- ---- no line has a byte 0

not_spoilt : (c z : Bool) → (if c then true else z) ≡ false → (if c then false else z) ≡ false
not_spoilt true z h = cc
not_spoilt false z h = h

spoilt_by : (b : Bool) (l : Line) (more : List Line) → is_spoilt l ≡ b → spoilt_faults (l ∷ more) ≡ cond b (fault ZeroByte l ∷ spoilt_faults more) (spoilt_faults more)
spoilt_by b l more e = ap (λ (c : Bool). cond c (fault ZeroByte l ∷ spoilt_faults more) (spoilt_faults more)) e

unspoilt : (n : ℕ) (text : List ℕ) (more : List Line) → IsRead text → spoilt_faults (line n text ∷ more) ≡ spoilt_faults more
unspoilt n text more h = spoilt_by false (line n text) more (not_spoilt (begins_with 35 text) (has 0 text) h.kept)

unspoilt_properties : (k : ℕ) (given : List GivenValue) (rest : List (List ℕ)) → AllByRecursion IsSaid given
    → spoilt_faults (numbered k (flat_map property_lines given ++ rest)) ≡ spoilt_faults (numbered (after_properties k given) rest)
unfolding numbered
unspoilt_properties k [] rest h = refl
unspoilt_properties k (g ∷ more) rest h =
    unspoilt (k + 1) (wanting_line g) (numbered (k + 1 + 1) (flat_map property_lines more ++ rest)) h.0.read ∙ unspoilt_properties (k + 1 + 1) more rest h.1

unspoilt_body : (k : ℕ) (given : List GivenValue) (rest : List (List ℕ)) → AllByRecursion IsSaid given
    → spoilt_faults (numbered k (wanting_lines given ++ rest)) ≡ spoilt_faults (numbered (after_body k given) rest)
unfolding numbered
unspoilt_body k [] rest h = refl
unspoilt_body k (g ∷ more) rest h = unspoilt_properties k (g ∷ more) rest h

unspoilt_end : (k : ℕ) (rest : List (List ℕ)) → spoilt_faults (numbered k ([] ∷ rest)) ≡ spoilt_faults (numbered (k + 1) rest)
unfolding numbered
unspoilt_end k rest = refl

unspoilt_records : (t : Tree) (k : ℕ) (devices : List (List ℕ)) → AreSayable t devices → spoilt_faults (numbered k (flat_map (record_lines t) devices)) ≡ []
unfolding numbered
unspoilt_records t k [] h = refl
unspoilt_records t k (device ∷ more) h =
    let given = given_to t device in
    let rest = flat_map (record_lines t) more in
    let m = after_body (k + 1) given in
    unspoilt k device (numbered (k + 1) ((wanting_lines given ++ [] ∷ []) ++ rest)) h.0.named.read
    ∙ ap (λ (ps : List (List ℕ)). spoilt_faults (numbered (k + 1) ps)) (append_assoc (wanting_lines given) ([] ∷ []) rest)
    ∙ unspoilt_body (k + 1) given ([] ∷ rest) h.0.said ∙ unspoilt_end m rest ∙ unspoilt_records t (m + 1) more h.1

-- ---- its sections

module _ (cuts : Line → Bool) where
  cut_lines : (xs : List Line) (e : Line) (ys : List Line) → AllByRecursion (λ (l : Line). cuts l ≡ false) xs → cuts e ≡ true
      → pieces cuts (xs ++ e ∷ ys) ≡ xs ∷ pieces cuts ys
  unfolding pieces
  cut_lines [] e ys none is = rw is refl
  cut_lines (x ∷ xs) e ys none is = rw none.0 (ap (onto_first x) (cut_lines xs e ys none.1 is))

one_more : (n : ℕ) (l : Line) (more : List Line) → take (1 + n) (l ∷ more) ≡ l ∷ take n more
one_more n l more = let e : 1 + n ≡ suc n = omega arith in ap (λ (k : ℕ). take k (l ∷ more)) e

run_cons : (test : Line → Bool) (l : Line) (more : List Line) → take_while test (l ∷ more) ≡ cond (test l) (l ∷ take_while test more) []
run_cons test l more =
    elim (test l) as (λ b. take (cond b (1 + prefix_len test more) 0) (l ∷ more) ≡ cond b (l ∷ take (prefix_len test more) more) []) [
      | true ↦ one_more (prefix_len test more) l more
      | false ↦ refl
    ]

behind_by : (test : Line → Bool) (l : Line) (more : List Line) (b : Bool) → test l ≡ b → behind test (l ∷ more) ≡ cond b (behind test more) (l ∷ more)
unfolding behind
behind_by test l more b e = ap (λ (c : Bool). cond c (behind test more) (l ∷ more)) e

run_by : (test : Line → Bool) (l : Line) (more : List Line) (b : Bool) → test l ≡ b → take_while test (l ∷ more) ≡ cond b (l ∷ take_while test more) []
run_by test l more b e = run_cons test l more ∙ ap (λ (c : Bool). cond c (l ∷ take_while test more) []) e

abbrev AreProperties : List Line → Type 0
AreProperties ls = AllByRecursion (λ (l : Line). is_property l ≡ true) ls

run_all : (ls : List Line) → AreProperties ls → take_while is_property ls ≡ ls
run_all [] h = refl
run_all (l ∷ more) h = run_by is_property l more true h.0 ∙ ap (λ (m : List Line). l ∷ m) (run_all more h.1)

behind_all : (ls : List Line) → AreProperties ls → behind is_property ls ≡ []
unfolding behind
behind_all [] h = refl
behind_all (l ∷ more) h = behind_by is_property l more true h.0 ∙ behind_all more h.1

unmatched_by : (e p : Bool) → p ≡ true → (if e then false else not p) ≡ false
unmatched_by true p h = refl
unmatched_by false p h = ap not h

matched_by : (e p : Bool) → (if e then false else not p) ≡ true → p ≡ false
matched_by true p h = cc
matched_by false true h = cc
matched_by false false h = refl

some_by : (e p : Bool) → (if e then false else not p) ≡ true → e ≡ false
some_by true p h = cc
some_by false p h = refl

some_property : (l : Line) → is_property l ≡ true → is_empty l ≡ false
some_property l h = go l.text h
  where
    go : (text : List ℕ) → begins_with 32 text ≡ true → is_none text ≡ false
    go [] h = cc
    go (b ∷ more) h = refl

skip_all : (ls : List Line) → sections_from (length ls) ls ≡ []
unfolding sections_from
skip_all [] = refl
skip_all (l ∷ more) = skip_all more

module _ (l p : Line) (more : List Line) (match : is_match l ≡ true) (all : AreProperties (p ∷ more)) where
  abbrev own_section : Section
  own_section = record { leading = []; matches = l ∷ []; properties = p ∷ more; stray = [] }

  unlike : is_property l ≡ false
  unlike = matched_by (is_empty l) (is_property l) match

  unmatched : is_match p ≡ false
  unmatched = unmatched_by (is_empty p) (is_property p) all.0

  first_is : first_section (l ∷ p ∷ more) ≡ own_section
  unfolding first_section
  first_is =
      let from_match : behind is_property (l ∷ p ∷ more) ≡ l ∷ p ∷ more = behind_by is_property l (p ∷ more) false unlike in
      let from_property : behind is_match (l ∷ p ∷ more) ≡ p ∷ more = behind_by is_match l (p ∷ more) true match ∙ behind_by is_match p more false unmatched in
      let next : behind is_match (behind is_property (l ∷ p ∷ more)) ≡ p ∷ more = ap (behind is_match) from_match ∙ from_property in
      λ i. record {
        leading = run_by is_property l (p ∷ more) false unlike i;
        matches = (ap (take_while is_match) from_match ∙ run_by is_match l (p ∷ more) true match ∙ ap (λ (m : List Line). l ∷ m) (run_by is_match p more false unmatched)) i;
        properties = (ap (take_while is_property) next ∙ run_all (p ∷ more) all) i;
        stray = (ap (λ (ls : List Line). take 1 (behind is_property ls)) next ∙ ap (take 1) (behind_all (p ∷ more) all)) i;
      }

  sections_are : sections_from 0 (l ∷ p ∷ more) ≡ own_section ∷ []
  unfolding sections_from
  sections_are =
      let n = length (p ∷ more) in
      let e : (0 + 1 + n + 0) - 1 ≡ n = omega arith in
      ap (λ (s : Section). s ∷ sections_from (size s - 1) (p ∷ more)) first_is
      ∙ ap (λ (k : ℕ). own_section ∷ sections_from k (p ∷ more)) e
      ∙ ap (λ (ss : List Section). own_section ∷ ss) (skip_all (p ∷ more))

  own_faults : is_long l ≡ false → section_faults own_section ≡ flat_map property_faults (p ∷ more)
  own_faults short =
      let rest = flat_map property_faults (p ∷ more) in
      ap (λ (b : Bool). ((if b then fault LongMatch l ∷ [] else []) ++ []) ++ (rest ++ [])) short ∙ append-nil rest

-- ---- its faults

abbrev fault_at : ℕ → Fault
fault_at k = record { line = k; kind = EmptyKey }

-- those of the lines of a device, and of some devices: ` =` has no key
abbrev faults_of : (k : ℕ) → List GivenValue → List Fault
faults_of k [] = fault_at k ∷ []
faults_of k (g ∷ more) = []

abbrev faults_from : Tree → (k : ℕ) → List (List ℕ) → List Fault
faults_from t k [] = []
faults_from t k (device ∷ more) = faults_of (k + 1) (given_to t device) ++ faults_from t (after_body (k + 1) (given_to t device) + 1) more

wanting_faultless : (a b : Bool) (x y : List Fault) → (if a then b else false) ≡ true → (if a then (if b then [] else x) else y) ≡ []
wanting_faultless true true x y h = refl
wanting_faultless true false x y h = cc
wanting_faultless false b x y h = cc

properties_faultless : (k : ℕ) (given : List GivenValue) → AllByRecursion IsSaid given → flat_map property_faults (wants_from k given) ≡ []
properties_faultless k [] h = refl
properties_faultless k (g ∷ more) h =
    let l = line (k + 1) (wanting_line g) in
    ap (λ (fs : List Fault). fs ++ flat_map property_faults (wants_from (k + 1 + 1) more)) (wanting_faultless (has_equals l) (has_key l) (fault EmptyKey l ∷ []) (fault NoEquals l ∷ []) h.0.wants)
    ∙ properties_faultless (k + 1 + 1) more h.1

body_faults : (k : ℕ) (given : List GivenValue) → AllByRecursion IsSaid given → flat_map property_faults (body k given) ≡ faults_of k given
body_faults k [] h = refl
body_faults k (g ∷ more) h = properties_faultless k (g ∷ more) h

properties_are : (k : ℕ) (given : List GivenValue) → AreProperties (wants_from k given)
properties_are k [] = tt
properties_are k (g ∷ more) = (refl, properties_are (k + 1 + 1) more)

body_is : (k : ℕ) (given : List GivenValue) → AreProperties (body k given)
body_is k [] = (refl, tt)
body_is k (g ∷ more) = properties_are k (g ∷ more)

none_empty : (ls : List Line) → AreProperties ls → AllByRecursion (λ (l : Line). is_empty l ≡ false) ls
none_empty [] h = tt
none_empty (l ∷ more) h = (some_property l h.0, none_empty more h.1)

pub flat_append : {X Y : Type 0} (f : X → List Y) (xs ys : List X) → flat_map f (xs ++ ys) ≡ flat_map f xs ++ flat_map f ys
flat_append f [] ys = refl
flat_append f (x ∷ xs) ys = ap (λ l. f x ++ l) (flat_append f xs ys) ∙ sym (append_assoc (f x) (flat_map f xs) (flat_map f ys))

some_body : (k : ℕ) (given : List GivenValue) → body k given ≡ [] → ⊥
some_body k [] e = cc
some_body k (g ∷ more) e = cc

-- the faults of a section of a line and a body
section_of_body : (k : ℕ) (device : List ℕ) (given : List GivenValue) → IsNamed device → AllByRecursion IsSaid given
    → flat_map section_faults (sections_from 0 (line k device ∷ body (k + 1) given)) ≡ faults_of (k + 1) given
section_of_body k device given n h = go (body (k + 1) given) refl (body_is (k + 1) given)
  where
    go : (ls : List Line) → body (k + 1) given ≡ ls → AreProperties ls → flat_map section_faults (sections_from 0 (line k device ∷ body (k + 1) given)) ≡ faults_of (k + 1) given
    go [] is all = absurd (some_body (k + 1) given is)
    go (p ∷ more) is all =
        ap (λ (ls : List Line). flat_map section_faults (sections_from 0 (line k device ∷ ls))) is
        ∙ ap (flat_map section_faults) (sections_are (line k device) p more n.match all)
        ∙ append-nil (section_faults (own_section (line k device) p more n.match all))
        ∙ own_faults (line k device) p more n.match all n.short
        ∙ ap (flat_map property_faults) (sym is)
        ∙ body_faults (k + 1) given h

record_faults : (t : Tree) (k : ℕ) (devices : List (List ℕ)) → AreSayable t devices → flat_map section_faults (sections (lines_from t k devices)) ≡ faults_from t k devices
unfolding pieces
record_faults t k [] h = refl
record_faults t k (device ∷ more) h =
    let given = given_to t device in
    let m = after_body (k + 1) given in
    let block = line k device ∷ body (k + 1) given in
    let rest = lines_from t (m + 1) more in
    ap (λ (ps : List (List Line)). flat_map section_faults (flat_map (sections_from 0) ps))
    (cut_lines is_empty block (line m []) rest (some_by (is_none device) (begins_with 32 device) h.0.named.match, none_empty (body (k + 1) given) (body_is (k + 1) given)) refl)
    ∙ flat_append section_faults (sections_from 0 block) (sections rest)
    ∙ ap (λ (fs : List Fault). fs ++ flat_map section_faults (sections rest)) (section_of_body k device given h.0.named h.0.said)
    ∙ ap (λ (fs : List Fault). faults_of (k + 1) given ++ fs) (record_faults t (m + 1) more h.1)

-- all faults of the text
text_faults : (t : Tree) (devices : List (List ℕ)) → AreSayable t devices → all_faults (recorded_text t devices) ≡ faults_from t 1 devices
text_faults t devices h =
    let ls = recorded_lines t devices h in
    ap (λ (l : List Line). spoilt_faults l ++ flat_map section_faults (sections (clean l))) ls
    ∙ ap (λ (fs : List Fault). fs ++ flat_map section_faults (sections (clean (numbered 1 (flat_map (record_lines t) devices))))) (unspoilt_records t 1 devices h)
    ∙ ap (λ (l : List Line). flat_map section_faults (sections l)) (clean_records t 1 devices h)
    ∙ record_faults t 1 devices h

-- ---- all of them are excused

-- a number from `k` on is looked up among all lines as it is among the rest
abbrev Finds : (all : List Line) (k : ℕ) (rest : List (List ℕ)) → Type 0
Finds all k rest = (n : ℕ) → k ≤ n → text_of_line all n ≡ text_of_line (numbered k rest) n

next_found : (all : List Line) (k : ℕ) (x : List ℕ) (rest : List (List ℕ)) → Finds all k (x ∷ rest) → Finds all (k + 1) rest
unfolding numbered
next_found all k x rest finds n le =
    finds n (omega (arith, le)) ∙ ap (λ (b : Bool). if b then x else text_of_line (numbered (k + 1) rest) n) (ne_eqb k n (omega (arith, le)))

this_found : (all : List Line) (k : ℕ) (x : List ℕ) (rest : List (List ℕ)) → Finds all k (x ∷ rest) → text_of_line all k ≡ x
unfolding numbered
this_found all k x rest finds =
    finds k (omega arith) ∙ ap (λ (b : Bool). if b then x else text_of_line (numbered (k + 1) rest) k) (eq-eqb k k refl)

properties_found : (all : List Line) (k : ℕ) (given : List GivenValue) (rest : List (List ℕ)) → Finds all k (flat_map property_lines given ++ rest) → Finds all (after_properties k given) rest
properties_found all k [] rest finds = finds
properties_found all k (g ∷ more) rest finds =
    properties_found all (k + 1 + 1) more rest
    (next_found all (k + 1) (wanting_line g) (flat_map property_lines more ++ rest) (next_found all k (comment_line g) (wanting_line g ∷ (flat_map property_lines more ++ rest)) finds))

body_found : (all : List Line) (k : ℕ) (given : List GivenValue) (rest : List (List ℕ)) → Finds all k (wanting_lines given ++ rest) → Finds all (after_body k given) rest
body_found all k [] rest finds = next_found all k (codes " =") rest finds
body_found all k (g ∷ more) rest finds = properties_found all k (g ∷ more) rest finds

abbrev AreExcused : List Line → List Fault → Type 0
AreExcused all fs = AllByRecursion (λ (f : Fault). is_excused f (text_of_line all f.line) ≡ true) fs

excused_at : (k : ℕ) (text : List ℕ) → text ≡ codes " =" → is_excused (fault_at k) text ≡ true
unfolding trimmed
excused_at k text is = ap (is_excused (fault_at k)) is

excused_of : (all : List Line) (k : ℕ) (given : List GivenValue) (rest : List (List ℕ)) → Finds all k (wanting_lines given ++ rest) → AreExcused all (faults_of k given)
excused_of all k [] rest finds = (excused_at k (text_of_line all k) (this_found all k (codes " =") rest finds), tt)
excused_of all k (g ∷ more) rest finds = tt

excused_behind : (all : List Line) (fs gs : List Fault) → AreExcused all fs → AreExcused all gs → AreExcused all (fs ++ gs)
excused_behind all [] gs h k = k
excused_behind all (f ∷ fs) gs h k = (h.0, excused_behind all fs gs h.1 k)

excused_from : (all : List Line) (t : Tree) (k : ℕ) (devices : List (List ℕ)) → Finds all k (flat_map (record_lines t) devices) → AreExcused all (faults_from t k devices)
excused_from all t k [] finds = tt
excused_from all t k (device ∷ more) finds =
    let given = given_to t device in
    let rest = flat_map (record_lines t) more in
    let m = after_body (k + 1) given in
    let own : Finds all (k + 1) (wanting_lines given ++ [] ∷ rest) =
    subst (Finds all (k + 1)) (append_assoc (wanting_lines given) ([] ∷ []) rest) (next_found all k device ((wanting_lines given ++ [] ∷ []) ++ rest) finds) in
    excused_behind all (faults_of (k + 1) given) (faults_from t (m + 1) more) (excused_of all (k + 1) given ([] ∷ rest) own)
    (excused_from all t (m + 1) more (next_found all m [] rest (body_found all (k + 1) given ([] ∷ rest) own)))

excused_with : (all : List Line) (f : Fault) (fs : List Fault) → is_excused f (text_of_line all f.line) ≡ true → AreExcused all fs → AreExcused all (with_fault f fs)
excused_with all f [] e h = (e, tt)
excused_with all f (g ∷ more) e h = go (excused_with all f more e h.1) (is_gt (fault_cmp f g))
  where
    go : AreExcused all (with_fault f more) → (b : Bool) → AreExcused all (if b then g ∷ with_fault f more else f ∷ (g ∷ more))
    go rest true = (h.0, rest)
    go rest false = (e, h)

excused_by_line : (all : List Line) (fs : List Fault) → AreExcused all fs → AreExcused all (by_line fs)
excused_by_line all [] h = tt
excused_by_line all (f ∷ more) h = excused_with all f (by_line more) h.0 (excused_by_line all more h.1)

none_left : (all : List Line) (fs : List Fault) → AreExcused all fs → filter (λ (f : Fault). not (is_excused f (text_of_line all f.line))) fs ≡ []
none_left all [] h = refl
none_left all (f ∷ more) h =
    let rest = filter (λ (f : Fault). not (is_excused f (text_of_line all f.line))) more in
    ap (λ (b : Bool). cond (not b) (f ∷ rest) rest) h.0 ∙ none_left all more h.1

-- no line of the text is malformed
pub none_malformed : (t : Tree) (devices : List (List ℕ)) → AreSayable t devices → malformed (recorded_text t devices) ≡ []
none_malformed t devices h =
    let all = lines (recorded_text t devices) in
    let finds : Finds all 1 (flat_map (record_lines t) devices) = λ n le. ap (λ (ls : List Line). text_of_line ls n) (recorded_lines t devices h) in
    ap (λ (fs : List Fault). filter (λ (f : Fault). not (is_excused f (text_of_line all f.line))) (by_line fs)) (text_faults t devices h)
    ∙ none_left all (by_line (faults_from t 1 devices)) (excused_by_line all (faults_from t 1 devices) (excused_from all t 1 devices finds))

-- ---- its records

-- those of some devices, and one without lines after them
abbrev pub records_of : Tree → (k : ℕ) → List (List ℕ) → List Record
records_of t k [] = no_record ∷ []
records_of t k (device ∷ more) =
    record { devices = device ∷ []; lines = body (k + 1) (given_to t device) } ∷ records_of t (after_body (k + 1) (given_to t device) + 1) more

take_properties : (devices : List (List ℕ)) (before ls rest : List Line) → AreProperties ls
    → records_from (record { devices = devices; lines = before }) (ls ++ rest) ≡ records_from (record { devices = devices; lines = before ++ ls }) rest
take_properties devices before [] rest h = ap (λ (ls : List Line). records_from (record { devices = devices; lines = ls }) rest) (sym (append-nil before))
take_properties devices before (l ∷ more) rest h =
    let r : Record = record { devices = devices; lines = before } in
    read_by false r l (more ++ rest) (some_property l h.0)
    ∙ ap (λ (x : Record). records_from x (more ++ rest)) (with_by true r l h.0)
    ∙ take_properties devices (before ++ l ∷ []) more rest h.1
    ∙ ap (λ (ls : List Line). records_from (record { devices = devices; lines = ls }) rest) (append_assoc before (l ∷ []) more)

read_records : (t : Tree) (k : ℕ) (devices : List (List ℕ)) → AreSayable t devices → records_from no_record (lines_from t k devices) ≡ records_of t k devices
unfolding records_from
read_records t k [] h = refl
read_records t k (device ∷ more) h =
    let given = given_to t device in
    let m = after_body (k + 1) given in
    let own = body (k + 1) given in
    let rest = lines_from t (m + 1) more in
    let l = line k device in
    let n = h.0.named.match in
    read_by false no_record l (own ++ line m [] ∷ rest) (some_by (is_none device) (begins_with 32 device) n)
    ∙ ap (λ (x : Record). records_from x (own ++ line m [] ∷ rest)) (with_by false no_record l (matched_by (is_none device) (begins_with 32 device) n))
    ∙ take_properties (device ∷ []) [] own (line m [] ∷ rest) (body_is (k + 1) given)
    ∙ ap (λ (rs : List Record). record { devices = device ∷ []; lines = own } ∷ rs) (read_records t (m + 1) more h.1)

-- what is read of the text
pub recorded_records : (t : Tree) (devices : List (List ℕ)) → AreSayable t devices → records (recorded_text t devices) ≡ records_of t 1 devices
recorded_records t devices h =
    ap (λ (ls : List Line). records_from no_record (clean ls)) (recorded_lines t devices h)
    ∙ ap (records_from no_record) (clean_records t 1 devices h)
    ∙ read_records t 1 devices h
