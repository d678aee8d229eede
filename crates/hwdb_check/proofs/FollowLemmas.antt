-- The faults of a file, as its lines are read one after another.
use Rattle.std.proofs.Common.{add-one, append-nil, append_assoc, ◌≡◌, ℕ, ◌+◌, ◌<◌, ◌≤◌, ◌==◌, Bool, true, false, nat_lt, List, [], ◌∷◌, ◌++◌, map, drop, get_or, length, refl, ap, ◌∙◌, sym, subst, arith, ne_eqb, eq-eqb, eqb-true, not, cond}
use Rattle.std.specs.Prelude.{filter, flat_map}
use Rattle.std.specs.List.{AllByRecursion}
use Rattle.std.specs.List.Sorted.{IsStrictlySortedBy}
use Rattle.std.specs.Ordering.{nat_cmp, ordering_then}
use Rattle.std.specs.declared.cmp.Ordering.{Ordering}
use Rattle.std.specs.declared.cmp.Ordering.TheVariants.{Less, Equal, Greater}
use Rattle.std.proofs.lemmas.Bool.{eqb-false, ltb-true}
use Rattle.std.proofs.lemmas.List.{drop_all}
use Rattle.std.proofs.Math.Seq.{drop-cons}
use Rattle.hwdb_spec.specs.Lines.{Line, clean, clean_line, has_equals, has_key, is, is_dropped, is_empty, is_long, is_spoilt, lines, numbered, pieces}
use Rattle.hwdb_spec.specs.Records.{Section, all_faults, by_line, fault, fault_cmp, fault_number, faults, lonely_faults, long_faults, property_faults, section_faults, sections, spoilt_faults, with_fault}
use Rattle.hwdb_spec.specs.declared.Fault.{Fault}
use Rattle.hwdb_spec.specs.declared.FaultKind.{FaultKind}
use Rattle.hwdb_spec.specs.declared.FaultKind.TheVariants.{EmptyKey, LongMatch, NoEquals, StrayMatch, StrayProperty, ZeroByte}
use Rattle.std.specs.Ordering.{is_gt}
use Rattle.hwdb_spec_commands.specs.Findings.{Finding, bare_findings, faults_at, found_warnings, one_fault}
use Rattle.hwdb_spec_commands.specs.declared.formats.Format.{Format}
use Rattle.hwdb_text.specs.Laws.{FaultsAscend, SectionsAreTheLines, lines_of}
use Rattle.hwdb_check.specs.Following.{AreFrom, IsNext}
use Rattle.hwdb_check.specs.Internal.{line_of}
use Rattle.hwdb_check.specs.Plain.{plain_findings}

-- whether a fault is of the line with this number
abbrev of_line : ℕ → Fault → Bool
of_line n f = is n f.line

-- ---- the faults of a line

kept_front : (n : ℕ) (f : Fault) (more : List Fault) → f.line ≡ n → filter (of_line n) (f ∷ more) ≡ f ∷ filter (of_line n) more
kept_front n f more e = ap (λ (b : Bool). cond b (f ∷ filter (of_line n) more) (filter (of_line n) more)) (eq-eqb f.line n e)

passed_front : (n : ℕ) (f : Fault) (more : List Fault) → (f.line ≡ n → ⊥) → filter (of_line n) (f ∷ more) ≡ filter (of_line n) more
passed_front n f more e = ap (λ (b : Bool). cond b (f ∷ filter (of_line n) more) (filter (of_line n) more)) (ne_eqb f.line n e)

none_before : (n m : ℕ) (fs : List Fault) → AreFrom m fs → n < m → filter (of_line n) fs ≡ []
none_before n m [] h l = refl
none_before n m (f ∷ fs) h l = let own = h.0 in passed_front n f fs (λ e. omega (arith, e, own, l)) ∙ none_before n f.line fs h.1 (omega (arith, own, l))

from_later : (n m : ℕ) (fs : List Fault) → m ≤ n → AreFrom n fs → AreFrom m fs
from_later n m [] l h = tt
from_later n m (f ∷ fs) l h = let own = h.0 in (omega (arith, own, l), h.1)

-- ---- one fault after another

module _ (all : List Fault) (next : ℕ) (d : Fault) (n : ℕ) (h : next < length all) where
  front : drop next all ≡ get_or all next d ∷ drop (next + 1) all
  front = drop-cons all next d h ∙ ap (λ (k : ℕ). get_or all next d ∷ drop k all) (sym (add-one next))

  -- a fault of the line is told
  pub told_step : {A : Type 0} (told : Fault → List A) (before after whole : List A) → (get_or all next d).line ≡ n → after ≡ before ++ told (get_or all next d)
      → before ++ flat_map told (filter (of_line n) (drop next all)) ≡ whole → after ++ flat_map told (filter (of_line n) (drop (next + 1) all)) ≡ whole
  told_step {A = A} told before after whole own grown so_far =
      let rest : List A = flat_map told (filter (of_line n) (drop (next + 1) all)) in
      ap (λ (l : List A). l ++ rest) grown ∙ append_assoc before (told (get_or all next d)) rest
      ∙ ap (λ (fs : List Fault). before ++ flat_map told fs) (sym (ap (filter (of_line n)) front ∙ kept_front n (get_or all next d) (drop (next + 1) all) own))
      ∙ so_far

  -- no later line has it
  pub same_step : (get_or all next d).line ≡ n → ((k : ℕ) → n + 1 ≤ k → filter (of_line k) all ≡ filter (of_line k) (drop next all))
      → (k : ℕ) → n + 1 ≤ k → filter (of_line k) all ≡ filter (of_line k) (drop (next + 1) all)
  same_step own same k l =
      same k l ∙ ap (filter (of_line k)) front ∙ passed_front k (get_or all next d) (drop (next + 1) all) (λ e. omega (arith, e, own, l))

  pub from_step : (get_or all next d).line ≡ n → AreFrom n (drop next all) → AreFrom n (drop (next + 1) all)
  from_step own from =
      subst (λ (m : ℕ). AreFrom m (drop (next + 1) all)) own ((subst (AreFrom n) front from).1)

  -- the next fault is of a later line
  later : ((get_or all next d).line ≡ n → ⊥) → AreFrom n (drop next all) → AreFrom (n + 1) (drop next all)
  later other from =
      let parts = subst (AreFrom n) front from in
      let own = parts.0 in
      subst (AreFrom (n + 1)) (sym front) (go own parts.1)
    where
      go : n ≤ (get_or all next d).line → AreFrom (get_or all next d).line (drop (next + 1) all) → AreFrom (n + 1) (get_or all next d ∷ drop (next + 1) all)
      go own rest = (above n (get_or all next d).line own other, rest)
        where
          above : (a b : ℕ) → a ≤ b → (b ≡ a → ⊥) → a + 1 ≤ b
          above a b l e = omega (arith, l, e)

  pub told_before : {A : Type 0} (told : Fault → List A) (before whole : List A) → ((get_or all next d).line ≡ n → ⊥) → AreFrom n (drop next all)
      → before ++ flat_map told (filter (of_line n) (drop next all)) ≡ whole → before ≡ whole
  told_before told before whole other from so_far =
      sym (append-nil before) ∙ ap (λ (fs : List Fault). before ++ flat_map told fs) (sym (none_before n (n + 1) (drop next all) (later other from) (omega arith))) ∙ so_far

  pub next_later : ((get_or all next d).line ≡ n → ⊥) → AreFrom n (drop next all)
      → ((k : ℕ) → n + 1 ≤ k → filter (of_line k) all ≡ filter (of_line k) (drop next all)) → IsNext (n + 1) next all
  next_later other from same = record { within = omega (arith, h); same = same; from = later other from }

-- no fault is left
pub told_all : {A : Type 0} (all : List Fault) (next n : ℕ) (told : Fault → List A) (before whole : List A) → length all ≤ next
    → before ++ flat_map told (filter (of_line n) (drop next all)) ≡ whole → before ≡ whole
told_all all next n told before whole h so_far =
    sym (append-nil before) ∙ ap (λ (fs : List Fault). before ++ flat_map told (filter (of_line n) fs)) (sym (drop_all next all h)) ∙ so_far

pub next_none : (all : List Fault) (next n : ℕ) → length all ≤ next → next ≤ length all
    → ((k : ℕ) → n + 1 ≤ k → filter (of_line k) all ≡ filter (of_line k) (drop next all)) → IsNext (n + 1) next all
next_none all next n h within same = record {
  within = within;
  same = same;
  from = subst (AreFrom (n + 1)) (sym (drop_all next all h)) tt;
}

-- ---- each fault is of a line of its file

-- the number of a line from 1 on, below another number
abbrev IsWithin : (end number : ℕ) → Type 0
IsWithin end n = (1 ≤ n) × (n < end)

abbrev LinesWithin : (end : ℕ) → List Line → Type 0
LinesWithin end [] = Unit {0}
LinesWithin end (l ∷ more) = IsWithin end l.number × LinesWithin end more

abbrev FaultsWithin : (end : ℕ) → List Fault → Type 0
FaultsWithin end [] = Unit {0}
FaultsWithin end (f ∷ more) = IsWithin end f.line × FaultsWithin end more

module _ (end : ℕ) where
  lines_front : (xs ys : List Line) → LinesWithin end (xs ++ ys) → LinesWithin end xs
  lines_front [] ys h = tt
  lines_front (x ∷ xs) ys h = (h.0, lines_front xs ys h.1)

  lines_back : (xs ys : List Line) → LinesWithin end (xs ++ ys) → LinesWithin end ys
  lines_back [] ys h = h
  lines_back (x ∷ xs) ys h = lines_back xs ys h.1

  faults_joined : (xs ys : List Fault) → FaultsWithin end xs → FaultsWithin end ys → FaultsWithin end (xs ++ ys)
  faults_joined [] ys f g = g
  faults_joined (x ∷ xs) ys f g = (f.0, faults_joined xs ys f.1 g)

  faults_if : (b : Bool) (fs gs : List Fault) → FaultsWithin end fs → FaultsWithin end gs → FaultsWithin end (cond b fs gs)
  faults_if true fs gs f g = f
  faults_if false fs gs f g = g

  lines_if : (b : Bool) (xs ys : List Line) → LinesWithin end xs → LinesWithin end ys → LinesWithin end (cond b xs ys)
  lines_if true xs ys f g = f
  lines_if false xs ys f g = g

  numbered_within : (n : ℕ) (ts : List (List ℕ)) → 1 ≤ n → n + length ts ≤ end → LinesWithin end (numbered n ts)
  unfolding numbered
  numbered_within n [] l h = tt
  numbered_within n (t ∷ ts) l h = ((l, omega (arith, h)), numbered_within (n + 1) ts (omega arith) (omega (arith, h)))

  clean_within : (ls : List Line) → LinesWithin end ls → LinesWithin end (clean ls)
  clean_within [] h = tt
  clean_within (l ∷ more) h = lines_if (is_dropped l) (clean more) (clean_line l ∷ clean more) (clean_within more h.1) (h.0, clean_within more h.1)

  filtered_within : (test : Line → Bool) (ls : List Line) → LinesWithin end ls → LinesWithin end (filter test ls)
  filtered_within test [] h = tt
  filtered_within test (l ∷ more) h = lines_if (test l) (l ∷ filter test more) (filter test more) (h.0, filtered_within test more h.1) (filtered_within test more h.1)

  spoilt_within : (ls : List Line) → LinesWithin end ls → FaultsWithin end (spoilt_faults ls)
  spoilt_within [] h = tt
  spoilt_within (l ∷ more) h =
      faults_if (is_spoilt l) (fault ZeroByte l ∷ spoilt_faults more) (spoilt_faults more) (h.0, spoilt_within more h.1) (spoilt_within more h.1)

  mapped_within : (kind : FaultKind) (ls : List Line) → LinesWithin end ls → FaultsWithin end (map (fault kind) ls)
  mapped_within kind [] h = tt
  mapped_within kind (l ∷ more) h = (h.0, mapped_within kind more h.1)

  each_within : (f : Line → List Fault) (ls : List Line) → ((l : Line) → IsWithin end l.number → FaultsWithin end (f l)) → LinesWithin end ls → FaultsWithin end (flat_map f ls)
  each_within f [] own h = tt
  each_within f (l ∷ more) own h = faults_joined (f l) (flat_map f more) (own l h.0) (each_within f more own h.1)

  long_within : (l : Line) → IsWithin end l.number → FaultsWithin end (long_faults l)
  long_within l h = faults_if (is_long l) (fault LongMatch l ∷ []) [] (h, tt) tt

  property_within : (l : Line) → IsWithin end l.number → FaultsWithin end (property_faults l)
  property_within l h =
      faults_if (has_equals l) (cond (has_key l) [] (fault EmptyKey l ∷ [])) (fault NoEquals l ∷ [])
      (faults_if (has_key l) [] (fault EmptyKey l ∷ []) tt (h, tt)) (h, tt)

  lonely_within : (ms ps : List Line) → LinesWithin end ms → FaultsWithin end (lonely_faults ms ps)
  lonely_within [] ps h = tt
  lonely_within (m ∷ ms) [] h = (h.0, tt)
  lonely_within (m ∷ ms) (p ∷ ps) h = tt

  section_within : (s : Section) → LinesWithin end (lines_of s) → FaultsWithin end (section_faults s)
  section_within s h =
      let after = lines_back s.leading (s.matches ++ (s.properties ++ s.stray)) h in
      let last = lines_back s.matches (s.properties ++ s.stray) after in
      let matches = lines_front s.matches (s.properties ++ s.stray) after in
      faults_joined (map (fault StrayProperty) s.leading) _ (mapped_within StrayProperty s.leading (lines_front s.leading (s.matches ++ (s.properties ++ s.stray)) h))
      (faults_joined (flat_map long_faults s.matches) _ (each_within long_faults s.matches long_within matches)
      (faults_joined (lonely_faults s.matches s.properties) _ (lonely_within s.matches s.properties matches)
      (faults_joined (flat_map property_faults s.properties) _ (each_within property_faults s.properties property_within (lines_front s.properties s.stray last))
      (each_within (λ l. fault StrayMatch l ∷ long_faults l) s.stray (λ l own. (own, long_within l own)) (lines_back s.properties s.stray last)))))

  sections_within : (ss : List Section) → LinesWithin end (flat_map lines_of ss) → FaultsWithin end (flat_map section_faults ss)
  sections_within [] h = tt
  sections_within (s ∷ ss) h =
      faults_joined (section_faults s) (flat_map section_faults ss) (section_within s (lines_front (lines_of s) (flat_map lines_of ss) h))
      (sections_within ss (lines_back (lines_of s) (flat_map lines_of ss) h))

  put_within : (f : Fault) (fs : List Fault) → IsWithin end f.line → FaultsWithin end fs → FaultsWithin end (with_fault f fs)
  put_within f [] own h = (own, tt)
  put_within f (g ∷ more) own h =
      faults_if (is_gt (fault_cmp f g)) (g ∷ with_fault f more) (f ∷ (g ∷ more)) (h.0, put_within f more own h.1) (own, h)

  ordered_within : (fs : List Fault) → FaultsWithin end fs → FaultsWithin end (by_line fs)
  ordered_within [] h = tt
  ordered_within (f ∷ more) h = put_within f (by_line more) h.0 (ordered_within more h.1)

pub faults_within : SectionsAreTheLines → (file : List ℕ) → FaultsWithin (1 + length (pieces (is 10) file)) (faults file)
faults_within law file =
    let end : ℕ = 1 + length (pieces (is 10) file) in
    let within : LinesWithin end (lines file) = numbered_within end 1 (pieces (is 10) file) (omega arith) (omega arith) in
    let kept : LinesWithin end (flat_map lines_of (sections (clean (lines file)))) =
    subst (LinesWithin end) (sym (law (clean (lines file)))) (filtered_within end (λ l. not (is_empty l)) (clean (lines file)) (clean_within end (lines file) within)) in
    ordered_within end (all_faults file)
    (faults_joined end (spoilt_faults (lines file)) (flat_map section_faults (sections (clean (lines file)))) (spoilt_within end (lines file) within)
    (sections_within end (sections (clean (lines file))) kept))

-- ---- they ascend by line

below_by : (l e : Bool) (a b : ℕ) (o : Ordering) → nat_lt a b ≡ l → (a == b) ≡ e → ordering_then (cond l Less (cond e Equal Greater)) o ≡ Less → a ≤ b
below_by true e a b o f g h = let m = ltb-true a b f in omega (arith, m)
below_by false true a b o f g h = let m = eqb-true a b g in omega (arith, m)
below_by false false a b o f g h = cc

not_above : (f g : Fault) → fault_cmp f g ≡ Less → f.line ≤ g.line
not_above f g h = below_by (nat_lt f.line g.line) (f.line == g.line) f.line g.line (nat_cmp (fault_number f.kind) (fault_number g.kind)) refl refl h

sorted_from : (n : ℕ) (fs : List Fault) (end : ℕ) → n ≤ 1 → FaultsWithin end fs → IsStrictlySortedBy fault_cmp fs → AreFrom n fs
unfolding IsStrictlySortedBy
sorted_from n [] end l w s = tt
sorted_from n (f ∷ fs) end l w s = let own = w.0.0 in (omega (arith, own, l), rest f fs s)
  where
    rest : (f : Fault) (fs : List Fault) → AllByRecursion (λ g. fault_cmp f g ≡ Less) fs × IsStrictlySortedBy fault_cmp fs → AreFrom f.line fs
    rest f [] s = tt
    rest f (g ∷ more) s = (not_above f g s.0.0, rest g more s.1)

-- before the first line is read
pub first_fault : SectionsAreTheLines → FaultsAscend → (file : List ℕ) → AreFrom 1 (faults file)
first_fault law ascend file = sorted_from 1 (faults file) (1 + length (pieces (is 10) file)) (omega arith) (faults_within law file) (ascend file)

pub first_is_next : SectionsAreTheLines → FaultsAscend → (file : List ℕ) (fs : List Fault) → fs ≡ faults file → IsNext 1 0 fs
first_is_next law ascend file fs e =
    record { within = omega arith; same = λ k h. refl; from = subst (AreFrom 1) (sym e) (first_fault law ascend file) }

-- ---- each fault is told with one line, in its order

abbrev of_each : List Fault → Line → List Fault
of_each fs l = filter (of_line l.number) fs

alike : (n : ℕ) (ts : List (List ℕ)) (xs ys : List Fault) → ((k : ℕ) → n ≤ k → filter (of_line k) xs ≡ filter (of_line k) ys)
    → flat_map (of_each xs) (numbered n ts) ≡ flat_map (of_each ys) (numbered n ts)
unfolding numbered
alike n [] xs ys same = refl
alike n (t ∷ ts) xs ys same =
    ap (λ (fs : List Fault). fs ++ flat_map (of_each xs) (numbered (n + 1) ts)) (same n (omega arith))
    ∙ ap (λ (fs : List Fault). filter (of_line n) ys ++ fs) (alike (n + 1) ts xs ys (λ k h. same k (omega (arith, h))))

-- the faults of one line, and then those of the later ones
module _ (n end : ℕ) (ts : List (List ℕ)) (on : (gs : List Fault) → AreFrom (n + 1) gs → FaultsWithin end gs → flat_map (of_each gs) (numbered (n + 1) ts) ≡ gs) where
  line_then : (fs : List Fault) → AreFrom n fs → FaultsWithin end fs → filter (of_line n) fs ++ flat_map (of_each fs) (numbered (n + 1) ts) ≡ fs
  line_then [] from w = on [] tt tt
  line_then (f ∷ fs) from w = go (f.line == n) refl (λ a v. line_then fs a v)
    where
      go : (b : Bool) → (f.line == n) ≡ b → (AreFrom n fs → FaultsWithin end fs → filter (of_line n) fs ++ flat_map (of_each fs) (numbered (n + 1) ts) ≡ fs)
          → filter (of_line n) (f ∷ fs) ++ flat_map (of_each (f ∷ fs)) (numbered (n + 1) ts) ≡ f ∷ fs
      go true e more =
          let own = eqb-true f.line n e in
          ap (λ (gs : List Fault). gs ++ flat_map (of_each (f ∷ fs)) (numbered (n + 1) ts)) (kept_front n f fs own)
          ∙ ap (λ (gs : List Fault). f ∷ (filter (of_line n) fs ++ gs))
          (alike (n + 1) ts (f ∷ fs) fs (λ k h. passed_front k f fs (λ g. omega (arith, g, own, h))))
          ∙ ap (λ (gs : List Fault). f ∷ gs) (more (subst (λ (m : ℕ). AreFrom m fs) own from.1) w.1)
      go false e more =
          let own = from.0 in
          let other = eqb-false f.line n e in
          let from_next : AreFrom (n + 1) (f ∷ fs) = (omega (arith, own, other), from.1) in
          ap (λ (gs : List Fault). gs ++ flat_map (of_each (f ∷ fs)) (numbered (n + 1) ts)) (none_before n (n + 1) (f ∷ fs) from_next (omega arith))
          ∙ on (f ∷ fs) from_next w

each_told : (n end : ℕ) (ts : List (List ℕ)) (fs : List Fault) → n + length ts ≡ end → AreFrom n fs → FaultsWithin end fs → flat_map (of_each fs) (numbered n ts) ≡ fs
unfolding numbered
each_told n end [] [] e from w = refl
each_told n end [] (f ∷ fs) e from w = let a = from.0 in let b = w.0.1 in absurd (omega (arith, a, b, e))
each_told n end (t ∷ ts) fs e from w = line_then n end ts (λ gs. each_told (n + 1) end ts gs (omega (arith, e))) fs from w

pub all_told : SectionsAreTheLines → FaultsAscend → (file : List ℕ) → flat_map (λ l. faults_at file l.number) (lines file) ≡ faults file
all_told law ascend file =
    each_told 1 (1 + length (pieces (is 10) file)) (pieces (is 10) file) (faults file) refl (first_fault law ascend file) (faults_within law file)

-- ---- files without faults

none_in : (path : List ℕ) (fs : List Fault) (ls : List Line) (rest : Line → List Finding) → fs ≡ []
    → flat_map (λ l. flat_map (one_fault path l.text) (filter (of_line l.number) fs) ++ rest l) ls ≡ flat_map rest ls
none_in path fs [] rest e = refl
none_in path fs (l ∷ ls) rest e =
    ap (λ (gs : List Fault). (flat_map (one_fault path l.text) (filter (of_line l.number) gs) ++ rest l)
    ++ flat_map (λ l. flat_map (one_fault path l.text) (filter (of_line l.number) fs) ++ rest l) ls) e
    ∙ ap (λ (t : List Finding). rest l ++ t) (none_in path fs ls rest e)

pub without_faults : (format : Format) (allowed : List (List ℕ)) (path file : List ℕ) (w : List Finding) → faults file ≡ [] → w ≡ plain_findings format allowed path file
    → w ≡ bare_findings format allowed path file
without_faults format allowed path file w none e = e ∙ sym (none_in path (faults file) (lines file) (found_warnings format allowed path file) none)

-- ---- a line of a file

-- a text that is added in two pieces
pub two_pieces : {A : Type 0} (a b c one two : List A) → b ≡ a ++ one → c ≡ b ++ two → c ≡ a ++ (one ++ two)
two_pieces {A = A} a b c one two e f = f ∙ ap (λ (l : List A). l ++ two) e ∙ append_assoc a one two

-- one line more
pub line_step : {A : Type 0} (f : Line → List A) (before after whole : List A) (n : ℕ) (ts : List (List ℕ)) (text : List ℕ) (rest : List (List ℕ)) → ts ≡ text ∷ rest
    → after ≡ before ++ f (line_of n text) → before ++ flat_map f (numbered n ts) ≡ whole → after ++ flat_map f (numbered (n + 1) rest) ≡ whole
unfolding numbered
line_step {A = A} f before after whole n ts text rest is grown so_far =
    let more : List A = flat_map f (numbered (n + 1) rest) in
    ap (λ (l : List A). l ++ more) grown
    ∙ append_assoc before (f (line_of n text)) more
    ∙ ap (λ (l : List (List ℕ)). before ++ flat_map f (numbered n l)) (sym is)
    ∙ so_far
