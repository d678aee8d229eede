-- What is read of a file, and what is chosen, can be held by a database.
use Rattle.std.proofs.Common.{◌≡◌, ℕ, zero, suc, ◌+◌, ◌-◌, ◌≤◌, Bool, true, false, not, List, [], ◌∷◌, ◌++◌, take, drop, length, map, refl, sym, subst, cond, inl, inr, arith, All, filter}
use Rattle.std.specs.Prelude.{codes, nat_eq, flat_map}
use Rattle.std.specs.List.{position_or_len, prefix_len, ends_with, AllByRecursion as Each}
use Rattle.std.proofs.lemmas.Bool.{cases_Bool, ltb-false}
use Rattle.std.proofs.lemmas.List.Elements.{All-from_recursion}
use Rattle.hwdb_spec.specs.Lines.{Line, lines, has, is, trimmed, property, clean, clean_line, is_dropped, is_comment, is_long, is_indent, is_none, is_blank, is_empty, is_property, is_match, has_equals, has_key, pieces, begins_with}
use Rattle.std.specs.List.{onto_first, before_first}
use Rattle.std.specs.List.{take_while}
use Rattle.hwdb_text.proofs.RunLemmas.{run_cons}
use Rattle.hwdb_spec.specs.Records.{Section, behind, first_section, size, sections_from, sections, Origin, patterns, assign, property_assignments, section_assignments, assignments}
use Rattle.hwdb_spec.specs.Folders.{counts, same, lists, names, choice}
use Rattle.hwdb_text.specs.Internal.Choosing.{chosen, with_name}
use Rattle.hwdb_text.proofs.NameSetLemmas.{put_is}
use Rattle.hwdb_text.specs.Views.{HasNoZero, IsStorable, IsStorableChoice}
use Rattle.hwdb_spec.specs.Assignment.{ascending}
use Rattle.hwdb_text.specs.Laws.{is_smaller}
use Rattle.hwdb_spec.specs.Lemmas.Truth.{neither_or, or_neither}

each_append : {X : Type 0} (P : X → Type 0) (xs ys : List X) → Each P xs → Each P ys → Each P (xs ++ ys)
each_append P [] ys a b = b
each_append P (x ∷ xs) ys a b = (a.0, each_append P xs ys a.1 b)

each_flat : {X Y : Type 0} (P : Y → Type 0) (f : X → List Y) (xs : List X) → Each (λ x. Each P (f x)) xs → Each P (flat_map f xs)
each_flat P f [] a = tt
each_flat P f (x ∷ xs) a = each_append P (f x) (flat_map f xs) a.0 (each_flat P f xs a.1)

pub each_map : {X Y : Type 0} (P : Y → Type 0) (f : X → Y) (xs : List X) → Each (λ x. P (f x)) xs → Each P (map f xs)
each_map P f [] a = tt
each_map P f (x ∷ xs) a = (a.0, each_map P f xs a.1)

pub each_weaker : {X : Type 0} (P Q : X → Type 0) → ((x : X) → P x → Q x) → (xs : List X) → Each P xs → Each Q xs
each_weaker P Q h [] a = tt
each_weaker P Q h (x ∷ xs) a = (h x a.0, each_weaker P Q h xs a.1)

each_cond : {X : Type 0} (P : X → Type 0) (b : Bool) (xs ys : List X) → Each P xs → Each P ys → Each P (cond b xs ys)
each_cond P true xs ys a b = a
each_cond P false xs ys a b = b

zero_take : (n : ℕ) (text : List ℕ) → HasNoZero text → HasNoZero (take n text)
zero_take zero [] h = h
zero_take zero (x ∷ text) h = refl
zero_take (suc n) [] h = h
zero_take (suc n) (x ∷ text) h =
    let s = or_neither (is 0 x) (has 0 text) h in neither_or (is 0 x) (has 0 (take n text)) s.0 (zero_take n text s.1)

zero_drop : (n : ℕ) (text : List ℕ) → HasNoZero text → HasNoZero (drop n text)
zero_drop zero text h = h
zero_drop (suc n) [] h = h
zero_drop (suc n) (x ∷ text) h = zero_drop n text (or_neither (is 0 x) (has 0 text) h).1

zero_trim_by : (b : Bool) (x : ℕ) (text : List ℕ) → is 0 x ≡ false → HasNoZero text → HasNoZero (cond b [] (x ∷ text))
zero_trim_by true x text e h = refl
zero_trim_by false x text e h = neither_or (is 0 x) (has 0 text) e h

zero_trim : (text : List ℕ) → HasNoZero text → HasNoZero (trimmed text)
unfolding trimmed
zero_trim [] h = h
zero_trim (x ∷ text) h =
    let s = or_neither (is 0 x) (has 0 text) h in
    zero_trim_by (cond (is_none (trimmed text)) (is_blank x) false) x (trimmed text) s.0 (zero_trim text s.1)

zero_append : (xs ys : List ℕ) → HasNoZero xs → HasNoZero ys → HasNoZero (xs ++ ys)
zero_append [] ys a b = b
zero_append (x ∷ xs) ys a b =
    let s = or_neither (is 0 x) (has 0 xs) a in neither_or (is 0 x) (has 0 (xs ++ ys)) s.0 (zero_append xs ys s.1 b)

abbrev Whole : Line → Type 0
Whole l = HasNoZero l.text

kept_whole : (c z : Bool) → cond c true z ≡ false → z ≡ false
kept_whole true z e = cc
kept_whole false z e = e

clean_whole : (ls : List Line) → Each Whole (clean ls)
clean_whole [] = tt
clean_whole (l ∷ more) = elim (cases_Bool (is_dropped l)) [
  | inl d ↦ let P : Bool → Type 0 = λ b. Each Whole (cond b (clean more) (clean_line l ∷ clean more)) in subst P (sym d) (clean_whole more)
  | inr d ↦
      let P : Bool → Type 0 = λ b. Each Whole (cond b (clean more) (clean_line l ∷ clean more)) in
      subst P (sym d)
      (zero_trim (before_first (is 35) l.text) (zero_take (position_or_len (is 35) l.text) l.text (kept_whole (is_comment l) (has 0 l.text) d)), clean_whole more)
]

led_each : (x : Line) (ps : List (List Line)) → Whole x → Each (Each Whole) ps → Each (Each Whole) (onto_first x ps)
led_each x [] h a = ((h, tt), tt)
led_each x (p ∷ ps) h a = ((h, a.0), a.1)

pieces_each : (ls : List Line) → Each Whole ls → Each (Each Whole) (pieces is_empty ls)
unfolding pieces
pieces_each [] a = tt
pieces_each (l ∷ more) a =
    each_cond (Each Whole) (is_empty l) ([] ∷ pieces is_empty more) (onto_first l (pieces is_empty more)) (tt, pieces_each more a.1) (led_each l (pieces is_empty more) a.0 (pieces_each more a.1))

run_each : (test : Line → Bool) (ls : List Line) → Each Whole ls → Each Whole (take_while test ls)
run_each test [] a = tt
run_each test (l ∷ more) a = subst (Each Whole) (sym (run_cons test l more)) (each_cond Whole (test l) (l ∷ take_while test more) [] (a.0, run_each test more a.1) tt)

behind_each : (test : Line → Bool) (ls : List Line) → Each Whole ls → Each Whole (behind test ls)
unfolding behind
behind_each test [] a = tt
behind_each test (l ∷ more) a = each_cond Whole (test l) (behind test more) (l ∷ more) (behind_each test more a.1) a

-- a section whose match lines and properties hold no byte 0
abbrev WholeSection : Section → Type 0
WholeSection s = Each Whole s.matches × Each Whole s.properties

first_each : (ls : List Line) → Each Whole ls → WholeSection (first_section ls)
unfolding first_section
first_each ls a =
    let m = behind_each is_property ls a in
    (run_each is_match (behind is_property ls) m, run_each is_property (behind is_match (behind is_property ls)) (behind_each is_match (behind is_property ls) m))

sections_each : (skip : ℕ) (ls : List Line) → Each Whole ls → Each WholeSection (sections_from skip ls)
unfolding sections_from
sections_each skip [] a = tt
sections_each (suc skip) (l ∷ more) a = sections_each skip more a.1
sections_each zero (l ∷ more) a = (first_each (l ∷ more) a, sections_each (size (first_section (l ∷ more)) - 1) more a.1)

abbrev Fits : List ℕ → Type 0
Fits text = (length text ≤ 4096) × HasNoZero text

patterns_each : (ls : List Line) → Each Whole ls → Each Fits (patterns ls)
patterns_each [] a = tt
patterns_each (l ∷ more) a = elim (cases_Bool (is_long l)) [
  | inl e ↦ let P : Bool → Type 0 = λ b. Each Fits (cond b (patterns more) (l.text ∷ patterns more)) in subst P (sym e) (patterns_each more a.1)
  | inr e ↦
      let P : Bool → Type 0 = λ b. Each Fits (cond b (patterns more) (l.text ∷ patterns more)) in
      subst P (sym e) ((ltb-false 4096 (length l.text) e, a.0), patterns_each more a.1)
]

assigned_each : (o : Origin) (ps : List (List ℕ)) (l : Line) → Each Fits ps → Whole l → Each IsStorable (property_assignments o ps l)
assigned_each o ps l f h =
    let z : HasNoZero (property l) = zero_drop (prefix_len is_indent l.text) l.text h in
    each_cond IsStorable (has_equals l) (cond (has_key l) (map (assign o l) ps) []) []
    (each_cond IsStorable (has_key l) (map (assign o l) ps) []
    (each_map IsStorable (assign o l) ps
    (each_weaker Fits (λ p. IsStorable (assign o l p))
    (λ p q. record {
      short = q.0;
      pattern = q.1;
      key = zero_take (position_or_len (is 61) (property l)) (property l) z;
      value = zero_drop (position_or_len (is 61) (property l) + 1) (property l) z;
    })
    ps f)) tt) tt

properties_each : (o : Origin) (ps : List (List ℕ)) (ls : List Line) → Each Fits ps → Each Whole ls → Each (λ l. Each IsStorable (property_assignments o ps l)) ls
properties_each o ps [] f a = tt
properties_each o ps (l ∷ more) f a = (assigned_each o ps l f a.0, properties_each o ps more f a.1)

section_each : (o : Origin) (s : Section) → WholeSection s → Each IsStorable (section_assignments o s)
section_each o s a =
    each_flat IsStorable (property_assignments o (patterns s.matches)) s.properties
    (properties_each o (patterns s.matches) s.properties (patterns_each s.matches a.0) a.1)

pub assignments_storable : (o : Origin) (file : List ℕ) → All IsStorable (assignments o file)
assignments_storable o file =
    All-from_recursion IsStorable (assignments o file)
    (each_flat IsStorable (section_assignments o) (sections (clean (lines file)))
    (each_weaker WholeSection (λ s. Each IsStorable (section_assignments o s)) (section_each o) (sections (clean (lines file)))
    (each_flat WholeSection (sections_from 0) (pieces is_empty (clean (lines file)))
    (each_weaker (Each Whole) (λ p. Each WholeSection (sections_from 0 p)) (sections_each 0) (pieces is_empty (clean (lines file)))
    (pieces_each (clean (lines file)) (clean_whole (lines file)))))))

abbrev Counts : List ℕ → Type 0
Counts name = counts name ≡ true

counted_filter : (set : List (List ℕ)) → Each Counts (filter counts set)
counted_filter [] = tt
counted_filter (n ∷ more) = elim (cases_Bool (counts n)) [
  | inl e ↦ let P : Bool → Type 0 = λ b. Each Counts (cond b (n ∷ filter counts more) (filter counts more)) in subst P (sym e) (e, counted_filter more)
  | inr e ↦ let P : Bool → Type 0 = λ b. Each Counts (cond b (n ∷ filter counts more) (filter counts more)) in subst P (sym e) (counted_filter more)
]

counted_with : (name : List ℕ) (set : List (List ℕ)) → Counts name → Each Counts set → Each Counts (with_name name set)
counted_with name [] e a = (e, tt)
counted_with name (n ∷ more) e a =
    each_cond Counts (is_smaller name n) (name ∷ (n ∷ more)) (cond (same name n) (n ∷ more) (n ∷ with_name name more)) (e, a)
    (each_cond Counts (same name n) (n ∷ more) (n ∷ with_name name more) a (a.0, counted_with name more e a.1))

counted_ascending : (set : List (List ℕ)) → Each Counts set → Each Counts (ascending set)
unfolding ascending
counted_ascending [] a = tt
counted_ascending (n ∷ more) a = subst (Each Counts) (sym (put_is n (ascending more))) (counted_with n (ascending more) a.0 (counted_ascending more a.1))

whole_by : (e d z : Bool) → cond e (cond d false (not z)) false ≡ true → z ≡ false
whole_by true true z h = cc
whole_by true false true h = cc
whole_by true false false h = refl
whole_by false d z h = cc

path_whole : (b : Bool) (name : List ℕ) → HasNoZero name → HasNoZero ((cond b (codes "/etc/udev/hwdb.d/") (codes "/usr/lib/udev/hwdb.d/")) ++ name)
path_whole true name h = zero_append (codes "/etc/udev/hwdb.d/") name refl h
path_whole false name h = zero_append (codes "/usr/lib/udev/hwdb.d/") name refl h

choice_storable : (etc set : List (List ℕ)) (name : List ℕ) → Counts name → IsStorableChoice (chosen etc set name)
choice_storable etc set name e = record {
  path = path_whole (lists name etc) name (whole_by (ends_with nat_eq name (codes ".hwdb")) (begins_with 46 name) (has 0 name) e);
  priority = omega arith;
}

pub choices_storable : (etc usr : List (List ℕ)) → All IsStorableChoice (choice etc usr)
choices_storable etc usr =
    All-from_recursion IsStorableChoice (choice etc usr)
    (each_map IsStorableChoice (chosen etc (names etc usr)) (names etc usr)
    (each_weaker Counts (λ n. IsStorableChoice (chosen etc (names etc usr) n)) (choice_storable etc (names etc usr)) (names etc usr)
    (counted_ascending (filter counts (etc ++ usr)) (counted_filter (etc ++ usr)))))
