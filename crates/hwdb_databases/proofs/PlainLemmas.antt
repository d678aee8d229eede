-- A record whose body passes a few searches says its assignment.
use Rattle.std.proofs.Common.{◌≡◌, ◌∙◌, ◌<◌, ◌+◌, ◌-◌, ◌^◌, ◌==◌, ap, sym, refl, subst, ℕ, suc, Bool, true, false, ◌||◌, not, List, [], ◌∷◌, ◌++◌, length, append_assoc, if◌then◌else◌, nat_lt, nat_le, take, drop, cond, arith, ne_eqb, eqb-true, append-nil, length-append}
use Rattle.std.proofs.lemmas.Bool.Decides.{nat_tests}
use Rattle.hwdb_spec.specs.Visible.{shown_name}
use Rattle.hwdb_show.specs.Lemmas.Names.{name_unbroken}
use Rattle.std.proofs.lemmas.Fmt.{decimal_is_IsNumeral}
use Rattle.std.proofs.lemmas.Str.Parse.{digit_from_value}
use Rattle.std.specs.Str.Parse.{AllDigits}
use Rattle.std.specs.Prelude.{flat_map, slice_index}
use Rattle.std.specs.List.{before_first, after_first, position_or_len, onto_first, take_while}
use Rattle.std.specs.Fmt.{decimal}
use Rattle.hwdb_spec.specs.Assignment.{Assignment}
use Rattle.std.specs.Ordering.{is_eq}
use Rattle.std.proofs.lemmas.Cmp.{nat_list_cmp_total, tied_itself}
use Rattle.hwdb_spec.specs.declared.Fault.{Fault}
use Rattle.hwdb_spec_commands.specs.Dump.{record_text, is_said, is_alone, origin_of}
use Rattle.hwdb_spec.specs.Folders.{max_lines, same}
use Rattle.hwdb_spec.specs.Lines.{Line, is, pieces, has, is_blank, is_none, trimmed, begins_with, numbered, lines, clean, max_pattern, property, has_equals, has_key, key, value, is_match, is_property}
use Rattle.hwdb_spec.specs.Records.{Origin, Section, behind, by_line, first_section, sections_from, size, sections, section_faults, section_assignments, spoilt_faults}
use Rattle.hwdb_spec.specs.Texts.{property_text}
use Rattle.hwdb_spec.specs.Lemmas.Truth.{or_neither}
use Rattle.hwdb_databases.specs.Internal.Plain.{body_text, lacks, ends_well, is_match as matches_whole, is_property as is_own, is_plain}

-- ---- texts without a byte

cut : (b : ℕ) (xs ys : List ℕ) → (b == b) ≡ true → has b xs ≡ false → pieces (is b) (xs ++ b ∷ ys) ≡ xs ∷ pieces (is b) ys
unfolding pieces
cut b [] ys e h = rw e refl
cut b (x ∷ xs) ys e h =
    let n = or_neither (x == b) (has b xs) h in
    rw n.0 (ap (onto_first x) (cut b xs ys e n.1))

one_more : (n : ℕ) → 1 + n ≡ suc n
one_more n = omega arith

two_more : (n : ℕ) → 1 + n + 1 ≡ suc (n + 1)
two_more n = omega arith

whole : (b : ℕ) (xs : List ℕ) → has b xs ≡ false → before_first (is b) xs ≡ xs
whole b [] h = refl
whole b (x ∷ xs) h = let n = or_neither (x == b) (has b xs) h in
    rw n.0 (ap (λ (k : ℕ). take k (x ∷ xs)) (one_more (position_or_len (is b) xs)) ∙ ap (λ (l : List ℕ). x ∷ l) (whole b xs n.1))

before : (b : ℕ) (xs ys : List ℕ) → (b == b) ≡ true → has b xs ≡ false → before_first (is b) (xs ++ b ∷ ys) ≡ xs
before b [] ys e h = rw e refl
before b (x ∷ xs) ys e h = let n = or_neither (x == b) (has b xs) h in
    rw n.0 (ap (λ (k : ℕ). take k (x ∷ (xs ++ b ∷ ys))) (one_more (position_or_len (is b) (xs ++ b ∷ ys))) ∙ ap (λ (l : List ℕ). x ∷ l) (before b xs ys e n.1))

after : (b : ℕ) (xs ys : List ℕ) → (b == b) ≡ true → has b xs ≡ false → after_first (is b) (xs ++ b ∷ ys) ≡ ys
after b [] ys e h = rw e refl
after b (x ∷ xs) ys e h = let n = or_neither (x == b) (has b xs) h in
    rw n.0 (ap (λ (k : ℕ). drop k (x ∷ (xs ++ b ∷ ys))) (two_more (position_or_len (is b) (xs ++ b ∷ ys))) ∙ after b xs ys e n.1)

has_it : (b : ℕ) (xs ys : List ℕ) → (b == b) ≡ true → has b (xs ++ b ∷ ys) ≡ true
has_it b [] ys e = rw e refl
has_it b (x ∷ xs) ys e = elim (x == b) as (λ c. (c || has b (xs ++ b ∷ ys)) ≡ true) [ true ↦ refl | false ↦ has_it b xs ys e ]

has_behind : (b : ℕ) (xs ys : List ℕ) → has b xs ≡ false → has b ys ≡ false → has b (xs ++ ys) ≡ false
has_behind b [] ys h k = k
has_behind b (x ∷ xs) ys h k = let n = or_neither (x == b) (has b xs) h in rw n.0 (has_behind b xs ys n.1 k)

-- no digit is a newline
digits_unbroken : (ds : List ℕ) → AllDigits 10 ds → has 10 ds ≡ false
digits_unbroken [] d = refl
digits_unbroken (c ∷ cs) d = rw (ne_eqb c 10 (let e = digit_from_value c d.0 in omega (arith, e))) (digits_unbroken cs d.1)

decimal_unbroken : (n : ℕ) → n < 2 ^ 64 → has 10 (decimal n) ≡ false
decimal_unbroken n h = digits_unbroken (decimal n) (decimal_is_IsNumeral n h).0.1

-- ---- what a search says

eqb_is : (m n : ℕ) → (m == n) ≡ true → m ≡ n
eqb_is m n h = eqb-true m n h

next_place : (m n : ℕ) → 1 + m ≡ suc n → m ≡ n
next_place m n e = omega (arith, e)

no_place : (n : ℕ) → 0 ≡ suc n → ⊥
no_place n e = omega (arith, e)

-- the first is at the end of a text's beginning: it isn't in that
front_lacks : (b : ℕ) (xs ys : List ℕ) → position_or_len (is b) (xs ++ ys) ≡ length xs → has b xs ≡ false
front_lacks b [] ys h = refl
front_lacks b (x ∷ xs) ys h =
    (elim (x == b) as (λ c. cond (not c) (1 + position_or_len (is b) (xs ++ ys)) 0 ≡ suc (length xs) → (c || has b xs) ≡ false) [
      | true ↦ λ e. absurd (no_place (length xs) e)
      | false ↦ λ e. front_lacks b xs ys (next_place _ _ e)
    ]) h

all_lacks : (b : ℕ) (xs : List ℕ) → lacks b xs ≡ true → has b xs ≡ false
all_lacks b xs h = front_lacks b xs [] (ap (position_or_len (is b)) (append-nil xs) ∙ eqb_is _ _ h)

lacks_front : (b : ℕ) (xs ys : List ℕ) → has b (xs ++ ys) ≡ false → has b xs ≡ false
lacks_front b [] ys h = refl
lacks_front b (x ∷ xs) ys h = let n = or_neither (x == b) (has b (xs ++ ys)) h in rw n.0 (lacks_front b xs ys n.1)

lacks_behind : (b : ℕ) (xs ys : List ℕ) → has b (xs ++ ys) ≡ false → has b ys ≡ false
lacks_behind b [] ys h = h
lacks_behind b (x ∷ xs) ys h = lacks_behind b xs ys (or_neither (x == b) (has b (xs ++ ys)) h).1

drop_behind : (xs ys : List ℕ) (x y : ℕ) → drop (length xs + 2) (xs ++ x ∷ y ∷ ys) ≡ ys
drop_behind [] ys x y = refl
drop_behind (z ∷ xs) ys x y = ap (λ (k : ℕ). drop k (z ∷ (xs ++ x ∷ y ∷ ys))) (more (length xs)) ∙ drop_behind xs ys x y
  where
    more : (n : ℕ) → suc n + 2 ≡ suc (n + 2)
    more n = omega arith

two_less : (xs : List ℕ) (x y : ℕ) → length (xs ++ x ∷ y ∷ []) - 2 ≡ length xs
two_less xs x y = let e = length-append xs (x ∷ y ∷ []) in omega (arith, e)

-- ---- the ends of texts

ends_next : (x y : ℕ) (ys : List ℕ) → ends_well (x ∷ y ∷ ys) ≡ ends_well (y ∷ ys)
ends_next x y ys = ap (λ (k : ℕ). not (is_blank (slice_index (x ∷ y ∷ ys) k))) (last (length ys))
  where
    last : (n : ℕ) → suc (suc n) - 1 ≡ suc (suc n - 1)
    last n = omega arith

trimmed_whole : (xs : List ℕ) → ends_well xs ≡ true → trimmed xs ≡ xs
unfolding trimmed
trimmed_whole [] h = refl
trimmed_whole (x ∷ []) h =
    elim (is_blank x) as (λ c. not c ≡ true → (if c then [] else x ∷ []) ≡ x ∷ []) [ true ↦ λ k. cc | false ↦ λ k. refl ] h
trimmed_whole (x ∷ y ∷ ys) h =
    let e : trimmed (y ∷ ys) ≡ y ∷ ys = trimmed_whole (y ∷ ys) (sym (ends_next x y ys) ∙ h) in
    ap (λ (t : List ℕ). if (if is_none t then is_blank x else false) then [] else x ∷ t) e

ends_behind : (xs : List ℕ) (y : ℕ) (ys : List ℕ) → ends_well (xs ++ y ∷ ys) ≡ ends_well (y ∷ ys)
ends_behind [] y ys = refl
ends_behind (x ∷ []) y ys = ends_next x y ys
ends_behind (x ∷ z ∷ xs) y ys = ends_next x z (xs ++ y ∷ ys) ∙ ends_behind (z ∷ xs) y ys

value_ends : (v : List ℕ) → ends_well v ≡ true → ends_well (61 ∷ v) ≡ true
value_ends [] h = refl
value_ends (x ∷ xs) h = ends_next 61 x xs ∙ h

-- ---- the lines of a record

abbrev line_of : ℕ → List ℕ → Line
line_of n t = record { number = n; text = t }

begins_has : (b : ℕ) (xs : List ℕ) → has b xs ≡ false → begins_with b xs ≡ false
begins_has b [] h = refl
begins_has b (x ∷ xs) h = (or_neither (x == b) (has b xs) h).0

kept : (n : ℕ) (t : List ℕ) (more : List Line) → begins_with 35 t ≡ false → has 0 t ≡ false → has 35 t ≡ false → ends_well t ≡ true
    → clean (line_of n t ∷ more) ≡ line_of n t ∷ clean more
kept n t more a b c d = rw a (rw b (ap (λ (s : List ℕ). line_of n s ∷ clean more) (ap trimmed (whole 35 t c) ∙ trimmed_whole t d)))

unspoilt : (n : ℕ) (t : List ℕ) (more : List Line) → begins_with 35 t ≡ false → has 0 t ≡ false → spoilt_faults (line_of n t ∷ more) ≡ spoilt_faults more
unspoilt n t more a b = rw a (rw b refl)

abbrev comment_line : Assignment → List ℕ
comment_line f = 35 ∷ 32 ∷ (shown_name f.path ++ 58 ∷ decimal f.position.line)

abbrev own_property : Assignment → List ℕ
own_property f = f.position.key ++ 61 ∷ f.value

property_end : (k v : List ℕ) → property_text (k, v) ++ 10 ∷ [] ≡ (k ++ 61 ∷ v) ++ 10 ∷ 10 ∷ []
property_end k v =
    append_assoc k (61 ∷ (v ++ 10 ∷ [])) (10 ∷ []) ∙ ap (λ (l : List ℕ). k ++ 61 ∷ l) (append_assoc v (10 ∷ []) (10 ∷ []))
    ∙ sym (append_assoc k (61 ∷ v) (10 ∷ 10 ∷ []))

record_is : (f : Assignment) → record_text f ≡ comment_line f ++ 10 ∷ (f.position.pattern ++ 10 ∷ ((32 ∷ own_property f) ++ 10 ∷ 10 ∷ []))
record_is f =
    append_assoc (comment_line f) (10 ∷ []) (f.position.pattern ++ 10 ∷ (32 ∷ (property_text (f.position.key, f.value) ++ 10 ∷ [])))
    ∙ ap (λ (l : List ℕ). comment_line f ++ 10 ∷ (f.position.pattern ++ 10 ∷ (32 ∷ l))) (property_end f.position.key f.value)

abbrev own_lines : Assignment → List Line
own_lines f = line_of 1 (comment_line f) ∷ line_of 2 f.position.pattern ∷ line_of 3 (32 ∷ own_property f) ∷ line_of 4 [] ∷ []

lines_are : (f : Assignment) → has 10 (comment_line f) ≡ false → has 10 f.position.pattern ≡ false → has 10 (own_property f) ≡ false
    → lines (record_text f) ≡ own_lines f
unfolding pieces numbered
lines_are f a b c =
    let w : List ℕ = 32 ∷ own_property f in
    let last : pieces (is 10) (w ++ 10 ∷ 10 ∷ []) ≡ w ∷ [] ∷ [] = cut 10 w (10 ∷ []) refl c in
    let rest : pieces (is 10) (f.position.pattern ++ 10 ∷ (w ++ 10 ∷ 10 ∷ [])) ≡ f.position.pattern ∷ w ∷ [] ∷ [] =
    cut 10 f.position.pattern (w ++ 10 ∷ 10 ∷ []) refl b ∙ ap (λ (l : List (List ℕ)). f.position.pattern ∷ l) last in
    ap (numbered 1) (ap (pieces (is 10)) (record_is f) ∙ cut 10 (comment_line f) (f.position.pattern ++ 10 ∷ (w ++ 10 ∷ 10 ∷ [])) refl a
    ∙ ap (λ (l : List (List ℕ)). comment_line f ∷ l) rest)

-- ---- the section of a record

module _ (a : ℕ) (p : List ℕ) (k : ℕ) (ks v : List ℕ) where
  abbrev match_line : Line
  match_line = line_of 2 (a ∷ p)

  abbrev property_line : Line
  property_line = line_of 3 (32 ∷ (k ∷ (ks ++ 61 ∷ v)))

  abbrev own_section : Section
  own_section = record { leading = []; matches = match_line ∷ []; properties = property_line ∷ []; stray = [] }

  first_is : (a == 32) ≡ false → first_section (match_line ∷ property_line ∷ []) ≡ own_section
  unfolding first_section behind
  first_is h =
      let both : List Line = match_line ∷ property_line ∷ [] in
      let leading : take_while is_property both ≡ [] = rw h refl in
      let from_match : behind is_property both ≡ both = rw h refl in
      let matches : take_while is_match both ≡ match_line ∷ [] = rw h refl in
      let from_property : behind is_match both ≡ property_line ∷ [] = rw h refl in
      let next : behind is_match (behind is_property both) ≡ property_line ∷ [] = ap (behind is_match) from_match ∙ from_property in
      λ i. record {
        leading = leading i;
        matches = (ap (take_while is_match) from_match ∙ matches) i;
        properties = ap (take_while is_property) next i;
        stray = ap (λ (ls : List Line). take 1 (behind is_property ls)) next i;
      }

  sections_are : (a == 32) ≡ false → sections (match_line ∷ property_line ∷ line_of 4 [] ∷ []) ≡ own_section ∷ []
  unfolding pieces sections_from
  sections_are h = ap (λ (s : Section). (s ∷ sections_from (size s - 1) (property_line ∷ [])) ++ []) (first_is h)

  property_is : (k == 32) ≡ false → (k == 9) ≡ false → property property_line ≡ k ∷ (ks ++ 61 ∷ v)
  property_is x y = rw x (rw y refl)

  module _ (space : (k == 32) ≡ false) (tab : (k == 9) ≡ false) (first : has 61 (k ∷ ks) ≡ false) (short : nat_lt max_pattern (length (a ∷ p)) ≡ false) where
    equals : has_equals property_line ≡ true
    equals = ap (has 61) (property_is space tab) ∙ has_it 61 (k ∷ ks) v refl

    key_is : key property_line ≡ k ∷ ks
    key_is = ap (before_first (is 61)) (property_is space tab) ∙ before 61 (k ∷ ks) v refl first

    value_is : value property_line ≡ v
    value_is = ap (after_first (is 61)) (property_is space tab) ∙ after 61 (k ∷ ks) v refl first

    keyed : has_key property_line ≡ true
    keyed = ap (λ (t : List ℕ). not (is_none t)) key_is

    no_faults : section_faults own_section ≡ []
    no_faults = rw short (rw equals (rw keyed refl))

    assigned : (o : Origin) → section_assignments o own_section
        ≡ record { position = record { priority = o.priority; line = 3; pattern = a ∷ p; key = k ∷ ks }; value = v; path = o.path } ∷ []
    assigned o = rw short (rw equals (rw keyed
        (λ i. record { position = record { priority = o.priority; line = 3; pattern = a ∷ p; key = key_is i }; value = value_is i; path = o.path } ∷ [])))

-- ---- what is said

same_self : (t : List ℕ) → same t t ≡ true
same_self t = ap is_eq (tied_itself nat_list_cmp_total t)

abbrev judged : Assignment → List Line → Bool
judged f ls =
    if nat_le (length ls) max_lines
    then (if is_none (by_line (spoilt_faults ls ++ flat_map section_faults (sections (clean ls))))
    then is_alone f (flat_map (section_assignments (origin_of f)) (sections (clean ls))) else false)
    else false

said_is_judged : (f : Assignment) → is_said f ≡ judged f (lines (record_text f))
unfolding is_said
said_is_judged f = refl

alone : (f : Assignment) (n : ℕ)
    → is_alone f (record { position = record { priority = f.position.priority; line = n; pattern = f.position.pattern; key = f.position.key }; value = f.value; path = f.path } ∷ []) ≡ true
alone f n = rw (same_self f.position.pattern) (rw (same_self f.position.key) (same_self f.value))

not_then : (a b : Bool) → (if a then false else b) ≡ true → (a ≡ false) × (b ≡ true)
not_then true b h = cc
not_then false b h = (refl, h)

both : (a b : Bool) → (if a then b else false) ≡ true → (a ≡ true) × (b ≡ true)
both true b h = (refl, h)
both false b h = cc

-- the four lines of a record, the first of which is a comment
abbrev four : (c : List ℕ) (a : ℕ) (p : List ℕ) (k : ℕ) (ks v : List ℕ) → List Line
four c a p k ks v = line_of 1 (35 ∷ c) ∷ match_line a p k ks v ∷ property_line a p k ks v ∷ line_of 4 [] ∷ []

module _ (c : List ℕ) (a : ℕ) (p : List ℕ) (k : ℕ) (ks v : List ℕ) where
  cleaned_lines : begins_with 35 (a ∷ p) ≡ false → has 0 (a ∷ p) ≡ false → has 35 (a ∷ p) ≡ false → ends_well (a ∷ p) ≡ true
      → has 0 (k ∷ (ks ++ 61 ∷ v)) ≡ false → has 35 (k ∷ (ks ++ 61 ∷ v)) ≡ false → ends_well (32 ∷ k ∷ (ks ++ 61 ∷ v)) ≡ true
      → clean (four c a p k ks v) ≡ match_line a p k ks v ∷ property_line a p k ks v ∷ line_of 4 [] ∷ []
  unfolding trimmed
  cleaned_lines head no_zero hash ends zeros hashes ended =
      kept 2 (a ∷ p) (property_line a p k ks v ∷ line_of 4 [] ∷ []) head no_zero hash ends
      ∙ ap (λ (l : List Line). match_line a p k ks v ∷ l) (kept 3 (32 ∷ k ∷ (ks ++ 61 ∷ v)) (line_of 4 [] ∷ []) refl zeros hashes ended)

  unspoilt_lines : begins_with 35 (a ∷ p) ≡ false → has 0 (a ∷ p) ≡ false → has 0 (k ∷ (ks ++ 61 ∷ v)) ≡ false → spoilt_faults (four c a p k ks v) ≡ []
  unspoilt_lines head no_zero zeros =
      unspoilt 2 (a ∷ p) (property_line a p k ks v ∷ line_of 4 [] ∷ []) head no_zero ∙ unspoilt 3 (32 ∷ k ∷ (ks ++ 61 ∷ v)) (line_of 4 [] ∷ []) refl zeros

abbrev made : Assignment → List ℕ → List ℕ → Assignment
made f pattern key = record { position = record { priority = f.position.priority; line = 3; pattern = pattern; key = key }; value = f.value; path = f.path }

-- what makes a record plain
record IsPlain (f : Assignment) (a : ℕ) (p : List ℕ) (k : ℕ) (ks : List ℕ) : Type 0 where
  path : has 10 f.path ≡ false
  line : f.position.line < 2 ^ 64
  is_pattern : f.position.pattern ≡ a ∷ p
  is_key : f.position.key ≡ k ∷ ks
  match : (a == 32) ≡ false
  short : nat_lt max_pattern (length (a ∷ p)) ≡ false
  ends : ends_well (a ∷ p) ≡ true
  zeros : has 0 (a ∷ p) ≡ false
  breaks : has 10 (a ∷ p) ≡ false
  hashes : has 35 (a ∷ p) ≡ false
  space : (k == 32) ≡ false
  tab : (k == 9) ≡ false
  equals : has 61 (k ∷ ks) ≡ false
  value_ends : ends_well f.value ≡ true
  own_zeros : has 0 (k ∷ (ks ++ 61 ∷ f.value)) ≡ false
  own_breaks : has 10 (k ∷ (ks ++ 61 ∷ f.value)) ≡ false
  own_hashes : has 35 (k ∷ (ks ++ 61 ∷ f.value)) ≡ false

plain_said : (f : Assignment) (a : ℕ) (p : List ℕ) (k : ℕ) (ks : List ℕ) → IsPlain f a p k ks → is_said f ≡ true
plain_said f a p k ks h =
    let c : List ℕ = 32 ∷ (shown_name f.path ++ 58 ∷ decimal f.position.line) in
    let w : List ℕ = k ∷ (ks ++ 61 ∷ f.value) in
    let ends : ends_well (32 ∷ w) ≡ true = ends_behind (32 ∷ k ∷ ks) 61 f.value ∙ value_ends f.value h.value_ends in
    let comment : has 10 (comment_line f) ≡ false = has_behind 10 (shown_name f.path) (58 ∷ decimal f.position.line) (name_unbroken 0 f.path h.path) (decimal_unbroken f.position.line h.line) in
    let H : List ℕ → Type 0 = λ l. has 10 l ≡ false in
    let W : List ℕ → Type 0 = λ l. has 10 (l ++ 61 ∷ f.value) ≡ false in
    let first : lines (record_text f) ≡ own_lines f = lines_are f comment (subst H (sym h.is_pattern) h.breaks) (subst W (sym h.is_key) h.own_breaks) in
    let named : own_lines f ≡ four c a p k ks f.value =
    (λ i. line_of 1 (comment_line f) ∷ line_of 2 (h.is_pattern i) ∷ line_of 3 (32 ∷ (h.is_key i ++ 61 ∷ f.value)) ∷ line_of 4 [] ∷ []) in
    let head = begins_has 35 (a ∷ p) h.hashes in
    let cut_up : sections (clean (four c a p k ks f.value)) ≡ own_section a p k ks f.value ∷ [] =
    ap sections (cleaned_lines c a p k ks f.value head h.zeros h.hashes h.ends h.own_zeros h.own_hashes ends) ∙ sections_are a p k ks f.value h.match in
    let faultless : spoilt_faults (four c a p k ks f.value) ++ flat_map section_faults (sections (clean (four c a p k ks f.value))) ≡ [] =
    ap (λ (g : List Fault × List Section). g.0 ++ flat_map section_faults g.1) (λ i. (unspoilt_lines c a p k ks f.value head h.zeros h.own_zeros i, cut_up i))
    ∙ ap (λ (fs : List Fault). fs ++ []) (no_faults a p k ks f.value h.space h.tab h.equals h.short) in
    let gives : flat_map (section_assignments (origin_of f)) (sections (clean (four c a p k ks f.value))) ≡ made f (a ∷ p) (k ∷ ks) ∷ [] =
    ap (flat_map (section_assignments (origin_of f))) cut_up ∙ ap (λ (all : List Assignment). all ++ []) (assigned a p k ks f.value h.space h.tab h.equals h.short (origin_of f)) in
    said_is_judged f ∙ ap (judged f) (first ∙ named)
    ∙ ap (λ (g : List Fault × List Assignment). if is_none (by_line g.0) then is_alone f g.1 else false) (λ i. (faultless i, gives i))
    ∙ ap (λ (g : List ℕ × List ℕ). is_alone f (made f g.0 g.1 ∷ [])) (λ i. (sym h.is_pattern i, sym h.is_key i))
    ∙ alone f 3

-- its first byte and the rest of a text that isn't empty
parts : (C : Type 0) (l : List ℕ) → is_none l ≡ false → ((x : ℕ) (xs : List ℕ) → l ≡ x ∷ xs → C) → C
parts C [] h go = cc
parts C (x ∷ xs) h go = go x xs refl

not_long : (m n : ℕ) → nat_le m n ≡ true → nat_lt n m ≡ false
not_long m n h = grind (arith, nat_tests, h)

-- an assignment is said whose record's body passes
pub plain_is_said : (f : Assignment) (body : List ℕ) → body ≡ body_text f → f.position.line < 2 ^ 64 → is_plain f body ≡ true → is_said f ≡ true
plain_is_said f body given small h =
    let pattern = f.position.pattern in
    let key = f.position.key in
    let v = f.value in
    let path = both (lacks 10 f.path) _ h in
    let of_match = both (matches_whole pattern) _ path.1 in
    let of_property = both (is_own key v) _ of_match.1 in
    let no_zero = both (lacks 0 body) _ of_property.1 in
    let hash = both (lacks 35 body) _ no_zero.1 in
    let line = both (position_or_len (is 10) body == length pattern) _ hash.1 in
    let some = both (nat_le 2 (length body)) _ line.1 in
    let room = both (nat_le (length pattern) (length body - 2)) _ some.1 in
    let own = drop (length pattern + 2) body in
    let two = both (nat_le 2 (length own)) _ room.1 in
    let equals = both (position_or_len (is 61) own == length key) _ two.1 in
    let m1 = not_then (is_none pattern) _ of_match.0 in
    let m2 = not_then (begins_with 32 pattern) _ m1.1 in
    let m3 = both (nat_le (length pattern) max_pattern) (ends_well pattern) m2.1 in
    let k1 = not_then (is_none key) _ of_property.0 in
    let k2 = not_then (begins_with 32 key) _ k1.1 in
    let k3 = not_then (begins_with 9 key) _ k2.1 in
    let rest : List ℕ = property_text (key, v) ++ 10 ∷ [] in
    let own_is : own ≡ rest = ap (drop (length pattern + 2)) given ∙ drop_behind pattern rest 10 32 in
    let ended : rest ≡ (key ++ 61 ∷ v) ++ 10 ∷ 10 ∷ [] = property_end key v in
    let no : (b : ℕ) → lacks b body ≡ true → has b (pattern ++ 10 ∷ (32 ∷ rest)) ≡ false = λ b e. ap (has b) (sym given) ∙ all_lacks b body e in
    let no_own : (b : ℕ) → lacks b body ≡ true → has b (key ++ 61 ∷ v) ≡ false = λ b e. lacks_front b (key ++ 61 ∷ v) (10 ∷ 10 ∷ [])
    (ap (has b) (sym ended) ∙ (or_neither (32 == b) (has b rest) (or_neither (10 == b) (has b (32 ∷ rest)) (lacks_behind b pattern (10 ∷ (32 ∷ rest)) (no b e))).1).1) in
    let break_at : position_or_len (is 10) (pattern ++ 10 ∷ (32 ∷ rest)) ≡ length pattern = ap (position_or_len (is 10)) (sym given) ∙ eqb_is _ _ line.0 in
    let own_break : position_or_len (is 10) ((key ++ 61 ∷ v) ++ 10 ∷ 10 ∷ []) ≡ length (key ++ 61 ∷ v) =
    ap (position_or_len (is 10)) (sym (own_is ∙ ended)) ∙ eqb_is _ _ equals.1 ∙ ap (λ (l : List ℕ). length l - 2) (own_is ∙ ended) ∙ two_less (key ++ 61 ∷ v) 10 10 in
    let equals_at : position_or_len (is 61) (key ++ 61 ∷ ((v ++ 10 ∷ []) ++ 10 ∷ [])) ≡ length key =
    ap (position_or_len (is 61)) (sym (own_is ∙ append_assoc key (61 ∷ (v ++ 10 ∷ [])) (10 ∷ []))) ∙ eqb_is _ _ equals.0 in
    parts (is_said f ≡ true) pattern m1.0 (λ a p is_pattern. parts (is_said f ≡ true) key k1.0 (λ k ks is_key.
    let P : List ℕ → Type 0 = λ l. (begins_with 32 l ≡ false) × ((nat_le (length l) max_pattern ≡ true) × (ends_well l ≡ true)) in
    let Q : List ℕ → Type 0 = λ l. (begins_with 32 l ≡ false) × (begins_with 9 l ≡ false) in
    let N : ℕ → List ℕ → Type 0 = λ b l. has b l ≡ false in
    let W : ℕ → List ℕ → Type 0 = λ b l. has b (l ++ 61 ∷ v) ≡ false in
    let of_pattern : P (a ∷ p) = subst P is_pattern (m2.0, (m3.0, m3.1)) in
    let of_key : Q (k ∷ ks) = subst Q is_key (k2.0, k3.0) in
    plain_said f a p k ks (record {
      path = all_lacks 10 f.path path.0;
      line = small;
      is_pattern = is_pattern;
      is_key = is_key;
      match = of_pattern.0;
      short = not_long (length (a ∷ p)) max_pattern of_pattern.1.0;
      ends = of_pattern.1.1;
      zeros = subst (N 0) is_pattern (lacks_front 0 pattern (10 ∷ (32 ∷ rest)) (no 0 no_zero.0));
      breaks = subst (N 10) is_pattern (front_lacks 10 pattern (10 ∷ (32 ∷ rest)) break_at);
      hashes = subst (N 35) is_pattern (lacks_front 35 pattern (10 ∷ (32 ∷ rest)) (no 35 hash.0));
      space = of_key.0;
      tab = of_key.1;
      equals = subst (N 61) is_key (front_lacks 61 key (61 ∷ ((v ++ 10 ∷ []) ++ 10 ∷ [])) equals_at);
      value_ends = k3.1;
      own_zeros = subst (W 0) is_key (no_own 0 no_zero.0);
      own_breaks = subst (W 10) is_key (front_lacks 10 (key ++ 61 ∷ v) (10 ∷ 10 ∷ []) own_break);
      own_hashes = subst (W 35) is_key (no_own 35 hash.0);
    })))
