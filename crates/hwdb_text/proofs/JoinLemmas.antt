-- What is cut, joined again: lines are the file, sections are the block.
use Rattle.std.proofs.Common.{◌≡◌, ℕ, zero, suc, ◌+◌, ◌-◌, ◌<◌, ◌==◌, Bool, true, false, not, List, [], ◌∷◌, ◌++◌, take, drop, length, filter, All, refl, ap, ◌∙◌, sym, inl, inr, arith, append_assoc, eqb-true, get_or, map}
use Rattle.std.proofs.lemmas.Bool.{cases_Bool}
use Rattle.std.proofs.lemmas.Grind.{flat_map-append}
use Rattle.std.specs.Prelude.{flat_map}
use Rattle.hwdb_spec.specs.Lines.{Line, has, pieces, numbered, is, is_empty, is_property, is_match}
use Rattle.std.specs.List.{onto_first}
use Rattle.hwdb_text.specs.Laws.{ended, lines_of, LinesAreTheFile, LinesHoldNoNewline, LinesCountUp, SectionsAreTheBlock, SectionsAreTheLines}
use Rattle.std.specs.List.{take_while}
use Rattle.hwdb_text.proofs.RunLemmas.{run_cons}
use Rattle.hwdb_spec.specs.Records.{behind, first_section, size, sections_from}
use Rattle.hwdb_text.proofs.OrderLemmas.{behind_section}
use Rattle.hwdb_text.proofs.SectionLemmas.{positive}

run_behind : (test : Line → Bool) (ls : List Line) → take_while test ls ++ behind test ls ≡ ls
unfolding behind
run_behind test [] = refl
run_behind test (l ∷ more) =
    ap (λ r. r ++ behind test (l ∷ more)) (run_cons test l more) ∙ elim (cases_Bool (test l)) [ inl e ↦ rw e (ap (λ r. l ∷ r) (run_behind test more)) | inr e ↦ rw e refl ]

take_front : (n : ℕ) (ls : List Line) → take n ls ++ drop (length (take n ls)) ls ≡ ls
take_front zero ls = refl
take_front (suc n) [] = refl
take_front (suc n) (l ∷ more) = ap (λ r. l ∷ r) (take_front n more)

-- the first section's lines, and those after it
section_then : (ls : List Line) → lines_of (first_section ls) ++ drop (size (first_section ls)) ls ≡ ls
unfolding first_section
section_then ls =
    let a = behind is_property ls in
    let b = behind is_match a in
    let c = behind is_property b in
    let p = take_while is_property ls in
    let m = take_while is_match a in
    let q = take_while is_property b in
    let s = take 1 c in
    ap (λ r. (p ++ (m ++ (q ++ s))) ++ r) (behind_section ls)
    ∙ append_assoc p (m ++ (q ++ s)) (drop (length s) c)
    ∙ ap (λ r. p ++ r)
    (append_assoc m (q ++ s) (drop (length s) c)
    ∙ ap (λ r. m ++ r) (append_assoc q s (drop (length s) c) ∙ ap (λ r. q ++ r) (take_front 1 c) ∙ run_behind is_property b)
    ∙ run_behind is_match a)
    ∙ run_behind is_property ls

joined_from : (skip : ℕ) (ls : List Line) → flat_map lines_of (sections_from skip ls) ≡ drop skip ls
unfolding sections_from
joined_from zero [] = refl
joined_from (suc skip) [] = refl
joined_from (suc skip) (l ∷ more) = joined_from skip more
joined_from zero (l ∷ more) =
    let s = first_section (l ∷ more) in
    let p : 0 < size s = positive l more in
    let e : suc (size s - 1) ≡ size s = omega arith in
    ap (λ r. lines_of s ++ r) (joined_from (size s - 1) more ∙ ap (λ (k : ℕ). drop k (l ∷ more)) e) ∙ section_then (l ∷ more)

pub sections_are_the_block : SectionsAreTheBlock
sections_are_the_block block = joined_from 0 block

abbrev all_of : {X : Type 0} → List (List X) → List X
all_of ps = flat_map (λ p. p) ps

led_joined : {X : Type 0} (x : X) (ps : List (List X)) → all_of (onto_first x ps) ≡ x ∷ all_of ps
led_joined x [] = refl
led_joined x (p ∷ more) = refl

pieces_joined : (ls : List Line) → all_of (pieces is_empty ls) ≡ filter (λ l. not (is_empty l)) ls
unfolding pieces
pieces_joined [] = refl
pieces_joined (l ∷ more) = elim (cases_Bool (is_empty l)) [
  | inl e ↦ rw e (pieces_joined more)
  | inr e ↦ rw e (led_joined l (pieces is_empty more) ∙ ap (λ r. l ∷ r) (pieces_joined more))
]

blocks_joined : (ps : List (List Line)) → flat_map lines_of (flat_map (sections_from 0) ps) ≡ all_of ps
blocks_joined [] = refl
blocks_joined (p ∷ more) =
    flat_map-append lines_of (sections_from 0 p) (flat_map (sections_from 0) more)
    ∙ ap (λ r. r ++ flat_map lines_of (flat_map (sections_from 0) more)) (joined_from 0 p)
    ∙ ap (λ r. p ++ r) (blocks_joined more)

pub sections_are_the_lines : SectionsAreTheLines
sections_are_the_lines ls = blocks_joined (pieces is_empty ls) ∙ pieces_joined ls

-- each text, with a newline after it
abbrev ends_joined : List (List ℕ) → List ℕ
ends_joined ps = flat_map (λ p. p ++ 10 ∷ []) ps

numbered_joined : (n : ℕ) (ps : List (List ℕ)) → flat_map (λ l. l.text ++ 10 ∷ []) (numbered n ps) ≡ ends_joined ps
unfolding numbered
numbered_joined n [] = refl
numbered_joined n (p ∷ more) = ap (λ r. (p ++ 10 ∷ []) ++ r) (numbered_joined (n + 1) more)

newline_is : (b : ℕ) → (b == 10) ≡ true → 10 ≡ b
newline_is b e = sym (eqb-true b 10 e)

led_ended : (b c : ℕ) (rest : List ℕ) → ends_joined (onto_first b (pieces (is 10) (c ∷ rest))) ≡ b ∷ ends_joined (pieces (is 10) (c ∷ rest))
unfolding pieces
led_ended b c rest = elim (cases_Bool (c == 10)) [ inl e ↦ rw e refl | inr e ↦ rw e (led_twice (pieces (is 10) rest)) ] where
  led_twice : (ps : List (List ℕ)) → ends_joined (onto_first b (onto_first c ps)) ≡ b ∷ ends_joined (onto_first c ps)
  led_twice [] = refl
  led_twice (p ∷ more) = refl

cut_joined : (file : List ℕ) → ends_joined (pieces (is 10) file) ≡ ended file
unfolding pieces ended
cut_joined [] = refl
cut_joined (b ∷ []) = elim (cases_Bool (b == 10)) [ inl e ↦ rw e (ap (λ (x : ℕ). x ∷ []) (newline_is b e)) | inr e ↦ rw e refl ]
cut_joined (b ∷ next ∷ rest) =
    let i = cut_joined (next ∷ rest) in
    elim (cases_Bool (b == 10)) [
      | inl e ↦ rw e (ap (λ (x : ℕ). x ∷ ends_joined (pieces (is 10) (next ∷ rest))) (newline_is b e) ∙ ap (λ r. b ∷ r) i)
      | inr e ↦ rw e (led_ended b next rest ∙ ap (λ r. b ∷ r) i)
    ]

pub lines_are_the_file : LinesAreTheFile
lines_are_the_file file = numbered_joined 1 (pieces (is 10) file) ∙ cut_joined file

abbrev NoNewline : List (List ℕ) → Type 0
NoNewline [] = Unit {0}
NoNewline (p ∷ more) = (has 10 p ≡ false) × NoNewline more

led_clean : (b : ℕ) (ps : List (List ℕ)) → (b == 10) ≡ false → NoNewline ps → NoNewline (onto_first b ps)
led_clean b [] e n = (rw e refl, tt)
led_clean b (p ∷ more) e n = (rw e n.0, n.1)

cut_clean : (file : List ℕ) → NoNewline (pieces (is 10) file)
unfolding pieces
cut_clean [] = tt
cut_clean (b ∷ rest) = elim (cases_Bool (b == 10)) [ inl e ↦ rw e (refl, cut_clean rest) | inr e ↦ rw e (led_clean b (pieces (is 10) rest) e (cut_clean rest)) ]

numbered_clean : (n : ℕ) (ps : List (List ℕ)) → NoNewline ps → All (λ l. has 10 l.text ≡ false) (numbered n ps)
unfolding numbered
numbered_clean n [] c k d h = absurd (omega (arith, h))
numbered_clean n (p ∷ more) c zero d h = c.0
numbered_clean n (p ∷ more) c (suc k) d h = numbered_clean (n + 1) more c.1 k d (omega (arith, h))

pub lines_hold_no_newline : LinesHoldNoNewline
lines_hold_no_newline file = numbered_clean 1 (pieces (is 10) file) (cut_clean file)

numbers_are : (n : ℕ) (ps : List (List ℕ)) (k : ℕ) → k < length (numbered n ps) → get_or (map (λ l. l.number) (numbered n ps)) k 0 ≡ n + k
unfolding numbered
numbers_are n [] k h = absurd (omega (arith, h))
numbers_are n (p ∷ more) zero h = omega arith
numbers_are n (p ∷ more) (suc k) h = numbers_are (n + 1) more k (omega (arith, h)) ∙ omega arith

pub lines_count_up : LinesCountUp
lines_count_up file k h = numbers_are 1 (pieces (is 10) file) k h ∙ omega arith
