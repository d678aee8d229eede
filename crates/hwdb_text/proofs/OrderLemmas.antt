-- What is read of rising lines rises, and priorities count up.
use Rattle.std.proofs.Common.{◌≡◌, ℕ, zero, suc, ◌+◌, ◌-◌, ◌<◌, ◌≤◌, Bool, true, false, List, [], ◌∷◌, ◌++◌, take, drop, length, get_or, map, refl, ap, ◌∙◌, sym, subst, cond, inl, inr, arith}
use Rattle.std.proofs.lemmas.Bool.{cases_Bool}
use Rattle.std.proofs.lemmas.Grind.{flat_map-append}
use Rattle.std.proofs.lemmas.List.{drop-drop}
use Rattle.std.proofs.lemmas.List.Sorted.{IsNonDecreasingBy-from_all_adjacent}
use Rattle.std.specs.Prelude.{flat_map}
use Rattle.hwdb_spec.specs.Lines.{Line, lines, clean, clean_line, is, is_dropped, is_empty, is_property, is_match, has_equals, has_key, pieces, numbered}
use Rattle.std.specs.List.{onto_first}
use Rattle.std.specs.List.{take_while}
use Rattle.hwdb_text.proofs.RunLemmas.{run_cons}
use Rattle.hwdb_spec.specs.Records.{behind, first_section, size, sections_from, Origin, patterns, assign, property_assignments, section_assignments, assignments}
use Rattle.hwdb_spec.specs.Assignment.{Assignment}
use Rattle.hwdb_spec.specs.Folders.{Choice}
use Rattle.hwdb_text.specs.Internal.Choosing.{with_priorities, all_names}
use Rattle.hwdb_text.specs.Laws.{AssignmentsStandByLine, PrioritiesCountUp}
use Rattle.hwdb_text.proofs.SectionLemmas.{positive}
use Rattle.hwdb_text.proofs.TakeLemmas.{choice_is}

-- the numbers of a list rise from `low` to `high`
abbrev Rises : {X : Type 0} → (X → ℕ) → (low : ℕ) → List X → (high : ℕ) → Type 0
Rises n low [] high = low ≤ high
Rises n low (x ∷ xs) high = (low ≤ n x) × Rises n (n x) xs high

rises_more : {X : Type 0} (n : X → ℕ) (low mid : ℕ) (xs : List X) (high : ℕ) → low ≤ mid → Rises n mid xs high → Rises n low xs high
rises_more n low mid [] high h r = omega arith
rises_more n low mid (x ∷ xs) high h r = ((let e : mid ≤ n x = r.0 in omega arith), r.1)

rises_append : {X : Type 0} (n : X → ℕ) (low : ℕ) (xs : List X) (mid : ℕ) (ys : List X) (high : ℕ) → Rises n low xs mid → Rises n mid ys high → Rises n low (xs ++ ys) high
rises_append n low [] mid ys high r s = rises_more n low mid ys high r s
rises_append n low (x ∷ xs) mid ys high r s = (r.0, rises_append n (n x) xs mid ys high r.1 s)

rises_ends : {X : Type 0} (n : X → ℕ) (low : ℕ) (xs : List X) (high : ℕ) → Rises n low xs high → low ≤ high
rises_ends n low [] high r = r
rises_ends n low (x ∷ xs) high r = let e : n x ≤ high = rises_ends n (n x) xs high r.1 in let f : low ≤ n x = r.0 in omega arith

abbrev at_line : Line → ℕ
at_line l = l.number

abbrev of_line : Assignment → ℕ
of_line a = a.position.line

-- some lines rise up to a number, and others from it
abbrev Meet : (low : ℕ) → (xs ys : List Line) → (high : ℕ) → Type 0
Meet low xs ys high = (mid : ℕ) × (Rises at_line low xs mid × Rises at_line mid ys high)

meet_cond : (b : Bool) (low : ℕ) (xs ys us vs : List Line) (high : ℕ) → Meet low xs us high → Meet low ys vs high → Meet low (cond b xs ys) (cond b us vs) high
meet_cond true low xs ys us vs high a b = a
meet_cond false low xs ys us vs high a b = b

run_meets : (test : Line → Bool) (low : ℕ) (ls : List Line) (high : ℕ) → Rises at_line low ls high → Meet low (take_while test ls) (behind test ls) high
unfolding behind
run_meets test low [] high r = (high, (r, (let e : high ≤ high = omega arith in e)))
run_meets test low (l ∷ more) high r =
    let m = run_meets test l.number more high r.1 in
    subst (λ xs. Meet low xs (behind test (l ∷ more)) high) (sym (run_cons test l more))
    (meet_cond (test l) low (l ∷ take_while test more) [] (behind test more) (l ∷ more) high (m.0, ((r.0, m.1.0), m.1.1)) (low, ((let e : low ≤ low = omega arith in e), r)))

drop_run : (test : Line → Bool) (ls : List Line) → drop (length (take_while test ls)) ls ≡ behind test ls
unfolding behind
drop_run test [] = refl
drop_run test (l ∷ more) =
    ap (λ r. drop (length r) (l ∷ more)) (run_cons test l more) ∙ elim (cases_Bool (test l)) [ inl e ↦ rw e (drop_run test more) | inr e ↦ rw e refl ]

rises_drop : {X : Type 0} (n : X → ℕ) (k : ℕ) (low : ℕ) (xs : List X) (high : ℕ) → Rises n low xs high → Rises n low (drop k xs) high
rises_drop n zero low xs high r = r
rises_drop n (suc k) low [] high r = r
rises_drop n (suc k) low (x ∷ xs) high r = rises_more n low (n x) (drop k xs) high r.0 (rises_drop n k (n x) xs high r.1)

-- what comes after the first section
pub behind_section : (ls : List Line) → drop (size (first_section ls)) ls ≡ drop (length (first_section ls).stray) (behind is_property (behind is_match (behind is_property ls)))
unfolding first_section
behind_section ls =
    let a = behind is_property ls in
    let b = behind is_match a in
    let x = length (take_while is_property ls) in
    let y = length (take_while is_match a) in
    let z = length (take_while is_property b) in
    let w = length (take 1 (behind is_property b)) in
    sym (drop-drop w (x + y + z) ls)
    ∙ ap (drop w) (sym (drop-drop z (x + y) ls) ∙ ap (drop z) (sym (drop-drop y x ls) ∙ ap (drop y) (drop_run is_property ls) ∙ drop_run is_match a) ∙ drop_run is_property b)

-- it rises from the end of the section's properties
section_meets : (low : ℕ) (ls : List Line) (high : ℕ) → Rises at_line low ls high → Meet low (first_section ls).properties (drop (size (first_section ls)) ls) high
unfolding first_section
section_meets low ls high r =
    let m = run_meets is_property low ls high r in
    let n = run_meets is_match m.0 (behind is_property ls) high m.1.1 in
    let p = run_meets is_property n.0 (behind is_match (behind is_property ls)) high n.1.1 in
    let e : low ≤ m.0 = rises_ends at_line low (take_while is_property ls) m.0 m.1.0 in
    let f : m.0 ≤ n.0 = rises_ends at_line m.0 (take_while is_match (behind is_property ls)) n.0 n.1.0 in
    let P : List Line → Type 0 = λ rest. Rises at_line p.0 rest high in (
      p.0,
      (
        rises_more at_line low n.0 (take_while is_property (behind is_match (behind is_property ls))) p.0 (omega arith) p.1.0,
        subst P (sym (behind_section ls)) (rises_drop at_line (length (first_section ls).stray) p.0 (behind is_property (behind is_match (behind is_property ls))) high p.1.1),
      ),
    )

same_line : (o : Origin) (l : Line) (low : ℕ) (ps : List (List ℕ)) → low ≤ l.number → Rises of_line low (map (assign o l) ps) l.number
same_line o l low [] h = h
same_line o l low (p ∷ ps) h = (h, same_line o l l.number ps (omega arith))

one_rises : (b c : Bool) (o : Origin) (l : Line) (low : ℕ) (ps : List (List ℕ)) → low ≤ l.number → Rises of_line low (cond b (cond c (map (assign o l) ps) []) []) l.number
one_rises true true o l low ps h = same_line o l low ps h
one_rises true false o l low ps h = h
one_rises false c o l low ps h = h

properties_rise : (o : Origin) (ps : List (List ℕ)) (low : ℕ) (ls : List Line) (high : ℕ) → Rises at_line low ls high → Rises of_line low (flat_map (property_assignments o ps) ls) high
properties_rise o ps low [] high r = r
properties_rise o ps low (l ∷ more) high r =
    rises_append of_line low (property_assignments o ps l) l.number (flat_map (property_assignments o ps) more) high
    (one_rises (has_equals l) (has_key l) o l low ps r.0) (properties_rise o ps l.number more high r.1)

sections_rise : (o : Origin) (skip : ℕ) (ls : List Line) (low high : ℕ) → Rises at_line low (drop skip ls) high → Rises of_line low (flat_map (section_assignments o) (sections_from skip ls)) high
unfolding sections_from
sections_rise o zero [] low high r = r
sections_rise o (suc skip) [] low high r = r
sections_rise o (suc skip) (l ∷ more) low high r = sections_rise o skip more low high r
sections_rise o zero (l ∷ more) low high r =
    let s = first_section (l ∷ more) in
    let m = section_meets low (l ∷ more) high r in
    let p : 0 < size s = positive l more in
    let e : size s ≡ suc (size s - 1) = omega arith in
    let P : ℕ → Type 0 = λ k. Rises at_line m.0 (drop k (l ∷ more)) high in
    rises_append of_line low (section_assignments o s) m.0 (flat_map (section_assignments o) (sections_from (size s - 1) more)) high
    (properties_rise o (patterns s.matches) low s.properties m.0 m.1.0)
    (sections_rise o (size s - 1) more m.0 high (subst P e m.1.1))

abbrev RisesAll : (low : ℕ) → List (List Line) → (high : ℕ) → Type 0
RisesAll low [] high = low ≤ high
RisesAll low (p ∷ ps) high = (mid : ℕ) × (Rises at_line low p mid × RisesAll mid ps high)

led_rises : (x : Line) (low : ℕ) (ps : List (List Line)) (high : ℕ) → low ≤ x.number → RisesAll x.number ps high → RisesAll low (onto_first x ps) high
led_rises x low [] high h a = (x.number, ((h, (let e : x.number ≤ x.number = omega arith in e)), a))
led_rises x low (p ∷ ps) high h a = (a.0, ((h, a.1.0), a.1.1))

all_cond : (b : Bool) (low : ℕ) (ps qs : List (List Line)) (high : ℕ) → RisesAll low ps high → RisesAll low qs high → RisesAll low (cond b ps qs) high
all_cond true low ps qs high a b = a
all_cond false low ps qs high a b = b

pieces_rise : (low : ℕ) (ls : List Line) (high : ℕ) → Rises at_line low ls high → RisesAll low (pieces is_empty ls) high
unfolding pieces
pieces_rise low [] high r = r
pieces_rise low (l ∷ more) high r =
    let a = pieces_rise l.number more high r.1 in
    all_cond (is_empty l) low ([] ∷ pieces is_empty more) (onto_first l (pieces is_empty more)) high (l.number, (r.0, a)) (led_rises l low (pieces is_empty more) high r.0 a)

blocks_rise : (o : Origin) (low : ℕ) (ps : List (List Line)) (high : ℕ) → RisesAll low ps high → Rises of_line low (flat_map (section_assignments o) (flat_map (sections_from 0) ps)) high
blocks_rise o low [] high a = a
blocks_rise o low (p ∷ ps) high a =
    let P : List Assignment → Type 0 = λ xs. Rises of_line low xs high in
    subst P (sym (flat_map-append (section_assignments o) (sections_from 0 p) (flat_map (sections_from 0) ps)))
    (rises_append of_line low (flat_map (section_assignments o) (sections_from 0 p)) a.0 (flat_map (section_assignments o) (flat_map (sections_from 0) ps)) high
    (sections_rise o 0 p low a.0 a.1.0) (blocks_rise o a.0 ps high a.1.1))

clean_rises : (low : ℕ) (ls : List Line) (high : ℕ) → Rises at_line low ls high → Rises at_line low (clean ls) high
clean_rises low [] high r = r
clean_rises low (l ∷ more) high r =
    let a = clean_rises l.number more high r.1 in
    kept (is_dropped l) low (clean_line l) (clean more) high (rises_more at_line low l.number (clean more) high r.0 a) (r.0, a)
  where
    kept : (b : Bool) (low : ℕ) (x : Line) (xs : List Line) (high : ℕ) → Rises at_line low xs high → Rises at_line low (x ∷ xs) high → Rises at_line low (cond b xs (x ∷ xs)) high
    kept true low x xs high a b = a
    kept false low x xs high a b = b

numbered_rises : (low n : ℕ) (ps : List (List ℕ)) → low ≤ n → Rises at_line low (numbered n ps) (n + length ps)
unfolding numbered
numbered_rises low n [] h = omega arith
numbered_rises low n (p ∷ ps) h =
    let e : n + 1 + length ps ≡ n + length (p ∷ ps) = omega arith in
    let P : ℕ → Type 0 = λ high. Rises at_line n (numbered (n + 1) ps) high in
    (h, subst P e (numbered_rises n (n + 1) ps (omega arith)))

adjacent : {X : Type 0} (n : X → ℕ) (low : ℕ) (xs : List X) (high : ℕ) → Rises n low xs high → (k : ℕ) (d : X) → k + 1 < length xs → n (get_or xs k d) ≤ n (get_or xs (k + 1) d)
adjacent n low [] high r k d h = absurd (omega arith)
adjacent n low (x ∷ []) high r k d h = absurd (omega arith)
adjacent n low (x ∷ y ∷ more) high r zero d h = r.1.0
adjacent n low (x ∷ y ∷ more) high r (suc k) d h =
    let t : n (get_or (y ∷ more) k d) ≤ n (get_or (y ∷ more) (k + 1) d) = adjacent n (n x) (y ∷ more) high r.1 k d (omega arith) in
    let e : suc (k + 1) ≡ suc k + 1 = omega arith in
    let P : ℕ → Type 0 = λ i. n (get_or (y ∷ more) k d) ≤ n (get_or (x ∷ y ∷ more) i d) in subst P e t

pub assignments_stand_by_line : AssignmentsStandByLine
assignments_stand_by_line o file =
    IsNonDecreasingBy-from_all_adjacent of_line (assignments o file)
    (adjacent of_line 1 (assignments o file) (1 + length (pieces (is 10) file))
    (blocks_rise o 1 (pieces is_empty (clean (lines file))) (1 + length (pieces (is 10) file))
    (pieces_rise 1 (clean (lines file)) (1 + length (pieces (is 10) file))
    (clean_rises 1 (lines file) (1 + length (pieces (is 10) file)) (numbered_rises 1 1 (pieces (is 10) file) (omega arith))))))

count_up : (p : ℕ) (es : List (List ℕ × Bool)) (k : ℕ) → k < length (with_priorities p es) → get_or (map (λ c. c.priority) (with_priorities p es)) k 0 ≡ p + k
unfolding with_priorities
count_up p [] k h = absurd (omega arith)
count_up p (e ∷ es) zero h = omega arith
count_up p (e ∷ es) (suc k) h = count_up (p + 1) es k (omega arith) ∙ omega arith

pub priorities_count_up : PrioritiesCountUp
priorities_count_up etc usr k h =
    let P : List Choice → Type 0 = λ cs. k < length cs → get_or (map (λ c. c.priority) cs) k 0 ≡ k + 1 in
    let q : k < length (with_priorities 1 (all_names etc usr)) → get_or (map (λ (c : Choice). c.priority) (with_priorities 1 (all_names etc usr))) k 0 ≡ k + 1 =
    λ l. count_up 1 (all_names etc usr) k l ∙ omega arith in
    subst P (choice_is etc usr) q h
