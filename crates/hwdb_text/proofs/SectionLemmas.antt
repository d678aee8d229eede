-- Sections, seen from a place in the clean lines.
use Rattle.std.proofs.Common.{◌≡◌, ℕ, zero, suc, ◌-◌, ◌+◌, ◌<◌, Bool, true, false, not, List, [], ◌∷◌, ◌++◌, take, drop, length, refl, ap, ◌∙◌, sym, cond, arith, append_assoc, append-nil, inl, inr}
use Rattle.std.proofs.lemmas.Bool.{cases_Bool}
use Rattle.std.proofs.Math.Seq.{drop-append-add}
use Rattle.std.proofs.lemmas.Grind.{flat_map-append}
use Rattle.std.specs.Prelude.{flat_map}
use Rattle.hwdb_spec.specs.Lines.{Line, pieces, is_empty, is_property, is_match, begins_with, is_none}
use Rattle.std.specs.List.{onto_first}
use Rattle.std.specs.List.{take_while}
use Rattle.hwdb_text.proofs.RunLemmas.{run_cons}
use Rattle.hwdb_spec.specs.Records.{Section, behind, first_section, size, sections_from, sections}
use Rattle.hwdb_text.specs.Internal.Reading.{section, AllPass, gives}

abbrev pub Stops : (Line → Bool) → List Line → Type 0
Stops test [] = Unit {0}
Stops test (l ∷ more) = test l ≡ false

no_property : (e p : Bool) → cond e false (not p) ≡ true → p ≡ false
no_property true p h = cc
no_property false true h = cc
no_property false false h = refl

no_empty : (e p : Bool) → cond e false (not p) ≡ true → e ≡ false
no_empty true p h = cc
no_empty false p h = refl

property_text : (text : List ℕ) → begins_with 32 text ≡ true → is_none text ≡ false
property_text [] h = cc
property_text (b ∷ rest) h = refl

pub match_no_property : (l : Line) → is_match l ≡ true → is_property l ≡ false
match_no_property l h = no_property (is_empty l) (is_property l) h

pub match_no_empty : (l : Line) → is_match l ≡ true → is_empty l ≡ false
match_no_empty l h = no_empty (is_empty l) (is_property l) h

pub property_no_empty : (l : Line) → is_property l ≡ true → is_empty l ≡ false
property_no_empty l h = property_text l.text h

property_no_match_by : (e p : Bool) → p ≡ true → cond e false (not p) ≡ false
property_no_match_by true p h = refl
property_no_match_by false true h = refl
property_no_match_by false false h = cc

pub property_no_match : (l : Line) → is_property l ≡ true → is_match l ≡ false
property_no_match l h = property_no_match_by (is_empty l) (is_property l) h

run_over : (test : Line → Bool) (xs ys : List Line) → AllPass test xs → Stops test ys → take_while test (xs ++ ys) ≡ xs
run_over test [] [] a s = refl
run_over test [] (y ∷ ys) a s = run_cons test y ys ∙ rw s refl
run_over test (x ∷ xs) ys a s = run_cons test x (xs ++ ys) ∙ rw (a.0) (ap (λ r. x ∷ r) (run_over test xs ys a.1 s))

behind_over : (test : Line → Bool) (xs ys : List Line) → AllPass test xs → Stops test ys → behind test (xs ++ ys) ≡ ys
unfolding behind
behind_over test [] [] a s = refl
behind_over test [] (y ∷ ys) a s = rw s refl
behind_over test (x ∷ xs) ys a s = rw (a.0) (behind_over test xs ys a.1 s)

-- the runs of a section are its lines
first_is : (ms ps t : List Line) → AllPass is_match ms → AllPass is_property ps → Stops is_property t → Stops is_match (ps ++ t)
    → Stops is_property (ms ++ (ps ++ t)) → first_section (ms ++ (ps ++ t)) ≡ section [] ms ps (take 1 t)
unfolding first_section
first_is ms ps t am ap1 st sm sp =
    let e1 = run_over is_property [] (ms ++ (ps ++ t)) tt sp in
    let e2 = behind_over is_property [] (ms ++ (ps ++ t)) tt sp in
    let e3 = run_over is_match ms (ps ++ t) am sm in
    let e4 = behind_over is_match ms (ps ++ t) am sm in
    let e5 = run_over is_property ps t ap1 st in
    let e6 = behind_over is_property ps t ap1 st in
    rw (e2, e1, e3, e4, e5, e6) refl

pub skipped : (skip : ℕ) (ls : List Line) → sections_from skip ls ≡ sections_from 0 (drop skip ls)
unfolding sections_from
skipped zero ls = refl
skipped (suc skip) [] = refl
skipped (suc skip) (l ∷ more) = skipped skip more

drop_one : (t : List Line) → drop (length (take 1 t)) t ≡ drop 1 t
drop_one [] = refl
drop_one (x ∷ more) = refl

behind_section : (m : Line) (ms ps t : List Line) → drop (size (section [] (m ∷ ms) ps (take 1 t)) - 1) (ms ++ (ps ++ t)) ≡ drop 1 t
behind_section m ms ps t =
    let e : size (section [] (m ∷ ms) ps (take 1 t)) - 1 ≡ length ms + (length ps + length (take 1 t)) = omega arith in
    ap (λ (k : ℕ). drop k (ms ++ (ps ++ t))) e
    ∙ drop-append-add ms (ps ++ t) (length ps + length (take 1 t)) ∙ drop-append-add ps t (length (take 1 t)) ∙ drop_one t

pub one_section : (m : Line) (ms ps t : List Line) → AllPass is_match (m ∷ ms) → AllPass is_property ps → Stops is_property t → Stops is_match (ps ++ t)
    → sections_from 0 (m ∷ (ms ++ (ps ++ t))) ≡ section [] (m ∷ ms) ps (take 1 t) ∷ sections_from 0 (drop 1 t)
unfolding sections_from
one_section m ms ps t am ap1 st sm =
    let e : first_section (m ∷ (ms ++ (ps ++ t))) ≡ section [] (m ∷ ms) ps (take 1 t) = first_is (m ∷ ms) ps t am ap1 st sm (match_no_property m am.0) in
    rw e (ap (λ (r : List Section). section [] (m ∷ ms) ps (take 1 t) ∷ r)
    (skipped (size (section [] (m ∷ ms) ps (take 1 t)) - 1) (ms ++ (ps ++ t)) ∙ ap (sections_from 0) (behind_section m ms ps t)))

-- a property in front of a section
abbrev pub with_leading : Line → Section → Section
with_leading x s = section (x ∷ s.leading) s.matches s.properties s.stray

run_more : (test : Line → Bool) (x : Line) (xs : List Line) → test x ≡ true → take_while test (x ∷ xs) ≡ x ∷ take_while test xs
run_more test x xs e = run_cons test x xs ∙ rw e refl

behind_more : (test : Line → Bool) (x : Line) (xs : List Line) → test x ≡ true → behind test (x ∷ xs) ≡ behind test xs
unfolding behind
behind_more test x xs e = rw e refl

first_leading : (x : Line) (h : List Line) → is_property x ≡ true → first_section (x ∷ h) ≡ with_leading x (first_section h)
unfolding first_section
first_leading x h p =
    let b = behind_more is_property x h p in
    λ i. section (run_more is_property x h p i) (take_while is_match (b i)) (take_while is_property (behind is_match (b i))) (take 1 (behind is_property (behind is_match (b i))))

positive_property : (y : Line) (h : List Line) → is_property y ≡ true → 0 < size (first_section (y ∷ h))
positive_property y h p = rw (first_leading y h p) (omega arith)

positive_match : (y : Line) (h : List Line) → is_property y ≡ false → is_match y ≡ true → 0 < size (first_section (y ∷ h))
unfolding first_section
positive_match y h p m = rw (behind_over is_property [] (y ∷ h) tt p, run_more is_match y h m) (omega arith)

positive_other : (y : Line) (h : List Line) → is_property y ≡ false → is_match y ≡ false → 0 < size (first_section (y ∷ h))
unfolding first_section
positive_other y h p m =
    rw (behind_over is_property [] (y ∷ h) tt p, behind_over is_match [] (y ∷ h) tt m, behind_over is_property [] (y ∷ h) tt p) (omega arith)

pub positive : (y : Line) (h : List Line) → 0 < size (first_section (y ∷ h))
positive y h = elim (cases_Bool (is_property y)) [ inl p ↦ positive_property y h p | inr p ↦ elim (cases_Bool (is_match y)) [ inl m ↦ positive_match y h p m | inr m ↦ positive_other y h p m ] ]

-- what sections give, if each leading property gives something by itself
pub record Gives {X : Type 0} (lead : Line → List X) (out : Section → List X) : Type 0 where
  pub leading : (x : Line) (s : Section) → out (with_leading x s) ≡ lead x ++ out s
  pub nothing : out (section [] [] [] []) ≡ []

first_none : first_section [] ≡ section [] [] [] []
unfolding first_section behind
first_none = refl

none_left : sections_from 0 [] ≡ []
unfolding sections_from
none_left = refl

drop_none : (k : ℕ) → drop k (let none : List Line = [] in none) ≡ []
drop_none zero = refl
drop_none (suc k) = refl

one_left : (x : Line) → sections_from 0 (x ∷ []) ≡ first_section (x ∷ []) ∷ []
unfolding sections_from
one_left x = ap (λ (r : List Section). first_section (x ∷ []) ∷ r) (skipped (size (first_section (x ∷ [])) - 1) [] ∙ ap (sections_from 0) (drop_none (size (first_section (x ∷ [])) - 1)) ∙ none_left)

two_left : (x y : Line) (h : List Line) → is_property x ≡ true
    → sections_from 0 (x ∷ (y ∷ h)) ≡ with_leading x (first_section (y ∷ h)) ∷ sections_from (size (first_section (y ∷ h)) - 1) h
unfolding sections_from
two_left x y h p =
    let pos : 0 < size (first_section (y ∷ h)) = positive y h in
    let e : size (with_leading x (first_section (y ∷ h))) - 1 ≡ suc (size (first_section (y ∷ h)) - 1) = omega arith in
    rw (first_leading x (y ∷ h) p) (ap (λ (r : List Section). with_leading x (first_section (y ∷ h)) ∷ r) (ap (λ (k : ℕ). sections_from k (y ∷ h)) e))

some_left : (y : Line) (h : List Line) → sections_from 0 (y ∷ h) ≡ first_section (y ∷ h) ∷ sections_from (size (first_section (y ∷ h)) - 1) h
unfolding sections_from
some_left y h = refl

pub leading_line : {X : Type 0} (lead : Line → List X) (out : Section → List X) → Gives lead out → (x : Line) (h : List Line) → is_property x ≡ true
    → flat_map out (sections_from 0 (x ∷ h)) ≡ lead x ++ flat_map out (sections_from 0 h)
leading_line lead out g x [] p =
    ap (flat_map out) (one_left x)
    ∙ append-nil (out (first_section (x ∷ [])))
    ∙ ap out (first_leading x [] p ∙ ap (with_leading x) first_none) ∙ g.leading x (section [] [] [] [])
    ∙ ap (λ r. lead x ++ r) (g.nothing ∙ sym (ap (flat_map out) none_left))
leading_line lead out g x (y ∷ h) p =
    ap (flat_map out) (two_left x y h p)
    ∙ ap (λ r. r ++ flat_map out (sections_from (size (first_section (y ∷ h)) - 1) h)) (g.leading x (first_section (y ∷ h)))
    ∙ append_assoc (lead x) _ _ ∙ ap (λ r. lead x ++ r) (sym (ap (flat_map out) (some_left y h)))

-- the first piece of the clean lines, and what the others give
abbrev pub head_piece : List (List Line) → List Line
head_piece [] = []
head_piece (p ∷ more) = p

abbrev pub other_pieces : List (List Line) → List (List Line)
other_pieces [] = []
other_pieces (p ∷ more) = more

led_is : (x : Line) (ps : List (List Line)) → onto_first x ps ≡ (x ∷ head_piece ps) ∷ other_pieces ps
led_is x [] = refl
led_is x (p ∷ more) = refl

pieces_more : (x : Line) (ls : List Line) → is_empty x ≡ false → pieces is_empty (x ∷ ls) ≡ (x ∷ head_piece (pieces is_empty ls)) ∷ other_pieces (pieces is_empty ls)
unfolding pieces
pieces_more x ls e = rw e (led_is x (pieces is_empty ls))

pieces_cut : (x : Line) (ls : List Line) → is_empty x ≡ true → pieces is_empty (x ∷ ls) ≡ [] ∷ pieces is_empty ls
unfolding pieces
pieces_cut x ls e = rw e refl

pieces_none : pieces is_empty [] ≡ []
unfolding pieces
pieces_none = refl

abbrev pub NoneEmpty : List Line → Type 0
NoneEmpty [] = Unit {0}
NoneEmpty (l ∷ more) = (is_empty l ≡ false) × NoneEmpty more

-- some lines that aren't empty, in front of others
pieces_over : (x : Line) (cur ls : List Line) → is_empty x ≡ false → NoneEmpty cur
    → pieces is_empty (x ∷ (cur ++ ls)) ≡ (x ∷ (cur ++ head_piece (pieces is_empty ls))) ∷ other_pieces (pieces is_empty ls)
pieces_over x [] ls e n = pieces_more x ls e
pieces_over x (y ∷ cur) ls e n =
    let i = pieces_over y cur ls n.0 n.1 in
    pieces_more x (y ∷ (cur ++ ls)) e ∙ ap (λ (r : List (List Line)). (x ∷ head_piece r) ∷ other_pieces r) i

split_pieces : (ps : List (List Line)) → flat_map (sections_from 0) ps ≡ sections_from 0 (head_piece ps) ++ flat_map (sections_from 0) (other_pieces ps)
split_pieces [] = sym (append-nil (sections_from 0 []) ∙ none_left)
split_pieces (p ∷ more) = refl

none_empty_properties : (ps : List Line) → AllPass is_property ps → NoneEmpty ps
none_empty_properties [] a = tt
none_empty_properties (p ∷ more) a = (property_no_empty p a.0, none_empty_properties more a.1)

none_empty_matches : (ms ps : List Line) → AllPass is_match ms → AllPass is_property ps → NoneEmpty (ms ++ ps)
none_empty_matches [] ps am ap1 = none_empty_properties ps ap1
none_empty_matches (m ∷ ms) ps am ap1 = (match_no_empty m am.0, none_empty_matches ms ps am.1 ap1)

-- a section that has begun, and the lines after it
begun : (m : Line) (ms ps ls : List Line) → AllPass is_match (m ∷ ms) → AllPass is_property ps
    → sections (m ∷ (ms ++ (ps ++ ls))) ≡ sections_from 0 (m ∷ (ms ++ (ps ++ head_piece (pieces is_empty ls)))) ++ flat_map (sections_from 0) (other_pieces (pieces is_empty ls))
begun m ms ps ls am ap1 =
    let e : pieces is_empty (m ∷ (ms ++ (ps ++ ls))) ≡ (m ∷ (ms ++ (ps ++ head_piece (pieces is_empty ls)))) ∷ other_pieces (pieces is_empty ls) =
    ap (λ (r : List Line). pieces is_empty (m ∷ r)) (sym (append_assoc ms ps ls))
    ∙ pieces_over m (ms ++ ps) ls (match_no_empty m am.0) (none_empty_matches ms ps am.1 ap1)
    ∙ ap (λ (r : List Line). (m ∷ r) ∷ other_pieces (pieces is_empty ls)) (append_assoc ms ps (head_piece (pieces is_empty ls))) in
    ap (flat_map (sections_from 0)) e

pub gives_empty : {X : Type 0} (out : Section → List X) (x : Line) (ls : List Line) → is_empty x ≡ true → gives out (x ∷ ls) ≡ gives out ls
gives_empty out x ls e =
    ap (λ (r : List (List Line)). flat_map out (flat_map (sections_from 0) r)) (pieces_cut x ls e)
    ∙ ap (λ (r : List Section). flat_map out (r ++ sections ls)) none_left

pub gives_leading : {X : Type 0} (lead : Line → List X) (out : Section → List X) → Gives lead out → (x : Line) (ls : List Line) → is_property x ≡ true
    → gives out (x ∷ ls) ≡ lead x ++ gives out ls
gives_leading lead out g x ls p =
    let h = head_piece (pieces is_empty ls) in
    let o = flat_map (sections_from 0) (other_pieces (pieces is_empty ls)) in
    ap (λ (r : List (List Line)). flat_map out (flat_map (sections_from 0) r)) (pieces_more x ls (property_no_empty x p))
    ∙ flat_map-append out (sections_from 0 (x ∷ h)) o
    ∙ ap (λ r. r ++ flat_map out o) (leading_line lead out g x h p)
    ∙ append_assoc (lead x) (flat_map out (sections_from 0 h)) (flat_map out o)
    ∙ ap (λ r. lead x ++ r) (sym (flat_map-append out (sections_from 0 h) o) ∙ ap (flat_map out) (sym (split_pieces (pieces is_empty ls))))

stops_match : (ps : List Line) → AllPass is_property ps → Stops is_match (ps ++ [])
stops_match [] a = tt
stops_match (p ∷ more) a = property_no_match p a.0

-- a section that ends
pub gives_section : {X : Type 0} (out : Section → List X) (m : Line) (ms ps : List Line) (x : Line) (ls : List Line)
    → AllPass is_match (m ∷ ms) → AllPass is_property ps → is_empty x ≡ true
    → gives out (m ∷ (ms ++ (ps ++ x ∷ ls))) ≡ out (section [] (m ∷ ms) ps []) ++ gives out ls
gives_section out m ms ps x ls am ap1 e =
    ap (flat_map out)
    (begun m ms ps (x ∷ ls) am ap1
    ∙ ap (λ (r : List (List Line)). sections_from 0 (m ∷ (ms ++ (ps ++ head_piece r))) ++ flat_map (sections_from 0) (other_pieces r)) (pieces_cut x ls e)
    ∙ ap (λ (r : List Section). r ++ sections ls) (one_section m ms ps [] am ap1 tt (stops_match ps ap1) ∙ ap (λ (r : List Section). section [] (m ∷ ms) ps [] ∷ r) none_left))

pub gives_last : {X : Type 0} (out : Section → List X) (m : Line) (ms ps : List Line)
    → AllPass is_match (m ∷ ms) → AllPass is_property ps
    → gives out (m ∷ (ms ++ (ps ++ []))) ≡ out (section [] (m ∷ ms) ps [])
gives_last out m ms ps am ap1 =
    ap (flat_map out)
    (begun m ms ps [] am ap1
    ∙ ap (λ (r : List (List Line)). sections_from 0 (m ∷ (ms ++ (ps ++ head_piece r))) ++ flat_map (sections_from 0) (other_pieces r)) pieces_none
    ∙ ap (λ (r : List Section). r ++ []) (one_section m ms ps [] am ap1 tt (stops_match ps ap1) ∙ ap (λ (r : List Section). section [] (m ∷ ms) ps [] ∷ r) none_left))
    ∙ append-nil (out (section [] (m ∷ ms) ps []))

-- a match line after a property
pub gives_stray : {X : Type 0} (out : Section → List X) (m : Line) (ms : List Line) (p : Line) (ps : List Line) (x : Line) (ls : List Line)
    → AllPass is_match (m ∷ ms) → AllPass is_property (p ∷ ps) → is_match x ≡ true
    → gives out (m ∷ (ms ++ ((p ∷ ps) ++ x ∷ ls))) ≡ out (section [] (m ∷ ms) (p ∷ ps) (x ∷ [])) ++ gives out ls
gives_stray out m ms p ps x ls am ap1 e =
    let h = head_piece (pieces is_empty ls) in
    let o = flat_map (sections_from 0) (other_pieces (pieces is_empty ls)) in
    ap (flat_map out)
    (begun m ms (p ∷ ps) (x ∷ ls) am ap1
    ∙ ap (λ (r : List (List Line)). sections_from 0 (m ∷ (ms ++ ((p ∷ ps) ++ head_piece r))) ++ flat_map (sections_from 0) (other_pieces r)) (pieces_more x ls (match_no_empty x e))
    ∙ ap (λ (r : List Section). r ++ o) (one_section m ms (p ∷ ps) (x ∷ h) am ap1 (match_no_property x e) (property_no_match p ap1.0)))
    ∙ ap (λ r. out (section [] (m ∷ ms) (p ∷ ps) (x ∷ [])) ++ flat_map out r) (sym (split_pieces (pieces is_empty ls)))

pub gives_none : {X : Type 0} (out : Section → List X) → gives out [] ≡ []
gives_none out = ap (λ (r : List (List Line)). flat_map out (flat_map (sections_from 0) r)) pieces_none
