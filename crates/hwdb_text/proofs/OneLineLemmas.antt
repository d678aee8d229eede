-- The assignments of one line have its key and its value.
use Rattle.std.proofs.Common.{◌≡◌, ◌∙◌, ap, sym, refl, subst, ℕ, ◌+◌, ◌<◌, ◌≤◌, ◌⊎◌, Bool, true, false, not, List, [], ◌∷◌, ◌++◌, map, cond, if◌then◌else◌, inl, inr, arith}
use Rattle.std.specs.Prelude.{All, Contains, flat_map}
use Rattle.std.proofs.lemmas.List.Elements.{All-nil, All-cons, All-head, All-tail, All-append, All-weaker, All-filter, All-contains, All-contains_itself}
use Rattle.hwdb_spec.specs.Lines.{Line, lines, clean, clean_line, numbered, pieces, is, is_dropped, is_empty, has_equals, has_key, key, value}
use Rattle.hwdb_spec.specs.Records.{Origin, Section, assign, patterns, property_assignments, section_assignments, sections, assignments}
use Rattle.hwdb_spec.specs.Assignment.{Assignment}
use Rattle.hwdb_text.specs.Laws.{lines_of, OneValueALine}
use Rattle.hwdb_text.proofs.JoinLemmas.{sections_are_the_lines}

-- it is what a line of some gives
record FromLine (ls : List Line) (a : Assignment) : Type 0 where
  from : Line
  one : Contains ls from
  at : a.position.line ≡ from.number
  has_key : a.position.key ≡ key from
  has_value : a.value ≡ value from

left : (P : Line → Type 0) (xs ys : List Line) → All P (xs ++ ys) → All P xs
left P [] ys h = All-nil P
left P (x ∷ xs) ys h = All-cons P x xs (All-head P x (xs ++ ys) h) (left P xs ys (All-tail P x (xs ++ ys) h))

right : (P : Line → Type 0) (xs ys : List Line) → All P (xs ++ ys) → All P ys
right P [] ys h = h
right P (x ∷ xs) ys h = right P xs ys (All-tail P x (xs ++ ys) h)

module _ (all : List Line) (o : Origin) where
  of_patterns : (l : Line) (ps : List (List ℕ)) → Contains all l → All (FromLine all) (map (assign o l) ps)
  of_patterns l [] m = All-nil (FromLine all)
  of_patterns l (p ∷ ps) m =
      All-cons (FromLine all) (assign o l p) (map (assign o l) ps) (record { from = l; one = m; at = refl; has_key = refl; has_value = refl }) (of_patterns l ps m)

  of_line : (ps : List (List ℕ)) (l : Line) → Contains all l → All (FromLine all) (property_assignments o ps l)
  of_line ps l m =
      elim (has_equals l) as (λ b. All (FromLine all) (if b then (if has_key l then map (assign o l) ps else []) else [])) [
        | true ↦ elim (has_key l) as (λ b. All (FromLine all) (if b then map (assign o l) ps else [])) [ true ↦ of_patterns l ps m | false ↦ All-nil (FromLine all) ]
        | false ↦ All-nil (FromLine all)
      ]

  of_lines : (ps : List (List ℕ)) (ls : List Line) → All (Contains all) ls → All (FromLine all) (flat_map (property_assignments o ps) ls)
  of_lines ps [] m = All-nil (FromLine all)
  of_lines ps (l ∷ ls) m =
      All-append (FromLine all) (property_assignments o ps l) (flat_map (property_assignments o ps) ls)
      (of_line ps l (All-head (Contains all) l ls m)) (of_lines ps ls (All-tail (Contains all) l ls m))

  of_section : (s : Section) → All (Contains all) (lines_of s) → All (FromLine all) (section_assignments o s)
  of_section s m =
      of_lines (patterns s.matches) s.properties
      (left (Contains all) s.properties s.stray (right (Contains all) s.matches (s.properties ++ s.stray) (right (Contains all) s.leading (s.matches ++ (s.properties ++ s.stray)) m)))

  of_sections : (ss : List Section) → All (Contains all) (flat_map lines_of ss) → All (FromLine all) (flat_map (section_assignments o) ss)
  of_sections [] m = All-nil (FromLine all)
  of_sections (s ∷ ss) m =
      All-append (FromLine all) (section_assignments o s) (flat_map (section_assignments o) ss)
      (of_section s (left (Contains all) (lines_of s) (flat_map lines_of ss) m)) (of_sections ss (right (Contains all) (lines_of s) (flat_map lines_of ss) m))

-- each assignment of a file is what one of its clean lines gives
of_file : (o : Origin) (file : List ℕ) → All (FromLine (clean (lines file))) (assignments o file)
of_file o file =
    let ls = clean (lines file) in
    of_sections ls o (sections ls)
    (subst (All (Contains ls)) (sym (sections_are_the_lines ls)) (All-filter (λ l. not (is_empty l)) (Contains ls) ls (All-contains_itself ls)))

-- numbers ascend strictly, the first above `low`
abbrev Up : (low : ℕ) → List Line → Type 0
Up low [] = Unit {0}
Up low (l ∷ more) = (low < l.number) × Up l.number more

up_more : (low mid : ℕ) (ls : List Line) → low ≤ mid → Up mid ls → Up low ls
up_more low mid [] h u = tt
up_more low mid (l ∷ more) h u = ((let e : mid < l.number = u.0 in omega arith), u.1)

up_cond : (b : Bool) (low : ℕ) (xs ys : List Line) → Up low xs → Up low ys → Up low (cond b xs ys)
up_cond true low xs ys u v = u
up_cond false low xs ys u v = v

up_clean : (low : ℕ) (ls : List Line) → Up low ls → Up low (clean ls)
up_clean low [] u = tt
up_clean low (l ∷ more) u =
    let h : low ≤ l.number = (let e : low < l.number = u.0 in omega arith) in
    let rest = up_clean l.number more u.1 in
    up_cond (is_dropped l) low (clean more) (clean_line l ∷ clean more) (up_more low l.number (clean more) h rest) (u.0, rest)

up_numbered : (low n : ℕ) (ps : List (List ℕ)) → low < n → Up low (numbered n ps)
unfolding numbered
up_numbered low n [] h = tt
up_numbered low n (p ∷ ps) h = (h, up_numbered n (n + 1) ps (omega arith))

up_above : (low : ℕ) (ls : List Line) → Up low ls → All (λ m. low < m.number) ls
up_above low [] u = All-nil (λ m. low < m.number)
up_above low (l ∷ more) u = All-cons (λ m. low < m.number) l more u.0 (up_above low more (up_more low l.number more (let e : low < l.number = u.0 in omega arith) u.1))

cases : (x : Line) (xs : List Line) (l : Line) → Contains (x ∷ xs) l → (x ≡ l) ⊎ Contains xs l
cases x xs l m =
    All-contains (λ k. (x ≡ k) ⊎ Contains xs k) (x ∷ xs) l
    (All-cons (λ k. (x ≡ k) ⊎ Contains xs k) x xs (inl refl) (All-weaker (Contains xs) (λ k. (x ≡ k) ⊎ Contains xs k) (λ k h. inr h) xs (All-contains_itself xs))) m

-- lines with one number are one line
one_line : (low : ℕ) (ls : List Line) (l m : Line) → Up low ls → Contains ls l → Contains ls m → l.number ≡ m.number → l ≡ m
one_line low [] l m u hl hm e = absurd (All-contains (λ k. ⊥) [] l (All-nil (λ k. ⊥)) hl)
one_line low (x ∷ xs) l m u hl hm e =
    let above : (k : Line) → Contains xs k → x.number < k.number = λ k h. All-contains (λ k. x.number < k.number) xs k (up_above x.number xs u.1) h in
    elim (cases x xs l hl) [
      | inl a ↦ elim (cases x xs m hm) [
        | inl b ↦ sym a ∙ b
        | inr b ↦ (let lt : x.number < m.number = above m b in let q : x.number ≡ l.number = ap (λ (k : Line). k.number) a in absurd (omega (arith, lt, q, e)))
      ]
      | inr a ↦ elim (cases x xs m hm) [
        | inl b ↦ (let lt : x.number < l.number = above l a in let q : x.number ≡ m.number = ap (λ (k : Line). k.number) b in absurd (omega (arith, lt, q, e)))
        | inr b ↦ one_line x.number xs l m u.1 a b e
      ]
    ]

pub one_value_a_line : OneValueALine
one_value_a_line o file a b ma mb e =
    let ls = clean (lines file) in
    let f : FromLine ls a = All-contains (FromLine ls) (assignments o file) a (of_file o file) ma in
    let g : FromLine ls b = All-contains (FromLine ls) (assignments o file) b (of_file o file) mb in
    let up : Up 0 ls = up_clean 0 (lines file) (up_numbered 0 1 (pieces (is 10) file) (omega arith)) in
    let same : f.from ≡ g.from = one_line 0 ls f.from g.from up f.one g.one (sym f.at ∙ e ∙ g.at) in
    (f.has_key ∙ ap key same ∙ sym g.has_key, f.has_value ∙ ap value same ∙ sym g.has_value)
