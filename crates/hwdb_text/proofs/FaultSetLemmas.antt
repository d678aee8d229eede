-- Faults as sets: a file has none twice, and a set of faults has one ascending list.
use Rattle.std.proofs.Common.{◌≡◌, ℕ, zero, suc, ◌+◌, ◌<◌, ◌≤◌, ◌==◌, ◌⊎◌, Bool, true, false, not, List, [], ◌∷◌, ◌++◌, map, filter, refl, ap, ◌∙◌, sym, subst, cond, inl, inr, arith, eq-eqb, ne_eqb, eqb-true}
use Rattle.std.proofs.lemmas.Bool.{cases_Bool}
use Rattle.std.proofs.lemmas.Cmp.{tied_itself}
use Rattle.std.specs.Prelude.{flat_map}
use Rattle.std.specs.List.{AllByRecursion, Contains}
use Rattle.std.specs.List.Sorted.{IsStrictlySortedBy}
use Rattle.std.specs.Ordering.{is_eq, is_lt, is_gt, ordering_reverse}
use Rattle.std.specs.declared.cmp.Ordering.{Ordering}
use Rattle.std.specs.declared.cmp.Ordering.TheVariants.{Less, Equal, Greater}
use Rattle.hwdb_spec.specs.declared.Fault.{Fault}
use Rattle.hwdb_spec.specs.declared.FaultKind.{FaultKind}
use Rattle.hwdb_spec.specs.declared.FaultKind.TheVariants.{StrayProperty, NoProperty, StrayMatch, NoEquals, EmptyKey, ZeroByte, LongMatch}
use Rattle.hwdb_spec.specs.Lines.{Line, lines, clean, numbered, pieces, is, is_dropped, is_empty, is_spoilt, is_long, has_equals, has_key}
use Rattle.hwdb_spec.specs.Records.{Section, sections, fault, fault_number, fault_cmp, property_faults, long_faults, lonely_faults, section_faults, spoilt_faults, all_faults, with_fault, by_line, faults}
use Rattle.hwdb_text.specs.Laws.{lines_of, FaultsAscend, OneListOfFaults}
use Rattle.hwdb_text.proofs.FaultOrderLemmas.{AllFrom, Up, fault_equal, fault_total, up_in_order}
use Rattle.hwdb_text.proofs.JoinLemmas.{sections_are_the_lines}
use Rattle.hwdb_text.proofs.NameSetLemmas.{greater_of}
use Rattle.hwdb_spec.specs.Lemmas.Orders.{less_of}

-- whether it is the fault, and how often the list has the fault
abbrev once : Fault → Fault → ℕ
once f g = cond (is_eq (fault_cmp f g)) 1 0

often : Fault → List Fault → ℕ
often f [] = 0
often f (g ∷ more) = once f g + often f more

-- how many of some lines have a number
abbrev here : ℕ → Line → ℕ
here n l = cond (l.number == n) 1 0

many : ℕ → List Line → ℕ
many n [] = 0
many n (l ∷ more) = here n l + many n more

often_append : (f : Fault) (xs ys : List Fault) → often f (xs ++ ys) ≡ often f xs + often f ys
unfolding often
often_append f [] ys = omega arith
often_append f (x ∷ xs) ys = let i = often_append f xs ys in omega (arith, i)

many_append : (n : ℕ) (xs ys : List Line) → many n (xs ++ ys) ≡ many n xs + many n ys
unfolding many
many_append n [] ys = omega arith
many_append n (x ∷ xs) ys = let i = many_append n xs ys in omega (arith, i)

-- m if the fault has the kind, else 0
abbrev most : Fault → FaultKind → ℕ → ℕ
most f kind m = cond (fault_number f.kind == fault_number kind) m 0

itself : (n : ℕ) → (n == n) ≡ true
itself n = eq-eqb n n refl

at_most_one : (b : Bool) → cond b 1 0 ≤ 1
at_most_one true = omega arith
at_most_one false = omega arith

once_most : (f : Fault) (kind : FaultKind) (l : Line) → once f (fault kind l) ≤ most f kind (here f.line l)
once_most f kind l = elim (cases_Bool (is_eq (fault_cmp f (fault kind l)))) [
  | inl e ↦
      let same : f ≡ fault kind l = fault_equal f (fault kind l) e in
      let P : Fault → Type 0 = λ g. once g (fault kind l) ≤ most g kind (here g.line l) in
      let all : most (fault kind l) kind (here l.number l) ≡ 1 =
      ap (λ (b : Bool). cond b (here l.number l) 0) (itself (fault_number kind)) ∙ ap (λ (b : Bool). cond b 1 0) (itself l.number) in
      let one = at_most_one (is_eq (fault_cmp (fault kind l) (fault kind l))) in
      subst P (sym same) (omega (arith, all, one))
  | inr e ↦ rw e (omega arith)
]

most_add : (b : Bool) (x y h m : ℕ) → x ≤ cond b h 0 → y ≤ cond b m 0 → x + y ≤ cond b (h + m) 0
most_add true x y h m p q = omega arith
most_add false x y h m p q = omega arith

stray_few : (f : Fault) (kind : FaultKind) (ls : List Line) → often f (map (fault kind) ls) ≤ most f kind (many f.line ls)
unfolding often many
stray_few f kind [] = omega arith
stray_few f kind (l ∷ more) = most_add (fault_number f.kind == fault_number kind) (once f (fault kind l)) (often f (map (fault kind) more)) (here f.line l) (many f.line more) (once_most f kind l) (stray_few f kind more)

one_long : (f : Fault) (l : Line) → often f (long_faults l) ≤ most f LongMatch (here f.line l)
unfolding often
one_long f l = elim (cases_Bool (is_long l)) [
  | inl e ↦ rw e (let h = once_most f LongMatch l in omega (arith, h))
  | inr e ↦ rw e (omega arith)
]

long_few : (f : Fault) (ls : List Line) → often f (flat_map long_faults ls) ≤ most f LongMatch (many f.line ls)
unfolding often many
long_few f [] = omega arith
long_few f (l ∷ more) =
    let h = most_add (fault_number f.kind == 7) (often f (long_faults l)) (often f (flat_map long_faults more)) (here f.line l) (many f.line more) (one_long f l) (long_few f more) in
    let e = often_append f (long_faults l) (flat_map long_faults more) in omega (arith, h, e)

lonely_few : (f : Fault) (ms ps : List Line) → often f (lonely_faults ms ps) ≤ most f NoProperty (many f.line ms)
unfolding often many
lonely_few f [] ps = omega arith
lonely_few f (l ∷ more) [] =
    let h = most_add (fault_number f.kind == 2) (once f (fault NoProperty l)) 0 (here f.line l) (many f.line more) (once_most f NoProperty l) (omega arith) in omega (arith, h)
lonely_few f (l ∷ more) (p ∷ ps) = omega arith

one_property : (f : Fault) (l : Line) → often f (property_faults l) ≤ most f NoEquals (here f.line l) + most f EmptyKey (here f.line l)
unfolding often
one_property f l =
    let h = once_most f NoEquals l in
    let k = once_most f EmptyKey l in
    elim (cases_Bool (has_equals l)) [
      | inl e ↦ rw e (elim (cases_Bool (has_key l)) [ inl d ↦ rw d (omega arith) | inr d ↦ rw d (omega (arith, k)) ])
      | inr e ↦ rw e (omega (arith, h))
    ]

both_add : (b c : Bool) (x y h m : ℕ) → x ≤ cond b h 0 + cond c h 0 → y ≤ cond b m 0 + cond c m 0 → x + y ≤ cond b (h + m) 0 + cond c (h + m) 0
both_add true true x y h m p q = omega (arith, p, q)
both_add true false x y h m p q = omega (arith, p, q)
both_add false true x y h m p q = omega (arith, p, q)
both_add false false x y h m p q = omega (arith, p, q)

property_few : (f : Fault) (ls : List Line) → often f (flat_map property_faults ls) ≤ most f NoEquals (many f.line ls) + most f EmptyKey (many f.line ls)
unfolding often many
property_few f [] = omega arith
property_few f (l ∷ more) =
    let h = both_add (fault_number f.kind == 4) (fault_number f.kind == 5) (often f (property_faults l)) (often f (flat_map property_faults more)) (here f.line l) (many f.line more) (one_property f l) (property_few f more) in
    let e = often_append f (property_faults l) (flat_map property_faults more) in omega (arith, h, e)

-- those of a match line inside a record
abbrev match_faults : Line → List Fault
match_faults l = fault StrayMatch l ∷ long_faults l

match_few : (f : Fault) (ls : List Line) → often f (flat_map match_faults ls) ≤ most f StrayMatch (many f.line ls) + most f LongMatch (many f.line ls)
unfolding often many
match_few f [] = omega arith
match_few f (l ∷ more) =
    let a = once_most f StrayMatch l in
    let b = one_long f l in
    let h = both_add (fault_number f.kind == 3) (fault_number f.kind == 7) (once f (fault StrayMatch l) + often f (long_faults l)) (often f (flat_map match_faults more)) (here f.line l) (many f.line more) (omega (arith, a, b)) (match_few f more) in
    let e = often_append f (match_faults l) (flat_map match_faults more) in omega (arith, h, e)

spoilt_few : (f : Fault) (ls : List Line) → often f (spoilt_faults ls) ≤ most f ZeroByte (many f.line ls)
unfolding often many
spoilt_few f [] = omega arith
spoilt_few f (l ∷ more) =
    let h = most_add (fault_number f.kind == 6) (once f (fault ZeroByte l)) (often f (spoilt_faults more)) (here f.line l) (many f.line more) (once_most f ZeroByte l) (spoilt_few f more) in
    let k = most_add (fault_number f.kind == 6) 0 (often f (spoilt_faults more)) (here f.line l) (many f.line more) (omega arith) (spoilt_few f more) in
    elim (cases_Bool (is_spoilt l)) [ inl e ↦ rw e h | inr e ↦ rw e (omega (arith, k)) ]

-- m, but 0 for the fault of a line with a byte 0
abbrev rest : Fault → ℕ → ℕ
rest f m = cond (fault_number f.kind == 6) 0 m

-- the five groups of a section's faults together, by their kinds
groups : (kind : FaultKind) (a b d e x y u v w : ℕ)
    → x ≤ cond (fault_number kind == 1) a 0
    → y ≤ cond (fault_number kind == 7) b 0
    → u ≤ cond (fault_number kind == 2) b 0
    → v ≤ cond (fault_number kind == 4) d 0 + cond (fault_number kind == 5) d 0
    → w ≤ cond (fault_number kind == 3) e 0 + cond (fault_number kind == 7) e 0
    → x + (y + (u + (v + w))) ≤ cond (fault_number kind == 6) 0 (a + (b + (d + e)))
groups StrayProperty a b d e x y u v w p q r s t = omega (arith, p, q, r, s, t)
groups NoProperty a b d e x y u v w p q r s t = omega (arith, p, q, r, s, t)
groups StrayMatch a b d e x y u v w p q r s t = omega (arith, p, q, r, s, t)
groups NoEquals a b d e x y u v w p q r s t = omega (arith, p, q, r, s, t)
groups EmptyKey a b d e x y u v w p q r s t = omega (arith, p, q, r, s, t)
groups ZeroByte a b d e x y u v w p q r s t = omega (arith, p, q, r, s, t)
groups LongMatch a b d e x y u v w p q r s t = omega (arith, p, q, r, s, t)

section_few : (f : Fault) (s : Section) → often f (section_faults s) ≤ rest f (many f.line (lines_of s))
section_few f s =
    let n = f.line in
    let stray = map (fault StrayProperty) s.leading in
    let long = flat_map long_faults s.matches in
    let lonely = lonely_faults s.matches s.properties in
    let wrong = flat_map property_faults s.properties in
    let last = flat_map match_faults s.stray in
    let e : often f (section_faults s) ≡ often f stray + (often f long + (often f lonely + (often f wrong + often f last))) =
    often_append f stray (long ++ (lonely ++ (wrong ++ last)))
    ∙ ap (λ m. often f stray + m)
    (often_append f long (lonely ++ (wrong ++ last))
    ∙ ap (λ m. often f long + m) (often_append f lonely (wrong ++ last) ∙ ap (λ m. often f lonely + m) (often_append f wrong last))) in
    let lined : many n (lines_of s) ≡ many n s.leading + (many n s.matches + (many n s.properties + many n s.stray)) =
    many_append n s.leading (s.matches ++ (s.properties ++ s.stray))
    ∙ ap (λ m. many n s.leading + m)
    (many_append n s.matches (s.properties ++ s.stray) ∙ ap (λ m. many n s.matches + m) (many_append n s.properties s.stray)) in
    let P : ℕ → Type 0 = λ m. often f (section_faults s) ≤ rest f m in
    let g =
    groups f.kind (many n s.leading) (many n s.matches) (many n s.properties) (many n s.stray)
    (often f stray) (often f long) (often f lonely) (often f wrong) (often f last)
    (stray_few f StrayProperty s.leading) (long_few f s.matches) (lonely_few f s.matches s.properties) (property_few f s.properties) (match_few f s.stray) in
    subst P (sym lined) (omega (arith, e, g))

rest_add : (b : Bool) (x y h m : ℕ) → x ≤ cond b 0 h → y ≤ cond b 0 m → x + y ≤ cond b 0 (h + m)
rest_add true x y h m p q = omega (arith, p, q)
rest_add false x y h m p q = omega (arith, p, q)

sections_few : (f : Fault) (ss : List Section) → often f (flat_map section_faults ss) ≤ rest f (many f.line (flat_map lines_of ss))
unfolding often many
sections_few f [] = omega arith
sections_few f (s ∷ more) =
    let h = rest_add (fault_number f.kind == 6) (often f (section_faults s)) (often f (flat_map section_faults more)) (many f.line (lines_of s)) (many f.line (flat_map lines_of more)) (section_few f s) (sections_few f more) in
    let e = often_append f (section_faults s) (flat_map section_faults more) in
    let P : ℕ → Type 0 = λ m. often f (flat_map section_faults (s ∷ more)) ≤ rest f m in
    subst P (sym (many_append f.line (lines_of s) (flat_map lines_of more))) (omega (arith, h, e))

filter_fewer : (n : ℕ) (test : Line → Bool) (ls : List Line) → many n (filter test ls) ≤ many n ls
unfolding many
filter_fewer n test [] = omega arith
filter_fewer n test (l ∷ more) =
    let i = filter_fewer n test more in
    elim (cases_Bool (test l)) [ inl e ↦ rw e (omega (arith, i)) | inr e ↦ rw e (omega (arith, i)) ]

clean_fewer : (n : ℕ) (ls : List Line) → many n (clean ls) ≤ many n ls
unfolding many
clean_fewer n [] = omega arith
clean_fewer n (l ∷ more) =
    let i = clean_fewer n more in
    elim (cases_Bool (is_dropped l)) [ inl e ↦ rw e (omega (arith, i)) | inr e ↦ rw e (omega (arith, i)) ]

-- no two lines of a file have one number
number_below : (n k : ℕ) → n < k → (k == n) ≡ false
number_below n k h = ne_eqb k n (λ e. absurd (omega (arith, h, e)))

numbered_none : (n k : ℕ) (ps : List (List ℕ)) → n < k → many n (numbered k ps) ≡ 0
unfolding many numbered
numbered_none n k [] h = refl
numbered_none n k (p ∷ ps) h = let i = numbered_none n (k + 1) ps (omega (arith, h)) in rw (number_below n k h) (omega (arith, i))

numbered_once : (n k : ℕ) (ps : List (List ℕ)) → many n (numbered k ps) ≤ 1
unfolding many numbered
numbered_once n k [] = omega arith
numbered_once n k (p ∷ ps) = elim (cases_Bool (k == n)) [
  | inl e ↦
      let same = eqb-true k n e in
      let none = numbered_none n (k + 1) ps (omega (arith, same)) in rw e (omega (arith, none))
  | inr e ↦ let i = numbered_once n (k + 1) ps in rw e (omega (arith, i))
]

either_few : (b : Bool) (x y m : ℕ) → x ≤ cond b m 0 → y ≤ cond b 0 m → x + y ≤ m
either_few true x y m p q = omega (arith, p, q)
either_few false x y m p q = omega (arith, p, q)

rest_less : (b : Bool) (m k : ℕ) → m ≤ k → cond b 0 m ≤ cond b 0 k
rest_less true m k h = omega arith
rest_less false m k h = h

-- a file has a fault at most once
all_once : (f : Fault) (file : List ℕ) → often f (all_faults file) ≤ 1
all_once f file =
    let n = f.line in
    let ls = lines file in
    let ss = sections (clean ls) in
    let P : List Line → Type 0 = λ xs. many n xs ≤ many n (clean ls) in
    let fewer : many n (flat_map lines_of ss) ≤ many n (clean ls) = subst P (sym (sections_are_the_lines (clean ls))) (filter_fewer n (λ l. not (is_empty l)) (clean ls)) in
    let kept = clean_fewer n ls in
    let below = rest_less (fault_number f.kind == 6) (many n (flat_map lines_of ss)) (many n ls) (omega (arith, fewer, kept)) in
    let some = sections_few f ss in
    let both = either_few (fault_number f.kind == 6) (often f (spoilt_faults ls)) (often f (flat_map section_faults ss)) (many n ls) (spoilt_few f ls) (omega (arith, some, below)) in
    let e = often_append f (spoilt_faults ls) (flat_map section_faults ss) in
    let one = numbered_once n 1 (pieces (is 10) file) in
    omega (arith, both, e, one)

often_with : (f g : Fault) (fs : List Fault) → often f (with_fault g fs) ≡ once f g + often f fs
unfolding often
often_with f g [] = refl
often_with f g (h ∷ more) =
    let i = often_with f g more in
    elim (cases_Bool (is_gt (fault_cmp g h))) [ inl e ↦ rw e (omega (arith, i)) | inr e ↦ rw e refl ]

often_in_order : (f : Fault) (fs : List Fault) → often f (by_line fs) ≡ often f fs
unfolding often
often_in_order f [] = refl
often_in_order f (g ∷ more) = often_with f g (by_line more) ∙ ap (λ m. once f g + m) (often_in_order f more)

less_by : (f g : Fault) → is_lt (fault_cmp g f) ≡ false → is_eq (fault_cmp f g) ≡ false → fault_cmp f g ≡ Less
less_by f g h e = elim (cases_Bool (is_lt (fault_cmp f g))) [
  | inl l ↦ less_of (fault_cmp f g) l
  | inr l ↦
      let above : fault_cmp f g ≡ Greater = greater_of (fault_cmp f g) l e in
      let back : is_lt (fault_cmp g f) ≡ true = ap is_lt (fault_total.antisymm g f ∙ ap ordering_reverse above) in
      let c : true ≡ false = sym back ∙ h in cc
]

all_above : (f : Fault) (more : List Fault) → AllFrom f more → often f more ≡ 0 → AllByRecursion (λ g. fault_cmp f g ≡ Less) more
unfolding often
all_above f [] a z = tt
all_above f (g ∷ more) a z = (
  elim (cases_Bool (is_eq (fault_cmp f g))) [
    | inl e ↦ let w : once f g ≡ 1 = ap (λ (b : Bool). cond b 1 0) e in absurd (omega (arith, w, z))
    | inr e ↦ less_by f g a.0 e
  ],
  all_above f more a.1 (omega (arith, z)),
)

ascends : (fs : List Fault) → Up fs → ((f : Fault) → often f fs ≤ 1) → IsStrictlySortedBy fault_cmp fs
unfolding often IsStrictlySortedBy
ascends [] u h = tt
ascends (f ∷ more) u h =
    let one : once f f ≡ 1 = ap (λ (o : Ordering). cond (is_eq o) 1 0) (tied_itself fault_total f) in
    let k = h f in (all_above f more u.0 (omega (arith, one, k)), ascends more u.1 (λ g. let i = h g in omega (arith, i)))

pub faults_ascend : FaultsAscend
faults_ascend file =
    ascends (faults file) (up_in_order (all_faults file))
    (λ f. let e = often_in_order f (all_faults file) in let o = all_once f file in omega (arith, e, o))

of_front : (x y : Fault) (xs : List Fault) → Contains (x ∷ xs) y → (x ≡ y) ⊎ Contains xs y
of_front x y xs (zero, l, e) = inl e
of_front x y xs (suc k, l, e) = inr (k, omega (arith, l), e)

in_front : (x : Fault) (xs : List Fault) → Contains (x ∷ xs) x
in_front x xs = (0, omega arith, refl)

behind_front : (x y : Fault) (xs : List Fault) → Contains xs y → Contains (x ∷ xs) y
behind_front x y xs c = let l = c.1 in (suc c.0, omega (arith, l), c.2)

above_each : (x y : Fault) (xs : List Fault) → AllByRecursion (λ g. fault_cmp x g ≡ Less) xs → Contains xs y → fault_cmp x y ≡ Less
above_each x y [] a c = let l = c.1 in absurd (omega (arith, l))
above_each x y (z ∷ zs) a c = elim (of_front z y zs c) [
  | inl e ↦ subst (λ g. fault_cmp x g ≡ Less) e a.0
  | inr d ↦ above_each x y zs a.1 d
]

first_is_same : (x y : Fault) (xs ys : List Fault)
    → AllByRecursion (λ g. fault_cmp x g ≡ Less) xs → AllByRecursion (λ g. fault_cmp y g ≡ Less) ys
    → Contains (y ∷ ys) x → Contains (x ∷ xs) y → x ≡ y
first_is_same x y xs ys a b c d = elim (of_front y x ys c) [
  | inl e ↦ sym e
  | inr l ↦ elim (of_front x y xs d) [
    | inl e ↦ e
    | inr m ↦
        let under : fault_cmp y x ≡ Less = above_each y x ys b l in
        let over : fault_cmp y x ≡ Greater = fault_total.antisymm y x ∙ ap ordering_reverse (above_each x y xs a m) in
        let w : Less ≡ Greater = sym under ∙ over in cc
  ]
]

-- what comes after the first of one list comes after this first in the other
rest_has : (x y f : Fault) (xs ys : List Fault) → AllByRecursion (λ g. fault_cmp x g ≡ Less) xs → x ≡ y → Contains xs f → Contains (y ∷ ys) f → Contains ys f
rest_has x y f xs ys a e c d = elim (of_front y f ys d) [
  | inl s ↦
      let under : fault_cmp x f ≡ Less = above_each x f xs a c in
      let tied : fault_cmp x f ≡ Equal = subst (λ g. fault_cmp x g ≡ Equal) (e ∙ s) (tied_itself fault_total x) in
      let w : Less ≡ Equal = sym under ∙ tied in cc
  | inr l ↦ l
]

pub one_list_of_faults : OneListOfFaults
unfolding IsStrictlySortedBy
one_list_of_faults [] [] a b h = refl
one_list_of_faults [] (y ∷ ys) a b h = let c = (h y).1 (in_front y ys) in let l = c.1 in absurd (omega (arith, l))
one_list_of_faults (x ∷ xs) [] a b h = let c = (h x).0 (in_front x xs) in let l = c.1 in absurd (omega (arith, l))
one_list_of_faults (x ∷ xs) (y ∷ ys) a b h =
    let e : x ≡ y = first_is_same x y xs ys a.0 b.0 ((h x).0 (in_front x xs)) ((h y).1 (in_front y ys)) in
    ap (λ (f : Fault). f ∷ xs) e
    ∙ ap (λ (fs : List Fault). y ∷ fs)
    (one_list_of_faults xs ys a.1 b.1 (λ f. (
      (λ c. rest_has x y f xs ys a.0 e c ((h f).0 (behind_front x f xs c))),
      (λ c. rest_has y x f ys xs b.0 (sym e) c ((h f).1 (behind_front y f ys c))),
    )))
