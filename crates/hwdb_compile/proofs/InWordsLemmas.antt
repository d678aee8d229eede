-- Of the assignments of files the last one of a pattern and key is the latest by priority and line.
use Rattle.std.proofs.Common.{◌≡◌, ◌∙◌, ap, sym, refl, subst, ℕ, suc, ◌<◌, ◌≤◌, ◌⊎◌, true, false, List, [], ◌∷◌, ◌++◌, arith, append_assoc, inl, inr, All, map}
use Rattle.std.specs.Prelude.{Contains, flat_map}
use Rattle.std.proofs.lemmas.List.{append-nil}
use Rattle.std.proofs.lemmas.List.Elements.{All-nil, All-cons, All-append, All-weaker, All-contains, All-contains_itself, Contains-push, Contains-append_left, Contains-append_right, Contains-append_cases}
use Rattle.hwdb_spec.specs.Assignment.{Assignment}
use Rattle.hwdb_text.specs.Views.{origin}
use Rattle.hwdb_spec.specs.Folders.{Choice, path_of, chosen_of, contents, file_assignments, all_assignments}
use Rattle.hwdb_compile.specs.Views.{name_of}
use Rattle.hwdb_spec.specs.Answers.{is_same_place}
use Rattle.hwdb_spec.specs.Last.{HaveOnePlace, IsLast, IsNoLater, IsLatest}
use Rattle.hwdb_text.specs.Laws.{PrioritiesCountUp, AssignmentsStandByLine, OneValueALine}
use Rattle.hwdb_compile.specs.Laws.{LastIsLatest}
use Rattle.hwdb_compile.proofs.GatherLemmas.{From, from_file}
use Rattle.hwdb_compile.proofs.LatestLemmas.{Rising, Counts, counts, rising_files}
use Rattle.hwdb_spec.specs.Lemmas.Places.{one_place, place_same}

-- what comes before a member isn't later
none_later : (done before : List Assignment) (a : Assignment) (behind : List Assignment) → Rising done (before ++ a ∷ behind) → All (λ b. IsNoLater b a) (done ++ before)
none_later done [] a behind up = subst (All (λ b. IsNoLater b a)) (sym (append-nil done)) up.0
none_later done (x ∷ before) a behind up = subst (All (λ b. IsNoLater b a)) (append_assoc done (x ∷ []) before) (none_later (done ++ x ∷ []) before a behind up.1)

here : (before : List Assignment) (a : Assignment) (behind : List Assignment) → Contains (before ++ a ∷ behind) a
here before a behind = Contains-append_right before (a ∷ behind) a (Contains-append_left (a ∷ []) behind a (Contains-push [] a))

latest_of : (all : List Assignment) (a : Assignment) → Rising [] all → IsLast all a → IsLatest all a
latest_of all a up h =
    let P : Assignment → Type 0 = λ b. HaveOnePlace a b → IsNoLater b a in
    let earlier : All (λ b. IsNoLater b a) h.before = none_later [] h.before a h.behind (subst (Rising []) h.stands up) in
    record {
      one = subst (λ l. Contains l a) (sym h.stands) (here h.before a h.behind);
      latest = subst (All P) (sym h.stands)
          (All-append P h.before (a ∷ h.behind)
          (All-weaker (λ b. IsNoLater b a) P (λ b k _. k) h.before earlier)
          (All-cons P a h.behind (λ _. inr (refl, omega arith)) (All-weaker (λ b. ¬ HaveOnePlace a b) P (λ b no p. absurd (no p)) h.behind h.last)));
    }

-- the last of those with the place of one, if there is any
record LastAt (a : Assignment) (all : List Assignment) : Type 0 where
  found : Assignment
  last : IsLast all found
  place : HaveOnePlace a found

extended : (a x : Assignment) (more : List Assignment) → LastAt a more → LastAt a (x ∷ more)
extended a x more h = record {
  found = h.found;
  last = record { before = x ∷ h.last.before; behind = h.last.behind; stands = ap (λ l. x ∷ l) h.last.stands; last = h.last.last };
  place = h.place;
}

last_at : (a : Assignment) (all : List Assignment) → LastAt a all ⊎ All (λ b. ¬ HaveOnePlace a b) all
last_at a [] = inr (All-nil (λ b. ¬ HaveOnePlace a b))
last_at a (x ∷ more) = elim (last_at a more) [
  | inl h ↦ inl (extended a x more h)
  | inr none ↦ elim (is_same_place a x) as (λ b. is_same_place a x ≡ b → LastAt a (x ∷ more) ⊎ All (λ b. ¬ HaveOnePlace a b) (x ∷ more)) [
    | true ↦ λ e.
        let p : HaveOnePlace a x = one_place a x e in
        let other : All (λ b. ¬ HaveOnePlace x b) more = All-weaker (λ b. ¬ HaveOnePlace a b) (λ b. ¬ HaveOnePlace x b) (λ b no q. no (p.0 ∙ q.0, p.1 ∙ q.1)) more none in
        inl (record { found = x; last = record { before = []; behind = more; stands = refl; last = other }; place = p })
    | false ↦ λ e.
        inr (All-cons (λ b. ¬ HaveOnePlace a b) x more (λ p. let no : true ≡ false = sym (place_same a x p) ∙ e in absurd (cc)) none)
  ] refl
]

-- if neither of two is later, they have one line
one_origin : (a b : Assignment) → IsNoLater a b → IsNoLater b a → (a.position.priority ≡ b.position.priority) × (a.position.line ≡ b.position.line)
one_origin a b h k = elim h [
  | inl x ↦ elim k [ inl y ↦ absurd (omega (arith, x, y)) | inr y ↦ absurd (let e = y.0 in omega (arith, x, e)) ]
  | inr x ↦ elim k [
    | inl y ↦ absurd (let e = x.0 in omega (arith, y, e))
    | inr y ↦ (x.0, (let e = x.1 in let f = y.1 in omega (arith, e, f)))
  ]
]

member : (x : Choice) (xs : List Choice) (c : Choice) → Contains (x ∷ xs) c → (x ≡ c) ⊎ Contains xs c
member x xs c m =
    All-contains (λ k. (x ≡ k) ⊎ Contains xs k) (x ∷ xs) c
    (All-cons (λ k. (x ≡ k) ⊎ Contains xs k) x xs (inl refl) (All-weaker (Contains xs) (λ k. (x ≡ k) ⊎ Contains xs k) (λ k h. inr h) xs (All-contains_itself xs))) m

above : (n : ℕ) (cs : List Choice) → Counts n cs → All (λ c. n ≤ c.priority) cs
above n [] h = All-nil (λ c. n ≤ c.priority)
above n (c ∷ cs) h =
    All-cons (λ c. n ≤ c.priority) c cs (let e : c.priority ≡ n = h.0 in omega (arith, e))
    (All-weaker (λ c. suc n ≤ c.priority) (λ c. n ≤ c.priority) (λ c k. omega (arith, k)) cs (above (suc n) cs h.1))

-- files with one priority are one file
one_file : (n : ℕ) (cs : List Choice) (c d : Choice) → Counts n cs → Contains cs c → Contains cs d → c.priority ≡ d.priority → c ≡ d
one_file n [] c d h mc md e = absurd (All-contains (λ k. ⊥) [] c (All-nil (λ k. ⊥)) mc)
one_file n (x ∷ cs) c d h mc md e =
    let first : x.priority ≡ n = h.0 in
    let over : (k : Choice) → Contains cs k → suc n ≤ k.priority = λ k m. All-contains (λ k. suc n ≤ k.priority) cs k (above (suc n) cs h.1) m in
    elim (member x cs c mc) [
      | inl a ↦ elim (member x cs d md) [
        | inl b ↦ sym a ∙ b
        | inr b ↦ (let q : x.priority ≡ c.priority = ap (λ (k : Choice). k.priority) a in let lt = over d b in absurd (omega (arith, first, q, lt, e)))
      ]
      | inr a ↦ elim (member x cs d md) [
        | inl b ↦ (let q : x.priority ≡ d.priority = ap (λ (k : Choice). k.priority) b in let lt = over c a in absurd (omega (arith, first, q, lt, e)))
        | inr b ↦ one_file (suc n) cs c d h.1 a b e
      ]
    ]

-- it is what one of some files assigns
record FromFile (read : Choice → List ℕ) (cs : List Choice) (a : Assignment) : Type 0 where
  file : Choice
  one : Contains cs file
  given : Contains (file_assignments read file) a

from_files : (read : Choice → List ℕ) (cs : List Choice) → All (FromFile read cs) (flat_map (file_assignments read) cs)
from_files read [] = All-nil (FromFile read [])
from_files read (c ∷ cs) =
    let own = file_assignments read c in
    All-append (FromFile read (c ∷ cs)) own (flat_map (file_assignments read) cs)
    (All-weaker (Contains own) (FromFile read (c ∷ cs)) (λ a m. record { file = c; one = Contains-append_left (c ∷ []) cs c (Contains-push [] c); given = m }) own (All-contains_itself own))
    (All-weaker (FromFile read cs) (FromFile read (c ∷ cs)) (λ a h. record { file = h.file; one = Contains-append_right (c ∷ []) cs h.file h.one; given = h.given }) (flat_map (file_assignments read) cs) (from_files read cs))

-- assignments with one position are one assignment
one_assignment : OneValueALine → (read : Choice → List ℕ) (n : ℕ) (cs : List Choice) (a b : Assignment) → Counts n cs → Contains (flat_map (file_assignments read) cs) a → Contains (flat_map (file_assignments read) cs) b
    → a.position.priority ≡ b.position.priority → a.position.line ≡ b.position.line → HaveOnePlace a b → a ≡ b
one_assignment by_line read n cs a b count ma mb pe le place =
    let f : FromFile read cs a = All-contains (FromFile read cs) (flat_map (file_assignments read) cs) a (from_files read cs) ma in
    let g : FromFile read cs b = All-contains (FromFile read cs) (flat_map (file_assignments read) cs) b (from_files read cs) mb in
    let o = origin (path_of f.file) f.file.priority in
    let fa : From o a = All-contains (From o) (file_assignments read f.file) a (from_file o (read f.file)) f.given in
    let gb : From (origin (path_of g.file) g.file.priority) b =
    All-contains (From (origin (path_of g.file) g.file.priority)) (file_assignments read g.file) b (from_file (origin (path_of g.file) g.file.priority) (read g.file)) g.given in
    let file : f.file ≡ g.file = one_file n cs f.file g.file count f.one g.one (sym fa.1 ∙ pe ∙ gb.1) in
    let mine : Contains (file_assignments read f.file) b = subst (λ c. Contains (file_assignments read c) b) (sym file) g.given in
    let value = (by_line o (read f.file) a b f.given mine le).1 in
    let path : a.path ≡ b.path = fa.0 ∙ ap path_of file ∙ sym gb.0 in
    λ i. record { position = record { priority = pe i; line = le i; pattern = place.0 i; key = place.1 i }; value = value i; path = path i }

last_of : (all : List Assignment) (a : Assignment) → Rising [] all
    → ((x y : Assignment) → Contains all x → Contains all y → x.position.priority ≡ y.position.priority → x.position.line ≡ y.position.line → HaveOnePlace x y → x ≡ y)
    → IsLatest all a → IsLast all a
last_of all a up one h = elim (last_at a all) [
  | inr none ↦ absurd (All-contains (λ b. ¬ HaveOnePlace a b) all a none h.one (refl, refl))
  | inl l ↦
      let z = l.last in
      let inside : Contains all l.found = subst (λ k. Contains k l.found) (sym z.stands) (here z.before l.found z.behind) in
      let earlier : All (λ b. IsNoLater b l.found) z.before = none_later [] z.before l.found z.behind (subst (Rising []) z.stands up) in
      let back : IsNoLater l.found a = All-contains (λ b. HaveOnePlace a b → IsNoLater b a) all l.found h.latest inside l.place in
      let is : a ≡ l.found =
      elim (Contains-append_cases z.before (l.found ∷ z.behind) a (subst (λ k. Contains k a) z.stands h.one)) [
        | inl m ↦ (let o = one_origin a l.found (All-contains (λ b. IsNoLater b l.found) z.before a earlier m) back in one a l.found h.one inside o.0 o.1 l.place)
        | inr m ↦ elim (Contains-append_cases (l.found ∷ []) z.behind a m) [
          | inl k ↦ alone a l.found k
          | inr k ↦ absurd (All-contains (λ b. ¬ HaveOnePlace l.found b) z.behind a z.last k (sym l.place.0, sym l.place.1))
        ]
      ] in
      subst (IsLast all) (sym is) z
]
  where
    alone : (a x : Assignment) → Contains (x ∷ []) a → a ≡ x
    alone a x m = All-contains (λ b. b ≡ x) (x ∷ []) a (All-cons (λ b. b ≡ x) x [] refl (All-nil (λ b. b ≡ x))) m

pub last_is_latest : PrioritiesCountUp → AssignmentsStandByLine → OneValueALine → LastIsLatest
last_is_latest up by_line one etc usr a =
    let cs = chosen_of etc usr in
    let read = contents etc usr in
    let count : Counts 1 cs = counts 1 cs (up (map name_of etc) (map name_of usr)) in
    let rising : Rising [] (all_assignments etc usr) = rising_files read by_line 1 [] cs (All-nil (λ b. b.position.priority < 1)) count in (
      latest_of (all_assignments etc usr) a rising,
      last_of (all_assignments etc usr) a rising (λ x y mx my pe le place. one_assignment one read 1 cs x y count mx my pe le place),
    )
