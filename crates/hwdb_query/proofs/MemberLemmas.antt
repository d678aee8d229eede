-- The answers are the members of the map that match.
use Rattle.std.proofs.Common.{◌≡◌, ◌∙◌, ap, sym, refl, subst, ℕ, Bool, true, false, List, [], ◌∷◌, ◌++◌, filter, map, Some, None, cond, ◌⊎◌, inl, inr}
use Rattle.std.specs.FinMap as finite
use Rattle.std.specs.Prelude.{flat_map}
use Rattle.std.specs.Cmp.Lexicographic.{slice_cmp}
use Rattle.std.specs.Ordering.{nat_cmp, is_eq, match_ordering}
use Rattle.std.specs.declared.cmp.Ordering.TheVariants.{Less, Equal, Greater}
use Rattle.std.proofs.lemmas.Cmp.{tied_itself}
use Rattle.hwdb_spec.specs.Tree.{Tree, Value, values_under, IsTree, place_cmp, map_of, entry_of, assigned_at, key_of, members_under, answers}
use Rattle.hwdb_query.specs.Internal.Members.{assignment_of}
use Rattle.hwdb_spec.specs.Patterns.{tokens}
use Rattle.hwdb_pattern.specs.Laws.{MatchesIsTested}
use Rattle.hwdb_spec.specs.Assignment.{put, put_all, Assignment, position_cmp, assignment_cmp}
use Rattle.std.specs.List.Sorted.{IsStrictlySortedBy}
use Rattle.hwdb_spec.specs.Answers.{is_wanted}
use Rattle.hwdb_query.specs.Laws.{Among, AreAnswers}
use Rattle.hwdb_query.proofs.PutLemmas.{ascends_all}
use Rattle.hwdb_query.proofs.DistinctLemmas.{Apart, Distinct, under_distinct}
use Rattle.hwdb_spec.specs.Lemmas.Orders.{equal_text, then_equal}
use Rattle.hwdb_spec.specs.Lemmas.Places.{assignment_total, key_is, place_total}

pub put_sound : (f x : Assignment) (l : List Assignment) → Among f (put assignment_cmp x l) → (x ≡ f) ⊎ Among f l
unfolding put Among
put_sound f x [] m = m
put_sound f x (y ∷ ys) m =
    let again : Among f (put assignment_cmp x ys) → (x ≡ f) ⊎ Among f ys = put_sound f x ys in
    elim (assignment_cmp x y) as (λ o. Among f (match_ordering o (x ∷ y ∷ ys) (y ∷ ys) (y ∷ put assignment_cmp x ys)) → (x ≡ f) ⊎ Among f (y ∷ ys)) [
      | Less ↦ λ k. k
      | Equal ↦ λ k. inr k
      | Greater ↦ λ k. elim k [ inl e ↦ inr (inl e) | inr r ↦ elim (again r) [ inl e ↦ inl e | inr q ↦ inr (inr q) ] ]
    ] m

put_keeps : (f x : Assignment) (l : List Assignment) → Among f l → Among f (put assignment_cmp x l)
unfolding put Among
put_keeps f x [] m = absurd m
put_keeps f x (y ∷ ys) m =
    let again : Among f ys → Among f (put assignment_cmp x ys) = put_keeps f x ys in
    elim (assignment_cmp x y) as (λ o. Among f (match_ordering o (x ∷ y ∷ ys) (y ∷ ys) (y ∷ put assignment_cmp x ys))) [
      | Less ↦ inr m
      | Equal ↦ m
      | Greater ↦ elim m [ inl e ↦ inl e | inr r ↦ inr (again r) ]
    ]

-- it is in the list, if its place is no other's
put_has : (x : Assignment) (l : List Assignment) → ((y : Assignment) → Among y l → assignment_cmp x y ≡ Equal → x ≡ y) → Among x (put assignment_cmp x l)
unfolding put Among
put_has x [] free = inl refl
put_has x (y ∷ ys) free =
    let again : Among x (put assignment_cmp x ys) = put_has x ys (λ z m. free z (inr m)) in
    elim (assignment_cmp x y) as (λ o. assignment_cmp x y ≡ o → Among x (match_ordering o (x ∷ y ∷ ys) (y ∷ ys) (y ∷ put assignment_cmp x ys))) [
      | Less ↦ λ e. inl refl
      | Equal ↦ λ e. inl (sym (free y (inl refl) e))
      | Greater ↦ λ e. inr again
    ] refl

pub all_sound : (f : Assignment) (xs l : List Assignment) → Among f (put_all assignment_cmp xs l) → Among f xs ⊎ Among f l
unfolding put_all Among
all_sound f [] l m = inr m
all_sound f (x ∷ xs) l m =
    elim (all_sound f xs (put assignment_cmp x l) m) [ inl a ↦ inl (inr a) | inr b ↦ elim (put_sound f x l b) [ inl e ↦ inl (inl e) | inr k ↦ inr k ] ]

all_keeps : (f : Assignment) (xs l : List Assignment) → Among f l → Among f (put_all assignment_cmp xs l)
unfolding put_all
all_keeps f [] l m = m
all_keeps f (x ∷ xs) l m = all_keeps f xs (put assignment_cmp x l) (put_keeps f x l m)

-- if no place is taken twice, all are there
pub all_has : (f : Assignment) (xs l : List Assignment) → Among f xs → ((x y : Assignment) → Among x xs → Among y l → assignment_cmp x y ≡ Equal → x ≡ y)
    → ((x y : Assignment) → Among x xs → Among y xs → assignment_cmp x y ≡ Equal → x ≡ y) → Among f (put_all assignment_cmp xs l)
unfolding put_all Among
all_has f [] l m free single = absurd m
all_has f (x ∷ xs) l m free single =
    elim m [
      | inl e ↦ all_keeps f xs (put assignment_cmp x l) (subst (λ g. Among g (put assignment_cmp x l)) e (put_has x l (λ y k. free x y (inl refl) k)))
      | inr r ↦ all_has f xs (put assignment_cmp x l) r
          (λ a y ma my t. elim (put_sound y x l my) [
            | inl e ↦ single a x (inr ma) (inl refl) (ap (assignment_cmp a) e ∙ t) ∙ e
            | inr k ↦ free a y (inr ma) k t
          ])
          (λ a y ma my. single a y (inr ma) (inr my))
    ]

pub filter_sound : (f : Assignment) (p : Assignment → Bool) (xs : List Assignment) → Among f (filter p xs) → Among f xs × (p f ≡ true)
unfolding Among
filter_sound f p [] m = absurd m
filter_sound f p (x ∷ xs) m =
    let again : Among f (filter p xs) → Among f xs × (p f ≡ true) = filter_sound f p xs in
    elim (p x) as (λ b. p x ≡ b → Among f (cond b (x ∷ filter p xs) (filter p xs)) → Among f (x ∷ xs) × (p f ≡ true)) [
      | true ↦ λ e k. elim k [ inl q ↦ (inl q, ap p (sym q) ∙ e) | inr r ↦ (inr (again r).0, (again r).1) ]
      | false ↦ λ e k. (inr (again k).0, (again k).1)
    ] refl m

pub filter_complete : (f : Assignment) (p : Assignment → Bool) (xs : List Assignment) → Among f xs → p f ≡ true → Among f (filter p xs)
unfolding Among
filter_complete f p [] m h = absurd m
filter_complete f p (x ∷ xs) m h =
    let again : Among f xs → Among f (filter p xs) = λ k. filter_complete f p xs k h in
    elim (p x) as (λ b. p x ≡ b → Among f (cond b (x ∷ filter p xs) (filter p xs))) [
      | true ↦ λ e. elim m [ inl q ↦ inl q | inr r ↦ inr (again r) ]
      | false ↦ λ e. elim m [ inl q ↦ (let w : p f ≡ false = ap p (sym q) ∙ e in absurd (let v : true ≡ false = sym h ∙ w in cc)) | inr r ↦ again r ]
    ] refl

-- a place that an entry has is no other entry's
place_free : (pattern key : List ℕ) (v : Value) (ps : List (List ℕ × Value)) → Apart (pattern, v) ps → key_of v.key ≡ Some key → (f : Assignment) → Among f (flat_map assignment_of ps)
    → pattern ≡ f.position.pattern → key ≡ f.position.key → ⊥
unfolding Among
place_free pattern key v [] apart h f m pe ke = m
place_free pattern key v (q ∷ ps) apart h f m pe ke =
    let again : Among f (flat_map assignment_of ps) → ⊥ = λ k. place_free pattern key v ps apart.1 h f k pe ke in
    elim (key_of q.1.key) as (λ o. key_of q.1.key ≡ o → Among f (assigned_at q.0 q.1 o ++ flat_map assignment_of ps) → ⊥) [
      | None ↦ λ e k. again k
      | Some other ↦ λ e k. elim k [
        | inl is ↦ apart.0 (pe ∙ sym (ap (λ (x : Assignment). x.position.pattern) is))
            (key_is v.key key h ∙ ap (λ r. 32 ∷ r) (ke ∙ sym (ap (λ (x : Assignment). x.position.key) is)) ∙ sym (key_is q.1.key other e))
        | inr r ↦ again r
      ]
    ] refl m

entries_of : List (List ℕ × Value) → List ((List ℕ × List ℕ) × Assignment)
entries_of ps = map entry_of (flat_map assignment_of ps)

find_sound : (f : Assignment) (ps : List (List ℕ × Value)) → Distinct ps → Among f (flat_map assignment_of ps) → finite.find place_cmp (f.position.pattern, f.position.key) (entries_of ps) ≡ Some f
unfolding Among Distinct entries_of
find_sound f [] d m = absurd m
find_sound f (p ∷ ps) d m =
    let again : Among f (flat_map assignment_of ps) → finite.find place_cmp (f.position.pattern, f.position.key) (entries_of ps) ≡ Some f = find_sound f ps d.1 in
    elim (key_of p.1.key) as (λ o. key_of p.1.key ≡ o → Among f (assigned_at p.0 p.1 o ++ flat_map assignment_of ps)
    → finite.find place_cmp (f.position.pattern, f.position.key) (map entry_of (assigned_at p.0 p.1 o ++ flat_map assignment_of ps)) ≡ Some f) [
      | None ↦ λ e k. again k
      | Some key ↦ λ e k. elim k [
        | inl is ↦ subst (λ (g : Assignment). finite.find place_cmp (g.position.pattern, g.position.key) (map entry_of (assigned_at p.0 p.1 (Some key) ++ flat_map assignment_of ps)) ≡ Some g) is
            (let a : Assignment = record { position = record { priority = p.1.priority; line = p.1.line; pattern = p.0; key = key }; value = p.1.value; path = p.1.path } in
            ap (λ o. cond (is_eq o) (Some a) (finite.find place_cmp (p.0, key) (entries_of ps))) (tied_itself place_total (p.0, key)))
        | inr r ↦ elim (place_cmp (f.position.pattern, f.position.key) (p.0, key)) as (λ o. place_cmp (f.position.pattern, f.position.key) (p.0, key) ≡ o
            → cond (is_eq o) (Some (record { position = record { priority = p.1.priority; line = p.1.line; pattern = p.0; key = key }; value = p.1.value; path = p.1.path })) (finite.find place_cmp (f.position.pattern, f.position.key) (entries_of ps)) ≡ Some f) [
              | Less ↦ λ t. again r
              | Equal ↦ λ t.
                  let b = then_equal (slice_cmp nat_cmp f.position.pattern p.0) (slice_cmp nat_cmp f.position.key key) t in
                  absurd (place_free p.0 key p.1 ps d.0 e f r (sym (equal_text f.position.pattern p.0 b.0)) (sym (equal_text f.position.key key b.1)))
              | Greater ↦ λ t. again r
            ] refl
      ]
    ] refl m

find_complete : (f : Assignment) (ps : List (List ℕ × Value)) → finite.find place_cmp (f.position.pattern, f.position.key) (entries_of ps) ≡ Some f → Among f (flat_map assignment_of ps)
unfolding Among entries_of
find_complete f [] h = absurd (cc)
find_complete f (p ∷ ps) h =
    let again : finite.find place_cmp (f.position.pattern, f.position.key) (entries_of ps) ≡ Some f → Among f (flat_map assignment_of ps) = find_complete f ps in
    elim (key_of p.1.key) as (λ o. finite.find place_cmp (f.position.pattern, f.position.key) (map entry_of (assigned_at p.0 p.1 o ++ flat_map assignment_of ps)) ≡ Some f
    → Among f (assigned_at p.0 p.1 o ++ flat_map assignment_of ps)) [
      | None ↦ λ k. again k
      | Some key ↦ λ k. elim (place_cmp (f.position.pattern, f.position.key) (p.0, key)) as (λ o. place_cmp (f.position.pattern, f.position.key) (p.0, key) ≡ o
          → cond (is_eq o) (Some (record { position = record { priority = p.1.priority; line = p.1.line; pattern = p.0; key = key }; value = p.1.value; path = p.1.path })) (finite.find place_cmp (f.position.pattern, f.position.key) (entries_of ps)) ≡ Some f
          → Among f (assigned_at p.0 p.1 (Some key) ++ flat_map assignment_of ps)) [
            | Less ↦ λ t q. inr (again q)
            | Equal ↦ λ t q. inl (
                let v : record { position = record { priority = p.1.priority; line = p.1.line; pattern = p.0; key = key }; value = p.1.value; path = p.1.path } ≡ f = cc in
                v)
            | Greater ↦ λ t q. inr (again q)
          ] refl k
    ] h

pub members_single : (ps : List (List ℕ × Value)) → Distinct ps → (x y : Assignment) → Among x (flat_map assignment_of ps) → Among y (flat_map assignment_of ps) → assignment_cmp x y ≡ Equal → x ≡ y
unfolding assignment_cmp position_cmp
members_single ps d x y mx my h =
    let a = then_equal (nat_cmp x.position.priority y.position.priority) _ h in
    let b = then_equal (nat_cmp x.position.line y.position.line) _ a.1 in
    let c = then_equal (slice_cmp nat_cmp x.position.pattern y.position.pattern) (slice_cmp nat_cmp x.position.key y.position.key) b.1 in
    let pe : x.position.pattern ≡ y.position.pattern = equal_text x.position.pattern y.position.pattern c.0 in
    let ke : x.position.key ≡ y.position.key = equal_text x.position.key y.position.key c.1 in
    let s : Some x ≡ Some y =
    sym (find_sound x ps d mx) ∙ ap (λ p. finite.find place_cmp (p, x.position.key) (entries_of ps)) pe ∙ ap (λ k. finite.find place_cmp (y.position.pattern, k) (entries_of ps)) ke ∙ find_sound y ps d my in
    let v : x ≡ y = cc in
    v

map_is : (t : Tree) (f : Assignment) → finite.get (map_of t) (f.position.pattern, f.position.key) ≡ finite.find place_cmp (f.position.pattern, f.position.key) (entries_of (values_under [] t))
unfolding map_of entries_of
map_is t f = finite.get-from_entries place_total (map entry_of (members_under [] t)) (f.position.pattern, f.position.key)

pub none_ascends : let none : List Assignment = [] in IsStrictlySortedBy assignment_cmp none
unfolding IsStrictlySortedBy
none_ascends = tt

pub in_none : (f : Assignment) → Among f [] → ⊥
unfolding Among
in_none f m = m

-- the answers are the members of the map whose pattern matches
pub are_answers : MatchesIsTested → (device : List ℕ) (t : Tree) → IsTree t → AreAnswers device t (answers device t)
unfolding answers
are_answers tested device t tree =
    let ps = values_under [] t in
    let d : Distinct ps = under_distinct [] t tree in
    let w : Assignment → Bool = is_wanted device in
    record {
      ascends = ascends_all assignment_cmp assignment_total (filter w (members_under [] t)) [] none_ascends;
      sound = λ f m. elim (all_sound f (filter w (members_under [] t)) [] m) [
        | inl a ↦ (let s = filter_sound f w (members_under [] t) a in (map_is t f ∙ find_sound f ps d s.0, (tested (tokens f.position.pattern) device).0 s.1))
        | inr n ↦ absurd (in_none f n)
      ];
      complete = λ f is m.
          let among : Among f (members_under [] t) = find_complete f ps (sym (map_is t f) ∙ is) in
          let here : Among f (filter w (members_under [] t)) = filter_complete f w (members_under [] t) among ((tested (tokens f.position.pattern) device).1 m) in
          all_has f (filter w (members_under [] t)) [] here (λ x y mx my e. absurd (in_none y my))
          (λ x y mx my e. members_single ps d x y (filter_sound x w (members_under [] t) mx).0 (filter_sound y w (members_under [] t) my).0 e);
    }
