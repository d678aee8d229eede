-- The assignments of a text of records, by line.
use Rattle.std.proofs.Common.{◌≡◌, ◌∙◌, ◌+◌, ◌-◌, ◌<◌, ◌≤◌, ap, sym, refl, subst, ℕ, zero, suc, Bool, true, false, List, [], ◌∷◌, ◌++◌, map, take, length, flat_map, arith, None, if◌then◌else◌, nat_le}
use Rattle.std.specs.List.{onto_first, prefix_len, AllByRecursion}
use Rattle.std.specs.List.Sorted.{IsStrictlySortedBy}
use Rattle.std.specs.Cmp.{nat_cmp_is}
use Rattle.std.specs.Ordering.{nat_cmp, ordering_then}
use Rattle.std.specs.declared.cmp.Ordering.TheVariants.{Less}
use Rattle.std.proofs.lemmas.Cmp.{nat_cmp_total, tied_itself}
use Rattle.hwdb_spec.specs.Assignment.{Assignment, assignment_cmp, position_cmp, text_cmp}
use Rattle.hwdb_spec_commands.specs.Dump.{record_text, is_said, is_alone, says, origin_of, first_unsaid}
use Rattle.hwdb_spec.specs.Folders.{same, max_lines}
use Rattle.hwdb_spec.specs.Lines.{Line, pieces, numbered, lines, clean, clean_line, is_dropped, is_empty, is_none, is_property, is_match, has_equals, has_key}
use Rattle.hwdb_spec.specs.Records.{Section, Origin, behind, first_section, size, sections_from, sections, patterns, assign, property_assignments, section_assignments, assignments, faults}
use Rattle.hwdb_databases.specs.Laws.{said_of}
use Rattle.hwdb_databases.proofs.ReadLemmas.{read_from, read_on, read_behind, none_unsaid, nothing_read, if_both, lines_in, moved}
use Rattle.hwdb_spec.specs.Lemmas.Orders.{same_text}

append_all : {X : Type 0} (P : X → Type 0) (xs ys : List X) → AllByRecursion P xs → AllByRecursion P ys → AllByRecursion P (xs ++ ys)
append_all P [] ys a b = b
append_all P (x ∷ xs) ys a b = (a.0, append_all P xs ys a.1 b)

flat_all : {X Y : Type 0} (P : X → Type 0) (R : Y → Type 0) (f : X → List Y) → ((x : X) → P x → AllByRecursion R (f x)) → (xs : List X) → AllByRecursion P xs → AllByRecursion R (flat_map f xs)
flat_all P R f h [] a = tt
flat_all P R f h (x ∷ xs) a = append_all R (f x) (flat_map f xs) (h x a.0) (flat_all P R f h xs a.1)

all_map : {X : Type 0} (P R : X → Type 0) → ((x : X) → P x → R x) → (xs : List X) → AllByRecursion P xs → AllByRecursion R xs
all_map P R f [] a = tt
all_map P R f (x ∷ xs) a = (f x a.0, all_map P R f xs a.1)

-- what holds of the numbers of some lines holds of the lines of what they assign
module _ (Q : ℕ → Type 0) where
  abbrev AllAt : List Line → Type 0
  AllAt ls = AllByRecursion (λ (l : Line). Q l.number) ls

  clean_all : (ls : List Line) → AllAt ls → AllAt (clean ls)
  clean_all [] a = tt
  clean_all (l ∷ ls) a =
      elim (is_dropped l) as (λ b. AllAt (if b then clean ls else clean_line l ∷ clean ls)) [
        | true ↦ clean_all ls a.1
        | false ↦ (a.0, clean_all ls a.1)
      ]

  onto_all : (l : Line) (ps : List (List Line)) → Q l.number → AllByRecursion AllAt ps → AllByRecursion AllAt (onto_first l ps)
  onto_all l [] q a = ((q, tt), tt)
  onto_all l (p ∷ ps) q a = ((q, a.0), a.1)

  blocks_all : (ls : List Line) → AllAt ls → AllByRecursion AllAt (pieces is_empty ls)
  unfolding pieces
  blocks_all [] a = tt
  blocks_all (l ∷ ls) a =
      elim (is_empty l) as (λ b. AllByRecursion AllAt (if b then [] ∷ pieces is_empty ls else onto_first l (pieces is_empty ls))) [
        | true ↦ (tt, blocks_all ls a.1)
        | false ↦ onto_all l (pieces is_empty ls) a.0 (blocks_all ls a.1)
      ]

  behind_all : (test : Line → Bool) (ls : List Line) → AllAt ls → AllAt (behind test ls)
  unfolding behind
  behind_all test [] a = tt
  behind_all test (l ∷ ls) a =
      elim (test l) as (λ b. AllAt (if b then behind test ls else l ∷ ls)) [
        | true ↦ behind_all test ls a.1
        | false ↦ a
      ]

  taken_all : (k : ℕ) (ls : List Line) → AllAt ls → AllAt (take k ls)
  taken_all zero ls a = tt
  taken_all (suc k) [] a = tt
  taken_all (suc k) (l ∷ ls) a = (a.0, taken_all k ls a.1)

  sections_from_all : (skip : ℕ) (ls : List Line) → AllAt ls → AllByRecursion (λ (s : Section). AllAt s.properties) (sections_from skip ls)
  unfolding sections_from first_section
  sections_from_all skip [] a = tt
  sections_from_all (suc skip) (l ∷ ls) a = sections_from_all skip ls a.1
  sections_from_all zero (l ∷ ls) a =
      let matches = behind is_property (l ∷ ls) in
      let properties = behind is_match matches in (
        taken_all (prefix_len is_property properties) properties (behind_all is_match matches (behind_all is_property (l ∷ ls) a)),
        sections_from_all (size (first_section (l ∷ ls)) - 1) ls a.1,
      )

  abbrev AtLine : Assignment → Type 0
  AtLine a = Q a.position.line

  given_all : (o : Origin) (l : Line) (ps : List (List ℕ)) → Q l.number → AllByRecursion AtLine (map (assign o l) ps)
  given_all o l [] q = tt
  given_all o l (p ∷ ps) q = (q, given_all o l ps q)

  property_all : (o : Origin) (ps : List (List ℕ)) (l : Line) → Q l.number → AllByRecursion AtLine (property_assignments o ps l)
  property_all o ps l q =
      elim (has_equals l) as (λ b. AllByRecursion AtLine (if b then (if has_key l then map (assign o l) ps else []) else [])) [
        | true ↦ elim (has_key l) as (λ c. AllByRecursion AtLine (if c then map (assign o l) ps else [])) [
          | true ↦ given_all o l ps q
          | false ↦ tt
        ]
        | false ↦ tt
      ]

  assigned_all : (o : Origin) (ls : List Line) → AllAt ls → AllByRecursion AtLine (flat_map (section_assignments o) (sections (clean ls)))
  assigned_all o ls a =
      flat_all (λ (s : Section). AllAt s.properties) AtLine (section_assignments o)
      (λ s b. flat_all (λ (l : Line). Q l.number) AtLine (property_assignments o (patterns s.matches)) (property_all o (patterns s.matches)) s.properties b)
      (sections (clean ls))
      (flat_all AllAt (λ (s : Section). AllAt s.properties) (sections_from 0) (sections_from_all 0) (pieces is_empty (clean ls)) (blocks_all (clean ls) (clean_all ls a)))

abbrev Between : ℕ → ℕ → ℕ → Type 0
Between low high n = (low ≤ n) × (n < high)

numbered_all : (k : ℕ) (ts : List (List ℕ)) → AllByRecursion (λ (l : Line). Between k (length ts + k) l.number) (numbered k ts)
unfolding numbered
numbered_all k [] = tt
numbered_all k (t ∷ ts) = (
  (omega arith, omega arith),
  all_map (λ (l : Line). Between (k + 1) (length ts + (k + 1)) l.number) (λ (l : Line). Between k (suc (length ts) + k) l.number)
      (λ l b. let low = b.0 in let high = b.1 in (omega arith, omega arith)) (numbered (k + 1) ts) (numbered_all (k + 1) ts),
)

-- the one assignment of a list
record Alone (f : Assignment) (all : List Assignment) : Type 0 where
  pub one : Assignment
  pub is : all ≡ one ∷ []
  pub said : said_of one ≡ said_of f

alone_one : (f : Assignment) (all : List Assignment) → is_alone f all ≡ true → Alone f all
alone_one f [] h = cc
alone_one f (a ∷ []) h =
    let p = if_both (if same a.position.pattern f.position.pattern then same a.position.key f.position.key else false) (same a.value f.value) h in
    let q = if_both (same a.position.pattern f.position.pattern) (same a.position.key f.position.key) p.0 in
    let pattern = same_text a.position.pattern f.position.pattern q.0 in
    let key = same_text a.position.key f.position.key q.1 in
    let value = same_text a.value f.value p.1 in
    record { one = a; is = refl; said = λ i. (pattern i, (key i, value i)) }
alone_one f (a ∷ b ∷ more) h = cc

record_alone : (f : Assignment) → is_said f ≡ true → Alone f (assignments (origin_of f) (record_text f))
unfolding is_said
record_alone f h =
    let p = if_both (nat_le (length (lines (record_text f))) max_lines) (says (record_text f) f) h in
    let q = if_both (is_none (faults (record_text f))) (is_alone f (assignments (origin_of f) (record_text f))) p.1 in
    alone_one f (assignments (origin_of f) (record_text f)) q.1

-- the assignments of a text whose lines come after `k`
pub record Placed (o : Origin) (k : ℕ) (fs all : List Assignment) : Type 0 where
  pub rises : IsStrictlySortedBy assignment_cmp all
  pub above : AllByRecursion (λ (a : Assignment). (a.position.priority ≡ o.priority) × (k < a.position.line)) all
  pub said : map said_of all ≡ map said_of fs

lower : (x y : Assignment) → x.position.priority ≡ y.position.priority → x.position.line < y.position.line → assignment_cmp x y ≡ Less
unfolding assignment_cmp position_cmp
lower x y same less =
    let rest = ordering_then (text_cmp x.position.pattern y.position.pattern) (text_cmp x.position.key y.position.key) in
    ap (λ p. ordering_then (nat_cmp x.position.priority p) (ordering_then (nat_cmp x.position.line y.position.line) rest)) (sym same)
    ∙ ap (λ o. ordering_then o (ordering_then (nat_cmp x.position.line y.position.line) rest)) (tied_itself nat_cmp_total x.position.priority)
    ∙ ap (λ o. ordering_then o rest) (sym (nat_cmp_is x.position.line y.position.line Less less))

nothing_placed : (o : Origin) (k : ℕ) → let none : List Assignment = [] in Placed o k none none
unfolding IsStrictlySortedBy
nothing_placed o k = record { rises = tt; above = tt; said = refl }

placed_more : (o : Origin) (k n : ℕ) (x f : Assignment) (fs all : List Assignment) → x.position.priority ≡ o.priority → k < x.position.line → x.position.line ≤ n + k
    → said_of x ≡ said_of f → Placed o (n + k) fs all → Placed o k (f ∷ fs) (x ∷ all)
unfolding IsStrictlySortedBy
placed_more o k n x f fs all at low high says rest = record {
  rises = (
    all_map (λ (a : Assignment). (a.position.priority ≡ o.priority) × (n + k < a.position.line)) (λ (a : Assignment). assignment_cmp x a ≡ Less)
        (λ a b. let far = b.1 in lower x a (at ∙ sym b.0) (omega arith)) all rest.above,
    rest.rises,
  );
  above = (
    (at, low),
    all_map (λ (a : Assignment). (a.position.priority ≡ o.priority) × (n + k < a.position.line)) (λ (a : Assignment). (a.position.priority ≡ o.priority) × (k < a.position.line))
        (λ a b. let far = b.1 in (b.0, omega arith)) all rest.above,
  );
  said = λ i. says i ∷ rest.said i;
}

-- records that say what they are to say, one after another
pub placed : (o : Origin) (k : ℕ) (fs : List Assignment) → first_unsaid fs ≡ None → Placed o k fs (read_from o (k + 1) (flat_map record_text fs))
placed o k [] h = subst (Placed o k []) (sym (nothing_read o (k + 1))) (nothing_placed o k)
placed o k (f ∷ fs) h =
    let p = none_unsaid f fs h in
    let n = length (lines_in (record_text f)) in
    let more = flat_map record_text fs in
    let further : n + (k + 1) ≡ (n + k) + 1 = omega arith in
    let own = record_alone f p.0 in
    let a = own.one in
    let x = moved k o (origin_of f) a in
    let at : AllByRecursion (λ (a : Assignment). Between 1 (n + 1) a.position.line) (assignments (origin_of f) (record_text f)) =
    assigned_all (Between 1 (n + 1)) (origin_of f) (lines (record_text f)) (numbered_all 1 (lines_in (record_text f))) in
    let bounds = subst (AllByRecursion (λ (a : Assignment). Between 1 (n + 1) a.position.line)) own.is at in
    let low = bounds.0.0 in
    let high = bounds.0.1 in
    let all : read_from o (k + 1) (record_text f ++ more) ≡ x ∷ read_from o ((n + k) + 1) more =
    read_behind o (k + 1) f more
    ∙ ap (λ l. l ++ read_from o (n + (k + 1)) more) (read_on o (origin_of f) k (record_text f) ∙ ap (map (moved k o (origin_of f))) own.is)
    ∙ ap (λ m. x ∷ read_from o m more) further in
    subst (Placed o k (f ∷ fs)) (sym all)
    (placed_more o k n x f fs (read_from o ((n + k) + 1) more) refl (omega arith) (omega arith) own.said (placed o (n + k) fs p.1))
