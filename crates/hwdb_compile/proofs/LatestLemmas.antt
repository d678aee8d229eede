-- What survives is the latest of the assignments with its pattern and key.
use Rattle.std.proofs.Common.{◌≡◌, ◌∙◌, ap, sym, refl, subst, ℕ, suc, ◌+◌, ◌≤◌, ◌<◌, true, false, List, [], ◌∷◌, ◌++◌, map, length, arith, append_assoc, Some, None, cond, ◌⊎◌, inl, inr, All}
use Rattle.std.specs.Prelude.{slice_index, Contains, IsSome, flat_map}
use Rattle.std.specs.List.Sorted.{IsNonDecreasingBy}
use Rattle.std.specs.FinMap as finite
use Rattle.std.specs.Ordering.{eq_by_cmp, is_eq}
use Rattle.std.proofs.lemmas.Cmp.{tied_itself}
use Rattle.std.proofs.lemmas.List.{append-nil}
use Rattle.std.proofs.lemmas.List.Elements.{All-nil, All-head, All-tail, All-append, All-push, All-weaker, Contains-push, Contains-append_left}
use Rattle.hwdb_spec.specs.Assignment.{Assignment}
use Rattle.hwdb_text.specs.Views.{origin}
use Rattle.hwdb_spec.specs.Folders.{Choice, path_of, chosen_of, contents, file_assignments, all_assignments}
use Rattle.hwdb_compile.specs.Views.{name_of}
use Rattle.hwdb_text.specs.Laws.{PrioritiesCountUp, AssignmentsStandByLine}
use Rattle.hwdb_spec.specs.Tree.{place_cmp, entry_of, surviving}
use Rattle.hwdb_compile.specs.Laws.{IsEarlier, SurvivorsAreLatest, SurvivorsAreAssigned, EachPlaceSurvives}
use Rattle.hwdb_compile.proofs.GatherLemmas.{surviving_one, from_file}
use Rattle.hwdb_spec.specs.Lemmas.Places.{place_total, same_place}

abbrev Latest : List Assignment → Type 0
Latest done = (place : List ℕ × List ℕ) (s : Assignment) → finite.get (surviving done) place ≡ Some s → All (λ a. (entry_of a).0 ≡ place → IsEarlier a s) done

-- no assignment is earlier than those before it
abbrev pub Rising : List Assignment → List Assignment → Type 0
Rising done [] = Unit {0}
Rising done (a ∷ more) = All (λ b. IsEarlier b (entry_of a).1) done × Rising (done ++ a ∷ []) more

latest_one : (done : List Assignment) (a : Assignment) → Latest done → All (λ b. IsEarlier b (entry_of a).1) done → Latest (done ++ a ∷ [])
latest_one done a before later = λ place s is.
    let P : Assignment → Type 0 = λ b. (entry_of b).0 ≡ place → IsEarlier b s in
    let got : cond (eq_by_cmp place_cmp place (entry_of a).0) (Some (entry_of a).1) (finite.get (surviving done) place) ≡ Some s =
    sym (finite.get-insert place_total (surviving done) (entry_of a).0 (entry_of a).1 place) ∙ sym (ap (λ m. finite.get m place) (surviving_one done a)) ∙ is in
    elim (eq_by_cmp place_cmp place (entry_of a).0) as (λ b. eq_by_cmp place_cmp place (entry_of a).0 ≡ b → cond b (Some (entry_of a).1) (finite.get (surviving done) place) ≡ Some s → All P (done ++ a ∷ [])) [
      | true ↦ λ e g. let same : (entry_of a).1 ≡ s = cc in
          All-push P done a (All-weaker (λ b. IsEarlier b (entry_of a).1) P (λ b h _. subst (IsEarlier b) same h) done later) (λ _. subst (IsEarlier a) same (inr (refl, omega arith)))
      | false ↦ λ e g. All-push P done a (before place s g) (λ p. absurd (apart place p e))
    ] refl got
  where
    apart : (place : List ℕ × List ℕ) → (entry_of a).0 ≡ place → eq_by_cmp place_cmp place (entry_of a).0 ≡ false → ⊥
    apart place p e = let t : eq_by_cmp place_cmp (entry_of a).0 (entry_of a).0 ≡ true = ap is_eq (tied_itself place_total (entry_of a).0) in
        let f : eq_by_cmp place_cmp (entry_of a).0 (entry_of a).0 ≡ false = ap (λ q. eq_by_cmp place_cmp q (entry_of a).0) p ∙ e in
        absurd (let w : true ≡ false = sym t ∙ f in cc)

latest_all : (done more : List Assignment) → Latest done → Rising done more → Latest (done ++ more)
latest_all done [] before up = subst Latest (sym (append-nil done)) before
latest_all done (a ∷ more) before up = subst Latest (append_assoc done (a ∷ []) more) (latest_all (done ++ a ∷ []) more (latest_one done a before up.0) up.1)

none_latest : Latest []
none_latest place s is = All-nil _

-- of a file of a smaller priority, or of one with this and a line that is no greater
abbrev Before : ℕ → ℕ → Assignment → Type 0
Before n m b = (b.position.priority < n) ⊎ ((b.position.priority ≡ n) × (b.position.line ≤ m))

abbrev Climbs : ℕ → List Assignment → Type 0
Climbs m [] = Unit {0}
Climbs m (x ∷ xs) = (m ≤ x.position.line) × Climbs x.position.line xs

climbs : (m : ℕ) (xs : List Assignment) → ((x : Assignment) (rest : List Assignment) → xs ≡ x ∷ rest → m ≤ x.position.line) → IsNonDecreasingBy (λ a. a.position.line) xs → Climbs m xs
climbs m [] first up = tt
climbs m (x ∷ xs) first up = (
  first x xs refl,
  climbs x.position.line xs
      (λ y rest e. next x xs y rest e up)
      (λ i j d le lt. up (suc i) (suc j) d (omega arith) (omega arith)),
)
  where
    next : (x : Assignment) (xs : List Assignment) (y : Assignment) (rest : List Assignment) → xs ≡ y ∷ rest → IsNonDecreasingBy (λ a. a.position.line) (x ∷ xs) → x.position.line ≤ y.position.line
    next x xs y rest e up =
        let Q : List Assignment → Type 0 = λ l. IsNonDecreasingBy (λ a. a.position.line) (x ∷ l) in
        let at : IsNonDecreasingBy (λ a. a.position.line) (x ∷ y ∷ rest) = subst Q e up in
        at 0 1 x (omega arith) (omega arith)

rising_file : (n m : ℕ) (done xs : List Assignment) → All (Before n m) done → All (λ a. a.position.priority ≡ n) xs → Climbs m xs → Rising done xs
rising_file n m done [] before own up = tt
rising_file n m done (x ∷ xs) before own up =
    let here : x.position.priority ≡ n = All-head (λ a. a.position.priority ≡ n) x xs own in
    let earlier : All (λ b. IsEarlier b (entry_of x).1) done = All-weaker (Before n m) (λ b. IsEarlier b (entry_of x).1)
    (λ b h. elim h [ inl lt ↦ inl (omega arith) | inr e ↦ inr (e.0 ∙ sym here, omega (arith, e.1, up.0)) ]) done before in
    let next : All (Before n x.position.line) (done ++ x ∷ []) = All-push (Before n x.position.line) done x
    (All-weaker (Before n m) (Before n x.position.line) (λ b h. elim h [ inl lt ↦ inl lt | inr e ↦ inr (e.0, omega (arith, e.1, up.0)) ]) done before) (inr (here, omega arith)) in
    (earlier, rising_file n x.position.line (done ++ x ∷ []) xs next (All-tail (λ a. a.position.priority ≡ n) x xs own) up.1)

rising_append : (done xs ys : List Assignment) → Rising done xs → Rising (done ++ xs) ys → Rising done (xs ++ ys)
rising_append done [] ys up more = subst (λ l. Rising l ys) (append-nil done) more
rising_append done (x ∷ xs) ys up more = (up.0, rising_append (done ++ x ∷ []) xs ys up.1 (subst (λ l. Rising l ys) (sym (append_assoc done (x ∷ []) xs)) more))

-- priorities count up from a number
abbrev pub Counts : ℕ → List Choice → Type 0
Counts n [] = Unit {0}
Counts n (c ∷ cs) = (c.priority ≡ n) × Counts (suc n) cs

pub counts : (n : ℕ) (cs : List Choice) → ((k : ℕ) → k < length cs → slice_index (map (λ c. c.priority) cs) k ≡ k + n) → Counts n cs
counts n [] h = tt
counts n (c ∷ cs) h =
    let first : c.priority ≡ n = h 0 (omega arith) ∙ omega arith in
    (first, counts (suc n) cs (λ k lt. h (suc k) (omega arith) ∙ omega arith))

pub rising_files : (read : Choice → List ℕ) → AssignmentsStandByLine → (n : ℕ) (done : List Assignment) (cs : List Choice) → All (λ b. b.position.priority < n) done → Counts n cs
    → Rising done (flat_map (file_assignments read) cs)
rising_files read by_line n done [] before count = tt
rising_files read by_line n done (c ∷ cs) before count =
    let xs = file_assignments read c in
    let o = origin (path_of c) c.priority in
    let own : All (λ a. a.position.priority ≡ n) xs = All-weaker (λ a. (a.path ≡ o.path) × (a.position.priority ≡ o.priority)) (λ a. a.position.priority ≡ n) (λ a h. h.1 ∙ count.0) xs (from_file o (read c)) in
    let front = rising_file n 0 done xs (All-weaker (λ b. b.position.priority < n) (Before n 0) (λ b h. inl h) done before) own (climbs 0 xs (λ x rest e. omega arith) (by_line o (read c))) in
    let next : All (λ b. b.position.priority < suc n) (done ++ xs) = All-append (λ b. b.position.priority < suc n) done xs
    (All-weaker (λ b. b.position.priority < n) (λ b. b.position.priority < suc n) (λ b h. omega arith) done before)
    (All-weaker (λ a. a.position.priority ≡ n) (λ b. b.position.priority < suc n) (λ b h. omega arith) xs own) in
    rising_append done xs (flat_map (file_assignments read) cs) front (rising_files read by_line (suc n) (done ++ xs) cs next count.1)

pub survivors_are_latest : PrioritiesCountUp → AssignmentsStandByLine → SurvivorsAreLatest
survivors_are_latest up by_line etc usr =
    latest_all [] (all_assignments etc usr) none_latest
    (rising_files (contents etc usr) by_line 1 [] (chosen_of etc usr) (All-nil _) (counts 1 (chosen_of etc usr) (up (map name_of etc) (map name_of usr))))

-- what is found after one more assignment was put
found : (done : List Assignment) (a : Assignment) (place : List ℕ × List ℕ)
    → finite.get (surviving (done ++ a ∷ [])) place ≡ cond (eq_by_cmp place_cmp place (entry_of a).0) (Some (entry_of a).1) (finite.get (surviving done) place)
found done a place = ap (λ m. finite.get m place) (surviving_one done a) ∙ finite.get-insert place_total (surviving done) (entry_of a).0 (entry_of a).1 place

abbrev Given : List Assignment → Type 0
Given done = (place : List ℕ × List ℕ) (s : Assignment) → finite.get (surviving done) place ≡ Some s → (a : Assignment) × Contains done a × (entry_of a ≡ (place, s))

given_one : (done : List Assignment) (a : Assignment) → Given done → Given (done ++ a ∷ [])
given_one done a before = λ place s is.
    let Goal : Type 0 = (b : Assignment) × Contains (done ++ a ∷ []) b × (entry_of b ≡ (place, s)) in
    elim (eq_by_cmp place_cmp place (entry_of a).0) as (λ b. eq_by_cmp place_cmp place (entry_of a).0 ≡ b → cond b (Some (entry_of a).1) (finite.get (surviving done) place) ≡ Some s → Goal) [
      | true ↦ λ e g.
          let value : (entry_of a).1 ≡ s = cc in
          let at : (entry_of a).0 ≡ place = sym (same_place place (entry_of a).0 e) in
          (a, Contains-push done a, λ i. (at i, value i))
      | false ↦ λ e g. let h = before place s g in (h.0, Contains-append_left done (a ∷ []) h.0 h.1, h.2)
    ] refl (sym (found done a place) ∙ is)

given_all : (done more : List Assignment) → Given done → Given (done ++ more)
given_all done [] before = subst Given (sym (append-nil done)) before
given_all done (a ∷ more) before = subst Given (append_assoc done (a ∷ []) more) (given_all (done ++ a ∷ []) more (given_one done a before))

none_given : Given []
none_given place s is = let no : None ≡ Some s = sym (finite.get-empty place_cmp place) ∙ is in absurd (cc)

abbrev Kept : List Assignment → Type 0
Kept done = All (λ a. IsSome (finite.get (surviving done) (entry_of a).0)) done

kept_one : (done : List Assignment) (a : Assignment) → Kept done → Kept (done ++ a ∷ [])
kept_one done a before =
    let P : Assignment → Type 0 = λ b. IsSome (finite.get (surviving (done ++ a ∷ [])) (entry_of b).0) in
    All-push P done a (All-weaker (λ b. IsSome (finite.get (surviving done) (entry_of b).0)) P (λ b h. stays (entry_of b).0 h) done before) (here (entry_of a).0 (ap is_eq (tied_itself place_total (entry_of a).0)))
  where
    stays : (place : List ℕ × List ℕ) → IsSome (finite.get (surviving done) place) → IsSome (finite.get (surviving (done ++ a ∷ [])) place)
    stays place h = subst IsSome (sym (found done a place))
        (elim (eq_by_cmp place_cmp place (entry_of a).0) as (λ b. IsSome (cond b (Some (entry_of a).1) (finite.get (surviving done) place))) [ true ↦ refl | false ↦ h ])

    here : (place : List ℕ × List ℕ) → eq_by_cmp place_cmp place (entry_of a).0 ≡ true → IsSome (finite.get (surviving (done ++ a ∷ [])) place)
    here place e = subst IsSome (sym (found done a place)) (subst (λ b. IsSome (cond b (Some (entry_of a).1) (finite.get (surviving done) place))) (sym e) refl)

kept_all : (done more : List Assignment) → Kept done → Kept (done ++ more)
kept_all done [] before = subst Kept (sym (append-nil done)) before
kept_all done (a ∷ more) before = subst Kept (append_assoc done (a ∷ []) more) (kept_all (done ++ a ∷ []) more (kept_one done a before))

pub survivors_are_assigned : SurvivorsAreAssigned
survivors_are_assigned etc usr = given_all [] (all_assignments etc usr) none_given

pub each_place_survives : EachPlaceSurvives
each_place_survives etc usr = kept_all [] (all_assignments etc usr) (All-nil _)
