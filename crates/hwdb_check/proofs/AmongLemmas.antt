-- Findings that are all among others, in their order.
use Rattle.std.proofs.Common.{◌≡◌, ◌==◌, ◌∙◌, ◌+◌, ◌<◌, ◌≤◌, ◌++◌, ◌||◌, ℕ, suc, Bool, true, false, List, [], ◌∷◌, ap, append_assoc, arith, drop, get_or, length, map, refl, subst, sym}
use Rattle.std.specs.Prelude.{if◌then◌else◌}
use Rattle.std.specs.Fmt.{decimal}
use Rattle.std.specs.List.{list_any}
use Rattle.std.proofs.lemmas.Bool.{eqb-true}
use Rattle.std.proofs.lemmas.List.{drop_all}
use Rattle.std.proofs.Math.Seq.{drop-cons}
use Rattle.hwdb_spec.specs.Folders.{same}
use Rattle.hwdb_spec.specs.Lemmas.Orders.{same_itself}
use Rattle.hwdb_spec_commands.specs.Baselines.{mark_of, mark_text, new_findings, without_first}
use Rattle.hwdb_spec_commands.specs.Findings as spec
use Rattle.hwdb_spec_commands.specs.Json.{text_json}
use Rattle.hwdb_spec_commands.specs.Patches.{at_number}
use Rattle.hwdb_check.specs.Among.{AreSoFar, now_at, number_mark, own_source}
use Rattle.hwdb_check.specs.Found.{finds, kept_of}
use Rattle.hwdb_check.specs.declared.findings.Found.{Found}

-- ---- one finding and another one

-- what is compared, by its parts
abbrev mark_by : (path kind : List ℕ) (number : ℕ) (source : List ℕ) → List ℕ
mark_by path kind number source = mark_text (text_json path) (text_json kind) (text_json (decimal number ++ 32 ∷ source))

pub one : (a b : Found) → a.line ≡ b.line → own_source (kept_of a) ≡ own_source (kept_of b) → a.kind.now ≡ b.kind.now → a.path.items ≡ b.path.items
    → number_mark (kept_of a) ≡ number_mark (kept_of b)
one a b line source kind path =
    ap (λ (t : List ℕ). mark_by t a.kind.now a.line (own_source (kept_of a))) path
    ∙ ap (λ (t : List ℕ). mark_by b.path.items t a.line (own_source (kept_of a))) kind
    ∙ ap (λ (n : ℕ). mark_by b.path.items b.kind.now n (own_source (kept_of a))) line
    ∙ ap (λ (t : List ℕ). mark_by b.path.items b.kind.now b.line t) source

-- ---- a mark that is among some

has : (front : List (List ℕ)) (m : List ℕ) (rest : List (List ℕ)) → list_any (same m) (front ++ m ∷ rest) ≡ true
has [] m rest = ap (λ (b : Bool). b || list_any (same m) rest) (same_itself m)
has (x ∷ xs) m rest = by (same m x) (has xs m rest)
  where
    by : (b : Bool) → list_any (same m) (xs ++ m ∷ rest) ≡ true → (b || list_any (same m) (xs ++ m ∷ rest)) ≡ true
    by true e = refl
    by false e = e

-- without the first such mark those after it are left
record IsTaken (front : List (List ℕ)) (m : List ℕ) (rest : List (List ℕ)) : Type 0 where
  left : List (List ℕ)
  is : without_first m (front ++ m ∷ rest) ≡ left ++ rest

taken : (front : List (List ℕ)) (m : List ℕ) (rest : List (List ℕ)) → IsTaken front m rest
unfolding without_first
taken [] m rest = record { left = []; is = ap (λ (b : Bool). if b then rest else m ∷ without_first m rest) (same_itself m) }
taken (x ∷ xs) m rest = by (same m x) refl (taken xs m rest)
  where
    by : (b : Bool) → same m x ≡ b → IsTaken xs m rest → IsTaken (x ∷ xs) m rest
    by true e later = record {
      left = xs ++ m ∷ [];
      is = ap (λ (b : Bool). if b then xs ++ m ∷ rest else x ∷ without_first m (xs ++ m ∷ rest)) e ∙ sym (append_assoc xs (m ∷ []) rest);
    }
    by false e later = record {
      left = x ∷ later.left;
      is = ap (λ (b : Bool). if b then xs ++ m ∷ rest else x ∷ without_first m (xs ++ m ∷ rest)) e ∙ ap (λ (l : List (List ℕ)). x ∷ l) later.is;
    }

-- ---- one after another

-- the next one may be left
pub passed_over : (marks : List (List ℕ)) (all rest : List spec.Finding) (m : List ℕ) (left : List (List ℕ)) → AreSoFar marks all rest (m ∷ left) → AreSoFar marks all rest left
passed_over marks all rest m left so_far = record {
  front = so_far.front ++ m ∷ [];
  same = ap (λ (l : List (List ℕ)). new_findings l rest) (append_assoc so_far.front (m ∷ []) left) ∙ so_far.same;
}

-- it is met
met : (marks : List (List ℕ)) (all rest : List spec.Finding) (f : spec.Finding) (m : List ℕ) (left : List (List ℕ)) → mark_of f ≡ m → AreSoFar marks all (f ∷ rest) (m ∷ left)
    → AreSoFar marks all rest left
unfolding new_findings
met marks all rest f m left is so_far =
    let t = taken so_far.front m left in
    let all_marks = so_far.front ++ m ∷ left in
    record {
      front = t.left;
      same =
          ap (λ (l : List (List ℕ)). new_findings l rest) (sym t.is)
          ∙ ap (λ (x : List ℕ). new_findings (without_first x all_marks) rest) (sym is)
          ∙ sym (ap (λ (b : Bool). if b then new_findings (without_first (mark_of f) all_marks) rest else f ∷ new_findings all_marks rest)
          (ap (λ (x : List ℕ). list_any (same x) all_marks) is ∙ has so_far.front m left))
          ∙ so_far.same;
    }

-- the next of some findings
pub next_met : (marks left : List (List ℕ)) (all : List spec.Finding) (now : List Found) (i : ℕ) (d known : Found) → i < length now → d ≡ get_or now i d
    → number_mark (kept_of d) ≡ number_mark (kept_of known) → AreSoFar marks all (now_at (drop i now)) (number_mark (kept_of known) ∷ left)
    → AreSoFar marks all (now_at (drop (i + 1) now)) left
next_met marks left all now i d known h is alike so_far =
    let s : suc i ≡ i + 1 = omega arith in
    let shape = drop-cons now i d h ∙ ap (λ (x : Found). x ∷ drop (suc i) now) (sym is) ∙ ap (λ (n : ℕ). d ∷ drop n now) s in
    met marks all (now_at (drop (i + 1) now)) (at_number (kept_of d)) (number_mark (kept_of known)) left alike
    (subst (λ (l : List Found). AreSoFar marks all (now_at l) (number_mark (kept_of known) ∷ left)) shape so_far)

-- the next of the others
pub next_known : (marks : List (List ℕ)) (all rest : List spec.Finding) (before : List Found) (i : ℕ) (d : Found) → i < length before → d ≡ get_or before i d
    → AreSoFar marks all rest (map number_mark (finds (drop i before))) → AreSoFar marks all rest (number_mark (kept_of d) ∷ map number_mark (finds (drop (i + 1) before)))
next_known marks all rest before i d h is so_far =
    let s : suc i ≡ i + 1 = omega arith in
    let shape = drop-cons before i d h ∙ ap (λ (x : Found). x ∷ drop (suc i) before) (sym is) ∙ ap (λ (n : ℕ). d ∷ drop n before) s in
    subst (λ (l : List Found). AreSoFar marks all rest (map number_mark (finds l))) shape so_far

-- none is left
pub all_met : (marks : List (List ℕ)) (all : List spec.Finding) (now : List Found) (i : ℕ) (left : List (List ℕ)) → (i == length now) ≡ true
    → AreSoFar marks all (now_at (drop i now)) left → new_findings marks all ≡ []
unfolding new_findings
all_met marks all now i left e so_far =
    let h : length now ≤ i = omega (arith, eqb-true i (length now) e) in
    sym so_far.same ∙ ap (λ (l : List Found). new_findings (so_far.front ++ left) (now_at l)) (drop_all i now h)
