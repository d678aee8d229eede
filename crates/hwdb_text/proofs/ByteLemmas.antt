-- One line, seen from a place in it.
use Rattle.std.proofs.Common.{◌≡◌, ℕ, zero, suc, ◌-◌, ◌+◌, ◌<◌, ◌≤◌, Bool, true, false, not, List, [], ◌∷◌, ◌++◌, take, drop, length, get_or, refl, ap, ◌∙◌, sym, cond, arith, map, inl, inr}
use Rattle.std.proofs.lemmas.Bool.{cases_Bool}
use Rattle.std.proofs.lemmas.List.{take_more}
use Rattle.std.specs.List.{position_or_len}
use Rattle.hwdb_spec.specs.Lines.{Line, numbered, pieces, trimmed, is, has, property, is_blank, is_none, has_equals, has_key}
use Rattle.hwdb_text.specs.Internal.Contents.{line}
use Rattle.std.specs.List.{before_first, after_first}
use Rattle.hwdb_spec.specs.Records.{Origin, assign, property_assignments, property_faults, fault}
use Rattle.hwdb_text.specs.Views.{given}
use Rattle.hwdb_spec.specs.declared.FaultKind.TheVariants.{NoEquals, EmptyKey}
use Rattle.hwdb_text.specs.Lemmas.Bytes.{has_none, has_some}

pub place_of : (test : ℕ → Bool) (text : List ℕ) (k : ℕ) → k < length text
    → ((j : ℕ) → j < k → test (get_or text j 0) ≡ true → ⊥) → test (get_or text k 0) ≡ true → position_or_len test text ≡ k
place_of test [] k h n p = absurd (omega arith)
place_of test (x ∷ xs) zero h n p = rw p refl
place_of test (x ∷ xs) (suc k) h n p =
    elim (cases_Bool (test x)) [
      | inl t ↦ absurd (n 0 (omega arith) t)
      | inr f ↦
          rw f (ap (λ (r : ℕ). 1 + r) (place_of test xs k (omega arith) (λ j l e. n (suc j) (omega arith) e) p) ∙ omega arith)
    ]

pub no_place : (test : ℕ → Bool) (text : List ℕ)
    → ((j : ℕ) → j < length text → test (get_or text j 0) ≡ true → ⊥) → position_or_len test text ≡ length text
no_place test [] n = refl
no_place test (x ∷ xs) n =
    elim (cases_Bool (test x)) [
      | inl t ↦ absurd (n 0 (omega arith) t)
      | inr f ↦
          rw f (ap (λ (r : ℕ). 1 + r) (no_place test xs (λ j l e. n (suc j) (omega arith) e)) ∙ omega arith)
    ]

-- one blank less
trim_step : (xs : List ℕ) (b : ℕ) → is_blank b ≡ true → trimmed (xs ++ (b ∷ [])) ≡ trimmed xs
unfolding trimmed
trim_step [] b e = rw e refl
trim_step (x ∷ xs) b e = rw (trim_step xs b e) refl

none_snoc : (xs : List ℕ) (b : ℕ) → is_none (xs ++ (b ∷ [])) ≡ false
none_snoc [] b = refl
none_snoc (x ∷ xs) b = refl

trim_stop : (xs : List ℕ) (b : ℕ) → is_blank b ≡ false → trimmed (xs ++ (b ∷ [])) ≡ xs ++ (b ∷ [])
unfolding trimmed
trim_stop [] b e = rw e refl
trim_stop (x ∷ xs) b e = rw (trim_stop xs b e) (rw (none_snoc xs b) refl)

pub trim_back : (text : List ℕ) (e : ℕ) → 0 < e → e ≤ length text → is_blank (get_or text (e - 1) 0) ≡ true → trimmed (take (e - 1) text) ≡ trimmed (take e text)
trim_back text e h l b =
    sym (trim_step (take (e - 1) text) (get_or text (e - 1) 0) b)
    ∙ ap trimmed (sym (take_more text (e - 1) 0 (omega arith)))
    ∙ ap (λ (k : ℕ). trimmed (take k text)) (omega arith)

pub trim_here : (text : List ℕ) (e : ℕ) → 0 < e → e ≤ length text → is_blank (get_or text (e - 1) 0) ≡ false → trimmed (take e text) ≡ take e text
trim_here text e h l b =
    let k : e ≡ e - 1 + 1 = omega arith in
    let t : take e text ≡ take (e - 1) text ++ get_or text (e - 1) 0 ∷ [] = ap (λ (k : ℕ). take k text) k ∙ take_more text (e - 1) 0 (omega arith) in
    ap trimmed t ∙ trim_stop (take (e - 1) text) (get_or text (e - 1) 0) b ∙ sym t

pub trim_none : (text : List ℕ) → trimmed (take 0 text) ≡ take 0 text
unfolding trimmed
trim_none [] = refl
trim_none (x ∷ text) = refl

take_some : (n : ℕ) (text : List ℕ) → (n ≡ 0 → ⊥) → n ≤ length text → is_none (take n text) ≡ false
take_some zero text n h = absurd (n refl)
take_some (suc k) [] n h = absurd (omega arith)
take_some (suc k) (x ∷ xs) n h = refl

take_zero : (text : List ℕ) → is_none (take 0 text) ≡ true
take_zero [] = refl
take_zero (x ∷ xs) = refl

no_equals : (l : Line) (body : List ℕ) (equals : ℕ) → body ≡ property l → equals ≡ position_or_len (is 61) body → equals ≡ length body → has_equals l ≡ false
no_equals l body equals b e f = ap (has 61) (sym b) ∙ has_none 61 body (sym e ∙ f)

some_equals : (l : Line) (body : List ℕ) (equals : ℕ) → body ≡ property l → equals ≡ position_or_len (is 61) body → (equals ≡ length body → ⊥) → has_equals l ≡ true
some_equals l body equals b e f = ap (has 61) (sym b) ∙ has_some 61 body (λ q. f (e ∙ q))

key_is : (l : Line) (body : List ℕ) (equals : ℕ) → body ≡ property l → equals ≡ position_or_len (is 61) body → take equals body ≡ before_first (is 61) (property l)
key_is l body equals b e = ap (λ (k : ℕ). take k body) e ∙ ap (before_first (is 61)) b

some_key : (l : Line) (body : List ℕ) (equals : ℕ) → body ≡ property l → equals ≡ position_or_len (is 61) body → (equals ≡ 0 → ⊥) → equals ≤ length body → has_key l ≡ true
some_key l body equals b e f h = ap (λ (k : List ℕ). not (is_none k)) (sym (key_is l body equals b e)) ∙ ap not (take_some equals body f h)

no_key : (l : Line) (body : List ℕ) (equals : ℕ) → body ≡ property l → equals ≡ position_or_len (is 61) body → equals ≡ 0 → has_key l ≡ false
no_key l body equals b e f =
    ap (λ (k : List ℕ). not (is_none k)) (sym (key_is l body equals b e)) ∙ ap (λ (k : ℕ). not (is_none (take k body))) f ∙ ap not (take_zero body)

assignments_by : (o : Origin) (ps : List (List ℕ)) (l : Line) (b c : Bool) → has_equals l ≡ b → has_key l ≡ c
    → property_assignments o ps l ≡ cond b (cond c (map (assign o l) ps) []) []
assignments_by o ps l b c e f = ap (λ (t : Bool). cond t (cond (has_key l) (map (assign o l) ps) []) []) e ∙ ap (λ (t : Bool). cond b (cond t (map (assign o l) ps) []) []) f

faults_by : (l : Line) (b c : Bool) → has_equals l ≡ b → has_key l ≡ c → property_faults l ≡ cond b (cond c [] (fault EmptyKey l ∷ [])) (fault NoEquals l ∷ [])
faults_by l b c e f = ap (λ (t : Bool). cond t (cond (has_key l) [] (fault EmptyKey l ∷ [])) (fault NoEquals l ∷ [])) e
    ∙ ap (λ (t : Bool). cond b (cond t [] (fault EmptyKey l ∷ [])) (fault NoEquals l ∷ [])) f

pub without_equals : (o : Origin) (ps : List (List ℕ)) (l : Line) (body : List ℕ) (equals : ℕ) → body ≡ property l → equals ≡ position_or_len (is 61) body → equals ≡ length body
    → (property_assignments o ps l ≡ []) × (property_faults l ≡ fault NoEquals l ∷ [])
without_equals o ps l body equals b e f =
    (assignments_by o ps l false (has_key l) (no_equals l body equals b e f) refl, faults_by l false (has_key l) (no_equals l body equals b e f) refl)

pub without_key : (o : Origin) (ps : List (List ℕ)) (l : Line) (body : List ℕ) (equals : ℕ) → body ≡ property l → equals ≡ position_or_len (is 61) body
    → (equals ≡ length body → ⊥) → equals ≡ 0 → (property_assignments o ps l ≡ []) × (property_faults l ≡ fault EmptyKey l ∷ [])
without_key o ps l body equals b e n f =
    (assignments_by o ps l true false (some_equals l body equals b e n) (no_key l body equals b e f), faults_by l true false (some_equals l body equals b e n) (no_key l body equals b e f))

value_is : (l : Line) (body : List ℕ) (equals : ℕ) → body ≡ property l → equals ≡ position_or_len (is 61) body → drop (equals + 1) body ≡ after_first (is 61) (property l)
value_is l body equals b e = ap (λ (k : ℕ). drop (k + 1) body) e ∙ ap (after_first (is 61)) b

pub with_key : (o : Origin) (ps : List (List ℕ)) (l : Line) (body : List ℕ) (equals : ℕ) (value : List ℕ) → body ≡ property l → equals ≡ position_or_len (is 61) body
    → (equals ≡ length body → ⊥) → (equals ≡ 0 → ⊥) → equals ≤ length body → value ≡ drop (equals + 1) body
    → (map (given o l.number (take equals body) value) ps ≡ property_assignments o ps l) × (property_faults l ≡ [])
with_key o ps l body equals value b e n z h v = (
  ap (λ (k : List ℕ). map (given o l.number k value) ps) (key_is l body equals b e)
      ∙ ap (λ (k : List ℕ). map (given o l.number (before_first (is 61) (property l)) k) ps) (v ∙ value_is l body equals b e)
      ∙ sym (assignments_by o ps l true true (some_equals l body equals b e n) (some_key l body equals b e z h)),
  faults_by l true true (some_equals l body equals b e n) (some_key l body equals b e z h),
)

pub no_pieces : pieces (is 10) [] ≡ []
unfolding pieces
no_pieces = refl

pub count_lines : (n : ℕ) (ps : List (List ℕ)) → length (numbered n ps) ≡ length ps
unfolding numbered
count_lines n [] = refl
count_lines n (p ∷ ps) = ap (λ (k : ℕ). suc k) (count_lines (n + 1) ps)

pub number_step : (n : ℕ) (p : List ℕ) (ps : List (List ℕ)) → numbered n (p ∷ ps) ≡ line n p ∷ numbered (n + 1) ps
unfolding numbered
number_step n p ps = refl

pub no_numbers : (n : ℕ) → numbered n [] ≡ []
unfolding numbered
no_numbers n = refl
