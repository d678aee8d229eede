-- JSON's text as it is printed, byte by byte, and that a text without such characters is printed as it is.
use Rattle.std.proofs.Common.{◌≡◌, ◌∙◌, ◌<◌, ◌≤◌, ◌+◌, ◌&&◌, ◌==◌, Bool, List, [], ◌∷◌, ◌++◌, ap, ap₂, append_assoc, arith, drop, false, length, not, refl, suc, sym, true, zero, ℕ}
use Rattle.std.specs.Prelude.{get_or, if◌then◌else◌, slice_index}
use Rattle.std.specs.List.{list_all}
use Rattle.std.proofs.lemmas.List.{append-nil, drop-drop, drop_all, length-drop}
use Rattle.std.proofs.str.Laws.{both}
use Rattle.hwdb_spec_commands.specs.Json.{begins_control, escaped_after, escaped_byte, escaped_code}
use Rattle.hwdb_spec.specs.Patterns.{in_span}
use Rattle.hwdb_show.specs.Escapes.{is_clean}

is_false : (b : Bool) → not b ≡ true → b ≡ false
is_false true h = sym h
is_false false h = refl

pub clean_kept : (bytes : List ℕ) → list_all is_clean bytes ≡ true → escaped_after false bytes ≡ bytes
unfolding escaped_after
clean_kept [] h = refl
clean_kept (b ∷ bs) h =
    let here = both (is_clean b) (list_all is_clean bs) h in
    let tests = both (not (b == 0x7f)) (not (b == 0xc2)) here.0 in
    let near : Bool → Bool = λ (t : Bool). t && in_span (get_or bs 0 0) (0x80, 0x9f) in
    ap (λ (t : Bool). escaped_byte (near t) b ++ escaped_after (near t) bs) (is_false _ tests.1)
    ∙ ap (λ (t : Bool). (if t then escaped_code b else b ∷ []) ++ escaped_after false bs) (is_false _ tests.0)
    ∙ ap (λ (l : List ℕ). b ∷ l) (clean_kept bs here.1)

first_at : (text : List ℕ) (i : ℕ) → i < length text → slice_index (drop i text) 0 ≡ slice_index text i
first_at [] i lt = absurd (omega (arith, lt))
first_at (b ∷ bs) zero lt = refl
first_at (b ∷ bs) (suc i) lt = first_at bs i (omega (arith, lt))

some_left : (text : List ℕ) (i : ℕ) → i < length text → 0 < length (drop i text)
some_left text i lt = omega (arith, lt, length-drop i text)

first_second : (rest : List ℕ) → 0 < length rest → escaped_after true rest ≡ escaped_code (slice_index rest 0) ++ escaped_after false (drop 1 rest)
unfolding escaped_after
first_second [] some = absurd (omega (arith, some))
first_second (b ∷ bs) some = refl

first_first : (rest : List ℕ) → 0 < length rest → let follows = begins_control (slice_index rest 0) (drop 1 rest) in
    escaped_after false rest ≡ escaped_byte follows (slice_index rest 0) ++ escaped_after follows (drop 1 rest)
unfolding escaped_after
first_first [] some = absurd (omega (arith, some))
first_first (b ∷ bs) some = refl

-- the byte at a place is the second one of its character
pub step_second : (old new text : List ℕ) (i : ℕ) → i < length text → new ≡ old ++ escaped_code (slice_index text i)
    → new ++ escaped_after false (drop (i + 1) text) ≡ old ++ escaped_after true (drop i text)
step_second old new text i lt is =
    ap (λ (l : List ℕ). l ++ escaped_after false (drop (i + 1) text)) is
    ∙ append_assoc old (escaped_code (slice_index text i)) (escaped_after false (drop (i + 1) text))
    ∙ ap (λ (l : List ℕ). old ++ l)
    (sym (first_second (drop i text) (some_left text i lt)
    ∙ ap₂ (λ (x : ℕ) (l : List ℕ). escaped_code x ++ escaped_after false l) (first_at text i lt) (drop-drop 1 i text)))

-- it is the first one
pub step_first : (old new text : List ℕ) (i : ℕ) (follows : Bool) → i < length text → follows ≡ begins_control (slice_index text i) (drop (i + 1) text)
    → new ≡ old ++ escaped_byte follows (slice_index text i)
    → new ++ escaped_after follows (drop (i + 1) text) ≡ old ++ escaped_after false (drop i text)
step_first old new text i follows lt test is =
    let piece : Bool → ℕ → List ℕ → List ℕ = λ (t : Bool) (x : ℕ) (l : List ℕ). escaped_byte t x ++ escaped_after t l in
    ap (λ (l : List ℕ). l ++ escaped_after follows (drop (i + 1) text)) is
    ∙ append_assoc old (escaped_byte follows (slice_index text i)) (escaped_after follows (drop (i + 1) text))
    ∙ ap (λ (l : List ℕ). old ++ l)
    (sym (first_first (drop i text) (some_left text i lt)
    ∙ ap₂ (λ (x : ℕ) (l : List ℕ). piece (begins_control x l) x l) (first_at text i lt) (drop-drop 1 i text)
    ∙ ap (λ (t : Bool). piece t (slice_index text i) (drop (i + 1) text)) (sym test)))

-- at the end all of the text is printed
pub all_printed : (shown text : List ℕ) (i : ℕ) (second : Bool) → length text ≤ i → shown ++ escaped_after second (drop i text) ≡ escaped_after false text
    → shown ≡ escaped_after false text
unfolding escaped_after
all_printed shown text i second past is =
    sym (append-nil shown) ∙ ap (λ (l : List ℕ). shown ++ l) (none second) ∙ ap (λ (l : List ℕ). shown ++ escaped_after second l) (sym (drop_all i text past)) ∙ is
  where
    none : (second : Bool) → [] ≡ escaped_after second []
    none true = refl
    none false = refl
