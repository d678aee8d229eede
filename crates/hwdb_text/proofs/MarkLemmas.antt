-- What a search for byte 0 or `#` says of a line.
use Rattle.std.proofs.Common.{◌≡◌, ℕ, zero, suc, ◌+◌, ◌-◌, ◌<◌, Bool, true, false, List, [], ◌∷◌, take, drop, length, get_or, refl, ap, ◌∙◌, sym, subst, ◌||◌, ◌==◌, inl, inr, arith, eqb-true}
use Rattle.std.proofs.lemmas.Bool.{cases_Bool, cases_lt}
use Rattle.std.proofs.lemmas.List.{length-drop, get_or-drop}
use Rattle.memchr.specs.Find.{is_byte2}
use Rattle.hwdb_text.specs.declared.line.Content.{Content}
use Rattle.hwdb_text.specs.declared.line.Content.TheVariants.{Comment, ZeroByte, Empty, Property, Match}
use Rattle.hwdb_spec.specs.Lines.{is, has, begins_with, trimmed}
use Rattle.std.specs.List.{before_first}
use Rattle.hwdb_text.specs.Internal.Contents.{IsKind, IsContent}
use Rattle.hwdb_text.proofs.ByteLemmas.{place_of, no_place}
use Rattle.hwdb_spec.specs.Lemmas.Truth.{or_left, or_right}
use Rattle.hwdb_text.specs.Lemmas.Bytes.{has_none}

or_other : (a b : Bool) → (a || b) ≡ true → (a ≡ true → ⊥) → b ≡ true
or_other true b e n = absurd (n refl)
or_other false b e n = e

begins_not : (text : List ℕ) → (0 < length text → (get_or text 0 0 == 35) ≡ true → ⊥) → begins_with 35 text ≡ false
begins_not [] n = refl
begins_not (x ∷ xs) n = elim (cases_Bool (x == 35)) [ inl e ↦ absurd (n (omega arith) e) | inr e ↦ e ]

take_whole : (text : List ℕ) → take (length text) text ≡ text
take_whole [] = refl
take_whole (x ∷ xs) = ap (λ (r : List ℕ). x ∷ r) (take_whole xs)

-- the content of a line that isn't dropped
kept : (text piece : List ℕ) (content : Content) → begins_with 35 text ≡ false → has 0 text ≡ false → before_first (is 35) text ≡ piece → IsKind (trimmed piece) content → IsContent text content
kept text piece Comment b h e k = absurd k
kept text piece ZeroByte b h e k = absurd k
kept text piece Empty b h e k = (b, h, (let P : List ℕ → Type 0 = λ t. IsKind (trimmed t) Empty in subst P (sym e) k))
kept text piece (Property t) b h e k = (b, h, (let P : List ℕ → Type 0 = λ p. IsKind (trimmed p) (Property t) in subst P (sym e) k))
kept text piece (Match t) b h e k = (b, h, (let P : List ℕ → Type 0 = λ p. IsKind (trimmed p) (Match t) in subst P (sym e) k))

abbrev pub marked : List ℕ → ℕ → Bool
marked text k = is_byte2 0 35 (get_or text k 0)

abbrev pub Unmarked : List ℕ → ℕ → Type 0
Unmarked text n = (k : ℕ) → k < n → marked text k ≡ true → ⊥

pub unmarked : (text : List ℕ) (content : Content) → Unmarked text (length text) → IsKind (trimmed text) content → IsContent text content
unmarked text content n k =
    kept text text content
    (begins_not text (λ h e. n 0 h (or_right (get_or text 0 0 == 0) (get_or text 0 0 == 35) e)))
    (has_none 0 text (no_place (is 0) text (λ j h e. n j h (or_left (get_or text j 0 == 0) (get_or text j 0 == 35) e))))
    (ap (λ (m : ℕ). take m text) (no_place (is 35) text (λ j h e. n j h (or_right (get_or text j 0 == 0) (get_or text j 0 == 35) e))) ∙ take_whole text)
    k

-- no comment, since a byte 0 comes before the first `#`, or `#` is not at the beginning
begins_later : (text : List ℕ) (k : ℕ) → Unmarked text k → ((get_or text 0 0 == 35) ≡ true → k ≡ 0 → ⊥) → begins_with 35 text ≡ false
begins_later text zero n z = begins_not text (λ h e. z e refl)
begins_later text (suc k) n z = begins_not text (λ h e. n 0 (omega arith) (or_right (get_or text 0 0 == 0) (get_or text 0 0 == 35) e))

has_at : (text : List ℕ) (k : ℕ) → k < length text → (get_or text k 0 == 0) ≡ true → has 0 text ≡ true
has_at [] k h e = absurd (omega arith)
has_at (x ∷ xs) zero h e = or_left (x == 0) (has 0 xs) e
has_at (x ∷ xs) (suc k) h e = or_right (x == 0) (has 0 xs) (has_at xs k (omega arith) e)

zero_first : (text : List ℕ) (k : ℕ) → get_or text k 0 ≡ 0 → (get_or text 0 0 == 35) ≡ true → k ≡ 0 → ⊥
zero_first text k z e f =
    let P : ℕ → Type 0 = λ m. get_or text m 0 ≡ 0 in
    let g : get_or text 0 0 ≡ 0 = subst P f z in
    let Q : ℕ → Type 0 = λ x. (x == 35) ≡ true in
    let t : false ≡ true = subst Q g e in cc

pub marked_by_zero : (text : List ℕ) (k : ℕ) → Unmarked text k → k < length text → get_or text k 0 ≡ 0 → (begins_with 35 text ≡ false) × (has 0 text ≡ true)
marked_by_zero text k n h z = (
  begins_later text k n (zero_first text k z),
  has_at text k h (ap (λ (x : ℕ). x == 0) z),
)

has_drop : (k : ℕ) (text : List ℕ) → has 0 (drop k text) ≡ true → has 0 text ≡ true
has_drop zero text e = e
has_drop (suc k) [] e = e
has_drop (suc k) (x ∷ xs) e = or_right (x == 0) (has 0 xs) (has_drop k xs e)

pub marked_behind : (text : List ℕ) (k : ℕ) (rest : List ℕ) (i : ℕ) → Unmarked text k → (k ≡ 0 → ⊥) → rest ≡ drop k text → i < length rest → (get_or rest i 0 == 0) ≡ true
    → (begins_with 35 text ≡ false) × (has 0 text ≡ true)
marked_behind text k rest i n z r h e = (
  begins_later text k n (λ _ f. z f),
  has_drop k text (let P : List ℕ → Type 0 = λ t. has 0 t ≡ true in subst P r (has_at rest i h e)),
)

none_behind : (text : List ℕ) (k : ℕ) (rest : List ℕ) → Unmarked text k → rest ≡ drop k text → ((j : ℕ) → j < length rest → (get_or rest j 0 == 0) ≡ true → ⊥) → has 0 text ≡ false
none_behind text k rest n r m =
    has_none 0 text (no_place (is 0) text (λ j h e. elim (cases_lt j k) [
      | inl l ↦ n j l (or_left (get_or text j 0 == 0) (get_or text j 0 == 35) e)
      | inr l ↦
          let i : k + (j - k) ≡ j = omega arith in
          let P : ℕ → Type 0 = λ p. (get_or text p 0 == 0) ≡ true in
          let Q : List ℕ → Type 0 = λ t. (get_or t (j - k) 0 == 0) ≡ true in
          let R : ℕ → Type 0 = λ x. (x == 0) ≡ true in
          m (j - k) (omega (arith, ap length r, length-drop k text)) (subst Q (sym r) (subst R (sym (get_or-drop k text (j - k) 0)) (subst P (sym i) e)))
    ]))

pub marked_kept : (text : List ℕ) (k : ℕ) (rest : List ℕ) (content : Content) → Unmarked text k → k < length text → marked text k ≡ true → (get_or text k 0 ≡ 0 → ⊥) → (k ≡ 0 → ⊥)
    → rest ≡ drop k text → ((j : ℕ) → j < length rest → (get_or rest j 0 == 0) ≡ true → ⊥) → IsKind (trimmed (take k text)) content → IsContent text content
marked_kept text k rest content n h e z f r m kind =
    kept text (take k text) content (begins_later text k n (λ _ q. f q)) (none_behind text k rest n r m)
    (ap (λ (p : ℕ). take p text) (place_of (is 35) text k h (λ j l q. n j l (or_right (get_or text j 0 == 0) (get_or text j 0 == 35) q))
    (or_other (get_or text k 0 == 0) (get_or text k 0 == 35) e (λ q. z (eqb-true (get_or text k 0) 0 q)))))
    kind
