-- Lines that are put together from parts.
use Rattle.std.proofs.Common.{Result, Err, ◌≡◌, ℕ, zero, suc, ◌-◌, ◌+◌, ◌<◌, ◌≤◌, Bool, true, false, cond, not, List, [], ◌∷◌, ◌++◌, take, drop, length, length-append, refl, ap, ◌∙◌, sym, subst, arith, ◌||◌, true≢false, eqb-true, Option, None, Some, IfSome, append_assoc, append-nil}
use Rattle.std.proofs.lemmas.List.{drop-drop, drop-take, take_all}
use Rattle.std.specs.Io.KnownBytes.{Consumes, IsAtEnd, Keeps, prepend_known}
use Rattle.std.specs.List.{onto_first, position_or_len}
use Rattle.hwdb_spec.specs.Lines.{has, is, pieces}
use Rattle.hwdb_spec_commands.specs.ManyDevices.{HasLongLine}
use Rattle.hwdb_spec.specs.declared.errors.ReadError.{ReadError}
use Rattle.hwdb_spec.specs.declared.errors.ReadError.TheVariants as reading
use Rattle.hwdb_spec.specs.Errors.{refusal_of_read}
use Rattle.hwdb_spec.specs.declared.errors.ToolError.{ToolError}
use Rattle.hwdb_spec.specs.declared.errors.ToolError.TheVariants.{TooLong}
use Rattle.hwdb_answers.specs.Internal.{IsRefilled, IsTaken}
use Rattle.std.specs.Prelude.{Any, IsErrOf}
use Rattle.std.specs.Result.{IsErrAnd}
use Rattle.hwdb_answers.specs.Streams.{IsFirstLine}
use Rattle.hwdb_spec.specs.Lemmas.Truth.{or_neither}

-- no newline in two parts, none in the whole
pub none_in_both : (a b : List ℕ) → has 10 a ≡ false → has 10 b ≡ false → has 10 (a ++ b) ≡ false
none_in_both [] b p q = q
none_in_both (x ∷ xs) b p q =
    let h = or_neither (is 10 x) (has 10 xs) p in
    ap (λ (t : Bool). t || has 10 (xs ++ b)) h.0 ∙ none_in_both xs b h.1 q

-- a line, a newline, and what is after them
pub line_and_more : (a rest : List ℕ) → has 10 a ≡ false → pieces (is 10) (a ++ 10 ∷ rest) ≡ a ∷ pieces (is 10) rest
unfolding pieces
line_and_more [] rest p = refl
line_and_more (x ∷ xs) rest p =
    let h = or_neither (is 10 x) (has 10 xs) p in
    ap (λ (t : Bool). cond t ([] ∷ pieces (is 10) (xs ++ 10 ∷ rest)) (onto_first x (pieces (is 10) (xs ++ 10 ∷ rest)))) h.0
    ∙ ap (onto_first x) (line_and_more xs rest h.1)

-- a last line without a newline
pub last_line : (a : List ℕ) → has 10 a ≡ false → 0 < length a → pieces (is 10) a ≡ a ∷ []
unfolding pieces
last_line [] p h = absurd (omega arith)
last_line (x ∷ []) p h =
    let q = or_neither (is 10 x) (has 10 []) p in
    ap (λ (t : Bool). cond t ([] ∷ []) ((x ∷ []) ∷ [])) q.0
last_line (x ∷ y ∷ xs) p h =
    let q = or_neither (is 10 x) (has 10 (y ∷ xs)) p in
    ap (λ (t : Bool). cond t ([] ∷ pieces (is 10) (y ∷ xs)) (onto_first x (pieces (is 10) (y ∷ xs)))) q.0
    ∙ ap (onto_first x) (last_line (y ∷ xs) q.1 (omega arith))

pub no_lines : pieces (is 10) [] ≡ []
unfolding pieces
no_lines = refl

later_by : (t : Bool) (n m : ℕ) → n ≤ m → cond (not t) (1 + n) 0 ≤ cond (not t) (1 + m) 0
later_by true n m h = omega arith
later_by false n m h = omega (arith, h)

-- the first newline is no earlier if more is after it
later : (b c : List ℕ) → position_or_len (is 10) b ≤ position_or_len (is 10) (b ++ c)
later [] c = omega arith
later (x ∷ xs) c = later_by (is 10 x) _ _ (later xs c)

past_by : (t : Bool) (n m : ℕ) → t ≡ false → n ≤ m → suc n ≤ cond (not t) (1 + m) 0
past_by true n m e h = absurd (true≢false e)
past_by false n m e h = omega (arith, h)

-- nor does it if a part without one is in front
pub past : (a b c : List ℕ) → has 10 a ≡ false → length a + position_or_len (is 10) b ≤ position_or_len (is 10) (a ++ (b ++ c))
past [] b c p = omega (arith, later b c)
past (x ∷ xs) b c p =
    let h = or_neither (is 10 x) (has 10 xs) p in
    let step = past_by (is 10 x) _ _ h.0 (past xs b c h.1) in
    omega (arith, step)

front_by : (t : Bool) (x n : ℕ) (xs : List ℕ) → is 10 x ≡ t → has 10 (take n xs) ≡ false → has 10 (take (cond (not t) (1 + n) 0) (x ∷ xs)) ≡ false
front_by true x n xs e p = refl
front_by false x n xs e p =
    ap (λ (k : ℕ). has 10 (take k (x ∷ xs))) (let s : 1 + n ≡ suc n = omega arith in s)
    ∙ ap (λ (t : Bool). t || has 10 (take n xs)) e ∙ p

-- no newline is before the first
pub none_in_front : (xs : List ℕ) → has 10 (take (position_or_len (is 10) xs) xs) ≡ false
none_in_front [] = refl
none_in_front (x ∷ xs) = front_by (is 10 x) x (position_or_len (is 10) xs) xs refl (none_in_front xs)

cut_by : (t : Bool) (x n : ℕ) (xs : List ℕ) → is 10 x ≡ t → (n < length xs → xs ≡ take n xs ++ 10 ∷ drop (n + 1) xs) → cond (not t) (1 + n) 0 < suc (length xs)
    → x ∷ xs ≡ take (cond (not t) (1 + n) 0) (x ∷ xs) ++ 10 ∷ drop (cond (not t) (1 + n) 0 + 1) (x ∷ xs)
cut_by true x n xs e f h = ap (λ (b : ℕ). b ∷ xs) (eqb-true x 10 e)
cut_by false x n xs e f h =
    ap (λ (l : List ℕ). x ∷ l) (f (omega (arith, h)))
    ∙ ap (λ (k : ℕ). x ∷ (take n xs ++ 10 ∷ drop k (x ∷ xs))) (let s : suc (n + 1) ≡ 1 + n + 1 = omega arith in s)
    ∙ ap (λ (k : ℕ). take k (x ∷ xs) ++ 10 ∷ drop (1 + n + 1) (x ∷ xs)) (let s : suc n ≡ 1 + n = omega arith in s)

-- a text, cut at its first newline
pub cut : (xs : List ℕ) → position_or_len (is 10) xs < length xs → xs ≡ take (position_or_len (is 10) xs) xs ++ 10 ∷ drop (position_or_len (is 10) xs + 1) xs
cut [] h = absurd (omega arith)
cut (x ∷ xs) h = cut_by (is 10 x) x (position_or_len (is 10) xs) xs refl (cut xs) h

-- ---- where a byte first is

-- ---- a line that was read so far

pub nothing_read : (a : Option (List ℕ)) → Consumes a a []
nothing_read None = tt
nothing_read (Some x) = refl

-- after the line's beginning are its last part and a newline
together : (line part held_now y : List ℕ) → line ++ ((part ++ 10 ∷ held_now) ++ y) ≡ (line ++ part) ++ 10 ∷ (held_now ++ y)
together line part held_now y =
    ap (λ (l : List ℕ). line ++ l) (append_assoc part (10 ∷ held_now) y) ∙ sym (append_assoc line part (10 ∷ (held_now ++ y)))

fewer : (a rest : List ℕ) → length rest < length (a ++ 10 ∷ rest)
fewer a rest = omega (arith, length-append a (10 ∷ rest))

pub first_line : (a left : Option (List ℕ)) (line part held held_now : List ℕ) → Consumes a (prepend_known held left) line → held ≡ part ++ 10 ∷ held_now → has 10 line ≡ false → has 10 part ≡ false
    → IsFirstLine (line ++ part) a (prepend_known held_now left)
first_line None left line part held held_now p e f g = tt
first_line (Some x) None line part held held_now p e f g = absurd p
first_line (Some x) (Some y) line part held held_now p e f g =
    let whole : x ≡ (line ++ part) ++ 10 ∷ (held_now ++ y) = p ∙ ap (λ (l : List ℕ). line ++ (l ++ y)) e ∙ together line part held_now y in (
      ap (pieces (is 10)) whole ∙ line_and_more (line ++ part) (held_now ++ y) (none_in_both line part f g),
      (let P : List ℕ → Type 0 = λ l. length (held_now ++ y) < length l in subst P (sym whole) (fewer (line ++ part) (held_now ++ y))),
    )

pub read_on : (a left left_now : Option (List ℕ)) (line held held_now : List ℕ) → Consumes a (prepend_known held left) line → Keeps left (prepend_known held_now left_now)
    → Consumes a (prepend_known held_now left_now) (line ++ held)
read_on None left left_now line held held_now p k = tt
read_on (Some x) None left_now line held held_now p k = absurd p
read_on (Some x) (Some y) None line held held_now p k = absurd k
read_on (Some x) (Some y) (Some z) line held held_now p k =
    p ∙ sym (append_assoc line held y) ∙ ap (λ (l : List ℕ). (line ++ held) ++ l) (sym k)

-- nothing was left
pub at_end : (a left : Option (List ℕ)) (line held : List ℕ) → Consumes a (prepend_known held left) line → held ≡ [] → IsAtEnd left → line ≡ [] → IsAtEnd a
at_end None left line held p h e n = tt
at_end (Some x) None line held p h e n = absurd p
at_end (Some x) (Some y) line held p h e n = p ∙ ap (λ (l : List ℕ). line ++ (l ++ y)) h ∙ ap (λ (l : List ℕ). l ++ y) n ∙ e

-- only a last line was left, without a newline
pub ended_line : (a left : Option (List ℕ)) (line held : List ℕ) → Consumes a (prepend_known held left) line → held ≡ [] → IsAtEnd left → has 10 line ≡ false → 0 < length line
    → IsFirstLine line a (prepend_known held left)
ended_line None left line held p h e f some = tt
ended_line (Some x) None line held p h e f some = absurd p
ended_line (Some x) (Some y) line held p h e f some =
    let none : held ++ y ≡ [] = ap (λ (l : List ℕ). l ++ y) h ∙ e in
    let whole : x ≡ line = p ∙ ap (λ (l : List ℕ). line ++ l) none ∙ append-nil line in (
      ap (pieces (is 10)) whole ∙ last_line line f some ∙ ap (λ (ls : List (List ℕ)). line ∷ ls) (sym (ap (pieces (is 10)) none ∙ no_lines)),
      omega (arith, some, ap length none, ap length whole),
    )

-- the line has more bytes
pub line_too_long : (a left : Option (List ℕ)) (line held : List ℕ) (limit : ℕ) → Consumes a (prepend_known held left) line → has 10 line ≡ false → limit < length line + position_or_len (is 10) held
    → IfSome a (λ bytes. limit < position_or_len (is 10) bytes)
line_too_long None left line held limit p f h = tt
line_too_long (Some x) None line held limit p f h = absurd p
line_too_long (Some x) (Some y) line held limit p f h =
    let P : List ℕ → Type 0 = λ l. limit < position_or_len (is 10) l in
    subst P (sym p) (let far = past line held y f in omega (arith, far, h))

-- ---- a line that is too long

-- the first of some lines is longer
abbrev pub IsFirstLong : ℕ → List (List ℕ) → Type 0
IsFirstLong limit [] = ⊥
IsFirstLong limit (l ∷ ls) = limit < length l

onto_none : (x : ℕ) (ls : List (List ℕ)) → IsFirstLong 0 (onto_first x ls)
onto_none x [] = omega arith
onto_none x (l ∷ ls) = omega arith

onto_long : (x limit : ℕ) (ls : List (List ℕ)) → IsFirstLong limit ls → IsFirstLong (suc limit) (onto_first x ls)
onto_long x limit [] h = absurd h
onto_long x limit (l ∷ ls) h = omega (arith, h)

long_by : (t : Bool) (x n limit : ℕ) (ls : List (List ℕ)) → ((m : ℕ) → m < n → IsFirstLong m ls) → limit < cond (not t) (1 + n) 0
    → IsFirstLong limit (cond t ([] ∷ ls) (onto_first x ls))
long_by true x n limit ls f h = absurd (let g : limit < 0 = h in omega (arith, g))
long_by false x n zero ls f h = onto_none x ls
long_by false x n (suc m) ls f h = onto_long x m ls (f m (let g : suc m < 1 + n = h in omega (arith, g)))

pub first_long : (xs : List ℕ) (limit : ℕ) → limit < position_or_len (is 10) xs → IsFirstLong limit (pieces (is 10) xs)
unfolding pieces
first_long [] limit h = absurd (omega (arith, h))
first_long (x ∷ xs) limit h = long_by (is 10 x) x (position_or_len (is 10) xs) limit (pieces (is 10) xs) (first_long xs) h

any_long : (limit : ℕ) (ls : List (List ℕ)) → IsFirstLong limit ls → Any (λ (l : List ℕ). limit < length l) ls
any_long limit [] h = absurd h
any_long limit (l ∷ ls) h = (0, l, omega arith, refl, h)

-- the first newline is too far from the beginning
pub long_line : (limit : ℕ) (xs : List ℕ) → limit < position_or_len (is 10) xs → HasLongLine limit xs
long_line limit xs h = any_long limit (pieces (is 10) xs) (first_long xs limit h)

-- a line after the first
pub long_behind : (limit : ℕ) (line : List ℕ) (ls : List (List ℕ)) → Any (λ (l : List ℕ). limit < length l) ls → Any (λ (l : List ℕ). limit < length l) (line ∷ ls)
long_behind limit line ls a = (suc a.0, a.1, omega (arith, a.2), a.3, a.4)

-- ---- what is held

-- a chunk that was just filled
pub refilled : (before now : Option (List ℕ)) (chunk : List ℕ) (n : ℕ) → Consumes before now (take n chunk) → Keeps before (prepend_known (take n chunk) now)
refilled None now chunk n p = tt
refilled (Some x) None chunk n p = absurd p
refilled (Some x) (Some y) chunk n p = sym p

len_take : (n : ℕ) (xs : List ℕ) → length (take n xs) ≤ n
len_take zero [] = omega arith
len_take zero (x ∷ xs) = omega arith
len_take (suc n) [] = omega arith
len_take (suc n) (x ∷ xs) = omega (arith, len_take n xs)

rest_of : (chunk : List ℕ) (at end e : ℕ) → e < end - at → drop (e + 1) (take (end - at) (drop at chunk)) ≡ take (end - (at + e + 1)) (drop (at + e + 1) chunk)
rest_of chunk at end e h =
    let m = end - (at + e + 1) in
    let all : end - at ≡ e + 1 + m = omega (arith, h) in
    let far : at + (e + 1) ≡ at + e + 1 = omega arith in
    ap (λ (n : ℕ). drop (e + 1) (take n (drop at chunk))) all
    ∙ drop-take (e + 1) m (drop at chunk)
    ∙ ap (take m) (drop-drop (e + 1) at chunk ∙ ap (λ (n : ℕ). drop n chunk) far)

-- the part up to a newline was handed on
pub taken_line : (line line_now part chunk : List ℕ) (at end e : ℕ) → part ≡ take (end - at) (drop at chunk) → e ≡ position_or_len (is 10) part → e < length part
    → line_now ≡ line ++ take e part → IsTaken line part line_now (take (end - (at + e + 1)) (drop (at + e + 1) chunk)) true
taken_line line line_now part chunk at end e is place within now = (
  take e part,
  ap (λ (n : ℕ). has 10 (take n part)) place ∙ none_in_front part,
  now,
  (let P : ℕ → Type 0 = λ n. n < length part → part ≡ take n part ++ 10 ∷ drop (n + 1) part in
      subst P (sym place) (cut part) within)
      ∙ ap (λ (l : List ℕ). take e part ++ 10 ∷ l) (ap (drop (e + 1)) is ∙ rest_of chunk at end e (omega (arith, within, ap length is, len_take (end - at) (drop at chunk)))),
)

take_zero : (xs : List ℕ) → take 0 xs ≡ []
take_zero [] = refl
take_zero (x ∷ xs) = refl

none_there : (n : ℕ) (xs : List ℕ) → n ≡ 0 → take n xs ≡ []
none_there n xs e = ap (λ (k : ℕ). take k xs) e ∙ take_zero xs

-- all was handed on
pub taken_rest : (line line_now part chunk : List ℕ) (at end e : ℕ) → e ≡ position_or_len (is 10) part → length part ≤ e → e ≤ length part
    → line_now ≡ line ++ take e part → IsTaken line part line_now (take (end - end) (drop end chunk)) false
taken_rest line line_now part chunk at end e place over within now =
    let all : take e part ≡ part = take_all e part over in (
      ap (has 10) (sym all) ∙ ap (λ (n : ℕ). has 10 (take n part)) place ∙ none_in_front part,
      now ∙ ap (λ (l : List ℕ). line ++ l) all,
      none_there (end - end) (drop end chunk) (omega arith),
    )

-- ---- a step of the loop

-- the whole line is there
pub first_taken : (a left : Option (List ℕ)) (line own line_now own_now : List ℕ) (is_whole : Bool) → is_whole ≡ true → Consumes a (prepend_known own left) line → has 10 line ≡ false
    → IsTaken line own line_now own_now is_whole → IsFirstLine line_now a (prepend_known own_now left)
first_taken a left line own line_now own_now false e p f t = absurd (true≢false (sym e))
first_taken a left line own line_now own_now true e p f t =
    let P : List ℕ → Type 0 = λ l. IsFirstLine l a (prepend_known own_now left) in
    subst P (sym t.2) (first_line a left line t.0 own own_now p t.3 f t.1)

-- the line goes on
pub more_taken : (a left left_now : Option (List ℕ)) (line own line_now own_now own_more : List ℕ) (is_whole more : Bool) → is_whole ≡ false → Consumes a (prepend_known own left) line
    → IsTaken line own line_now own_now is_whole → IsRefilled left own_more left_now more → Consumes a (prepend_known own_more left_now) line_now
more_taken a left left_now line own line_now own_now own_more true more e p t r = absurd (true≢false e)
more_taken a left left_now line own line_now own_now own_more false more e p t r =
    let P : List ℕ → Type 0 = λ l. Consumes a (prepend_known own_more left_now) l in
    subst P (sym t.1) (read_on a left left_now line own own_more p r.kept)

pub free_taken : (line own line_now own_now : List ℕ) (is_whole : Bool) → is_whole ≡ false → has 10 line ≡ false → IsTaken line own line_now own_now is_whole → has 10 line_now ≡ false
free_taken line own line_now own_now true e f t = absurd (true≢false e)
free_taken line own line_now own_now false e f t = ap (has 10) t.1 ∙ none_in_both line own f t.0

-- the last line is there
pub last_taken : (a left left_now : Option (List ℕ)) (line own line_now own_now own_more : List ℕ) (is_whole more : Bool) → is_whole ≡ false → more ≡ false → Consumes a (prepend_known own left) line
    → has 10 line ≡ false → IsTaken line own line_now own_now is_whole → IsRefilled left own_more left_now more → 0 < length line_now → IsFirstLine line_now a (prepend_known own_more left_now)
last_taken a left left_now line own line_now own_now own_more is_whole more e n p f t r some =
    let none = r.none n in
    ended_line a left_now line_now own_more (more_taken a left left_now line own line_now own_now own_more is_whole more e p t r) none.0 none.1 (free_taken line own line_now own_now is_whole e f t) some

pub error_was : {X Y E : Type 0} (r : Result X E) (e w : E) → IsErrAnd r (λ x. x ≡ e) → IsErrOf r w → IsErrOf {T = Y} (Err e) w
error_was {X} {E} r e w h p =
    let P : Result X E → Type 0 = λ q. IsErrAnd q (λ x. x ≡ e) in
    let same : w ≡ e = subst P p h in
    ap Err (sym same)

is_too_long : ToolError → Type 0
is_too_long TooLong = Unit {0}
is_too_long _ = ⊥

only_long : {Y : Type 0} (q : ReadError) → TooLong ≡ refusal_of_read q → IsErrOf {T = Y} (Err q) reading.TooLong
unfolding is_too_long
only_long reading.Failed e = absurd (subst is_too_long e tt)
only_long reading.TooLong e = refl
only_long reading.Memory e = absurd (subst is_too_long e tt)

-- a line that is too long is told so
pub read_too_long : {X Y : Type 0} (r : Result X ToolError) (q : ReadError) → IsErrAnd r (λ x. x ≡ refusal_of_read q) → IsErrOf r TooLong → IsErrOf {T = Y} (Err q) reading.TooLong
read_too_long {X} r q h p =
    let P : Result X ToolError → Type 0 = λ o. IsErrAnd o (λ x. x ≡ refusal_of_read q) in
    only_long q (subst P p h)
