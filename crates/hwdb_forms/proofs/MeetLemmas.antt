-- Whether a token takes a byte of a set.
use Rattle.std.proofs.Common.{◌≡◌, ℕ, ◌+◌, ◌<◌, ◌≤◌, Bool, true, false, IsTrue, List, [], ◌∷◌, refl, sym, ap, subst, ◌∙◌, ◌⊎◌, inl, inr, arith, ◌-◌, nat_eq, nat_le, eqb-true, eq-eqb, ne_eqb, ◌||◌, not, suc, zero, length, get_or, Option, None, Some}
use Rattle.std.proofs.lemmas.Bool.{le-leb, leb-true}
use Rattle.std.specs.List.{list_any}
use Rattle.std.specs.Prelude.{if◌then◌else◌}
use Rattle.std.specs.Option.{option_map_or}
use Rattle.hwdb_spec.specs.Patterns.{Bracket, Token, star, one, literal, bracket, admits_byte, bracket_at, in_span, token_at}
use Rattle.hwdb_spec.specs.declared.ByteSet.{ByteSet}
use Rattle.hwdb_spec.specs.declared.ByteSet.TheVariants.{Any, AnyHex, Dmi, DmiLeft, HexOrBlank, InputBits, Left, LeftButColon, LowerHex, Name, Names, Only, Units, UpperHex}
use Rattle.hwdb_spec.specs.Forms.{all_bytes_from, candidates, is_in, is_star, meets, set_spans}
use Rattle.hwdb_forms.specs.Internal.{takes, takes_of_set}

-- `if` as a proposition
pub either_true : (a b : Bool) → IsTrue (if a then true else b) → IsTrue a ⊎ IsTrue b
either_true true b h = inl refl
either_true false b h = inr h

pub first_true : (a b : Bool) → IsTrue a → IsTrue (if a then true else b)
first_true true b h = refl
first_true false b h = cc

pub second_true : (a b : Bool) → IsTrue b → IsTrue (if a then true else b)
second_true true b h = refl
second_true false b h = h

pub both_first : (a b : Bool) → IsTrue (if a then b else false) → IsTrue a
both_first true b h = refl
both_first false b h = h

pub both_second : (a b : Bool) → IsTrue (if a then b else false) → IsTrue b
both_second true b h = h
both_second false b h = cc

pub both_true : (a b : Bool) → IsTrue a → IsTrue b → IsTrue (if a then b else false)
both_true true b h k = k
both_true false b h k = cc

-- the same for `||`
pub or_cases : (a b : Bool) → IsTrue (a || b) → IsTrue a ⊎ IsTrue b
or_cases true b h = inl refl
or_cases false b h = inr h

pub or_first : (a b : Bool) → IsTrue a → IsTrue (a || b)
or_first true b h = refl
or_first false b h = cc

pub or_second : (a b : Bool) → IsTrue b → IsTrue (a || b)
or_second true b h = refl
or_second false b h = h

-- a byte among others, and one that passes
abbrev pub is_among : List ℕ → ℕ → Bool
is_among bytes b = list_any (λ own. nat_eq b own) bytes

is_at : (p : ℕ → Bool) (b own : ℕ) → IsTrue (nat_eq b own) → IsTrue (p b) → IsTrue (p own)
is_at p b own e h = let same : b ≡ own = eqb-true b own e in subst (λ (x : ℕ). IsTrue (p x)) same h

any_in : (p : ℕ → Bool) (bytes : List ℕ) (b : ℕ) → IsTrue (is_among bytes b) → IsTrue (p b) → IsTrue (list_any p bytes)
any_in p [] b i h = i
any_in p (own ∷ more) b i h = elim (or_cases (nat_eq b own) (is_among more b) i) [
  | inl here ↦ or_first (p own) (list_any p more) (is_at p b own here h)
  | inr later ↦ or_second (p own) (list_any p more) (any_in p more b later h)
]

any_out : (p : ℕ → Bool) (bytes : List ℕ) → IsTrue (list_any p bytes) → (b : ℕ) × IsTrue (p b)
any_out p [] h = cc
any_out p (own ∷ more) h = elim (or_cases (p own) (list_any p more) h) [
  | inl here ↦ (own, here)
  | inr later ↦ any_out p more later
]

-- the bytes from one on
among_by : (p q e : Bool) → p ≡ e → (p ≡ false → IsTrue q) → IsTrue (p || q)
among_by p q true e later = or_first p q e
among_by p q false e later = or_second p q (later e)

among : (n first b : ℕ) → first ≤ b → b < first + n → IsTrue (is_among (all_bytes_from n first) b)
unfolding all_bytes_from
among zero first b low high = absurd (omega arith)
among (suc n) first b low high =
    among_by (nat_eq b first) (is_among (all_bytes_from n (suc first)) b) (nat_eq b first) refl
    (λ differs. let other : b ≡ first → ⊥ = λ same. let t : nat_eq b first ≡ true = eq-eqb b first same in cc in
    among n (suc first) b (omega (arith, other)) (omega arith))

-- no span goes beyond the last byte
abbrev pub all_small : List (ℕ × ℕ) → Bool
all_small [] = true
all_small (span ∷ more) = if nat_le span.1 255 then all_small more else false

small : (spans : List (ℕ × ℕ)) (b : ℕ) → IsTrue (all_small spans) → IsTrue (list_any (in_span b) spans) → b < 256
small [] b s h = cc
small (span ∷ more) b s h = elim (or_cases (in_span b span) (list_any (in_span b) more) h) [
  | inl here ↦
      let last : span.1 ≤ 255 = leb-true span.1 255 (both_first (nat_le span.1 255) (all_small more) s) in
      let within : b ≤ span.1 = leb-true b span.1 (both_second (nat_le span.0 b) (nat_le b span.1) here) in
      omega arith
  | inr later ↦ small more b (both_second (nat_le span.1 255) (all_small more) s) later
]

pub own_span : (b own : ℕ) → IsTrue (is_in (Only own) b) → b ≡ own
own_span b own h = elim (or_cases (in_span b (own, own)) false h) [
  | inl here ↦
      let low : own ≤ b = leb-true own b (both_first (nat_le own b) (nat_le b own) here) in
      let high : b ≤ own = leb-true b own (both_second (nat_le own b) (nat_le b own) here) in
      omega arith
  | inr later ↦ cc
]

of_bytes : (b : ℕ) → b < 256 → IsTrue (is_among (all_bytes_from 256 0) b)
of_bytes b h = among 256 0 b (omega arith) (omega arith)

-- each byte of a set is among its candidates
pub candidate : (set : ByteSet) (b : ℕ) → IsTrue (is_in set b) → IsTrue (is_among (candidates set) b)
candidate (Only own) b h = or_first (nat_eq b own) false (eq-eqb b own (own_span b own h))
candidate UpperHex b h = of_bytes b (small (set_spans UpperHex) b refl h)
candidate LowerHex b h = of_bytes b (small (set_spans LowerHex) b refl h)
candidate AnyHex b h = of_bytes b (small (set_spans AnyHex) b refl h)
candidate HexOrBlank b h = of_bytes b (small (set_spans HexOrBlank) b refl h)
candidate InputBits b h = of_bytes b (small (set_spans InputBits) b refl h)
candidate Units b h = of_bytes b (small (set_spans Units) b refl h)
candidate Name b h = of_bytes b (small (set_spans Name) b refl h)
candidate Names b h = of_bytes b (small (set_spans Names) b refl h)
candidate Dmi b h = of_bytes b (small (set_spans Dmi) b refl h)
candidate DmiLeft b h = of_bytes b (small (set_spans DmiLeft) b refl h)
candidate Left b h = of_bytes b (small (set_spans Left) b refl h)
candidate LeftButColon b h = of_bytes b (small (set_spans LeftButColon) b refl h)
candidate Any b h = of_bytes b (small (set_spans Any) b refl h)

-- each set has a byte
pub own_in : (own : ℕ) → IsTrue (is_in (Only own) own)
own_in own = or_first (in_span own (own, own)) false (both_true (nat_le own own) (nat_le own own) (le-leb own own (omega arith)) (le-leb own own (omega arith)))

some_byte : (set : ByteSet) → (b : ℕ) × IsTrue (is_in set b)
some_byte (Only own) = (own, own_in own)
some_byte UpperHex = (48, refl)
some_byte LowerHex = (48, refl)
some_byte AnyHex = (48, refl)
some_byte HexOrBlank = (48, refl)
some_byte InputBits = (48, refl)
some_byte Units = (48, refl)
some_byte Name = (48, refl)
some_byte Names = (48, refl)
some_byte Dmi = (48, refl)
some_byte DmiLeft = (48, refl)
some_byte Left = (48, refl)
some_byte LeftButColon = (48, refl)
some_byte Any = (48, refl)

own_meets : (own b : ℕ) (set : ByteSet) → IsTrue (is_in set b) → IsTrue (takes (literal own) b) → IsTrue (is_in set own)
own_meets own b set i h = let same : b ≡ own = eqb-true b own h in subst (λ (x : ℕ). IsTrue (is_in set x)) same i

pub meets_in : (t : Token) (set : ByteSet) (b : ℕ) → IsTrue (is_in set b) → IsTrue (takes t b) → IsTrue (meets t set)
meets_in star set b i h = refl
meets_in one set b i h = refl
meets_in (literal own) set b i h = own_meets own b set i h
meets_in (bracket found) set b i h =
    any_in (takes_of_set (bracket found) set) (candidates set) b (candidate set b i) (both_true (is_in set b) (admits_byte (bracket found) b) i h)

pub meets_out : (t : Token) (set : ByteSet) → IsTrue (meets t set) → (b : ℕ) × IsTrue (is_in set b) × IsTrue (takes t b)
meets_out star set h = let s : (b : ℕ) × IsTrue (is_in set b) = some_byte set in (s.0, s.1, refl)
meets_out one set h = let s : (b : ℕ) × IsTrue (is_in set b) = some_byte set in (s.0, s.1, refl)
meets_out (literal own) set h = (own, h, eq-eqb own own refl)
meets_out (bracket found) set h =
    let s : (b : ℕ) × IsTrue (takes_of_set (bracket found) set b) = any_out (takes_of_set (bracket found) set) (candidates set) h in
    (s.0, both_first (is_in set s.0) (admits_byte (bracket found) s.0) s.1, both_second (is_in set s.0) (admits_byte (bracket found) s.0) s.1)

-- the tokens of a text by its first byte
pub star_token : (text : List ℕ) → get_or text 0 0 ≡ 42 → token_at text ≡ star
unfolding token_at
star_token [] e = cc
star_token (x ∷ rest) e = rw e refl

pub one_token : (text : List ℕ) → get_or text 0 0 ≡ 63 → token_at text ≡ one
unfolding token_at
one_token [] e = cc
one_token (x ∷ rest) e = rw e refl

bracket_or_byte : (o : Option Bracket) → is_star (option_map_or bracket o (literal 91)) ≡ false
bracket_or_byte None = refl
bracket_or_byte (Some found) = refl

bracket_token : (text : List ℕ) → get_or text 0 0 ≡ 91 → is_star (token_at text) ≡ false
unfolding token_at
bracket_token [] e = cc
bracket_token (x ∷ rest) e = rw e (bracket_or_byte (bracket_at (91 ∷ rest)))

pub byte_token : (text : List ℕ) → (get_or text 0 0 ≡ 42 → ⊥) → (get_or text 0 0 ≡ 63 → ⊥) → (get_or text 0 0 ≡ 91 → ⊥) → 0 < length text → token_at text ≡ literal (get_or text 0 0)
unfolding token_at
byte_token [] n m k h = absurd (omega arith)
byte_token (x ∷ rest) n m k h = rw (ne_eqb x 42 n, ne_eqb x 63 m, ne_eqb x 91 k) refl

pub no_token : (text : List ℕ) → length text ≡ 0 → token_at text ≡ literal 0
unfolding token_at
no_token [] e = refl
no_token (x ∷ rest) e = absurd (omega (arith, e))

tested : (a b : Bool) → (IsTrue a → IsTrue b) → (IsTrue b → IsTrue a) → a ≡ b
tested true b f g = sym (f refl)
tested false true f g = let t : false ≡ true = g refl in cc
tested false false f g = refl

takes_admits : (t : Token) (b : ℕ) → is_star t ≡ false → IsTrue (takes t b) → IsTrue (admits_byte t b)
takes_admits star b s h = cc
takes_admits one b s h = h
takes_admits (literal own) b s h = h
takes_admits (bracket found) b s h = h

admits_takes : (t : Token) (b : ℕ) → is_star t ≡ false → IsTrue (admits_byte t b) → IsTrue (takes t b)
admits_takes star b s h = cc
admits_takes one b s h = h
admits_takes (literal own) b s h = h
admits_takes (bracket found) b s h = h

-- what a token that isn't a star takes is found among the candidates
pub found_is_met : (t : Token) (set : ByteSet) → is_star t ≡ false → list_any (takes_of_set t set) (candidates set) ≡ meets t set
found_is_met t set s =
    tested (list_any (takes_of_set t set) (candidates set)) (meets t set)
    (λ h. let f : (b : ℕ) × IsTrue (takes_of_set t set b) = any_out (takes_of_set t set) (candidates set) h in
    meets_in t set f.0 (both_first (is_in set f.0) (admits_byte t f.0) f.1) (admits_takes t f.0 s (both_second (is_in set f.0) (admits_byte t f.0) f.1)))
    (λ h. let f : (b : ℕ) × IsTrue (is_in set b) × IsTrue (takes t b) = meets_out t set h in
    any_in (takes_of_set t set) (candidates set) f.0 (candidate set f.0 f.1) (both_true (is_in set f.0) (admits_byte t f.0) f.1 (takes_admits t f.0 s f.2)))

pub byte_met : (t : Token) (set : ByteSet) (b : ℕ) (found : Bool) → found ≡ takes_of_set t set b → found ≡ true → true ≡ list_any (takes_of_set t set) (candidates set)
byte_met t set b found e met =
    let h : takes_of_set t set b ≡ true = sym e ∙ met in
    sym (any_in (takes_of_set t set) (candidates set) b (candidate set b (both_first (is_in set b) (admits_byte t b) h)) h)

pub met_by_token : (t u : Token) (set : ByteSet) → t ≡ u → meets u set ≡ meets t set
met_by_token t u set e = ap (λ (x : Token). meets x set) (sym e)

pub bracket_met : (text : List ℕ) (set : ByteSet) (b : Bool) → get_or text 0 0 ≡ 91 → b ≡ list_any (takes_of_set (token_at text) set) (candidates set) → b ≡ meets (token_at text) set
bracket_met text set b e k = k ∙ found_is_met (token_at text) set (bracket_token text e)

-- the search among all bytes
pub no_only : (set : ByteSet) → ((own : ℕ) → set ≡ Only own → ⊥) → all_bytes_from 256 0 ≡ candidates set
no_only (Only own) n = absurd (n own refl)
no_only UpperHex n = refl
no_only LowerHex n = refl
no_only AnyHex n = refl
no_only HexOrBlank n = refl
no_only InputBits n = refl
no_only Units n = refl
no_only Name n = refl
no_only Names n = refl
no_only Dmi n = refl
no_only DmiLeft n = refl
no_only Left n = refl
no_only LeftButColon n = refl
no_only Any n = refl

next_bytes : (p : ℕ → Bool) (n b k : ℕ) → n ≡ suc k → list_any p (all_bytes_from n b) ≡ (p b || list_any p (all_bytes_from k (suc b)))
unfolding all_bytes_from
next_bytes p n b k e = rw e refl

pub byte_passed : (p : ℕ → Bool) (n b : ℕ) (found all : Bool) → found ≡ p b → found ≡ true → 0 < n → list_any p (all_bytes_from n b) ≡ all → true ≡ all
byte_passed p n b found all e t h k =
    let here : IsTrue (p b) = sym e ∙ t in
    sym (sym k ∙ next_bytes p n b (n - 1) (omega arith) ∙ or_first (p b) (list_any p (all_bytes_from (n - 1) (suc b))) here)

or_false : (a b : Bool) → a ≡ false → (a || b) ≡ b
or_false true b e = cc
or_false false b e = refl

pub byte_left : (p : ℕ → Bool) (n k b c : ℕ) (found all : Bool) → found ≡ p b → found ≡ false → n ≡ suc k → c ≡ suc b → list_any p (all_bytes_from n b) ≡ all → list_any p (all_bytes_from k c) ≡ all
byte_left p n k b c found all e f l m h =
    let no : p b ≡ false = sym e ∙ f in
    ap (λ (x : ℕ). list_any p (all_bytes_from k x)) m ∙ sym (next_bytes p n b k l ∙ or_false (p b) (list_any p (all_bytes_from k (suc b))) no) ∙ h

pub last_byte : (p : ℕ → Bool) (n b : ℕ) (found all : Bool) → found ≡ p b → n ≡ 1 → list_any p (all_bytes_from n b) ≡ all → found ≡ all
unfolding all_bytes_from
last_byte p n b found all e l h = e ∙ or_none (p b) ∙ sym (ap (λ (i : ℕ). list_any p (all_bytes_from i b)) l) ∙ h
  where
    or_none : (a : Bool) → a ≡ (a || false)
    or_none true = refl
    or_none false = refl

pub some_left : (n : ℕ) → false ≡ nat_eq n 0 → 0 < n
some_left zero e = let t : false ≡ true = e in cc
some_left (suc n) e = omega arith

pub not_true : (b : Bool) → not b ≡ true → b ≡ false
not_true true e = cc
not_true false e = refl
