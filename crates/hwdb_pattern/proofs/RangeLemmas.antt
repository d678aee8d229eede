-- The place of a pattern's first reversed range, seen from any place where an item or a token begins.
use Rattle.std.proofs.Common.{◌≡◌, ℕ, zero, suc, ◌-◌, ◌+◌, ◌<◌, ◌≤◌, Bool, true, false, List, [], ◌∷◌, ◌++◌, take, drop, length, get_or, nat_lt, refl, ap, ◌∙◌, sym, Option, Some, None, cond, ◌==◌, ◌||◌, if◌then◌else◌, nat_eq, arith, inl, inr, ne_eqb, eq-eqb, subst}
use Rattle.std.proofs.lemmas.Bool.{cases_eq, false≢true, ltb_from_iff, le-ltb}
use Rattle.std.proofs.lemmas.List.{length-take, length-drop, get_or-drop, drop-drop, drop_all}
use Rattle.std.proofs.lemmas.List.Folds.{list_any-append}
use Rattle.std.specs.List.{list_any}
use Rattle.hwdb_spec.specs.declared.Class.{Class}
use Rattle.hwdb_spec.specs.declared.Class.TheVariants.{Alnum, Alpha, Blank, Cntrl, Digit, Graph, Lower, Print, Punct, Space, Upper, Xdigit}
use Rattle.hwdb_spec.specs.Patterns.{Items, Bracket, Token, class_spans, has_reversed, one_more_unless, reversed_from, reversed_in_bracket, is_reversed, range_from, item_at, plain_item, joined, items_from, bracket_at, bracket_of, is_inversion, token_at, token_size, tokens_from}
use Rattle.hwdb_spec.specs.Tree.{is_open, closed_from}
use Rattle.hwdb_pattern.specs.Internal.Parts.{class_at, items, items_part, bracket_or_byte}
use Rattle.hwdb_pattern.specs.declared.brackets.Part.{Part}
use Rattle.hwdb_pattern.proofs.BracketLemmas.{item_long, item_class, item_plain, no_class, bracket_short, bracket_inverted, bracket_upright}
use Rattle.hwdb_pattern.proofs.TokenLemmas.{drop_less, token_long, token_bracket_or, token_one, star_at, token_byte}
use Rattle.hwdb_pattern.proofs.LongerPathLemmas.{token_within}

-- of one item
reversed_class : (k : Class) → has_reversed (class_spans k) ≡ false
reversed_class Alnum = refl
reversed_class Alpha = refl
reversed_class Blank = refl
reversed_class Cntrl = refl
reversed_class Digit = refl
reversed_class Graph = refl
reversed_class Lower = refl
reversed_class Print = refl
reversed_class Punct = refl
reversed_class Space = refl
reversed_class Upper = refl
reversed_class Xdigit = refl

one_byte : (low : ℕ) → has_reversed ((low, low) ∷ []) ≡ false
one_byte low = ap (λ (t : Bool). t || false) (le-ltb low low (omega arith))

by_test : (t : Bool) (low : ℕ) (y : Items) → t ≡ false → has_reversed (cond t y (items 1 ((low, low) ∷ []))).spans ≡ false
by_test true low y e = cc
by_test false low y e = one_byte low

plain_other : (text : List ℕ) → (get_or text 1 0 ≡ 45 → ⊥) → has_reversed (plain_item text).spans ≡ false
plain_other [] n = refl
plain_other (low ∷ []) n = one_byte low
plain_other (low ∷ dash ∷ []) n = one_byte low
plain_other (low ∷ dash ∷ high ∷ rest) n = by_test (dash == 45) low _ (ne_eqb dash 45 n)

plain_short : (text : List ℕ) → length text < 3 → has_reversed (plain_item text).spans ≡ false
plain_short [] h = refl
plain_short (low ∷ []) h = one_byte low
plain_short (low ∷ dash ∷ []) h = one_byte low
plain_short (low ∷ dash ∷ high ∷ rest) h = absurd (omega arith)

range_shape : (s t : Bool) (low high : ℕ)
    → has_reversed (cond s (cond t (items 1 ((low, low) ∷ [])) (items 3 ((low, high) ∷ []))) (items 1 ((low, low) ∷ []))).spans ≡ cond s (cond t false (nat_lt high low)) false
range_shape false t low high = one_byte low
range_shape true true low high = one_byte low
range_shape true false low high = last (nat_lt high low)
  where
    last : (b : Bool) → (b || false) ≡ b
    last true = refl
    last false = refl

plain_range : (text : List ℕ) → 3 ≤ length text → get_or text 1 0 ≡ 45 → (get_or text 2 0 ≡ 93 → ⊥) → has_reversed (plain_item text).spans ≡ nat_lt (get_or text 2 0) (get_or text 0 0)
plain_range [] h e n = absurd (omega arith)
plain_range (low ∷ []) h e n = absurd (omega arith)
plain_range (low ∷ dash ∷ []) h e n = absurd (omega arith)
plain_range (low ∷ dash ∷ high ∷ rest) h e n =
    range_shape (dash == 45) (high == 93) low high ∙ rw (eq-eqb dash 45 e) (rw (ne_eqb high 93 n) refl)

plain_closed : (text : List ℕ) → 3 ≤ length text → get_or text 2 0 ≡ 93 → has_reversed (plain_item text).spans ≡ false
plain_closed [] h e = absurd (omega arith)
plain_closed (low ∷ []) h e = absurd (omega arith)
plain_closed (low ∷ dash ∷ []) h e = absurd (omega arith)
plain_closed (low ∷ dash ∷ high ∷ rest) h e = range_shape (dash == 45) (high == 93) low high ∙ go (dash == 45) (high == 93) (eq-eqb high 93 e)
  where
    go : (s t : Bool) → t ≡ true → cond s (cond t false (nat_lt high low)) false ≡ false
    go true true e = refl
    go true false e = cc
    go false t e = refl

item_spans : (text : List ℕ) → has_reversed (item_at text).spans ≡ has_reversed (plain_item text).spans
item_spans text = elim (cases_eq (get_or text 1 0) 58) [
  | inl e ↦ go (class_at text) refl e ∙ sym (plain_other text (λ d. absurd (omega (arith, e, d))))
  | inr n ↦ ap (λ (i : Items). has_reversed i.spans) (item_plain text (no_class text n))
]
  where
    go : (o : Option Class) → class_at text ≡ o → get_or text 1 0 ≡ 58 → has_reversed (item_at text).spans ≡ false
    go None q e = ap (λ (i : Items). has_reversed i.spans) (item_plain text q) ∙ plain_other text (λ d. absurd (omega (arith, e, d)))
    go (Some k) q e = ap (λ (i : Items). has_reversed i.spans) (item_class text k q) ∙ reversed_class k

pub item_short : (text : List ℕ) → length text < 3 → has_reversed (item_at text).spans ≡ false
item_short text h = item_spans text ∙ plain_short text h

pub item_other : (text : List ℕ) → (get_or text 1 0 ≡ 45 → ⊥) → has_reversed (item_at text).spans ≡ false
item_other text n = item_spans text ∙ plain_other text n

pub item_closed : (text : List ℕ) → 3 ≤ length text → get_or text 2 0 ≡ 93 → has_reversed (item_at text).spans ≡ false
item_closed text h e = item_spans text ∙ plain_closed text h e

pub item_range : (text : List ℕ) → 3 ≤ length text → get_or text 1 0 ≡ 45 → (get_or text 2 0 ≡ 93 → ⊥) → has_reversed (item_at text).spans ≡ nat_lt (get_or text 2 0) (get_or text 0 0)
item_range text h e n = item_spans text ∙ plain_range text h e n

-- from item to item
reversed_skipped : (f : Bool) (skip : ℕ) (text : List ℕ) → skip ≤ length text → reversed_from f skip text ≡ skip + reversed_from f 0 (drop skip text)
unfolding reversed_from
reversed_skipped f zero text h = omega arith
reversed_skipped f (suc skip) [] h = absurd (omega arith)
reversed_skipped f (suc skip) (b ∷ rest) h = omega (arith, reversed_skipped f skip rest (omega arith))

unless_none : (it : Items) (n : ℕ) → has_reversed it.spans ≡ false → one_more_unless it n ≡ 1 + n
unless_none it n e = rw e refl

unless_some : (it : Items) (n : ℕ) → has_reversed it.spans ≡ true → one_more_unless it n ≡ 0
unless_some it n e = rw e refl

test_open : (b x y : ℕ) → (b ≡ 93 → ⊥) → cond (b == 93) x y ≡ y
test_open b x y n = rw (ne_eqb b 93 n) refl

test_close : (b x y : ℕ) → b ≡ 93 → cond (b == 93) x y ≡ x
test_close b x y e = rw (eq-eqb b 93 e) refl

reversed_first : (f : Bool) (b : ℕ) (rest : List ℕ) → (f ≡ false → b ≡ 93 → ⊥)
    → reversed_from f 0 (b ∷ rest) ≡ one_more_unless (item_at (b ∷ rest)) (reversed_from false ((item_at (b ∷ rest)).size - 1) rest)
unfolding reversed_from
reversed_first true b rest n = refl
reversed_first false b rest n = test_open b 0 _ (n refl)

pub reversed_next : (f : Bool) (text : List ℕ) → 0 < length text → (f ≡ false → get_or text 0 0 ≡ 93 → ⊥) → has_reversed (item_at text).spans ≡ false → (item_at text).size ≤ length text
    → reversed_from f 0 text ≡ (item_at text).size + reversed_from false 0 (drop (item_at text).size text)
reversed_next f [] h n e w = absurd (omega arith)
reversed_next f (b ∷ rest) h n e w =
    let size = (item_at (b ∷ rest)).size in
    let z : 0 < size = item_long (b ∷ rest) in
    let s : reversed_from false (size - 1) rest ≡ (size - 1) + reversed_from false 0 (drop (size - 1) rest) = reversed_skipped false (size - 1) rest (omega (arith, w)) in
    let d : reversed_from false 0 (drop (size - 1) rest) ≡ reversed_from false 0 (drop size (b ∷ rest)) = ap (reversed_from false 0) (drop_less size b rest z) in
    reversed_first f b rest n ∙ unless_none (item_at (b ∷ rest)) _ e ∙ omega (arith, s, d, z)

pub reversed_here : (f : Bool) (text : List ℕ) → 0 < length text → (f ≡ false → get_or text 0 0 ≡ 93 → ⊥) → has_reversed (item_at text).spans ≡ true → reversed_from f 0 text ≡ 0
reversed_here f [] h n e = absurd (omega arith)
reversed_here f (b ∷ rest) h n e = reversed_first f b rest n ∙ unless_some (item_at (b ∷ rest)) _ e

pub reversed_close : (text : List ℕ) → 0 < length text → get_or text 0 0 ≡ 93 → reversed_from false 0 text ≡ 0
unfolding reversed_from
reversed_close [] h e = absurd (omega arith)
reversed_close (b ∷ rest) h e = test_close b 0 _ e

pub reversed_nil : (f : Bool) → reversed_from f 0 [] ≡ 0
unfolding reversed_from
reversed_nil f = refl

-- a place is before the last of so many bytes exactly if the test passes
abbrev pub IsBefore : Bool → ℕ → ℕ → Type 0
IsBefore true place size = place + 1 < size
IsBefore false place size = size ≤ place + 1

before_is : (b : Bool) (place size : ℕ) → IsBefore b place size → nat_lt (place + 1) size ≡ b
before_is true place size h = sym (ltb_from_iff ((λ _. h), (λ _. refl)))
before_is false place size h = le-ltb (place + 1) size h

before_more : (b : Bool) (place size at by : ℕ) → IsBefore b place size → at ≡ by + place → IsBefore b at (by + size)
before_more true place size at by h e = omega (arith, h, e)
before_more false place size at by h e = omega (arith, h, e)

before_at : (b : Bool) (place size place' size' : ℕ) → place ≡ place' → size ≡ size' → IsBefore b place size → IsBefore b place' size'
before_at b place size place' size' p s h = subst (λ (n : ℕ). IsBefore b n size') p (subst (λ (n : ℕ). IsBefore b place n) s h)

before_is_same : (b c : Bool) (place size : ℕ) → b ≡ c → IsBefore b place size → IsBefore c place size
before_is_same b c place size e h = subst (λ (t : Bool). IsBefore t place size) e h

-- what is known of the items from a place on, if a `]` closes
abbrev Found : Bool → ℕ → List ℕ → Option Items → Type 0
Found f skip text None = Unit {0}
Found f skip text (Some found) = (0 < found.size) × IsBefore (has_reversed found.spans) (reversed_from f skip text) (found.size + skip)

joined_found : (f : Bool) (b : ℕ) (rest : List ℕ) (o : Option Items) → (f ≡ false → b ≡ 93 → ⊥) → Found false ((item_at (b ∷ rest)).size - 1) rest o → Found f 0 (b ∷ rest) (joined (item_at (b ∷ rest)) o)
joined_found f b rest None n h = tt
joined_found f b rest (Some more) n h =
    let it = item_at (b ∷ rest) in
    let z : 0 < it.size = item_long (b ∷ rest) in (
      omega (arith, z, h.0),
      go (has_reversed it.spans) refl z,
    )
  where
    go : (t : Bool) → has_reversed (item_at (b ∷ rest)).spans ≡ t → 0 < (item_at (b ∷ rest)).size → IsBefore (has_reversed ((item_at (b ∷ rest)).spans ++ more.spans)) (reversed_from f 0 (b ∷ rest)) ((item_at (b ∷ rest)).size + more.size + 0)
    go true e z =
        before_is_same true _ _ _ (sym (list_any-append (λ (span : ℕ × ℕ). nat_lt span.1 span.0) (item_at (b ∷ rest)).spans more.spans ∙ ap (λ (s : Bool). s || has_reversed more.spans) e))
        (before_at true 0 ((item_at (b ∷ rest)).size + more.size) _ _ (sym (reversed_first f b rest n ∙ unless_some (item_at (b ∷ rest)) _ e)) (omega arith) (omega (arith, z, h.0)))
    go false e z =
        before_is_same (has_reversed more.spans) _ _ _ (sym (list_any-append (λ (span : ℕ × ℕ). nat_lt span.1 span.0) (item_at (b ∷ rest)).spans more.spans ∙ ap (λ (s : Bool). s || has_reversed more.spans) e))
        (before_at (has_reversed more.spans) (1 + reversed_from false ((item_at (b ∷ rest)).size - 1) rest) (1 + (more.size + ((item_at (b ∷ rest)).size - 1))) _ _
        (sym (reversed_first f b rest n ∙ unless_none (item_at (b ∷ rest)) _ e)) (omega (arith, z))
        (before_more (has_reversed more.spans) _ _ _ 1 h.1 refl))

items_found : (f : Bool) (skip : ℕ) (text : List ℕ) → Found f skip text (items_from f skip text)
unfolding items_from reversed_from
items_found f skip [] = tt
items_found f (suc skip) (b ∷ rest) = one_byte_more (items_from f skip rest) (items_found f skip rest)
  where
    one_byte_more : (o : Option Items) → Found f skip rest o → Found f (suc skip) (b ∷ rest) o
    one_byte_more None h = tt
    one_byte_more (Some found) h =
        (h.0, before_at (has_reversed found.spans) (1 + reversed_from f skip rest) (1 + (found.size + skip)) _ _ refl (omega arith) (before_more (has_reversed found.spans) _ _ _ 1 h.1 refl))
items_found true zero (b ∷ rest) = joined_found true b rest _ (λ e. cc) (items_found false ((item_at (b ∷ rest)).size - 1) rest)
items_found false zero (b ∷ rest) = elim (cases_eq b 93) [
  | inl e ↦ subst (Found false 0 (b ∷ rest)) (sym (closes e)) (omega arith, before_at false 0 1 _ _ (sym (test_close b 0 _ e)) refl (omega arith))
  | inr n ↦ subst (Found false 0 (b ∷ rest)) (sym (goes_on n)) (joined_found false b rest _ (λ _. n) (items_found false ((item_at (b ∷ rest)).size - 1) rest))
]
  where
    closes : b ≡ 93 → items_from false 0 (b ∷ rest) ≡ Some (items 1 [])
    closes e = rw (eq-eqb b 93 e) refl

    goes_on : (b ≡ 93 → ⊥) → items_from false 0 (b ∷ rest) ≡ joined (item_at (b ∷ rest)) (items_from false ((item_at (b ∷ rest)).size - 1) rest)
    goes_on n = rw (ne_eqb b 93 n) refl

-- of a bracket
abbrev Held : ℕ → Option Bracket → Type 0
Held place o = IsBefore (is_reversed (bracket_or_byte o)) place (token_size (bracket_or_byte o))

held_of : (f inverted : Bool) (start : ℕ) (text : List ℕ) (o : Option Items) → Found f 0 text o → Held (start + reversed_from f 0 text) (bracket_of start inverted o)
held_of f inverted start text None h = omega arith
held_of f inverted start text (Some found) h =
    before_at (has_reversed found.spans) _ (start + (found.size + 0)) _ _ refl (omega arith) (before_more (has_reversed found.spans) _ _ _ start h.1 refl)

in_inverted : (first mark : ℕ) (rest : List ℕ) → is_inversion mark ≡ true → 2 + reversed_from true 0 rest ≡ reversed_in_bracket (first ∷ mark ∷ rest)
in_inverted first mark rest i = go (is_inversion mark) i
  where
    go : (t : Bool) → t ≡ true → 2 + reversed_from true 0 rest ≡ cond t (2 + reversed_from true 0 rest) (1 + reversed_from true 0 (mark ∷ rest))
    go true e = refl
    go false e = cc

in_upright : (first mark : ℕ) (rest : List ℕ) → is_inversion mark ≡ false → 1 + reversed_from true 0 (mark ∷ rest) ≡ reversed_in_bracket (first ∷ mark ∷ rest)
in_upright first mark rest i = go (is_inversion mark) i
  where
    go : (t : Bool) → t ≡ false → 1 + reversed_from true 0 (mark ∷ rest) ≡ cond t (2 + reversed_from true 0 rest) (1 + reversed_from true 0 (mark ∷ rest))
    go true e = cc
    go false e = refl

held : (text : List ℕ) → 0 < length text → get_or text 0 0 ≡ 91 → Held (reversed_in_bracket text) (bracket_at text)
held [] h e = absurd (omega arith)
held (first ∷ []) h e = subst (Held 0) (sym (bracket_short (first ∷ []) (omega arith))) (omega arith)
held (first ∷ mark ∷ rest) h e = go (is_inversion mark) refl
  where
    go : (t : Bool) → is_inversion mark ≡ t → Held (reversed_in_bracket (first ∷ mark ∷ rest)) (bracket_at (first ∷ mark ∷ rest))
    go true i =
        subst (λ (n : ℕ). Held n (bracket_at (first ∷ mark ∷ rest))) (in_inverted first mark rest i)
        (subst (Held (2 + reversed_from true 0 rest)) (sym (bracket_inverted (first ∷ mark ∷ rest) (omega arith) e i))
        (held_of true true 2 rest (items_from true 0 rest) (items_found true 0 rest)))
    go false i =
        subst (λ (n : ℕ). Held n (bracket_at (first ∷ mark ∷ rest))) (in_upright first mark rest i)
        (subst (Held (1 + reversed_from true 0 (mark ∷ rest))) (sym (bracket_upright (first ∷ mark ∷ rest) (omega arith) e i))
        (held_of true false 1 (mark ∷ rest) (items_from true 0 (mark ∷ rest)) (items_found true 0 (mark ∷ rest))))

token_held : (text : List ℕ) → 0 < length text → get_or text 0 0 ≡ 91 → IsBefore (is_reversed (token_at text)) (reversed_in_bracket text) (token_size (token_at text))
token_held text h e = subst (λ (t : Token). IsBefore (is_reversed t) (reversed_in_bracket text) (token_size t)) (sym (token_bracket_or text e)) (held text h e)

pub bracket_test : (text : List ℕ) → 0 < length text → get_or text 0 0 ≡ 91 → nat_lt (reversed_in_bracket text + 1) (token_size (token_at text)) ≡ is_reversed (token_at text)
bracket_test text h e = before_is _ _ _ (token_held text h e)

pub other_test : (text : List ℕ) → 0 < length text → (get_or text 0 0 ≡ 91 → ⊥) → is_reversed (token_at text) ≡ false
other_test text h n = elim (cases_eq (get_or text 0 0) 42) [
  | inl e ↦ ap is_reversed (star_at text e)
  | inr s ↦ elim (cases_eq (get_or text 0 0) 63) [
    | inl e ↦ ap is_reversed (token_one text e)
    | inr o ↦ ap is_reversed (token_byte text h s o n)
  ]
]

-- from token to token
range_skipped : (skip : ℕ) (text : List ℕ) → skip ≤ length text → range_from skip text ≡ skip + range_from 0 (drop skip text)
unfolding range_from
range_skipped zero text h = omega arith
range_skipped (suc skip) [] h = absurd (omega arith)
range_skipped (suc skip) (first ∷ rest) h = omega (arith, range_skipped skip rest (omega arith))

by_case : (t : Bool) (x y : ℕ) → t ≡ true → cond t x y ≡ x
by_case true x y e = refl
by_case false x y e = cc

by_other : (t : Bool) (x y : ℕ) → t ≡ false → cond t x y ≡ y
by_other true x y e = cc
by_other false x y e = refl

range_goes : (first : ℕ) (rest : List ℕ) → is_reversed (token_at (first ∷ rest)) ≡ false → range_from 0 (first ∷ rest) ≡ 1 + range_from (token_size (token_at (first ∷ rest)) - 1) rest
unfolding range_from
range_goes first rest e = by_other (is_reversed (token_at (first ∷ rest))) _ _ e

range_stops : (first : ℕ) (rest : List ℕ) → is_reversed (token_at (first ∷ rest)) ≡ true → range_from 0 (first ∷ rest) ≡ reversed_in_bracket (first ∷ rest)
unfolding range_from
range_stops first rest e = by_case (is_reversed (token_at (first ∷ rest))) _ _ e

pub range_next : (text : List ℕ) → 0 < length text → is_reversed (token_at text) ≡ false → range_from 0 text ≡ token_size (token_at text) + range_from 0 (drop (token_size (token_at text)) text)
range_next [] h e = absurd (omega arith)
range_next (first ∷ rest) h e =
    let size = token_size (token_at (first ∷ rest)) in
    let z : 0 < size = token_long (first ∷ rest) in
    let w : size ≤ length (first ∷ rest) = token_within first rest in
    let s : range_from (size - 1) rest ≡ (size - 1) + range_from 0 (drop (size - 1) rest) = range_skipped (size - 1) rest (omega (arith, w)) in
    let d : range_from 0 (drop (size - 1) rest) ≡ range_from 0 (drop size (first ∷ rest)) = ap (range_from 0) (drop_less size first rest z) in
    range_goes first rest e ∙ omega (arith, s, d, z)

pub range_here : (text : List ℕ) → 0 < length text → is_reversed (token_at text) ≡ true → range_from 0 text ≡ reversed_in_bracket text
range_here [] h e = absurd (omega arith)
range_here (first ∷ rest) h e = range_stops first rest e

pub range_nil : range_from 0 [] ≡ 0
unfolding range_from
range_nil = refl

-- a place within a text exactly if the test passes, and else its end
abbrev Stands : Bool → ℕ → ℕ → Type 0
Stands true place size = place < size
Stands false place size = place ≡ size

stands_more : (b : Bool) (place size : ℕ) → Stands b place size → Stands b (1 + place) (suc size)
stands_more true place size h = omega (arith, h)
stands_more false place size h = omega (arith, h)

stands_is : (b : Bool) (place size : ℕ) → Stands b place size → nat_lt place size ≡ b
stands_is true place size h = sym (ltb_from_iff ((λ _. h), (λ _. refl)))
stands_is false place size h = le-ltb place size (omega (arith, h))

either : (t : Bool) (more : Bool) (place size : ℕ) (c : Bool) → c ≡ t → (t ≡ true → place < size) → (t ≡ false → Stands more place size) → Stands (c || more) place size
either true more place size c e f g = subst (λ (x : Bool). Stands (x || more) place size) (sym e) (f refl)
either false more place size c e f g = subst (λ (x : Bool). Stands (x || more) place size) (sym e) (g refl)

reversed_byte : (first : ℕ) (rest : List ℕ) → is_reversed (token_at (first ∷ rest)) ≡ true → first ≡ 91
reversed_byte first rest e = elim (cases_eq first 91) [
  | inl h ↦ h
  | inr n ↦ absurd (false≢true (sym (other_test (first ∷ rest) (omega arith) n) ∙ e))
]

range_stands : (skip : ℕ) (text : List ℕ) → skip ≤ length text → Stands (list_any is_reversed (tokens_from skip text)) (range_from skip text) (length text)
unfolding range_from tokens_from
range_stands zero [] h = refl
range_stands (suc skip) [] h = absurd (omega arith)
range_stands (suc skip) (first ∷ rest) h = stands_more (list_any is_reversed (tokens_from skip rest)) _ _ (range_stands skip rest (omega arith))
range_stands zero (first ∷ rest) h =
    let size = token_size (token_at (first ∷ rest)) in
    let z : 0 < size = token_long (first ∷ rest) in
    let w : size ≤ length (first ∷ rest) = token_within first rest in
    either (is_reversed (token_at (first ∷ rest))) (list_any is_reversed (tokens_from (size - 1) rest)) _ _ _ refl
    (λ e. omega (arith, w, before_is_same _ true _ _ e (token_held (first ∷ rest) (omega arith) (reversed_byte first rest e)), range_stops first rest e))
    (λ e. subst (λ (n : ℕ). Stands (list_any is_reversed (tokens_from (size - 1) rest)) n (length (first ∷ rest))) (sym (range_goes first rest e))
    (stands_more _ _ _ (range_stands (size - 1) rest (omega (arith, w)))))

pub range_found : (text : List ℕ) → nat_lt (range_from 0 text) (length text) ≡ list_any is_reversed (tokens_from 0 text)
range_found text = stands_is _ _ _ (range_stands 0 text (omega arith))

-- one more byte before an open `[`
one_longer : (b : Bool) (place size : ℕ) → Stands b place size → Stands b (suc place) (suc size)
one_longer true place size h = omega (arith, h)
one_longer false place size h = omega (arith, h)

open_stands : (skip : ℕ) (text : List ℕ) → Stands (list_any is_open (tokens_from skip text)) (length (closed_from skip text)) (length text)
unfolding closed_from tokens_from
open_stands zero [] = refl
open_stands (suc skip) [] = refl
open_stands (suc skip) (first ∷ rest) = one_longer (list_any is_open (tokens_from skip rest)) _ _ (open_stands skip rest)
open_stands zero (first ∷ rest) =
    let size = token_size (token_at (first ∷ rest)) in
    go (is_open (token_at (first ∷ rest))) (list_any is_open (tokens_from (size - 1) rest)) (closed_from (size - 1) rest) (open_stands (size - 1) rest)
  where
    go : (t : Bool) (more : Bool) (part : List ℕ) → Stands more (length part) (length rest) → Stands (t || more) (length (cond t [] (first ∷ part))) (length (first ∷ rest))
    go true more part h = omega arith
    go false more part h = one_longer more _ _ h

pub open_found : (text : List ℕ) → nat_lt (length (closed_from 0 text)) (length text) ≡ list_any is_open (tokens_from 0 text)
open_found text = stands_is _ _ _ (open_stands 0 text)

pub part_length : (text : List ℕ) (end : ℕ) → end ≤ length text → take end text ≡ closed_from 0 text → end ≡ length (closed_from 0 text)
part_length text end h e = omega (arith, h, length-take end text, ap length e)

-- the loop over the items
positive : (a : ℕ) → nat_eq a 0 ≡ false → 0 < a
positive a f = elim (cases_eq a 0) [ inl e ↦ absurd (false≢true (sym f ∙ eq-eqb a 0 e)) | inr n ↦ omega arith ]

no_close : (text rest : List ℕ) (at : ℕ) → rest ≡ drop at text → (0 < at → get_or text at 0 ≡ 93 → ⊥) → nat_eq at 0 ≡ false → get_or rest 0 0 ≡ 93 → ⊥
no_close text rest at r n f e =
    n (positive at f) (ap (λ (k : ℕ). get_or text k 0) (let s : at ≡ at + 0 = omega arith in s) ∙ sym (get_or-drop at text 0 0) ∙ sym (ap (λ (l : List ℕ). get_or l 0 0) r) ∙ e)

pub item_step : (text rest : List ℕ) (at : ℕ) (p : Part) → rest ≡ drop at text → at < length text → (0 < at → get_or text at 0 ≡ 93 → ⊥)
    → has_reversed (item_at rest).spans ≡ false → p ≡ items_part 0 (item_at rest) → p.size ≤ length rest → 0 < p.size
    → at + p.size + reversed_from (nat_eq (at + p.size) 0) 0 (drop (at + p.size) text) ≡ at + reversed_from (nat_eq at 0) 0 (drop at text)
item_step text rest at p r h n e is w z =
    let some : 0 < length rest = omega (arith, ap length r, length-drop at text) in
    let s : p.size ≡ (item_at rest).size = ap (λ (q : Part). q.size) is in
    let next : reversed_from (nat_eq at 0) 0 rest ≡ (item_at rest).size + reversed_from false 0 (drop (item_at rest).size rest) =
    reversed_next (nat_eq at 0) rest some (no_close text rest at r n) e (omega (arith, s, w)) in
    let later : nat_eq (at + p.size) 0 ≡ false = ne_eqb (at + p.size) 0 (λ q. absurd (omega arith)) in
    let place : drop (item_at rest).size rest ≡ drop (at + p.size) text = ap (λ (m : ℕ). drop m rest) (sym s) ∙ ap (drop p.size) r ∙ drop-drop p.size at text in
    let there : reversed_from (nat_eq (at + p.size) 0) 0 (drop (at + p.size) text) ≡ reversed_from false 0 (drop (item_at rest).size rest) =
    ap (λ (f : Bool). reversed_from f 0 (drop (at + p.size) text)) later ∙ ap (reversed_from false 0) (sym place) in
    let here : reversed_from (nat_eq at 0) 0 (drop at text) ≡ reversed_from (nat_eq at 0) 0 rest = ap (reversed_from (nat_eq at 0) 0) (sym r) in
    omega (arith, s, next, there, here)

pub item_here : (text rest : List ℕ) (at : ℕ) → rest ≡ drop at text → at < length text → (0 < at → get_or text at 0 ≡ 93 → ⊥)
    → has_reversed (item_at rest).spans ≡ true → reversed_from (nat_eq at 0) 0 (drop at text) ≡ 0
item_here text rest at r h n e =
    ap (reversed_from (nat_eq at 0) 0) (sym r)
    ∙ reversed_here (nat_eq at 0) rest (omega (arith, ap length r, length-drop at text)) (no_close text rest at r n) e

pub item_close : (text : List ℕ) (at : ℕ) → 0 < at → at < length text → get_or text at 0 ≡ 93 → reversed_from (nat_eq at 0) 0 (drop at text) ≡ 0
item_close text at z h e =
    ap (λ (f : Bool). reversed_from f 0 (drop at text)) (ne_eqb at 0 (λ q. absurd (omega arith)))
    ∙ reversed_close (drop at text) (omega (arith, length-drop at text)) (get_or-drop at text 0 0 ∙ ap (λ (k : ℕ). get_or text k 0) (let s : at + 0 ≡ at = omega arith in s) ∙ e)

pub item_end : (text : List ℕ) (at : ℕ) → length text ≤ at → reversed_from (nat_eq at 0) 0 (drop at text) ≡ 0
item_end text at h = ap (reversed_from (nat_eq at 0) 0) (drop_all at text h) ∙ reversed_nil (nat_eq at 0)

-- the first token, by its test
pub range_none : (text : List ℕ) → is_reversed (token_at text) ≡ false → None ≡ (if is_reversed (token_at text) then Some (reversed_in_bracket text) else None)
range_none text e = rw e refl

pub range_some : (text : List ℕ) (range : ℕ) → range ≡ reversed_in_bracket text → is_reversed (token_at text) ≡ true → Some range ≡ (if is_reversed (token_at text) then Some (reversed_in_bracket text) else None)
range_some text range is e = ap (λ (n : ℕ). Some n) is ∙ rw e refl

pub some_is : (t : Bool) (x y : ℕ) → Some x ≡ (if t then Some y else None) → (t ≡ true) × (x ≡ y)
some_is true x y e = (refl, cc)
some_is false x y e = cc

pub none_is : (t : Bool) (y : ℕ) → None ≡ (if t then Some y else None) → t ≡ false
none_is true y e = cc
none_is false y e = refl

-- the loop over the tokens
pub token_step : (text rest : List ℕ) (at size : ℕ) → rest ≡ drop at text → at < length text → size ≡ token_size (token_at rest) → is_reversed (token_at rest) ≡ false
    → at + size + range_from 0 (drop (at + size) text) ≡ at + range_from 0 (drop at text)
token_step text rest at size r h s e =
    let some : 0 < length rest = omega (arith, ap length r, length-drop at text) in
    let next : range_from 0 rest ≡ token_size (token_at rest) + range_from 0 (drop (token_size (token_at rest)) rest) = range_next rest some e in
    let place : drop (token_size (token_at rest)) rest ≡ drop (at + size) text = ap (λ (m : ℕ). drop m rest) (sym s) ∙ ap (drop size) r ∙ drop-drop size at text in
    omega (arith, s, next, ap (range_from 0) place, ap (range_from 0) r)

pub token_here : (text rest : List ℕ) (at range : ℕ) → rest ≡ drop at text → at < length text → is_reversed (token_at rest) ≡ true → range ≡ reversed_in_bracket rest
    → at + range ≡ at + range_from 0 (drop at text)
token_here text rest at range r h e is =
    let some : 0 < length rest = omega (arith, ap length r, length-drop at text) in
    omega (arith, is, range_here rest some e, ap (range_from 0) r)

pub token_end : (text : List ℕ) (at : ℕ) → length text ≤ at → at ≡ at + range_from 0 (drop at text)
token_end text at h = omega (arith, ap (range_from 0) (drop_all at text h), range_nil)

pub test_of : (text : List ℕ) (range size : ℕ) → 0 < length text → get_or text 0 0 ≡ 91 → range ≡ reversed_in_bracket text → size ≡ token_size (token_at text)
    → is_reversed (token_at text) ≡ nat_lt (range + 1) size
test_of text range size h e r s = sym (bracket_test text h e) ∙ ap (λ (n : ℕ). nat_lt (n + 1) (token_size (token_at text))) (sym r) ∙ ap (nat_lt (range + 1)) (sym s)
