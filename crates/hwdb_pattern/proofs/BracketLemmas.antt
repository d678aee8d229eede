-- How brackets and their items are read, seen from any place where an item begins.
use Rattle.std.proofs.Common.{◌≡◌, ℕ, zero, suc, ◌-◌, ◌+◌, ◌<◌, ◌≤◌, Bool, true, false, List, [], ◌∷◌, drop, length, get_or, refl, ap, ◌∙◌, sym, Option, Some, None, cond, ◌==◌, nat_eq, arith, inl, inr, ne_eqb, eq-eqb, not, ◌||◌, ◌&&◌}
use Rattle.std.proofs.lemmas.Bool.{cases_eq, false≢true}
use Rattle.std.proofs.lemmas.List.{at_drop_more, length-drop, get_or-drop, drop-drop, drop_all}
use Rattle.std.proofs.lemmas.List.Folds.{list_any-append}
use Rattle.std.specs.Option.{option_map, option_map_or}
use Rattle.std.specs.List.{starts_with, find}
use Rattle.hwdb_pattern.specs.declared.brackets.Part.{Part}
use Rattle.hwdb_spec.specs.declared.Class.{Class}
use Rattle.hwdb_spec.specs.declared.Class.TheVariants.{Alnum, Alpha, Blank, Cntrl, Digit, Graph, Lower, Print, Punct, Space, Upper, Xdigit}
use Rattle.hwdb_spec.specs.Patterns.{Items, Bracket, classes, class_text, class_spans, in_span, item_at, plain_item, joined, items_from, bracket_at, bracket_of, is_inversion}
use Rattle.hwdb_pattern.specs.Internal.Parts.{class_at, in_spans, items, part, items_part, bracket_part, ahead}
use Rattle.hwdb_pattern.proofs.TokenLemmas.{drop_less}

pub items_skipped : (f : Bool) (skip : ℕ) (text : List ℕ) → items_from f skip text ≡ items_from f 0 (drop skip text)
unfolding items_from
items_skipped f zero text = refl
items_skipped f (suc skip) [] = refl
items_skipped f (suc skip) (byte ∷ rest) = items_skipped f skip rest

class_long : (c : Class) → 0 < length (class_text c)
class_long Alnum = omega arith
class_long Alpha = omega arith
class_long Blank = omega arith
class_long Cntrl = omega arith
class_long Digit = omega arith
class_long Graph = omega arith
class_long Lower = omega arith
class_long Print = omega arith
class_long Punct = omega arith
class_long Space = omega arith
class_long Upper = omega arith
class_long Xdigit = omega arith

cond_item_long : (b : Bool) (x y : Items) → 0 < x.size → 0 < y.size → 0 < (cond b x y).size
cond_item_long true x y hx hy = hx
cond_item_long false x y hx hy = hy

plain_long : (text : List ℕ) → 0 < (plain_item text).size
plain_long [] = omega arith
plain_long (low ∷ []) = omega arith
plain_long (low ∷ dash ∷ []) = omega arith
plain_long (low ∷ dash ∷ high ∷ rest) =
    cond_item_long (dash == 45) _ _ (cond_item_long (high == 93) _ _ (omega arith) (omega arith)) (omega arith)

choice_long : (o : Option Class) (d : Items) → 0 < d.size → 0 < (option_map_or (λ c. items (length (class_text c)) (class_spans c)) o d).size
choice_long None d h = h
choice_long (Some c) d h = class_long c

pub item_long : (text : List ℕ) → 0 < (item_at text).size
unfolding item_at
item_long text = choice_long (class_at text) (plain_item text) (plain_long text)

pub item_class : (text : List ℕ) (c : Class) → class_at text ≡ Some c → item_at text ≡ items (length (class_text c)) (class_spans c)
unfolding item_at
item_class text c e = ap (λ (o : Option Class). option_map_or (λ c. items (length (class_text c)) (class_spans c)) o (plain_item text)) e

pub item_plain : (text : List ℕ) → class_at text ≡ None → item_at text ≡ plain_item text
unfolding item_at
item_plain text e = ap (λ (o : Option Class). option_map_or (λ c. items (length (class_text c)) (class_spans c)) o (plain_item text)) e

test_open : (byte : ℕ) (x y : Option Items) → (byte ≡ 93 → ⊥) → cond (byte == 93) x y ≡ y
test_open byte x y n = rw (ne_eqb byte 93 n) refl

test_close : (byte : ℕ) (x y : Option Items) → byte ≡ 93 → cond (byte == 93) x y ≡ x
test_close byte x y e = rw (eq-eqb byte 93 e) refl

-- an item at its place, and what comes after it
pub items_next : (f : Bool) (text : List ℕ) → 0 < length text → (f ≡ false → get_or text 0 0 ≡ 93 → ⊥)
    → items_from f 0 text ≡ joined (item_at text) (items_from false 0 (drop (item_at text).size text))
unfolding items_from
items_next f [] h n = absurd (omega arith)
items_next true (byte ∷ rest) h n =
    ap (joined (item_at (byte ∷ rest)))
    (items_skipped false ((item_at (byte ∷ rest)).size - 1) rest
    ∙ ap (λ (r : List ℕ). items_from false 0 r) (drop_less (item_at (byte ∷ rest)).size byte rest (item_long (byte ∷ rest))))
items_next false (byte ∷ rest) h n =
    test_open byte _ _ (n refl)
    ∙ ap (joined (item_at (byte ∷ rest)))
    (items_skipped false ((item_at (byte ∷ rest)).size - 1) rest
    ∙ ap (λ (r : List ℕ). items_from false 0 r) (drop_less (item_at (byte ∷ rest)).size byte rest (item_long (byte ∷ rest))))

pub items_end : (text : List ℕ) → 0 < length text → get_or text 0 0 ≡ 93 → items_from false 0 text ≡ Some (items 1 [])
unfolding items_from
items_end [] h e = absurd (omega arith)
items_end (byte ∷ rest) h e = test_close byte _ _ e

pub items_none : (f : Bool) → items_from f 0 [] ≡ None
unfolding items_from
items_none f = refl

pub find_next : (text : List ℕ) (xs : List Class) (i : ℕ) (class : Class) → i < length xs → starts_with nat_eq text (class_text (get_or xs i class)) ≡ false
    → find (λ c. starts_with nat_eq text (class_text c)) (drop (i + 1) xs) ≡ find (λ c. starts_with nat_eq text (class_text c)) (drop i xs)
find_next text xs i class h e =
    sym (ap (λ (b : Bool). cond b (Some (get_or xs i class)) (find (λ c. starts_with nat_eq text (class_text c)) (drop (i + 1) xs))) e)
    ∙ sym (at_drop_more (find (λ c. starts_with nat_eq text (class_text c))) xs i class h)

assoc_part : (a b c : ℕ) (x : Bool) → part (a + b + c) x ≡ part (a + (b + c)) x
assoc_part a b c x = ap (λ (n : ℕ). part n x) (omega arith)

either_assoc : (a b c : Bool) → cond (cond a true b) true c ≡ cond a true (b || c)
either_assoc true b c = refl
either_assoc false true c = refl
either_assoc false false c = refl

ahead_joined : (at : ℕ) (admitted : Bool) (byte : ℕ) (first : Items) (o : Option Items)
    → option_map (ahead (at + first.size) (cond admitted true (in_spans first.spans byte)) byte) o ≡ option_map (ahead at admitted byte) (joined first o)
ahead_joined at admitted byte first None = refl
ahead_joined at admitted byte first (Some more) =
    ap (λ (p : Part). Some p)
    (assoc_part at first.size more.size _
    ∙ ap (λ (b : Bool). part (at + (first.size + more.size)) b)
    (either_assoc admitted (in_spans first.spans byte) (in_spans more.spans byte)
    ∙ ap (λ (b : Bool). cond admitted true b) (sym (list_any-append (in_span byte) first.spans more.spans))))

-- one step of the loop over the items
pub items_step : (whole text : List ℕ) (at byte : ℕ) (admitted now : Bool) (p : Part) → text ≡ drop at whole → at < length whole
    → (0 < at → get_or whole at 0 ≡ 93 → ⊥)
    → p ≡ items_part byte (item_at text) → now ≡ cond admitted true p.admits → 0 < p.size
    → option_map (ahead (at + p.size) now byte) (items_from (nat_eq (at + p.size) 0) 0 (drop (at + p.size) whole))
    ≡ option_map (ahead at admitted byte) (items_from (nat_eq at 0) 0 (drop at whole))
items_step whole text at byte admitted now p t h n e a z =
    let it : Items = item_at (drop at whole) in
    let e' : p ≡ items_part byte it = e ∙ ap (λ (r : List ℕ). items_part byte (item_at r)) t in
    let s : p.size ≡ it.size = ap (λ (q : Part). q.size) e' in
    let y : p.admits ≡ in_spans it.spans byte = ap (λ (q : Part). q.admits) e' in
    let k : 0 < length (drop at whole) = omega (arith, length-drop at whole) in
    let g : get_or (drop at whole) 0 0 ≡ get_or whole at 0 = get_or-drop at whole 0 0 ∙ ap (λ (k : ℕ). get_or whole k 0) (omega arith) in
    let next : items_from (nat_eq at 0) 0 (drop at whole) ≡ joined it (items_from false 0 (drop it.size (drop at whole))) =
    items_next (nat_eq at 0) (drop at whole) k (λ f w. n (positive at f) (sym g ∙ w)) in
    let place : drop it.size (drop at whole) ≡ drop (at + p.size) whole = ap (λ (m : ℕ). drop m (drop at whole)) (sym s) ∙ drop-drop p.size at whole in
    let later : nat_eq (at + p.size) 0 ≡ false = ne_eqb (at + p.size) 0 (λ w. absurd (omega arith)) in
    ap (λ (f : Bool). option_map (ahead (at + p.size) now byte) (items_from f 0 (drop (at + p.size) whole))) later
    ∙ ap (λ (r : List ℕ). option_map (ahead (at + p.size) now byte) (items_from false 0 r)) (sym place)
    ∙ ap (λ (b : Bool). option_map (ahead (at + p.size) b byte) (items_from false 0 (drop it.size (drop at whole)))) (a ∙ ap (λ (b : Bool). cond admitted true b) y)
    ∙ ap (λ (m : ℕ). option_map (ahead (at + m) (cond admitted true (in_spans it.spans byte)) byte) (items_from false 0 (drop it.size (drop at whole)))) s
    ∙ ahead_joined at admitted byte it (items_from false 0 (drop it.size (drop at whole)))
    ∙ ap (option_map (ahead at admitted byte)) (sym next)
  where
    positive : (a : ℕ) → nat_eq a 0 ≡ false → 0 < a
    positive a f = elim (cases_eq a 0) [ inl e ↦ absurd (false≢true (sym f ∙ eq-eqb a 0 e)) | inr n ↦ omega arith ]

either_false : (b : Bool) → b ≡ cond b true false
either_false true = refl
either_false false = refl

pub items_closed : (whole : List ℕ) (at byte : ℕ) (admitted : Bool) → 0 < at → at < length whole → get_or whole at 0 ≡ 93
    → Some (part (at + 1) admitted) ≡ option_map (ahead at admitted byte) (items_from (nat_eq at 0) 0 (drop at whole))
items_closed whole at byte admitted z h e =
    let k : 0 < length (drop at whole) = omega (arith, length-drop at whole) in
    let g : get_or (drop at whole) 0 0 ≡ get_or whole at 0 = get_or-drop at whole 0 0 ∙ ap (λ (k : ℕ). get_or whole k 0) (omega arith) in
    let later : nat_eq at 0 ≡ false = ne_eqb at 0 (λ w. absurd (omega arith)) in
    ap (λ (b : Bool). Some (part (at + 1) b)) (either_false admitted)
    ∙ ap (option_map (ahead at admitted byte)) (sym (items_end (drop at whole) k (g ∙ e)))
    ∙ ap (λ (f : Bool). option_map (ahead at admitted byte) (items_from f 0 (drop at whole))) (sym later)

pub items_open : (whole : List ℕ) (at byte : ℕ) (admitted : Bool) → length whole ≤ at
    → None ≡ option_map (ahead at admitted byte) (items_from (nat_eq at 0) 0 (drop at whole))
items_open whole at byte admitted h =
    ap (option_map (ahead at admitted byte)) (sym (items_none (nat_eq at 0)))
    ∙ ap (λ (r : List ℕ). option_map (ahead at admitted byte) (items_from (nat_eq at 0) 0 r)) (sym (drop_all at whole h))

-- the bracket, by its first bytes
test_true : (b : Bool) (x y : Option Bracket) → b ≡ true → cond b x y ≡ x
test_true b x y e = rw e refl

test_false : (b : Bool) (x y : Option Bracket) → b ≡ false → cond b x y ≡ y
test_false b x y e = rw e refl

pub bracket_short : (text : List ℕ) → length text < 2 → bracket_at text ≡ None
unfolding bracket_at
bracket_short [] h = refl
bracket_short (first ∷ []) h = refl
bracket_short (first ∷ mark ∷ rest) h = absurd (omega arith)

pub bracket_other : (text : List ℕ) → (get_or text 0 0 ≡ 91 → ⊥) → bracket_at text ≡ None
unfolding bracket_at
bracket_other [] n = refl
bracket_other (first ∷ []) n = refl
bracket_other (first ∷ mark ∷ rest) n = test_false (first == 91) _ None (ne_eqb first 91 n)

pub bracket_inverted : (text : List ℕ) → 2 ≤ length text → get_or text 0 0 ≡ 91 → is_inversion (get_or text 1 0) ≡ true → bracket_at text ≡ bracket_of 2 true (items_from true 0 (drop 2 text))
unfolding bracket_at
bracket_inverted [] h e i = absurd (omega arith)
bracket_inverted (first ∷ []) h e i = absurd (omega arith)
bracket_inverted (first ∷ mark ∷ rest) h e i = test_true (first == 91) _ None (eq-eqb first 91 e) ∙ test_true (is_inversion mark) _ _ i

pub bracket_upright : (text : List ℕ) → 2 ≤ length text → get_or text 0 0 ≡ 91 → is_inversion (get_or text 1 0) ≡ false → bracket_at text ≡ bracket_of 1 false (items_from true 0 (drop 1 text))
unfolding bracket_at
bracket_upright [] h e i = absurd (omega arith)
bracket_upright (first ∷ []) h e i = absurd (omega arith)
bracket_upright (first ∷ mark ∷ rest) h e i = test_true (first == 91) _ None (eq-eqb first 91 e) ∙ test_false (is_inversion mark) _ _ i

abbrev pub wrap : ℕ → Bool → Part → Part
wrap start inverted p = part (start + p.size) (cond inverted (not p.admits) p.admits)

wrapped : (start : ℕ) (inverted : Bool) (byte : ℕ) (o : Option Items) → option_map (bracket_part byte) (bracket_of start inverted o) ≡ option_map (wrap start inverted) (option_map (items_part byte) o)
wrapped start inverted byte None = refl
wrapped start inverted byte (Some found) = refl

-- what the items after the bracket's beginning say of the bracket
pub bracket_read : (text here : List ℕ) (start : ℕ) (inverted : Bool) (byte : ℕ) (r : Option Part) → here ≡ drop start text
    → bracket_at text ≡ bracket_of start inverted (items_from true 0 (drop start text))
    → r ≡ option_map (items_part byte) (items_from true 0 here)
    → option_map (wrap start inverted) r ≡ option_map (bracket_part byte) (bracket_at text)
bracket_read text here start inverted byte r t e q =
    ap (option_map (wrap start inverted)) (q ∙ ap (λ (d : List ℕ). option_map (items_part byte) (items_from true 0 d)) t)
    ∙ sym (wrapped start inverted byte (items_from true 0 (drop start text)))
    ∙ ap (option_map (bracket_part byte)) (sym e)

and_false : (a b : Bool) → b ≡ false → (a && b) ≡ false
and_false true b e = e
and_false false b e = refl

not_start : (name text : List ℕ) → (get_or text 1 0 ≡ 58 → ⊥) → starts_with nat_eq text (91 ∷ 58 ∷ name) ≡ false
not_start name [] n = refl
not_start name (x ∷ []) n = and_false (nat_eq 91 x) false refl
not_start name (x ∷ y ∷ rest) n = and_false (nat_eq 91 x) _ (first_false (nat_eq 58 y) _ (ne_eqb 58 y (λ e. n (sym e))))
  where
    first_false : (a b : Bool) → a ≡ false → (a && b) ≡ false
    first_false true b e = cc
    first_false false b e = refl

class_elsewhere : (text : List ℕ) (c : Class) → (get_or text 1 0 ≡ 58 → ⊥) → starts_with nat_eq text (class_text c) ≡ false
class_elsewhere text Alnum n = not_start (drop 2 (class_text Alnum)) text n
class_elsewhere text Alpha n = not_start (drop 2 (class_text Alpha)) text n
class_elsewhere text Blank n = not_start (drop 2 (class_text Blank)) text n
class_elsewhere text Cntrl n = not_start (drop 2 (class_text Cntrl)) text n
class_elsewhere text Digit n = not_start (drop 2 (class_text Digit)) text n
class_elsewhere text Graph n = not_start (drop 2 (class_text Graph)) text n
class_elsewhere text Lower n = not_start (drop 2 (class_text Lower)) text n
class_elsewhere text Print n = not_start (drop 2 (class_text Print)) text n
class_elsewhere text Punct n = not_start (drop 2 (class_text Punct)) text n
class_elsewhere text Space n = not_start (drop 2 (class_text Space)) text n
class_elsewhere text Upper n = not_start (drop 2 (class_text Upper)) text n
class_elsewhere text Xdigit n = not_start (drop 2 (class_text Xdigit)) text n

find_none : (p : Class → Bool) (xs : List Class) → ((c : Class) → p c ≡ false) → find p xs ≡ None
find_none p [] f = refl
find_none p (c ∷ xs) f = rw (f c) (find_none p xs f)

pub no_class : (text : List ℕ) → (get_or text 1 0 ≡ 58 → ⊥) → class_at text ≡ None
unfolding class_at
no_class text n = find_none (λ c. starts_with nat_eq text (class_text c)) classes (λ c. class_elsewhere text c n)

pub no_class_short : (text : List ℕ) → length text < 2 → class_at text ≡ None
no_class_short text h = no_class text (λ e. absurd (go text h e))
  where
    go : (t : List ℕ) → length t < 2 → get_or t 1 0 ≡ 58 → ⊥
    go [] h e = cc
    go (x ∷ []) h e = cc
    go (x ∷ y ∷ t) h e = absurd (omega arith)
