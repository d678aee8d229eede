-- A `[` that begins no closed bracket begins none in a text of one byte more, unless that is a `]`.
use Rattle.std.proofs.Common.{◌≡◌, ℕ, zero, suc, ◌-◌, ◌+◌, Bool, true, false, List, [], ◌∷◌, ◌++◌, length, refl, ap, ◌∙◌, sym, Option, Some, None, cond, ◌==◌, nat_eq, arith, inl, inr, ◌⊎◌, ne_eqb, eq-eqb, eqb-true, ◌&&◌}
use Rattle.std.proofs.lemmas.Bool.{cases_eq}
use Rattle.std.specs.List.{starts_with, find}
use Rattle.std.specs.Option.{option_map_or}
use Rattle.hwdb_spec.specs.declared.Class.{Class}
use Rattle.hwdb_spec.specs.declared.Class.TheVariants.{Alnum, Alpha, Blank, Cntrl, Digit, Graph, Lower, Print, Punct, Space, Upper, Xdigit}
use Rattle.hwdb_spec.specs.Patterns.{Items, Bracket, classes, class_text, class_spans, item_at, plain_item, joined, items_from, bracket_at, bracket_of, is_inversion}
use Rattle.hwdb_pattern.specs.Internal.Parts.{class_at, items}

-- whether a text holds a `]`
abbrev has : List ℕ → Bool
has [] = false
has (b ∷ rest) = cond (b == 93) true (has rest)

has_more : (b : ℕ) (rest : List ℕ) → has rest ≡ true → has (b ∷ rest) ≡ true
has_more b rest h = go (b == 93) (has rest) h
  where
    go : (c d : Bool) → d ≡ true → cond c true d ≡ true
    go true d h = refl
    go false d h = h

joined_some : (first : Items) (o : Option Items) (i : Items) → joined first o ≡ Some i → (j : Items) × (o ≡ Some j)
joined_some first None i h = cc
joined_some first (Some j) i h = (j, refl)

split : (c : Bool) (x : Option Items) (i : Items) → cond c (Some (items 1 [])) x ≡ Some i → (c ≡ true) ⊎ (x ≡ Some i)
split true x i h = inl refl
split false x i h = inr h

-- what closes holds a `]`
closes : (f : Bool) (skip : ℕ) (text : List ℕ) (i : Items) → items_from f skip text ≡ Some i → has text ≡ true
unfolding items_from
closes f skip [] i h = cc
closes f (suc skip) (b ∷ rest) i h = has_more b rest (closes f skip rest i h)
closes true zero (b ∷ rest) i h =
    let o : (j : Items) × (items_from false ((item_at (b ∷ rest)).size - 1) rest ≡ Some j) = joined_some (item_at (b ∷ rest)) _ i h in
    has_more b rest (closes false ((item_at (b ∷ rest)).size - 1) rest o.0 o.1)
closes false zero (b ∷ rest) i h = elim (split (b == 93) _ i h) [
  | inl e ↦ ap (λ (c : Bool). cond c true (has rest)) e
  | inr k ↦
      let o : (j : Items) × (items_from false ((item_at (b ∷ rest)).size - 1) rest ≡ Some j) = joined_some (item_at (b ∷ rest)) _ i k in
      has_more b rest (closes false ((item_at (b ∷ rest)).size - 1) rest o.0 o.1)
]

-- whether a text holds a `]` at its end alone, if at all
abbrev at_end : List ℕ → Bool
at_end [] = true
at_end (x ∷ []) = true
at_end (x ∷ y ∷ rest) = cond (x == 93) false (at_end (y ∷ rest))

class_at_end : (c : Class) → at_end (class_text c) ≡ true
class_at_end Alnum = refl
class_at_end Alpha = refl
class_at_end Blank = refl
class_at_end Cntrl = refl
class_at_end Digit = refl
class_at_end Graph = refl
class_at_end Lower = refl
class_at_end Print = refl
class_at_end Punct = refl
class_at_end Space = refl
class_at_end Upper = refl
class_at_end Xdigit = refl

cond_false : (c d : Bool) → cond c false d ≡ true → (c ≡ false) × (d ≡ true)
cond_false true d h = cc
cond_false false d h = (refl, h)

cond_rest : (c d : Bool) → c ≡ false → cond c true d ≡ true → d ≡ true
cond_rest true d e h = cc
cond_rest false d e h = h

same_start : (needle text more : List ℕ) → at_end needle ≡ true → has text ≡ true
    → starts_with nat_eq (text ++ more) needle ≡ starts_with nat_eq text needle
same_start [] text more e h = refl
same_start (x ∷ needle) [] more e h = cc
same_start (x ∷ []) (b ∷ text) more e h = refl
same_start (x ∷ y ∷ needle) (b ∷ text) more e h = elim (cases_eq x b) [
  | inl s ↦
      let k : ((x == 93) ≡ false) × (at_end (y ∷ needle) ≡ true) = cond_false (x == 93) (at_end (y ∷ needle)) e in
      let m : has text ≡ true = cond_rest (b == 93) (has text) (ap (λ (n : ℕ). n == 93) (sym s) ∙ k.0) h in
      ap (λ (r : Bool). nat_eq x b && r) (same_start (y ∷ needle) text more k.1 m)
  | inr n ↦ go (nat_eq x b) _ _ (ne_eqb x b n)
]
  where
    go : (c p q : Bool) → c ≡ false → (c && p) ≡ (c && q)
    go true p q e = cc
    go false p q e = refl

find_same : (p q : Class → Bool) (xs : List Class) → ((c : Class) → p c ≡ q c) → find p xs ≡ find q xs
find_same p q [] e = refl
find_same p q (c ∷ xs) e = ap (λ (b : Bool). cond b (Some c) (find p xs)) (e c) ∙ ap (λ (o : Option Class). cond (q c) (Some c) o) (find_same p q xs e)

class_same : (text more : List ℕ) → has text ≡ true → class_at (text ++ more) ≡ class_at text
class_same text more h =
    find_same (λ c. starts_with nat_eq (text ++ more) (class_text c)) (λ c. starts_with nat_eq text (class_text c)) classes
    (λ c. same_start (class_text c) text more (class_at_end c) h)

-- what closes after one byte begins with it, so a range doesn't reach farther
close_alone : (skip d : ℕ) (j : Items) → items_from false skip (d ∷ []) ≡ Some j → d ≡ 93
unfolding items_from
close_alone (suc skip) d j h = cc
close_alone zero d j h = elim (split (d == 93) _ j h) [
  | inl e ↦ eqb-true d 93 e
  | inr k ↦ absurd (no_more (item_at (d ∷ [])) j k)
]
  where
    no_more : (first : Items) (j : Items) → joined first None ≡ Some j → ⊥
    no_more first j k = cc

plain_alone : (b d : ℕ) (more : List ℕ) → d ≡ 93 → plain_item (b ∷ d ∷ more) ≡ plain_item (b ∷ d ∷ [])
plain_alone b d [] e = refl
plain_alone b d (high ∷ more) e = rw (ne_eqb d 45 (λ h. absurd (omega arith))) refl

plain_same : (b : ℕ) (rest more : List ℕ) (skip : ℕ) (j : Items) → items_from false skip rest ≡ Some j → plain_item (b ∷ rest ++ more) ≡ plain_item (b ∷ rest)
unfolding items_from
plain_same b [] more skip j h = cc
plain_same b (d ∷ []) more skip j h = plain_alone b d more (close_alone skip d j h)
plain_same b (d ∷ e ∷ rest) more skip j h = refl

item_same : (b : ℕ) (rest more : List ℕ) (skip : ℕ) (j : Items) → items_from false skip rest ≡ Some j → item_at (b ∷ rest ++ more) ≡ item_at (b ∷ rest)
unfolding item_at
item_same b rest more skip j h =
    ap (λ (o : Option Class). option_map_or (λ c. items (length (class_text c)) (class_spans c)) o (plain_item (b ∷ rest ++ more)))
    (class_same (b ∷ rest) more (has_more b rest (closes false skip rest j h)))
    ∙ ap (λ (p : Items). option_map_or (λ c. items (length (class_text c)) (class_spans c)) (class_at (b ∷ rest)) p) (plain_same b rest more skip j h)

-- ---- items that a byte closes which is no `]` are closed without it
again : (first more : Items) → (j : Items) × (joined first (Some more) ≡ Some j)
again first more = (record { size = first.size + more.size; spans = first.spans ++ more.spans }, refl)

opened : (c : Bool) (x : Option Items) (i : Items) → c ≡ false → cond c (Some (items 1 [])) x ≡ Some i → x ≡ Some i
opened true x i e h = cc
opened false x i e h = h

open_again : (c : Bool) (x : Option Items) (i : Items) → c ≡ false → x ≡ Some i → cond c (Some (items 1 [])) x ≡ Some i
open_again true x i e h = cc
open_again false x i e h = h

closed : (c : Bool) (x : Option Items) → c ≡ true → cond c (Some (items 1 [])) x ≡ Some (items 1 [])
closed true x e = refl
closed false x e = cc

next_before : (x : ℕ) (rest : List ℕ) (b : ℕ) (j : Items) → items_from false ((item_at (x ∷ rest ++ b ∷ [])).size - 1) rest ≡ Some j
    → (i : Items) × (joined (item_at (x ∷ rest)) (items_from false ((item_at (x ∷ rest)).size - 1) rest) ≡ Some i)
next_before x rest b j e =
    let more : (i : Items) × (joined (item_at (x ∷ rest)) (Some j) ≡ Some i) = again (item_at (x ∷ rest)) j in (
      more.0,
      ap (joined (item_at (x ∷ rest))) (ap (λ (it : Items). items_from false (it.size - 1) rest) (sym (item_same x rest (b ∷ []) ((item_at (x ∷ rest ++ b ∷ [])).size - 1) j e)) ∙ e) ∙ more.1,
    )

items_before : (f : Bool) (skip : ℕ) (text : List ℕ) (b : ℕ) (i : Items) → (b ≡ 93 → ⊥) → items_from f skip (text ++ b ∷ []) ≡ Some i → (j : Items) × (items_from f skip text ≡ Some j)
unfolding items_from
items_before f (suc skip) [] b i n h = cc
items_before true zero [] b i n h = cc
items_before false zero [] b i n h = elim (split (b == 93) _ i h) [
  | inl e ↦ absurd (n (eqb-true b 93 e))
  | inr k ↦ cc
]
items_before f (suc skip) (x ∷ rest) b i n h = items_before f skip rest b i n h
items_before true zero (x ∷ rest) b i n h =
    let o : (j : Items) × (items_from false ((item_at (x ∷ rest ++ b ∷ [])).size - 1) (rest ++ b ∷ []) ≡ Some j) = joined_some (item_at (x ∷ rest ++ b ∷ [])) _ i h in
    let m : (j : Items) × (items_from false ((item_at (x ∷ rest ++ b ∷ [])).size - 1) rest ≡ Some j) = items_before false ((item_at (x ∷ rest ++ b ∷ [])).size - 1) rest b o.0 n o.1 in
    next_before x rest b m.0 m.1
items_before false zero (x ∷ rest) b i n h = elim (cases_eq x 93) [
  | inl e ↦ (items 1 [], closed (x == 93) _ (eq-eqb x 93 e))
  | inr d ↦
      let g : joined (item_at (x ∷ rest ++ b ∷ [])) (items_from false ((item_at (x ∷ rest ++ b ∷ [])).size - 1) (rest ++ b ∷ [])) ≡ Some i = opened (x == 93) _ i (ne_eqb x 93 d) h in
      let o : (j : Items) × (items_from false ((item_at (x ∷ rest ++ b ∷ [])).size - 1) (rest ++ b ∷ []) ≡ Some j) = joined_some (item_at (x ∷ rest ++ b ∷ [])) _ i g in
      let m : (j : Items) × (items_from false ((item_at (x ∷ rest ++ b ∷ [])).size - 1) rest ≡ Some j) = items_before false ((item_at (x ∷ rest ++ b ∷ [])).size - 1) rest b o.0 n o.1 in
      let r : (j : Items) × (joined (item_at (x ∷ rest)) (items_from false ((item_at (x ∷ rest)).size - 1) rest) ≡ Some j) = next_before x rest b m.0 m.1 in
      (r.0, open_again (x == 93) _ r.0 (ne_eqb x 93 d) r.1)
]

-- ---- brackets
of_before : (start : ℕ) (inverted : Bool) (o p : Option Items) → ((i : Items) → p ≡ Some i → (j : Items) × (o ≡ Some j)) → bracket_of start inverted o ≡ None → bracket_of start inverted p ≡ None
of_before start inverted o None f e = refl
of_before start inverted o (Some i) f e =
    let m : (j : Items) × (o ≡ Some j) = f i refl in
    let no : bracket_of start inverted (Some m.0) ≡ None = sym (ap (bracket_of start inverted) m.1) ∙ e in
    cc

none_of : (c d : Bool) (x y : Option Bracket) → x ≡ None → y ≡ None → cond c (cond d x y) None ≡ None
none_of true true x y e k = e
none_of true false x y e k = k
none_of false d x y e k = refl

both_none : (c d : Bool) (x y v w : Option Bracket) → (x ≡ None → v ≡ None) → (y ≡ None → w ≡ None) → cond c (cond d x y) None ≡ None → cond c (cond d v w) None ≡ None
both_none true true x y v w f g e = f e
both_none true false x y v w f g e = g e
both_none false d x y v w f g e = refl

joined_none : (first : Items) → bracket_of 1 false (joined first None) ≡ None
joined_none first = refl

pub bracket_before : (text : List ℕ) (b : ℕ) → (b ≡ 93 → ⊥) → bracket_at text ≡ None → bracket_at (text ++ b ∷ []) ≡ None
unfolding bracket_at items_from
bracket_before [] b n e = refl
bracket_before (x ∷ []) b n e = none_of (x == 91) (is_inversion b) _ _ refl (joined_none (item_at (b ∷ [])))
bracket_before (x ∷ mark ∷ rest) b n e =
    both_none (x == 91) (is_inversion mark) _ _ _ _
    (of_before 2 true (items_from true 0 rest) (items_from true 0 (rest ++ b ∷ [])) (λ i h. items_before true 0 rest b i n h))
    (of_before 1 false (items_from true 0 (mark ∷ rest)) (items_from true 0 (mark ∷ rest ++ b ∷ [])) (λ i h. items_before true 0 (mark ∷ rest) b i n h))
    e
