-- A bracket that is closed in a text is the same bracket in every longer text that begins with it.
use Rattle.std.proofs.Common.{◌≡◌, ℕ, zero, suc, ◌-◌, ◌+◌, Bool, true, false, List, [], ◌∷◌, ◌++◌, length, get_or, refl, ap, ◌∙◌, sym, Option, Some, None, cond, ◌==◌, nat_eq, arith, inl, inr, ◌⊎◌, ne_eqb, eq-eqb, eqb-true, ◌&&◌, ◌<◌, ◌≤◌, subst}
use Rattle.std.proofs.lemmas.Bool.{cases_eq}
use Rattle.std.specs.List.{starts_with, find}
use Rattle.std.specs.Option.{option_map_or}
use Rattle.hwdb_spec.specs.declared.Class.{Class}
use Rattle.hwdb_spec.specs.declared.Class.TheVariants.{Alnum, Alpha, Blank, Cntrl, Digit, Graph, Lower, Print, Punct, Space, Upper, Xdigit}
use Rattle.hwdb_spec.specs.Patterns.{Items, Bracket, classes, class_text, class_spans, item_at, plain_item, joined, items_from, bracket_at, bracket_of, is_inversion, token_at, token_size}
use Rattle.hwdb_pattern.specs.Internal.Parts.{class_at, bracket_or_byte, items}
use Rattle.hwdb_pattern.proofs.BracketLemmas.{item_long}
use Rattle.hwdb_pattern.proofs.TokenLemmas.{star_at, token_one, token_bracket_or, token_byte}

-- whether a text holds a `]`
abbrev has : List ℕ → Bool
has [] = false
has (b ∷ rest) = cond (b == 93) true (has rest)

has_more : (b : ℕ) (rest : List ℕ) → has rest ≡ true → has (b ∷ rest) ≡ true
has_more b rest h = go (b == 93) (has rest) h
  where
    go : (c d : Bool) → d ≡ true → cond c true d ≡ true
    go true d h = refl
    go false d h = h

pub joined_some : (first : Items) (o : Option Items) (i : Items) → joined first o ≡ Some i → (j : Items) × (o ≡ Some j)
joined_some first None i h = cc
joined_some first (Some j) i h = (j, refl)

split : (c : Bool) (x : Option Items) (i : Items) → cond c (Some (items 1 [])) x ≡ Some i → (c ≡ true) ⊎ (x ≡ Some i)
split true x i h = inl refl
split false x i h = inr h

-- what closes holds a `]`
closes : (f : Bool) (skip : ℕ) (text : List ℕ) (i : Items) → items_from f skip text ≡ Some i → has text ≡ true
unfolding items_from
closes f skip [] i h = cc
closes f (suc skip) (b ∷ rest) i h = has_more b rest (closes f skip rest i h)
closes true zero (b ∷ rest) i h =
    let o : (j : Items) × (items_from false ((item_at (b ∷ rest)).size - 1) rest ≡ Some j) = joined_some (item_at (b ∷ rest)) _ i h in
    has_more b rest (closes false ((item_at (b ∷ rest)).size - 1) rest o.0 o.1)
closes false zero (b ∷ rest) i h = elim (split (b == 93) _ i h) [
  | inl e ↦ ap (λ (c : Bool). cond c true (has rest)) e
  | inr k ↦
      let o : (j : Items) × (items_from false ((item_at (b ∷ rest)).size - 1) rest ≡ Some j) = joined_some (item_at (b ∷ rest)) _ i k in
      has_more b rest (closes false ((item_at (b ∷ rest)).size - 1) rest o.0 o.1)
]

-- whether a text holds a `]` at its end alone, if at all
abbrev at_end : List ℕ → Bool
at_end [] = true
at_end (x ∷ []) = true
at_end (x ∷ y ∷ rest) = cond (x == 93) false (at_end (y ∷ rest))

class_at_end : (c : Class) → at_end (class_text c) ≡ true
class_at_end Alnum = refl
class_at_end Alpha = refl
class_at_end Blank = refl
class_at_end Cntrl = refl
class_at_end Digit = refl
class_at_end Graph = refl
class_at_end Lower = refl
class_at_end Print = refl
class_at_end Punct = refl
class_at_end Space = refl
class_at_end Upper = refl
class_at_end Xdigit = refl

cond_false : (c d : Bool) → cond c false d ≡ true → (c ≡ false) × (d ≡ true)
cond_false true d h = cc
cond_false false d h = (refl, h)

cond_rest : (c d : Bool) → c ≡ false → cond c true d ≡ true → d ≡ true
cond_rest true d e h = cc
cond_rest false d e h = h

same_start : (needle text more : List ℕ) → at_end needle ≡ true → has text ≡ true
    → starts_with nat_eq (text ++ more) needle ≡ starts_with nat_eq text needle
same_start [] text more e h = refl
same_start (x ∷ needle) [] more e h = cc
same_start (x ∷ []) (b ∷ text) more e h = refl
same_start (x ∷ y ∷ needle) (b ∷ text) more e h = elim (cases_eq x b) [
  | inl s ↦
      let k : ((x == 93) ≡ false) × (at_end (y ∷ needle) ≡ true) = cond_false (x == 93) (at_end (y ∷ needle)) e in
      let m : has text ≡ true = cond_rest (b == 93) (has text) (ap (λ (n : ℕ). n == 93) (sym s) ∙ k.0) h in
      ap (λ (r : Bool). nat_eq x b && r) (same_start (y ∷ needle) text more k.1 m)
  | inr n ↦ go (nat_eq x b) _ _ (ne_eqb x b n)
]
  where
    go : (c p q : Bool) → c ≡ false → (c && p) ≡ (c && q)
    go true p q e = cc
    go false p q e = refl

find_same : (p q : Class → Bool) (xs : List Class) → ((c : Class) → p c ≡ q c) → find p xs ≡ find q xs
find_same p q [] e = refl
find_same p q (c ∷ xs) e = ap (λ (b : Bool). cond b (Some c) (find p xs)) (e c) ∙ ap (λ (o : Option Class). cond (q c) (Some c) o) (find_same p q xs e)

class_same : (text more : List ℕ) → has text ≡ true → class_at (text ++ more) ≡ class_at text
unfolding class_at
class_same text more h =
    find_same (λ c. starts_with nat_eq (text ++ more) (class_text c)) (λ c. starts_with nat_eq text (class_text c)) classes
    (λ c. same_start (class_text c) text more (class_at_end c) h)

-- what closes after one byte begins with it, so a range doesn't reach farther
close_alone : (skip d : ℕ) (j : Items) → items_from false skip (d ∷ []) ≡ Some j → d ≡ 93
unfolding items_from
close_alone (suc skip) d j h = cc
close_alone zero d j h = elim (split (d == 93) _ j h) [
  | inl e ↦ eqb-true d 93 e
  | inr k ↦ absurd (no_more (item_at (d ∷ [])) j k)
]
  where
    no_more : (first : Items) (j : Items) → joined first None ≡ Some j → ⊥
    no_more first j k = cc

plain_alone : (b d : ℕ) (more : List ℕ) → d ≡ 93 → plain_item (b ∷ d ∷ more) ≡ plain_item (b ∷ d ∷ [])
plain_alone b d [] e = refl
plain_alone b d (high ∷ more) e = rw (ne_eqb d 45 (λ h. absurd (omega arith))) refl

plain_same : (b : ℕ) (rest more : List ℕ) (skip : ℕ) (j : Items) → items_from false skip rest ≡ Some j → plain_item (b ∷ rest ++ more) ≡ plain_item (b ∷ rest)
unfolding items_from
plain_same b [] more skip j h = cc
plain_same b (d ∷ []) more skip j h = plain_alone b d more (close_alone skip d j h)
plain_same b (d ∷ e ∷ rest) more skip j h = refl

pub item_same : (b : ℕ) (rest more : List ℕ) (skip : ℕ) (j : Items) → items_from false skip rest ≡ Some j → item_at (b ∷ rest ++ more) ≡ item_at (b ∷ rest)
unfolding item_at
item_same b rest more skip j h =
    ap (λ (o : Option Class). option_map_or (λ c. items (length (class_text c)) (class_spans c)) o (plain_item (b ∷ rest ++ more)))
    (class_same (b ∷ rest) more (has_more b rest (closes false skip rest j h)))
    ∙ ap (λ (p : Items). option_map_or (λ c. items (length (class_text c)) (class_spans c)) (class_at (b ∷ rest)) p) (plain_same b rest more skip j h)

next_same : (b : ℕ) (rest more : List ℕ) (i j : Items)
    → items_from false ((item_at (b ∷ rest)).size - 1) rest ≡ Some j
    → items_from false ((item_at (b ∷ rest)).size - 1) (rest ++ more) ≡ Some j
    → joined (item_at (b ∷ rest)) (items_from false ((item_at (b ∷ rest)).size - 1) rest) ≡ Some i
    → joined (item_at (b ∷ rest ++ more)) (items_from false ((item_at (b ∷ rest ++ more)).size - 1) (rest ++ more)) ≡ Some i
next_same b rest more i j h k m =
    ap (λ (it : Items). joined it (items_from false (it.size - 1) (rest ++ more))) (item_same b rest more _ j h)
    ∙ ap (joined (item_at (b ∷ rest))) (k ∙ sym h) ∙ m

items_longer : (f : Bool) (skip : ℕ) (text more : List ℕ) (i : Items) → items_from f skip text ≡ Some i → items_from f skip (text ++ more) ≡ Some i
unfolding items_from
items_longer f skip [] more i h = cc
items_longer f (suc skip) (b ∷ rest) more i h = items_longer f skip rest more i h
items_longer true zero (b ∷ rest) more i h =
    let o : (j : Items) × (items_from false ((item_at (b ∷ rest)).size - 1) rest ≡ Some j) = joined_some (item_at (b ∷ rest)) _ i h in
    next_same b rest more i o.0 o.1 (items_longer false ((item_at (b ∷ rest)).size - 1) rest more o.0 o.1) h
items_longer false zero (b ∷ rest) more i h = elim (cases_eq b 93) [
  | inl e ↦ both_close (b == 93) _ _ (eq-eqb b 93 e) h
  | inr n ↦
      let g : joined (item_at (b ∷ rest)) (items_from false ((item_at (b ∷ rest)).size - 1) rest) ≡ Some i = opened (b == 93) _ (ne_eqb b 93 n) h in
      let o : (j : Items) × (items_from false ((item_at (b ∷ rest)).size - 1) rest ≡ Some j) = joined_some (item_at (b ∷ rest)) _ i g in
      open_again (b == 93) _ (ne_eqb b 93 n) (next_same b rest more i o.0 o.1 (items_longer false ((item_at (b ∷ rest)).size - 1) rest more o.0 o.1) g)
]
  where
    both_close : (c : Bool) (x y : Option Items) → c ≡ true → cond c (Some (items 1 [])) x ≡ Some i → cond c (Some (items 1 [])) y ≡ Some i
    both_close true x y e h = h
    both_close false x y e h = cc

    opened : (c : Bool) (x : Option Items) → c ≡ false → cond c (Some (items 1 [])) x ≡ Some i → x ≡ Some i
    opened true x e h = cc
    opened false x e h = h

    open_again : (c : Bool) (x : Option Items) → c ≡ false → x ≡ Some i → cond c (Some (items 1 [])) x ≡ Some i
    open_again true x e h = cc
    open_again false x e h = h

of_longer : (start : ℕ) (inverted : Bool) (o p : Option Items) (b : Bracket) → ((i : Items) → o ≡ Some i → p ≡ Some i) → bracket_of start inverted o ≡ Some b → bracket_of start inverted p ≡ Some b
of_longer start inverted None p b f h = cc
of_longer start inverted (Some i) p b f h = ap (bracket_of start inverted) (f i refl) ∙ h

pick : (c d : Bool) (x y x' y' : Option Bracket) (b : Bracket) → (x ≡ Some b → x' ≡ Some b) → (y ≡ Some b → y' ≡ Some b) → cond c (cond d x y) None ≡ Some b → cond c (cond d x' y') None ≡ Some b
pick true true x y x' y' b f g h = f h
pick true false x y x' y' b f g h = g h
pick false d x y x' y' b f g h = cc

pub bracket_longer : (text more : List ℕ) (b : Bracket) → bracket_at text ≡ Some b → bracket_at (text ++ more) ≡ Some b
unfolding bracket_at
bracket_longer [] more b h = cc
bracket_longer (first ∷ []) more b h = cc
bracket_longer (first ∷ mark ∷ rest) more b h =
    pick (first == 91) (is_inversion mark) _ _ _ _ b
    (of_longer 2 true (items_from true 0 rest) (items_from true 0 (rest ++ more)) b (items_longer true 0 rest more))
    (of_longer 1 false (items_from true 0 (mark ∷ rest)) (items_from true 0 (mark ∷ rest ++ more)) b (items_longer true 0 (mark ∷ rest) more))
    h

pub joined_size : (first j i : Items) → joined first (Some j) ≡ Some i → i.size ≡ first.size + j.size
joined_size first j i h = some_size _ i h
  where
    some_size : (x y : Items) → Some x ≡ Some y → y.size ≡ x.size
    some_size x y e = cc

next_within : (b : ℕ) (rest : List ℕ) (i j : Items) → i.size ≡ (item_at (b ∷ rest)).size + j.size
    → ((item_at (b ∷ rest)).size - 1) + j.size ≤ length rest → 0 + i.size ≤ length (b ∷ rest)
next_within b rest i j e h = omega (arith, item_long (b ∷ rest))

split_one : (c : Bool) (x : Option Items) (i : Items) → cond c (Some (items 1 [])) x ≡ Some i → (i.size ≡ 1) ⊎ (x ≡ Some i)
split_one true x i h = inl (some_size _ i h)
  where
    some_size : (x y : Items) → Some x ≡ Some y → y.size ≡ x.size
    some_size x y e = cc
split_one false x i h = inr h

-- a closed bracket lies in its text
items_within : (f : Bool) (skip : ℕ) (text : List ℕ) (i : Items) → items_from f skip text ≡ Some i → skip + i.size ≤ length text
unfolding items_from
items_within f skip [] i h = cc
items_within f (suc skip) (b ∷ rest) i h = omega (arith, items_within f skip rest i h)
items_within true zero (b ∷ rest) i h =
    let o : (j : Items) × (items_from false ((item_at (b ∷ rest)).size - 1) rest ≡ Some j) = joined_some (item_at (b ∷ rest)) _ i h in
    next_within b rest i o.0 (joined_size _ o.0 i (ap (joined (item_at (b ∷ rest))) (sym o.1) ∙ h)) (items_within false ((item_at (b ∷ rest)).size - 1) rest o.0 o.1)
items_within false zero (b ∷ rest) i h = elim (split_one (b == 93) _ i h) [
  | inl e ↦ omega arith
  | inr k ↦
      let o : (j : Items) × (items_from false ((item_at (b ∷ rest)).size - 1) rest ≡ Some j) = joined_some (item_at (b ∷ rest)) _ i k in
      next_within b rest i o.0 (joined_size _ o.0 i (ap (joined (item_at (b ∷ rest))) (sym o.1) ∙ k)) (items_within false ((item_at (b ∷ rest)).size - 1) rest o.0 o.1)
]

bracket_of_within : (start n : ℕ) (inverted : Bool) (o : Option Items) (b : Bracket) → ((i : Items) → o ≡ Some i → start + i.size ≤ n) → bracket_of start inverted o ≡ Some b → b.size ≤ n
bracket_of_within start n inverted None b f h = cc
bracket_of_within start n inverted (Some i) b f h =
    let e : start + i.size ≡ b.size = some_size _ b h in omega (arith, f i refl)
  where
    some_size : (x y : Bracket) → Some x ≡ Some y → x.size ≡ y.size
    some_size x y e = cc

pick_within : (c d : Bool) (x y : Option Bracket) (b : Bracket) (n : ℕ) → (x ≡ Some b → b.size ≤ n) → (y ≡ Some b → b.size ≤ n) → cond c (cond d x y) None ≡ Some b → b.size ≤ n
pick_within true true x y b n f g h = f h
pick_within true false x y b n f g h = g h
pick_within false d x y b n f g h = cc

pub bracket_within : (text : List ℕ) (b : Bracket) → bracket_at text ≡ Some b → b.size ≤ length text
unfolding bracket_at
bracket_within [] b h = cc
bracket_within (first ∷ []) b h = cc
bracket_within (first ∷ mark ∷ rest) b h =
    pick_within (first == 91) (is_inversion mark) _ _ b (length (first ∷ mark ∷ rest))
    (bracket_of_within 2 _ true (items_from true 0 rest) b (λ i e. omega (arith, items_within true 0 rest i e)))
    (bracket_of_within 1 _ false (items_from true 0 (mark ∷ rest)) b (λ i e. omega (arith, items_within true 0 (mark ∷ rest) i e)))
    h

bracket_token_within : (text : List ℕ) (o : Option Bracket) → bracket_at text ≡ o → 0 < length text → token_size (bracket_or_byte o) ≤ length text
bracket_token_within text None e h = omega arith
bracket_token_within text (Some b) e h = bracket_within text b e

-- a token lies in its text
pub token_within : (first : ℕ) (rest : List ℕ) → token_size (token_at (first ∷ rest)) ≤ length (first ∷ rest)
token_within first rest = elim (cases_eq first 42) [
  | inl e ↦ one_byte (ap token_size (star_at (first ∷ rest) e))
  | inr s ↦ elim (cases_eq first 63) [
    | inl e ↦ one_byte (ap token_size (token_one (first ∷ rest) e))
    | inr o ↦ elim (cases_eq first 91) [
      | inl e ↦
          let k : token_size (token_at (first ∷ rest)) ≡ token_size (bracket_or_byte (bracket_at (first ∷ rest))) = ap token_size (token_bracket_or (first ∷ rest) e) in
          let w : token_size (bracket_or_byte (bracket_at (first ∷ rest))) ≤ length (first ∷ rest) = bracket_token_within (first ∷ rest) (bracket_at (first ∷ rest)) refl (omega arith) in
          subst (λ (n : ℕ). n ≤ length (first ∷ rest)) (sym k) w
      | inr b ↦ one_byte (ap token_size (token_byte (first ∷ rest) (omega arith) s o b))
    ]
  ]
]
  where
    one_byte : token_size (token_at (first ∷ rest)) ≡ 1 → token_size (token_at (first ∷ rest)) ≤ length (first ∷ rest)
    one_byte e = omega (arith, e)

-- if no `]` comes, no bracket is closed
holds_none : (text : List ℕ) → ((k : ℕ) → get_or text k 0 ≡ 93 → ⊥) → has text ≡ true → ⊥
holds_none [] n h = cc
holds_none (b ∷ rest) n h = holds_none rest (λ k e. n (suc k) e) (later (b == 93) (has rest) (ne_eqb b 93 (n 0)) h)
  where
    later : (c d : Bool) → c ≡ false → cond c true d ≡ true → d ≡ true
    later true d e h = cc
    later false d e h = h

items_none_closes : (f : Bool) (text : List ℕ) → ((k : ℕ) → get_or text k 0 ≡ 93 → ⊥) → items_from f 0 text ≡ None
items_none_closes f text n = go (items_from f 0 text) refl
  where
    go : (o : Option Items) → items_from f 0 text ≡ o → o ≡ None
    go None e = refl
    go (Some i) e = absurd (holds_none text n (closes f 0 text i e))

pub none_closes : (text : List ℕ) → ((k : ℕ) → get_or text k 0 ≡ 93 → ⊥) → bracket_at text ≡ None
unfolding bracket_at
none_closes [] n = refl
none_closes (first ∷ []) n = refl
none_closes (first ∷ mark ∷ rest) n =
    go (first == 91) (is_inversion mark) _ _
    (ap (bracket_of 2 true) (items_none_closes true rest (λ k e. n (suc (suc k)) e)))
    (ap (bracket_of 1 false) (items_none_closes true (mark ∷ rest) (λ k e. n (suc k) e)))
  where
    go : (c d : Bool) (x y : Option Bracket) → x ≡ None → y ≡ None → cond c (cond d x y) None ≡ None
    go true true x y e f = e
    go true false x y e f = f
    go false d x y e f = refl
