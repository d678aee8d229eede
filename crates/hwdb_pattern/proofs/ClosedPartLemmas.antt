-- How a path is cut at its first open `[`.
use Rattle.std.proofs.Common.{◌≡◌, ℕ, zero, suc, ◌-◌, ◌+◌, ◌<◌, ◌≤◌, Bool, true, false, List, [], ◌∷◌, ◌++◌, take, drop, length, get_or, refl, ap, ◌∙◌, sym, subst, Option, Some, None, cond, ◌==◌, not, if◌then◌else◌, arith, inl, inr, ne_eqb, eq-eqb, append_assoc}
use Rattle.std.specs.Prelude.{take_while}
use Rattle.std.specs.List.{prefix_len}
use Rattle.std.proofs.lemmas.Bool.{cases_eq}
use Rattle.std.proofs.lemmas.List.{take_at, append-nil, length-drop, drop_all, drop-drop, take_rest, get_or-drop}
use Rattle.std.proofs.Math.Seq.{take-add}
use Rattle.std.specs.Option.{option_map}
use Rattle.hwdb_pattern.specs.declared.brackets.Part.{Part}
use Rattle.hwdb_pattern.specs.Internal.Parts.{bracket_part, bracket_or_byte}
use Rattle.hwdb_spec.specs.Patterns.{Bracket, Items, bracket_at, bracket_of, items_from, is_inversion, Token, token_at, token_size, tokens_from, tokens}
use Rattle.hwdb_spec.specs.Tree.{is_open, closed_from, closed_part}
use Rattle.hwdb_pattern.specs.Views.{open_from, open_part}
use Rattle.hwdb_pattern.proofs.TokenLemmas.{drop_less, token_long, token_one, star_at, token_bracket_or, token_byte}
use Rattle.hwdb_pattern.proofs.LongerPathLemmas.{bracket_longer, token_within}
use Rattle.hwdb_pattern.proofs.ShorterPathLemmas.{ItemsFront, items_shorter}

-- the tokens before the first open `[`; the text's first `skip` bytes belong to the token that was cut before
unfoldable pub closed_tokens_from : (skip : ℕ) → List ℕ → List Token
closed_tokens_from skip [] = []
closed_tokens_from (suc skip) (first ∷ rest) = closed_tokens_from skip rest
closed_tokens_from zero (first ∷ rest) =
    if is_open (token_at (first ∷ rest)) then []
    else token_at (first ∷ rest) ∷ closed_tokens_from (token_size (token_at (first ∷ rest)) - 1) rest

abbrev pub closed_tokens : List ℕ → List Token
closed_tokens path = closed_tokens_from 0 path

-- a token that isn't an open `[` is the same token in every longer text
bracket_kept : (text more : List ℕ) (o : Option Bracket) → bracket_at text ≡ o → is_open (bracket_or_byte o) ≡ false → bracket_at (text ++ more) ≡ o
bracket_kept text more None e h = cc
bracket_kept text more (Some b) e h = bracket_longer text more b e

pub token_longer : (first : ℕ) (rest more : List ℕ) → is_open (token_at (first ∷ rest)) ≡ false → token_at (first ∷ rest ++ more) ≡ token_at (first ∷ rest)
token_longer first rest more h = elim (cases_eq first 42) [
  | inl e ↦ star_at (first ∷ rest ++ more) e ∙ sym (star_at (first ∷ rest) e)
  | inr s ↦ elim (cases_eq first 63) [
    | inl e ↦ token_one (first ∷ rest ++ more) e ∙ sym (token_one (first ∷ rest) e)
    | inr o ↦ elim (cases_eq first 91) [
      | inl e ↦
          let t : token_at (first ∷ rest) ≡ bracket_or_byte (bracket_at (first ∷ rest)) = token_bracket_or (first ∷ rest) e in
          token_bracket_or (first ∷ rest ++ more) e
          ∙ ap bracket_or_byte (bracket_kept (first ∷ rest) more (bracket_at (first ∷ rest)) refl (ap is_open (sym t) ∙ h))
          ∙ sym t
      | inr b ↦ token_byte (first ∷ rest ++ more) (omega arith) s o b ∙ sym (token_byte (first ∷ rest) (omega arith) s o b)
    ]
  ]
]

closed_stop : (first : ℕ) (rest : List ℕ) → is_open (token_at (first ∷ rest)) ≡ true → closed_tokens_from 0 (first ∷ rest) ≡ []
unfolding closed_tokens_from
closed_stop first rest h = go (is_open (token_at (first ∷ rest))) _ h
  where
    go : (c : Bool) (x : List Token) → c ≡ true → cond c [] x ≡ []
    go true x e = refl
    go false x e = cc

closed_go : (first : ℕ) (rest : List ℕ) → is_open (token_at (first ∷ rest)) ≡ false
    → closed_tokens_from 0 (first ∷ rest) ≡ token_at (first ∷ rest) ∷ closed_tokens_from (token_size (token_at (first ∷ rest)) - 1) rest
unfolding closed_tokens_from
closed_go first rest h = go (is_open (token_at (first ∷ rest))) _ h
  where
    go : (c : Bool) (x : List Token) → c ≡ false → cond c [] x ≡ x
    go true x e = cc
    go false x e = refl

open_stop : (first : ℕ) (rest : List ℕ) → is_open (token_at (first ∷ rest)) ≡ true → open_from 0 (first ∷ rest) ≡ first ∷ rest
unfolding open_from
open_stop first rest h = go (is_open (token_at (first ∷ rest))) _ _ h
  where
    go : (c : Bool) (y x : List ℕ) → c ≡ true → cond c y x ≡ y
    go true y x e = refl
    go false y x e = cc

open_go : (first : ℕ) (rest : List ℕ) → is_open (token_at (first ∷ rest)) ≡ false
    → open_from 0 (first ∷ rest) ≡ open_from (token_size (token_at (first ∷ rest)) - 1) rest
unfolding open_from
open_go first rest h = go (is_open (token_at (first ∷ rest))) _ _ h
  where
    go : (c : Bool) (y x : List ℕ) → c ≡ false → cond c y x ≡ x
    go true y x e = cc
    go false y x e = refl

part_stop : (first : ℕ) (rest : List ℕ) → is_open (token_at (first ∷ rest)) ≡ true → closed_from 0 (first ∷ rest) ≡ []
unfolding closed_from
part_stop first rest h = go (is_open (token_at (first ∷ rest))) _ h
  where
    go : (c : Bool) (x : List ℕ) → c ≡ true → cond c [] x ≡ []
    go true x e = refl
    go false x e = cc

part_go : (first : ℕ) (rest : List ℕ) → is_open (token_at (first ∷ rest)) ≡ false
    → closed_from 0 (first ∷ rest) ≡ first ∷ closed_from (token_size (token_at (first ∷ rest)) - 1) rest
unfolding closed_from
part_go first rest h = go (is_open (token_at (first ∷ rest))) _ h
  where
    go : (c : Bool) (x : List ℕ) → c ≡ false → cond c [] x ≡ x
    go true x e = cc
    go false x e = refl

no_tokens : tokens_from 0 [] ≡ []
unfolding tokens_from
no_tokens = refl

tokens_next : (first : ℕ) (rest : List ℕ) → tokens_from 0 (first ∷ rest) ≡ token_at (first ∷ rest) ∷ tokens_from (token_size (token_at (first ∷ rest)) - 1) rest
unfolding tokens_from
tokens_next first rest = refl

open_longer : (first : ℕ) (rest more : List ℕ) → is_open (token_at (first ∷ rest)) ≡ false → is_open (token_at (first ∷ rest ++ more)) ≡ false
open_longer first rest more h = ap is_open (token_longer first rest more h) ∙ h

closed_case : (first : ℕ) (rest piece : List ℕ) (c : Bool) → is_open (token_at (first ∷ rest)) ≡ c
    → ((k : ℕ) → k ≤ length rest → closed_tokens_from k (rest ++ piece) ≡ closed_tokens_from k rest ++ closed_tokens_from 0 (open_from k rest ++ piece))
    → closed_tokens_from 0 (first ∷ rest ++ piece) ≡ closed_tokens_from 0 (first ∷ rest) ++ closed_tokens_from 0 (open_from 0 (first ∷ rest) ++ piece)
closed_case first rest piece true h ih =
    sym (ap (λ (ts : List Token). ts ++ closed_tokens_from 0 (open_from 0 (first ∷ rest) ++ piece)) (closed_stop first rest h)
    ∙ ap (λ (p : List ℕ). closed_tokens_from 0 (p ++ piece)) (open_stop first rest h))
closed_case first rest piece false h ih =
    closed_go first (rest ++ piece) (open_longer first rest piece h)
    ∙ ap (λ (t : Token). t ∷ closed_tokens_from (token_size t - 1) (rest ++ piece)) (token_longer first rest piece h)
    ∙ ap (λ (ts : List Token). token_at (first ∷ rest) ∷ ts) (ih (token_size (token_at (first ∷ rest)) - 1) (omega (arith, token_within first rest)))
    ∙ sym (ap (λ (ts : List Token). ts ++ closed_tokens_from 0 (open_from 0 (first ∷ rest) ++ piece)) (closed_go first rest h)
    ∙ ap (λ (p : List ℕ). (token_at (first ∷ rest) ∷ closed_tokens_from (token_size (token_at (first ∷ rest)) - 1) rest) ++ closed_tokens_from 0 (p ++ piece)) (open_go first rest h))

open_case : (first : ℕ) (rest piece : List ℕ) (c : Bool) → is_open (token_at (first ∷ rest)) ≡ c
    → ((k : ℕ) → k ≤ length rest → open_from k (rest ++ piece) ≡ open_from 0 (open_from k rest ++ piece))
    → open_from 0 (first ∷ rest ++ piece) ≡ open_from 0 (open_from 0 (first ∷ rest) ++ piece)
open_case first rest piece true h ih = sym (ap (λ (p : List ℕ). open_from 0 (p ++ piece)) (open_stop first rest h))
open_case first rest piece false h ih =
    open_go first (rest ++ piece) (open_longer first rest piece h)
    ∙ ap (λ (t : Token). open_from (token_size t - 1) (rest ++ piece)) (token_longer first rest piece h)
    ∙ ih (token_size (token_at (first ∷ rest)) - 1) (omega (arith, token_within first rest))
    ∙ sym (ap (λ (p : List ℕ). open_from 0 (p ++ piece)) (open_go first rest h))

-- what is open stays to be read; what is closed stays as it is
pub closed_append : (skip : ℕ) (path piece : List ℕ) → skip ≤ length path
    → closed_tokens_from skip (path ++ piece) ≡ closed_tokens_from skip path ++ closed_tokens_from 0 (open_from skip path ++ piece)
unfolding closed_tokens_from open_from
closed_append zero [] piece h = refl
closed_append (suc skip) [] piece h = absurd (omega arith)
closed_append (suc skip) (first ∷ rest) piece h = closed_append skip rest piece (omega arith)
closed_append zero (first ∷ rest) piece h = closed_case first rest piece (is_open (token_at (first ∷ rest))) refl (λ k l. closed_append k rest piece l)

pub open_append : (skip : ℕ) (path piece : List ℕ) → skip ≤ length path
    → open_from skip (path ++ piece) ≡ open_from 0 (open_from skip path ++ piece)
unfolding open_from
open_append zero [] piece h = refl
open_append (suc skip) [] piece h = absurd (omega arith)
open_append (suc skip) (first ∷ rest) piece h = open_append skip rest piece (omega arith)
open_append zero (first ∷ rest) piece h = open_case first rest piece (is_open (token_at (first ∷ rest))) refl (λ k l. open_append k rest piece l)

-- the closed part and the rest are the path
whole_case : (first : ℕ) (rest : List ℕ) (c : Bool) → is_open (token_at (first ∷ rest)) ≡ c
    → ((k : ℕ) → closed_from k rest ++ open_from k rest ≡ rest)
    → closed_from 0 (first ∷ rest) ++ open_from 0 (first ∷ rest) ≡ first ∷ rest
unfolding closed_from open_from
whole_case first rest c e ih = go (is_open (token_at (first ∷ rest))) (ih (token_size (token_at (first ∷ rest)) - 1))
  where
    go : (d : Bool) → closed_from (token_size (token_at (first ∷ rest)) - 1) rest ++ open_from (token_size (token_at (first ∷ rest)) - 1) rest ≡ rest
        → cond d [] (first ∷ closed_from (token_size (token_at (first ∷ rest)) - 1) rest) ++ cond d (first ∷ rest) (open_from (token_size (token_at (first ∷ rest)) - 1) rest) ≡ first ∷ rest
    go true h = refl
    go false h = ap (λ (l : List ℕ). first ∷ l) h

pub closed_whole : (skip : ℕ) (path : List ℕ) → closed_from skip path ++ open_from skip path ≡ path
unfolding closed_from open_from
closed_whole skip [] = refl
closed_whole (suc skip) (first ∷ rest) = ap (λ (l : List ℕ). first ∷ l) (closed_whole skip rest)
closed_whole zero (first ∷ rest) = whole_case first rest (is_open (token_at (first ∷ rest))) refl (λ k. closed_whole k rest)

pub part_and_rest : (path : List ℕ) → closed_part path ++ open_part path ≡ path
part_and_rest path = closed_whole 0 path

-- the bytes that belong to a token already cut are all there, and then the closed part goes on
closed_skipped_bytes : (skip : ℕ) (path : List ℕ) → closed_from skip path ≡ take skip path ++ closed_from 0 (drop skip path)
unfolding closed_from
closed_skipped_bytes zero path = refl
closed_skipped_bytes (suc skip) [] = refl
closed_skipped_bytes (suc skip) (first ∷ rest) = ap (λ (l : List ℕ). first ∷ l) (closed_skipped_bytes skip rest)

-- a closed bracket is the same bracket in its own bytes
bracket_of_some : (start : ℕ) (inverted : Bool) (o : Option Items) (b : Bracket) → bracket_of start inverted o ≡ Some b
    → (i : Items) × (o ≡ Some i) × (b.size ≡ start + i.size)
bracket_of_some start inverted None b h = cc
bracket_of_some start inverted (Some i) b h = (i, refl, own_size _ b h)
  where
    own_size : (x y : Bracket) → Some x ≡ Some y → y.size ≡ x.size
    own_size x y e = cc

-- the beginning of a text that holds its bracket
pub record BracketFront (text : List ℕ) (b : Bracket) : Type 0 where
  pub front : List ℕ
  pub rest : List ℕ
  pub whole : text ≡ front ++ rest
  pub size : length front ≡ b.size
  pub same : bracket_at front ≡ Some b

inverted_front : (first mark : ℕ) (rest : List ℕ) (b : Bracket) → first ≡ 91 → is_inversion mark ≡ true
    → bracket_of 2 true (items_from true 0 rest) ≡ Some b → BracketFront (first ∷ mark ∷ rest) b
unfolding bracket_at
inverted_front first mark rest b e i h =
    let o : (j : Items) × (items_from true 0 rest ≡ Some j) × (b.size ≡ 2 + j.size) = bracket_of_some 2 true _ b h in
    let r : ItemsFront true 0 rest o.0 = items_shorter true 0 rest o.0 o.1 in
    record {
      front = first ∷ mark ∷ r.front;
      rest = r.rest;
      whole = ap (λ (l : List ℕ). first ∷ mark ∷ l) r.whole;
      size = omega (arith, r.size, o.2);
      same = pick (first == 91) (is_inversion mark) _ _ (eq-eqb first 91 e) i ∙ ap (bracket_of 2 true) (r.same ∙ sym o.1) ∙ h;
    }
  where
    pick : (c d : Bool) (x y : Option Bracket) → c ≡ true → d ≡ true → cond c (cond d x y) None ≡ x
    pick true true x y e f = refl
    pick true false x y e f = cc
    pick false d x y e f = cc

upright_front : (first mark : ℕ) (rest : List ℕ) (b : Bracket) → first ≡ 91 → is_inversion mark ≡ false
    → bracket_of 1 false (items_from true 0 (mark ∷ rest)) ≡ Some b → BracketFront (first ∷ mark ∷ rest) b
unfolding bracket_at items_from
upright_front first mark rest b e i h =
    let o : (j : Items) × (items_from true 0 (mark ∷ rest) ≡ Some j) × (b.size ≡ 1 + j.size) = bracket_of_some 1 false _ b h in
    let r : ItemsFront true 0 (mark ∷ rest) o.0 = items_shorter true 0 (mark ∷ rest) o.0 o.1 in
    go r.front r.rest r.whole (omega (arith, r.size, o.2)) (ap (bracket_of 1 false) (r.same ∙ sym o.1) ∙ h)
  where
    pick : (c d : Bool) (x y : Option Bracket) → c ≡ true → d ≡ false → cond c (cond d x y) None ≡ y
    pick true false x y e f = refl
    pick true true x y e f = cc
    pick false d x y e f = cc

    go : (front left : List ℕ) → mark ∷ rest ≡ front ++ left → length front + 1 ≡ b.size → bracket_of 1 false (items_from true 0 front) ≡ Some b → BracketFront (first ∷ mark ∷ rest) b
    go [] left w s m = cc
    go (x ∷ front) left w s m =
        let q : mark ≡ x = cc in
        record {
          front = first ∷ x ∷ front;
          rest = left;
          whole = ap (λ (l : List ℕ). first ∷ l) w;
          size = omega (arith, s);
          same = pick (first == 91) (is_inversion x) _ _ (eq-eqb first 91 e) (ap is_inversion (sym q) ∙ i) ∙ m;
        }

pub bracket_shorter : (text : List ℕ) (b : Bracket) → bracket_at text ≡ Some b → BracketFront text b
unfolding bracket_at
bracket_shorter [] b h = cc
bracket_shorter (first ∷ []) b h = cc
bracket_shorter (first ∷ mark ∷ rest) b h = elim (cases_eq first 91) [
  | inr n ↦ absurd (no (first == 91) _ (ne_eqb first 91 n) h)
  | inl e ↦ which (is_inversion mark) refl (yes (first == 91) _ (eq-eqb first 91 e) h) e
]
  where
    no : (c : Bool) (x : Option Bracket) → c ≡ false → cond c x None ≡ Some b → ⊥
    no true x e h = cc
    no false x e h = cc

    yes : (c : Bool) (x : Option Bracket) → c ≡ true → cond c x None ≡ Some b → x ≡ Some b
    yes true x e h = h
    yes false x e h = cc

    which : (d : Bool) → is_inversion mark ≡ d → cond (is_inversion mark) (bracket_of 2 true (items_from true 0 rest)) (bracket_of 1 false (items_from true 0 (mark ∷ rest))) ≡ Some b → first ≡ 91 → BracketFront (first ∷ mark ∷ rest) b
    which true i h e = inverted_front first mark rest b e i (ap (λ (d : Bool). cond d (bracket_of 2 true (items_from true 0 rest)) (bracket_of 1 false (items_from true 0 (mark ∷ rest)))) (sym i) ∙ h)
    which false i h e = upright_front first mark rest b e i (ap (λ (d : Bool). cond d (bracket_of 2 true (items_from true 0 rest)) (bracket_of 1 false (items_from true 0 (mark ∷ rest)))) (sym i) ∙ h)

-- and in every text that begins with them
bracket_in : (text more : List ℕ) (b : Bracket) → bracket_at text ≡ Some b → bracket_at (take b.size text ++ more) ≡ Some b
bracket_in text more b h =
    let r : BracketFront text b = bracket_shorter text b h in
    let f : take b.size text ≡ r.front = ap (take b.size) r.whole ∙ take_at r.front r.rest b.size r.size in
    bracket_longer (take b.size text) more b (ap bracket_at f ∙ r.same)

-- a token that isn't an open `[` is the same token in every text that begins with its bytes
token_in : (first : ℕ) (rest more : List ℕ) → is_open (token_at (first ∷ rest)) ≡ false
    → token_at (first ∷ take (token_size (token_at (first ∷ rest)) - 1) rest ++ more) ≡ token_at (first ∷ rest)
token_in first rest more h = elim (cases_eq first 42) [
  | inl e ↦ star_at _ e ∙ sym (star_at (first ∷ rest) e)
  | inr s ↦ elim (cases_eq first 63) [
    | inl e ↦ token_one _ e ∙ sym (token_one (first ∷ rest) e)
    | inr o ↦ elim (cases_eq first 91) [
      | inl e ↦
          let t : token_at (first ∷ rest) ≡ bracket_or_byte (bracket_at (first ∷ rest)) = token_bracket_or (first ∷ rest) e in
          token_bracket_or _ e
          ∙ go (bracket_at (first ∷ rest)) refl t (ap is_open (sym t) ∙ h)
          ∙ sym t
      | inr b ↦ token_byte _ (omega arith) s o b ∙ sym (token_byte (first ∷ rest) (omega arith) s o b)
    ]
  ]
]
  where
    take_less : (n first : ℕ) (rest : List ℕ) → 0 < n → take n (first ∷ rest) ≡ first ∷ take (n - 1) rest
    take_less zero first rest h = absurd (omega arith)
    take_less (suc n) first rest h = ap (λ (k : ℕ). first ∷ take k rest) (omega arith)

    go : (o : Option Bracket) → bracket_at (first ∷ rest) ≡ o → token_at (first ∷ rest) ≡ bracket_or_byte o → is_open (bracket_or_byte o) ≡ false
        → bracket_or_byte (bracket_at (first ∷ take (token_size (token_at (first ∷ rest)) - 1) rest ++ more)) ≡ bracket_or_byte o
    go None e t k = cc
    go (Some b) e t k =
        let z : token_size (token_at (first ∷ rest)) ≡ b.size = ap token_size t in
        let w : take b.size (first ∷ rest) ≡ first ∷ take (token_size (token_at (first ∷ rest)) - 1) rest =
        take_less b.size first rest (omega (arith, z, token_long (first ∷ rest))) ∙ ap (λ (n : ℕ). first ∷ take (n - 1) rest) (sym z) in
        ap (λ (l : List ℕ). bracket_or_byte (bracket_at (l ++ more))) (sym w) ∙ ap bracket_or_byte (bracket_in (first ∷ rest) more b e)

-- the closed part, cut again, has exactly the tokens before the first open `[`
cut_case : (first : ℕ) (rest : List ℕ) (c : Bool) → is_open (token_at (first ∷ rest)) ≡ c
    → ((k : ℕ) → tokens_from k (closed_from k rest) ≡ closed_tokens_from k rest)
    → tokens_from 0 (closed_from 0 (first ∷ rest)) ≡ closed_tokens_from 0 (first ∷ rest)
cut_case first rest true e ih = ap (tokens_from 0) (part_stop first rest e) ∙ no_tokens ∙ sym (closed_stop first rest e)
cut_case first rest false e ih =
    let k : ℕ = token_size (token_at (first ∷ rest)) - 1 in
    let t : token_at (first ∷ closed_from k rest) ≡ token_at (first ∷ rest) =
    ap (λ (l : List ℕ). token_at (first ∷ l)) (closed_skipped_bytes k rest) ∙ token_in first rest (closed_from 0 (drop k rest)) e in
    ap (tokens_from 0) (part_go first rest e)
    ∙ tokens_next first (closed_from k rest)
    ∙ ap (λ (u : Token). u ∷ tokens_from (token_size u - 1) (closed_from k rest)) t
    ∙ ap (λ (ts : List Token). token_at (first ∷ rest) ∷ ts) (ih k)
    ∙ sym (closed_go first rest e)

pub cut_alike : (skip : ℕ) (path : List ℕ) → tokens_from skip (closed_from skip path) ≡ closed_tokens_from skip path
unfolding closed_from closed_tokens_from tokens_from
cut_alike skip [] = refl
cut_alike (suc skip) (first ∷ rest) = cut_alike skip rest
cut_alike zero (first ∷ rest) = cut_case first rest (is_open (token_at (first ∷ rest))) refl (λ k. cut_alike k rest)

pub closed_cut : (path : List ℕ) → tokens (closed_part path) ≡ closed_tokens path
closed_cut path = cut_alike 0 path

-- the same tokens, taken from those of the path
while_goes : (p : Token → Bool) (t : Token) (ts : List Token) → p t ≡ true → take_while p (t ∷ ts) ≡ t ∷ take_while p ts
while_goes p t ts e =
    ap (λ (c : Bool). take (cond c (1 + prefix_len p ts) 0) (t ∷ ts)) e ∙ ap (λ (n : ℕ). take n (t ∷ ts)) (one_more (prefix_len p ts))
  where
    one_more : (n : ℕ) → 1 + n ≡ suc n
    one_more n = omega arith

while_stops : (p : Token → Bool) (t : Token) (ts : List Token) → p t ≡ false → take_while p (t ∷ ts) ≡ []
while_stops p t ts e = ap (λ (c : Bool). take (cond c (1 + prefix_len p ts) 0) (t ∷ ts)) e

while_case : (first : ℕ) (rest : List ℕ) (c : Bool) → is_open (token_at (first ∷ rest)) ≡ c
    → ((k : ℕ) → closed_tokens_from k rest ≡ take_while (λ t. not (is_open t)) (tokens_from k rest))
    → closed_tokens_from 0 (first ∷ rest) ≡ take_while (λ t. not (is_open t)) (token_at (first ∷ rest) ∷ tokens_from (token_size (token_at (first ∷ rest)) - 1) rest)
while_case first rest true e ih = closed_stop first rest e ∙ sym (while_stops (λ t. not (is_open t)) (token_at (first ∷ rest)) (tokens_from (token_size (token_at (first ∷ rest)) - 1) rest) (ap not e))
while_case first rest false e ih =
    closed_go first rest e
    ∙ ap (λ (ts : List Token). token_at (first ∷ rest) ∷ ts) (ih (token_size (token_at (first ∷ rest)) - 1))
    ∙ sym (while_goes (λ t. not (is_open t)) (token_at (first ∷ rest)) (tokens_from (token_size (token_at (first ∷ rest)) - 1) rest) (ap not e))

closed_while : (skip : ℕ) (path : List ℕ) → closed_tokens_from skip path ≡ take_while (λ t. not (is_open t)) (tokens_from skip path)
unfolding closed_tokens_from tokens_from
closed_while skip [] = refl
closed_while (suc skip) (first ∷ rest) = closed_while skip rest
closed_while zero (first ∷ rest) = while_case first rest (is_open (token_at (first ∷ rest))) refl (λ k. closed_while k rest)

pub closed_is_cut_alike : (path : List ℕ) → tokens (closed_part path) ≡ take_while (λ t. not (is_open t)) (tokens path)
closed_is_cut_alike path = closed_cut path ∙ closed_while 0 path

-- whether a token is open, by what was read
pub closed_token : (text : List ℕ) (found : Part) → get_or text 0 0 ≡ 91 → Some found ≡ option_map (bracket_part 0) (bracket_at text)
    → (is_open (token_at text) ≡ false) × (found.size ≡ token_size (token_at text))
closed_token text found e q = (ap is_open (token_bracket_or text e) ∙ (go (bracket_at text) q).0, (go (bracket_at text) q).1 ∙ ap token_size (sym (token_bracket_or text e)))
  where
    go : (o : Option Bracket) → Some found ≡ option_map (bracket_part 0) o → (is_open (bracket_or_byte o) ≡ false) × (found.size ≡ token_size (bracket_or_byte o))
    go None q = cc
    go (Some b) q = (refl, own_size found (bracket_part 0 b) q)
      where
        own_size : (x y : Part) → Some x ≡ Some y → x.size ≡ y.size
        own_size x y e = cc

pub open_token : (text : List ℕ) → get_or text 0 0 ≡ 91 → None ≡ option_map (bracket_part 0) (bracket_at text) → is_open (token_at text) ≡ true
open_token text e q = ap is_open (token_bracket_or text e) ∙ go (bracket_at text) q
  where
    go : (o : Option Bracket) → None ≡ option_map (bracket_part 0) o → is_open (bracket_or_byte o) ≡ true
    go None q = refl
    go (Some b) q = cc

pub other_token : (text : List ℕ) → 0 < length text → (get_or text 0 0 ≡ 91 → ⊥) → (is_open (token_at text) ≡ false) × (1 ≡ token_size (token_at text))
other_token text h b = elim (cases_eq (get_or text 0 0) 42) [
  | inl e ↦ (ap is_open (star_at text e), sym (ap token_size (star_at text e)))
  | inr s ↦ elim (cases_eq (get_or text 0 0) 63) [
    | inl e ↦ (ap is_open (token_one text e), sym (ap token_size (token_one text e)))
    | inr o ↦ (ap is_open (token_byte text h s o b) ∙ ne_eqb (get_or text 0 0) 91 b, sym (ap token_size (token_byte text h s o b)))
  ]
]

open_skipped : (skip : ℕ) (text : List ℕ) → open_from skip text ≡ open_from 0 (drop skip text)
unfolding open_from
open_skipped zero text = refl
open_skipped (suc skip) [] = refl
open_skipped (suc skip) (first ∷ rest) = open_skipped skip rest

take_less : (n first : ℕ) (rest : List ℕ) → 0 < n → first ∷ take (n - 1) rest ≡ take n (first ∷ rest)
take_less zero first rest h = absurd (omega arith)
take_less (suc n) first rest h = ap (λ (k : ℕ). first ∷ take k rest) (omega arith)

part_first : (text : List ℕ) (size : ℕ) → 0 < length text → is_open (token_at text) ≡ false → size ≡ token_size (token_at text)
    → closed_part text ≡ take size text ++ closed_part (drop size text)
part_first [] size h o e = absurd (omega arith)
part_first (first ∷ rest) size h o e =
    let z : 0 < size = omega (arith, token_long (first ∷ rest)) in
    part_go first rest o
    ∙ ap (λ (n : ℕ). first ∷ closed_from (n - 1) rest) (sym e)
    ∙ ap (λ (l : List ℕ). first ∷ l) (closed_skipped_bytes (size - 1) rest)
    ∙ ap (λ (l : List ℕ). l ++ closed_from 0 (drop (size - 1) rest)) (take_less size first rest z)
    ∙ ap (λ (l : List ℕ). take size (first ∷ rest) ++ closed_from 0 l) (drop_less size first rest z)

open_first : (text : List ℕ) (size : ℕ) → 0 < length text → is_open (token_at text) ≡ false → size ≡ token_size (token_at text)
    → open_part text ≡ open_part (drop size text)
open_first [] size h o e = absurd (omega arith)
open_first (first ∷ rest) size h o e =
    let z : 0 < size = omega (arith, token_long (first ∷ rest)) in
    open_go first rest o
    ∙ ap (λ (n : ℕ). open_from (n - 1) rest) (sym e)
    ∙ open_skipped (size - 1) rest
    ∙ ap open_part (drop_less size first rest z)

-- no `[` before a place is open
pub record ClosedTo (text : List ℕ) (at : ℕ) : Type 0 where
  pub before : closed_part text ≡ take at text ++ closed_part (drop at text)
  pub behind : open_part text ≡ open_part (drop at text)

pub closed_start : (text : List ℕ) → ClosedTo text 0
closed_start text = record { before = refl; behind = refl }

pub closed_step : (text rest : List ℕ) (at size : ℕ) → rest ≡ drop at text → at < length text
    → (is_open (token_at rest) ≡ false) × (size ≡ token_size (token_at rest)) → ClosedTo text at → ClosedTo text (at + size)
closed_step text rest at size r h t c =
    let k : 0 < length rest = omega (arith, ap length r, length-drop at text) in
    let d : drop size rest ≡ drop (at + size) text = ap (drop size) r ∙ drop-drop size at text in
    record {
      before =
          c.before ∙ ap (λ (l : List ℕ). take at text ++ closed_part l) (sym r)
          ∙ ap (λ (l : List ℕ). take at text ++ l) (part_first rest size k t.0 t.1)
          ∙ sym (append_assoc (take at text) (take size rest) (closed_part (drop size rest)))
          ∙ ap (λ (l : List ℕ). l ++ closed_part (drop size rest)) (ap (λ (l : List ℕ). take at text ++ take size l) r ∙ sym (take-add at size text))
          ∙ ap (λ (l : List ℕ). take (at + size) text ++ closed_part l) d;
      behind = c.behind ∙ ap open_part (sym r) ∙ open_first rest size k t.0 t.1 ∙ ap open_part d;
    }

-- bytes that aren't `[` are closed
pub closed_run : (text : List ℕ) (at n : ℕ) → at + n ≤ length text → ((k : ℕ) → k < n → get_or text (at + k) 0 ≡ 91 → ⊥) → ClosedTo text at → ClosedTo text (at + n)
closed_run text at zero h none c = subst (ClosedTo text) (omega arith) c
closed_run text at (suc n) h none c =
    let rest : List ℕ = drop at text in
    let some : 0 < length rest = omega (arith, h, length-drop at text) in
    let first : get_or rest 0 0 ≡ get_or text (at + 0) 0 = get_or-drop at text 0 0 in
    let e : (at + 1) + n ≡ at + suc n = omega arith in
    subst (ClosedTo text) e
    (closed_run text (at + 1) n (omega arith)
    (λ k l f. none (suc k) (omega arith) (ap (λ i. get_or text i 0) (omega arith) ∙ f))
    (closed_step text rest at 1 refl (omega arith) (other_token rest some (λ f. none 0 (omega arith) (sym first ∙ f))) c))

stop_text : (text : List ℕ) → 0 < length text → is_open (token_at text) ≡ true → (closed_part text ≡ []) × (open_part text ≡ text)
stop_text [] h o = absurd (omega arith)
stop_text (first ∷ rest) h o = (part_stop first rest o, open_stop first rest o)

pub closed_stops : (text rest : List ℕ) (at : ℕ) → rest ≡ drop at text → at < length text → is_open (token_at rest) ≡ true → ClosedTo text at
    → (take at text ≡ closed_part text) × (drop at text ≡ open_part text)
closed_stops text rest at r h o c =
    let s : (closed_part (drop at text) ≡ []) × (open_part (drop at text) ≡ drop at text) =
    stop_text (drop at text) (omega (arith, length-drop at text)) (ap (λ (l : List ℕ). is_open (token_at l)) (sym r) ∙ o) in (
      sym (c.before ∙ ap (λ (l : List ℕ). take at text ++ l) s.0 ∙ append-nil (take at text)),
      sym (c.behind ∙ s.1),
    )

pub closed_ends : (text : List ℕ) (at : ℕ) → length text ≤ at → ClosedTo text at
    → (take at text ≡ closed_part text) × (drop at text ≡ open_part text)
unfolding closed_from open_from
closed_ends text at h c =
    let z : drop at text ≡ [] = drop_all at text h in (
      sym (c.before ∙ ap (λ (l : List ℕ). take at text ++ closed_part l) z ∙ append-nil (take at text)),
      z ∙ sym (c.behind ∙ ap open_part z),
    )

-- the first byte of what is left, as the code takes it
pub first_of_rest : (text : List ℕ) (at : ℕ) → get_or text at 0 ≡ 91 → get_or (take (length text - at) (drop at text)) 0 0 ≡ 91
first_of_rest text at e =
    ap (λ (l : List ℕ). get_or l 0 0) (take_rest text at) ∙ get_or-drop at text 0 0 ∙ ap (λ (k : ℕ). get_or text k 0) (omega arith) ∙ e

pub back_of_rest : (text : List ℕ) (at : ℕ) → get_or (take (length text - at) (drop at text)) 0 0 ≡ 91 → get_or text at 0 ≡ 91
back_of_rest text at e =
    sym (ap (λ (l : List ℕ). get_or l 0 0) (take_rest text at) ∙ get_or-drop at text 0 0 ∙ ap (λ (k : ℕ). get_or text k 0) (omega arith)) ∙ e
