-- Tokens of a text don't go by a byte after it, unless that is a `]`, and a `[` is open.
use Rattle.std.proofs.Common.{◌≡◌, ℕ, ◌-◌, ◌≤◌, ◌==◌, ◌∙◌, Bool, true, false, List, [], ◌∷◌, ◌++◌, Option, None, Some, refl, sym, ap, arith, cond, inl, inr, length, suc, zero}
use Rattle.std.specs.List.{list_any}
use Rattle.std.specs.Option.{option_map_or}
use Rattle.std.proofs.lemmas.Bool.{cases_eq}
use Rattle.std.proofs.lemmas.List.{length-append}
use Rattle.hwdb_spec.specs.Patterns.{Bracket, Token, bracket, bracket_at, literal, one, star, token_at, token_size, tokens, tokens_from}
use Rattle.hwdb_spec.specs.Tree.{is_open}
use Rattle.hwdb_spec.specs.Lemmas.Truth.{or_neither}
use Rattle.hwdb_pattern.specs.Laws.{StaysClosed, TokensAreThePattern}
use Rattle.hwdb_forms.specs.Internal.{Stays}
use Rattle.hwdb_forms.proofs.OpenLemmas.{bracket_before}

some_kept : (o p : Option Bracket) → ((found : Bracket) → o ≡ Some found → p ≡ Some found) → is_open (option_map_or bracket o (literal 91)) ≡ false → option_map_or bracket p (literal 91) ≡ option_map_or bracket o (literal 91)
some_kept None p f e = cc
some_kept (Some found) p f e = ap (λ (q : Option Bracket). option_map_or bracket q (literal 91)) (f found refl)

by_first : (s o t : Bool) (x y : Token) (b : ℕ) → (is_open x ≡ false → y ≡ x) → is_open (cond s star (cond o one (cond t x (literal b)))) ≡ false
    → cond s star (cond o one (cond t y (literal b))) ≡ cond s star (cond o one (cond t x (literal b)))
by_first true o t x y b f e = refl
by_first false true t x y b f e = refl
by_first false false true x y b f e = f e
by_first false false false x y b f e = refl

-- the same token, whatever it is
same_first : (s o t : Bool) (x y : Token) (b : ℕ) → y ≡ x → cond s star (cond o one (cond t y (literal b))) ≡ cond s star (cond o one (cond t x (literal b)))
same_first s o t x y b e = ap (λ (z : Token). cond s star (cond o one (cond t z (literal b)))) e

module _ (stays : StaysClosed) (cut : TokensAreThePattern) where
  longer : (b : ℕ) (rest more : List ℕ) → is_open (token_at (b ∷ rest)) ≡ false → token_at (b ∷ rest ++ more) ≡ token_at (b ∷ rest)
  unfolding token_at
  longer b rest more e =
      by_first (b == 42) (b == 63) (b == 91) (option_map_or bracket (bracket_at (b ∷ rest)) (literal 91)) (option_map_or bracket (bracket_at (b ∷ rest ++ more)) (literal 91)) b
      (some_kept (bracket_at (b ∷ rest)) (bracket_at (b ∷ rest ++ more)) (λ found. stays (b ∷ rest) more found)) e

  same_bracket : (text : List ℕ) (byte : ℕ) → (byte ≡ 93 → ⊥) → (o : Option Bracket) → bracket_at text ≡ o → bracket_at (text ++ byte ∷ []) ≡ o
  same_bracket text byte n None e = bracket_before text byte n e
  same_bracket text byte n (Some found) e = stays text (byte ∷ []) found e

  one_longer : (b : ℕ) (rest : List ℕ) (byte : ℕ) → (byte ≡ 93 → ⊥) → token_at (b ∷ rest ++ byte ∷ []) ≡ token_at (b ∷ rest)
  unfolding token_at
  one_longer b rest byte n =
      same_first (b == 42) (b == 63) (b == 91) (option_map_or bracket (bracket_at (b ∷ rest)) (literal 91)) (option_map_or bracket (bracket_at (b ∷ rest ++ byte ∷ [])) (literal 91)) b
      (ap (λ (o : Option Bracket). option_map_or bracket o (literal 91)) (same_bracket (b ∷ rest) byte n (bracket_at (b ∷ rest)) refl))

  within : (b : ℕ) (rest : List ℕ) → token_size (token_at (b ∷ rest)) ≤ length (b ∷ rest)
  unfolding tokens_from
  within b rest = let parts = cut (b ∷ rest) in omega (arith, ap length parts.2 ∙ length-append parts.0 parts.1, parts.4)

  parted_open : (skip : ℕ) (text : List ℕ) (byte : ℕ) → (byte ≡ 93 → ⊥) → skip ≤ length text → tokens_from skip (text ++ byte ∷ []) ≡ tokens_from skip text ++ tokens (byte ∷ [])
  unfolding tokens_from
  parted_open zero [] byte n h = refl
  parted_open (suc k) [] byte n h = absurd (omega arith)
  parted_open (suc k) (b ∷ rest) byte n h = parted_open k rest byte n (omega arith)
  parted_open zero (b ∷ rest) byte n h =
      ap (λ (t : Token). t ∷ tokens_from (token_size t - 1) (rest ++ byte ∷ [])) (one_longer b rest byte n)
      ∙ ap (λ (ts : List Token). token_at (b ∷ rest) ∷ ts) (parted_open (token_size (token_at (b ∷ rest)) - 1) rest byte n (omega (arith, within b rest)))

  parted : (skip : ℕ) (text more : List ℕ) → skip ≤ length text → list_any is_open (tokens_from skip text) ≡ false → tokens_from skip (text ++ more) ≡ tokens_from skip text ++ tokens more
  unfolding tokens_from
  parted zero [] more h e = refl
  parted (suc n) [] more h e = absurd (omega arith)
  parted (suc n) (b ∷ rest) more h e = parted n rest more (omega arith) e
  parted zero (b ∷ rest) more h e =
      let each = or_neither (is_open (token_at (b ∷ rest))) (list_any is_open (tokens_from (token_size (token_at (b ∷ rest)) - 1) rest)) e in
      ap (λ (t : Token). t ∷ tokens_from (token_size t - 1) (rest ++ more)) (longer b rest more each.0)
      ∙ ap (λ (ts : List Token). token_at (b ∷ rest) ∷ ts) (parted (token_size (token_at (b ∷ rest)) - 1) rest more (omega (arith, within b rest)) each.1)

  pub kept_front : (front : List ℕ) (ts : List Token) (byte : ℕ) → ts ≡ tokens front → Stays front byte → tokens (front ++ byte ∷ []) ≡ ts ++ token_at (byte ∷ []) ∷ []
  unfolding tokens_from
  kept_front front ts byte e k =
      let whole : tokens (front ++ byte ∷ []) ≡ tokens front ++ tokens (byte ∷ []) = elim (cases_eq byte 93) [
        | inl same ↦ parted 0 front (byte ∷ []) (omega arith) (k same)
        | inr other ↦ parted_open 0 front byte other (omega arith)
      ] in
      whole ∙ ap (λ (l : List Token). l ++ token_at (byte ∷ []) ∷ []) (sym e)
