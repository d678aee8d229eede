-- The texts of a pattern's tokens, joined again.
use Rattle.std.proofs.Common.{ℕ, zero, suc, ◌≤◌, List, [], ◌∷◌, take, drop, length, refl, sym, subst, arith}
use Rattle.std.proofs.lemmas.List.{take-append-drop, length-take-le, length-drop}
use Rattle.hwdb_spec.specs.Patterns.{Token, token_at, token_size, tokens}
use Rattle.hwdb_pattern.specs.Laws.{AreCutFrom, TokensAreThePattern}
use Rattle.hwdb_pattern.proofs.TokenLemmas.{first_token, no_tokens, token_long}
use Rattle.hwdb_pattern.proofs.LongerPathLemmas.{token_within}

cut_whole : (n : ℕ) (text : List ℕ) → length text ≤ n → AreCutFrom (tokens text) text
cut_whole n [] h = subst (λ (ts : List Token). AreCutFrom ts []) (sym no_tokens) refl
cut_whole zero (first ∷ rest) h = absurd (omega (arith, h))
cut_whole (suc n) (first ∷ rest) h =
    let text = first ∷ rest in
    let k = token_size (token_at text) in
    let within = token_within first rest in
    let long = token_long text in
    let left = length-drop k text in
    subst (λ (ts : List Token). AreCutFrom ts text) (sym (first_token text (omega arith))) (
      take k text,
      drop k text,
      sym (take-append-drop k text),
      refl,
      length-take-le k text (omega (arith, within)),
      cut_whole n (drop k text) (omega (arith, left, long, h)),
    )

pub tokens_are_the_pattern : TokensAreThePattern
tokens_are_the_pattern pattern = cut_whole (length pattern) pattern (omega arith)
