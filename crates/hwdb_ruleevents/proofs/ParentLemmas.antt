-- The tokens before those about parents.
use Rattle.std.proofs.Common.{◌≡◌, ◌∙◌, ℕ, List, map, take, sym, ap}
use Rattle.std.proofs.lemmas.List.{take-map}
use Rattle.hwdb_rulefiles.specs.TokenViews.{token_of}
use Rattle.hwdb_rulefiles.specs.declared.tokens.Token.{Token}

pub first_some : (tokens result : List Token) (n m : ℕ) → n ≡ m → result ≡ take n tokens → map token_of result ≡ take m (map token_of tokens)
first_some tokens result n m e t = ap (map token_of) t ∙ sym (take-map token_of n tokens) ∙ ap (λ (k : ℕ). take k (map token_of tokens)) e
