-- A text spells one position at most, and the canonical text of a position spells it.
use Rattle.std.proofs.Common.{◌≡◌, ◌∙◌, ℕ, ◌<◌, ◌^◌, ap, sym, refl, arith, List, [], ◌∷◌, ◌++◌, suc, length}
use Rattle.std.specs.Fmt.{decimal}
use Rattle.std.proofs.lemmas.Fmt.{decimal_injective}
use Rattle.hex.specs.Hex.{decode_of, encode_lower}
use Rattle.hex.proofs.HexLemmas.{decode_of-same, decode_of-encode_lower}
use Rattle.hwdb_query.specs.Laws.{SpellsOne, CanonicalSpells}
use Rattle.hwdb_query.proofs.NumberLemmas.{NoColon, no_colon_decimal, no_colon_hex}

-- a text without a colon ends at the first colon
cut_once : (xs ys us vs : List ℕ) → NoColon xs → NoColon us → xs ++ 58 ∷ ys ≡ us ++ 58 ∷ vs → (xs ≡ us) × (ys ≡ vs)
cut_once [] ys [] vs n m e = (refl, cc)
cut_once [] ys (u ∷ us) vs n m e = let lt : 0 < length (u ∷ us) = omega arith in let colon : u ≡ 58 = cc in absurd (m 0 lt colon)
cut_once (x ∷ xs) ys [] vs n m e = let lt : 0 < length (x ∷ xs) = omega arith in let colon : x ≡ 58 = cc in absurd (n 0 lt colon)
cut_once (x ∷ xs) ys (u ∷ us) vs n m e =
    let head : x ≡ u = cc in
    let tail : xs ++ 58 ∷ ys ≡ us ++ 58 ∷ vs = cc in
    let again = cut_once xs ys us vs (λ i lt. n (suc i) (omega arith)) (λ i lt. m (suc i) (omega arith)) tail in
    let first : xs ≡ us = again.0 in
    (cc, again.1)

pub spells_one : SpellsOne
spells_one p q bytes sp sq =
    let pa : p.priority < 2 ^ 64 = omega (arith, sp.priority) in
    let pb : p.line < 2 ^ 64 = omega (arith, sp.line) in
    let qa : q.priority < 2 ^ 64 = omega (arith, sq.priority) in
    let qb : q.line < 2 ^ 64 = omega (arith, sq.line) in
    let first = cut_once (decimal p.priority) _ (decimal q.priority) _ (no_colon_decimal p.priority pa) (no_colon_decimal q.priority qa) (sym sp.text ∙ sq.text) in
    let second = cut_once (decimal p.line) _ (decimal q.line) _ (no_colon_decimal p.line pb) (no_colon_decimal q.line qb) first.1 in
    let third = cut_once sp.pattern_text _ sq.pattern_text _ (no_colon_hex sp.pattern_text p.pattern sp.pattern) (no_colon_hex sq.pattern_text q.pattern sq.pattern) second.1 in
    let priority : p.priority ≡ q.priority = decimal_injective p.priority q.priority pa qa first.0 in
    let line : p.line ≡ q.line = decimal_injective p.line q.line pb qb second.0 in
    let pattern : p.pattern ≡ q.pattern = decode_of-same sp.pattern_text p.pattern q.pattern sp.pattern (ap decode_of third.0 ∙ sq.pattern) in
    let key : p.key ≡ q.key = decode_of-same sp.key_text p.key q.key sp.key (ap decode_of third.1 ∙ sq.key) in
    λ i. record { priority = priority i; line = line i; pattern = pattern i; key = key i }

pub canonical_spells : CanonicalSpells
canonical_spells p is =
    record {
      pattern_text = encode_lower p.pattern;
      key_text = encode_lower p.key;
      priority = is.priority;
      line = is.line;
      pattern = decode_of-encode_lower p.pattern is.pattern;
      key = decode_of-encode_lower p.key is.key;
      text = refl;
    }
