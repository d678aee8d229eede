-- Texts, one piece after the other.
use Rattle.std.proofs.Common.{◌≡◌, ℕ, Bool, true, false, List, [], ◌∷◌, ◌++◌, refl, sym, ap, ◌∙◌, Option, Some, None, append_assoc}
use Rattle.std.specs.Prelude.{if◌then◌else◌}
use Rattle.hwdb_rulefiles.specs.Escapes.{onto}
use Rattle.hwdb_ruleevents.specs.Internal.{if_known}
use Rattle.hwdb_ruleevents.specs.Pieces.{Piece}
use Rattle.hwdb_ruleevents.specs.Texts.{Meaning, all_digits, joined, last_digits, piece_text, text_of}

onto_onto : (a b : List ℕ) (x : Option (List ℕ)) → onto (a ++ b) x ≡ onto a (onto b x)
onto_onto a b None = refl
onto_onto a b (Some l) = ap Some (append_assoc a b l)

one_text : (known : Bool) (old new : List ℕ) (text rest : Option (List ℕ)) → known ≡ true → if_known known new ≡ onto old text
    → onto new rest ≡ onto old (joined text rest)
one_text true old new None rest h e = absurd (cc)
one_text true old new (Some t) rest h e = ap (λ (x : List ℕ). onto x rest) (inject e) ∙ onto_onto old t rest
  where
    of : Option (List ℕ) → List ℕ
    of None = []
    of (Some x) = x

    inject : Some new ≡ Some (old ++ t) → new ≡ old ++ t
    inject e = ap of e
one_text false old new text rest h e = absurd (cc)

-- one more piece whose text is known
pub one_piece : (m : Meaning) (known : Bool) (old new : List ℕ) (p : Piece) (more : List Piece) → known ≡ true
    → if_known known new ≡ onto old (piece_text m p) → onto new (text_of m more) ≡ onto old (text_of m (p ∷ more))
one_piece m known old new p more h e = one_text known old new (piece_text m p) (text_of m more) h e

-- digits at the end of a name
pub all_last : (rest : List ℕ) → all_digits rest ≡ true → rest ≡ last_digits rest
all_last [] h = refl
all_last (b ∷ rest) h = sym (ap (λ (c : Bool). if c then b ∷ rest else last_digits rest) h)
