-- What a list of tokens matches, token by token: the steps of the greedy search.
use Rattle.std.proofs.Common.{◌≡◌, ℕ, false, IsTrue, List, [], ◌∷◌, ◌++◌, refl, sym, ap, subst, ◌∙◌, ◌⊎◌, inl, inr, append_assoc}
use Rattle.hwdb_spec.specs.Forms.{is_star}
use Rattle.hwdb_spec.specs.Patterns.{Token, star, one, bracket, literal, admits_byte, Admits, Matches}

-- a piece of one byte, cut from a device
head_of : (x b : ℕ) (device piece rest : List ℕ) → x ∷ device ≡ piece ++ rest → piece ≡ b ∷ [] → b ≡ x
head_of x b device piece rest e p = let k : x ∷ device ≡ b ∷ rest = e ∙ ap (λ q. q ++ rest) p in cc

tail_of : (x b : ℕ) (device piece rest : List ℕ) → x ∷ device ≡ piece ++ rest → piece ≡ b ∷ [] → rest ≡ device
tail_of x b device piece rest e p = let k : x ∷ device ≡ b ∷ rest = e ∙ ap (λ q. q ++ rest) p in cc

no_head : (b : ℕ) (piece rest : List ℕ) → [] ≡ piece ++ rest → piece ≡ b ∷ [] → ⊥
no_head b piece rest e p = let k : [] ≡ b ∷ rest = e ∙ ap (λ q. q ++ rest) p in cc

-- one byte, then the rest
pub single : (t : Token) (ts : List Token) (x : ℕ) (device : List ℕ) → IsTrue (admits_byte t x) → Matches ts device → Matches (t ∷ ts) (x ∷ device)
single star ts x device a m = cc
single one ts x device a m = (x ∷ [], device, refl, (x, refl, a), m)
single (bracket b) ts x device a m = (x ∷ [], device, refl, (x, refl, a), m)
single (literal b) ts x device a m = (x ∷ [], device, refl, (x, refl, a), m)

pub one_byte : (t : Token) (piece : List ℕ) → is_star t ≡ false → Admits t piece → (b : ℕ) × (piece ≡ b ∷ []) × IsTrue (admits_byte t b)
one_byte star piece s a = cc
one_byte one piece s a = a
one_byte (bracket b) piece s a = a
one_byte (literal b) piece s a = a

pub single_admits : (t : Token) (ts : List Token) (x : ℕ) (device : List ℕ) → is_star t ≡ false → Matches (t ∷ ts) (x ∷ device) → IsTrue (admits_byte t x)
single_admits t ts x device s m =
    let a : (b : ℕ) × (m.0 ≡ b ∷ []) × IsTrue (admits_byte t b) = one_byte t m.0 s m.3 in
    subst (λ (b : ℕ). IsTrue (admits_byte t b)) (head_of x a.0 device m.0 m.1 m.2 a.1) a.2

pub single_rest : (t : Token) (ts : List Token) (x : ℕ) (device : List ℕ) → is_star t ≡ false → Matches (t ∷ ts) (x ∷ device) → Matches ts device
single_rest t ts x device s m =
    let a : (b : ℕ) × (m.0 ≡ b ∷ []) × IsTrue (admits_byte t b) = one_byte t m.0 s m.3 in
    subst (λ (d : List ℕ). Matches ts d) (tail_of x a.0 device m.0 m.1 m.2 a.1) m.4

pub single_empty : (t : Token) (ts : List Token) → is_star t ≡ false → Matches (t ∷ ts) [] → ⊥
single_empty t ts s m =
    let a : (b : ℕ) × (m.0 ≡ b ∷ []) × IsTrue (admits_byte t b) = one_byte t m.0 s m.3 in
    no_head a.0 m.0 m.1 m.2 a.1

-- a star takes nothing, or one more byte
pub star_nothing : (ts : List Token) (device : List ℕ) → Matches ts device → Matches (star ∷ ts) device
star_nothing ts device m = ([], device, refl, tt, m)

pub star_more : (ts : List Token) (x : ℕ) (device : List ℕ) → Matches (star ∷ ts) device → Matches (star ∷ ts) (x ∷ device)
star_more ts x device m = (x ∷ m.0, m.1, ap (λ d. x ∷ d) m.2, tt, m.4)

star_by : (ts : List Token) (device piece rest : List ℕ) → device ≡ piece ++ rest → Matches ts rest → Matches (star ∷ ts) device
star_by ts device piece rest e m = (piece, rest, e, tt, m)

star_cut : (ts : List Token) (x : ℕ) (device piece rest : List ℕ) → x ∷ device ≡ piece ++ rest → Matches ts rest → Matches ts (x ∷ device) ⊎ Matches (star ∷ ts) device
star_cut ts x device [] rest e m = inl (subst (λ (d : List ℕ). Matches ts d) (sym e) m)
star_cut ts x device (y ∷ piece) rest e m = let k : device ≡ piece ++ rest = cc in inr (star_by ts device piece rest k m)

pub star_step : (ts : List Token) (x : ℕ) (device : List ℕ) → Matches (star ∷ ts) (x ∷ device) → Matches ts (x ∷ device) ⊎ Matches (star ∷ ts) device
star_step ts x device m = star_cut ts x device m.0 m.1 m.2 m.4

star_cut_empty : (ts : List Token) (piece rest : List ℕ) → [] ≡ piece ++ rest → Matches ts rest → Matches ts []
star_cut_empty ts [] rest e m = subst (λ (d : List ℕ). Matches ts d) (sym e) m
star_cut_empty ts (y ∷ piece) rest e m = cc

pub star_empty : (ts : List Token) → Matches (star ∷ ts) [] → Matches ts []
star_empty ts m = star_cut_empty ts m.0 m.1 m.2 m.4

-- two stars match no more than one
pub star_star : (ts : List Token) (device : List ℕ) → Matches (star ∷ star ∷ ts) device → Matches (star ∷ ts) device
star_star ts device m =
    star_by ts device (m.0 ++ m.4.0) m.4.1 (m.2 ∙ ap (λ r. m.0 ++ r) m.4.2 ∙ sym (append_assoc m.0 m.4.0 m.4.1)) m.4.4

-- A star takes what a token after it took: so nothing is lost if the token takes the first byte.
pub star_absorbs : (t : Token) (ts : List Token) (x : ℕ) (device : List ℕ) → is_star t ≡ false → Matches (star ∷ t ∷ ts) (x ∷ device) → Matches (star ∷ ts) device
star_absorbs t ts x device s m = elim (star_step (t ∷ ts) x device m) [
  | inl here ↦ star_nothing ts device (single_rest t ts x device s here)
  | inr later ↦ star_over t ts device s later
]
  where
    star_over : (t : Token) (ts : List Token) (device : List ℕ) → is_star t ≡ false → Matches (star ∷ t ∷ ts) device → Matches (star ∷ ts) device
    star_over t ts device s m =
        let a : (b : ℕ) × (m.4.0 ≡ b ∷ []) × IsTrue (admits_byte t b) = one_byte t m.4.0 s m.4.3 in
        star_by ts device (m.0 ++ m.4.0) m.4.1 (m.2 ∙ ap (λ r. m.0 ++ r) m.4.2 ∙ sym (append_assoc m.0 m.4.0 m.4.1)) m.4.4
