-- Tokens that are given by the texts that they begin.
use Rattle.std.proofs.Common.{◌≡◌, ℕ, ◌<◌, List, [], ◌∷◌, refl, sym, ap, subst, Bor, length, drop, get_or, suc, zero, arith}
use Rattle.std.proofs.Math.Seq.{drop-cons}
use Rattle.hwdb_spec.specs.Patterns.{Token, star, token_at}
use Rattle.hwdb_forms.specs.Internal.{views}

pub split : (ts : List Token) (at : ℕ) → at < length ts → drop at ts ≡ get_or ts at star ∷ drop (suc at) ts
split ts at h = drop-cons ts at star h

-- tokens that are given by the texts that they begin
pub views_length : (texts : List (Bor (List ℕ))) → length (views texts) ≡ length texts
views_length [] = refl
views_length (t ∷ texts) = ap suc (views_length texts)

-- what a place outside of a list of texts has
abbrev pub none : Bor (List ℕ)
none = record { ref_ptr = (0, 0); now = [] }

pub view_at : (texts : List (Bor (List ℕ))) (at : ℕ) → at < length texts → token_at (get_or texts at none).now ≡ get_or (views texts) at star
view_at [] at h = absurd (omega arith)
view_at (t ∷ texts) zero h = refl
view_at (t ∷ texts) (suc at) h = view_at texts at (omega arith)

pub below : (texts : List (Bor (List ℕ))) (at : ℕ) → at < length texts → at < length (views texts)
below texts at h = subst (λ (k : ℕ). at < k) (sym (views_length texts)) h
