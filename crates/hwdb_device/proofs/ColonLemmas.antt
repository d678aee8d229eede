-- Steps of the loops that look for a machine's vendor, and copy up to some colons.
use Rattle.std.proofs.Common.{◌≡◌, ◌∙◌, ◌<◌, ap, sym, refl, ℕ, zero, suc, ◌-◌, true, false, List, [], ◌∷◌, ◌++◌, length, append_assoc, append-nil, ◌==◌, arith, eq-eqb}
use Rattle.std.proofs.lemmas.Bool.{eqb-true}
use Rattle.hwdb_spec_commands.specs.DeviceRecords.{begins, from_first, up_to_colons}

-- ---- where a text is first

pub from_here : (wanted left : List ℕ) → begins wanted left ≡ true → from_first wanted left ≡ left
unfolding from_first
from_here wanted [] h = refl
from_here wanted (b ∷ rest) h = rw h refl

pub from_later : (wanted rest : List ℕ) (b : ℕ) → begins wanted (b ∷ rest) ≡ false → from_first wanted (b ∷ rest) ≡ from_first wanted rest
unfolding from_first
from_later wanted rest b h = rw h refl

pub from_end : (wanted left : List ℕ) → length left ≡ 0 → from_first wanted left ≡ left
unfolding from_first
from_end wanted [] h = refl
from_end wanted (b ∷ rest) h = absurd (omega arith)

-- ---- up to some colons

pub no_more : (made left whole : List ℕ) (n : ℕ) → n ≡ 0 → made ++ up_to_colons n left ≡ whole → made ≡ whole
unfolding up_to_colons
no_more made left whole n z i = sym (append-nil made) ∙ ap (λ (k : ℕ). made ++ up_to_colons k left) (sym z) ∙ i

pub at_end : (made left whole : List ℕ) (n : ℕ) → length left ≡ 0 → made ++ up_to_colons n left ≡ whole → made ≡ whole
unfolding up_to_colons
at_end made [] whole zero h i = sym (append-nil made) ∙ i
at_end made [] whole (suc n) h i = sym (append-nil made) ∙ i
at_end made (b ∷ left) whole n h i = absurd (omega arith)

one_less : (n : ℕ) → suc n - 1 ≡ n
one_less n = omega arith

colon_is : (b n : ℕ) (more : List ℕ) → b ≡ 58 → up_to_colons (suc n) (b ∷ more) ≡ b ∷ up_to_colons n more
unfolding up_to_colons
colon_is b n more e = rw (eq-eqb b 58 e) refl

other_test : (b : ℕ) → (b ≡ 58 → ⊥) → (b == 58) ≡ false
other_test b h = elim (b == 58) as (λ c. (b == 58) ≡ c → c ≡ false) [ true ↦ λ e. absurd (h (eqb-true b 58 e)) | false ↦ λ e. refl ] refl

other_is : (b n : ℕ) (more : List ℕ) → (b ≡ 58 → ⊥) → up_to_colons (suc n) (b ∷ more) ≡ b ∷ up_to_colons (suc n) more
unfolding up_to_colons
other_is b n more h = rw (other_test b h) refl

pub colon_put : (made new left more whole : List ℕ) (b n : ℕ) → left ≡ b ∷ more → 0 < n → b ≡ 58 → new ≡ made ++ b ∷ []
    → made ++ up_to_colons n left ≡ whole → new ++ up_to_colons (n - 1) more ≡ whole
colon_put made new left more whole b zero e lt is pushed i = absurd (omega arith)
colon_put made new left more whole b (suc n) e lt is pushed i =
    ap (λ (l : List ℕ). l ++ up_to_colons (suc n - 1) more) pushed
    ∙ append_assoc made (b ∷ []) (up_to_colons (suc n - 1) more)
    ∙ ap (λ (k : ℕ). made ++ b ∷ up_to_colons k more) (one_less n)
    ∙ ap (λ (l : List ℕ). made ++ l) (sym (colon_is b n more is))
    ∙ ap (λ (l : List ℕ). made ++ up_to_colons (suc n) l) (sym e) ∙ i

pub other_put : (made new left more whole : List ℕ) (b n : ℕ) → left ≡ b ∷ more → 0 < n → (b ≡ 58 → ⊥) → new ≡ made ++ b ∷ []
    → made ++ up_to_colons n left ≡ whole → new ++ up_to_colons n more ≡ whole
other_put made new left more whole b zero e lt is pushed i = absurd (omega arith)
other_put made new left more whole b (suc n) e lt is pushed i =
    ap (λ (l : List ℕ). l ++ up_to_colons (suc n) more) pushed
    ∙ append_assoc made (b ∷ []) (up_to_colons (suc n) more)
    ∙ ap (λ (l : List ℕ). made ++ l) (sym (other_is b n more is))
    ∙ ap (λ (l : List ℕ). made ++ up_to_colons (suc n) l) (sym e) ∙ i
