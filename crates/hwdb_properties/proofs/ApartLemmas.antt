-- Rows and names that begin with different bytes.
use Rattle.std.proofs.Common.{◌≡◌, ◌==◌, ◌+◌, ℕ, Bool, true, false, List, [], ◌∷◌, refl, sym, ap, get_or, length, nat_eq, ne_eqb, arith, cond, not, subst, suc, take}
use Rattle.std.specs.List.{prefix_len, starts_with}
use Rattle.std.specs.Prelude.{if◌then◌else◌}
use Rattle.hwdb_spec.specs.Folders.{same}
use Rattle.hwdb_spec.specs.Lines.{is}
use Rattle.hwdb_spec.specs.Lemmas.Orders.{same_text}
use Rattle.hwdb_spec_commands.specs.Properties.{is_family, is_for}

abbrev first_of : List ℕ → ℕ
first_of text = get_or text 0 0

not_same : (r : ℕ) (row : List ℕ) (n : ℕ) (name : List ℕ) → (n ≡ r → ⊥) → same (r ∷ row) (n ∷ name) ≡ false
not_same r row n name h = go (same (r ∷ row) (n ∷ name)) refl
  where
    go : (b : Bool) → same (r ∷ row) (n ∷ name) ≡ b → b ≡ false
    go false e = refl
    go true e = absurd (h (sym (ap first_of (same_text (r ∷ row) (n ∷ name) e))))

not_started : (r : ℕ) (row : List ℕ) (n : ℕ) (name : List ℕ) → nat_eq r n ≡ false → starts_with nat_eq (n ∷ name) (r ∷ row) ≡ false
not_started r row n name e = rw e refl

neither : (s f t : Bool) → s ≡ false → t ≡ false → (if s then true else (if f then t else false)) ≡ false
neither true f t e g = cc
neither false true t e g = g
neither false false t e g = refl

by_word : (space : Bool) (r : ℕ) (row : List ℕ) (n : ℕ) (name : List ℕ) → (n ≡ r → ⊥)
    → (if same (if space then [] else r ∷ row) (n ∷ name) then true
    else (if is_family (if space then [] else r ∷ row) then starts_with nat_eq (n ∷ name) (if space then [] else r ∷ row) else false)) ≡ false
by_word true r row n name h = refl
by_word false r row n name h = neither (same (r ∷ row) (n ∷ name)) (is_family (r ∷ row)) _ (not_same r row n name h) (not_started r row n name (ne_eqb r n (λ e. h (sym e))))

pub word_first : (space : Bool) (k r : ℕ) (row : List ℕ) → take (cond (not space) (1 + k) 0) (r ∷ row) ≡ (if space then [] else r ∷ take k row)
word_first true k r row = refl
word_first false k r row = let one : 1 + k ≡ suc k = omega arith in ap (λ (n : ℕ). take n (r ∷ row)) one

pub apart : (text name : List ℕ) → false ≡ (length text == 0) → false ≡ (length name == 0) → (get_or text 0 0 ≡ get_or name 0 0 → ⊥) → is_for text name ≡ false
apart [] name h k d = cc
apart (r ∷ row) [] h k d = cc
apart (r ∷ row) (n ∷ name) h k d =
    let size : ℕ = prefix_len (λ x. not (is 32 x)) row in
    subst (λ (own : List ℕ). (if same own (n ∷ name) then true else (if is_family own then starts_with nat_eq (n ∷ name) own else false)) ≡ false)
    (sym (word_first (r == 32) size r row)) (by_word (r == 32) r (take size row) n name (λ e. d (sym e)))
