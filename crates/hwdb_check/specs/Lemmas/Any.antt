-- A loop over a list that looks for a member.
use Rattle.std.proofs.Common.{◌≡◌, ℕ, ◌<◌, ◌≤◌, Bool, true, false, List, refl, sym, ap, ◌∙◌, drop, get_or, length, map, suc, ◌||◌}
use Rattle.std.proofs.Math.Seq.{drop-cons}
use Rattle.std.proofs.lemmas.List.{drop_all}
use Rattle.std.specs.List.{list_any}

module _ {X Y : Type 0} (t : Y → Bool) (f : X → Y) where
  next : (l : List X) (i : ℕ) (d : X) → i < length l → list_any t (map f (drop i l)) ≡ (t (f (get_or l i d)) || list_any t (map f (drop (suc i) l)))
  next l i d h = rw (drop-cons l i d h) refl

  pub any_found : (l : List X) (i : ℕ) (d : X) (r whole : Bool) → i < length l → r ≡ t (f (get_or l i d)) → r ≡ true → list_any t (map f (drop i l)) ≡ whole → true ≡ whole
  any_found l i d r whole h e is w = sym (next l i d h ∙ ap (λ b. b || list_any t (map f (drop (suc i) l))) (sym e ∙ is)) ∙ w

  pub any_passed : (l : List X) (i n : ℕ) (d : X) (r whole : Bool) → i < length l → n ≡ suc i → r ≡ t (f (get_or l i d)) → r ≡ false → list_any t (map f (drop i l)) ≡ whole
      → list_any t (map f (drop n l)) ≡ whole
  any_passed l i n d r whole h k e is w =
      ap (λ (j : ℕ). list_any t (map f (drop j l))) k ∙ sym (next l i d h ∙ ap (λ b. b || list_any t (map f (drop (suc i) l))) (sym e ∙ is)) ∙ w

  pub any_none : (l : List X) (i : ℕ) (whole : Bool) → length l ≤ i → list_any t (map f (drop i l)) ≡ whole → false ≡ whole
  any_none l i whole h w = ap (λ r. list_any t (map f r)) (sym (drop_all i l h)) ∙ w
