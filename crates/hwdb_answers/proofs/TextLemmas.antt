-- Texts of devices that a sink takes one after another.
use Rattle.std.proofs.Common.{◌≡◌, ◌∙◌, ◌+◌, ℕ, ap, sym, subst, refl, List, [], ◌∷◌, ◌++◌, map, length, Option, Result, Ok, Err, IfErr, arith, length-append}
use Rattle.std.proofs.Math.Seq.{take-append-add}
use Rattle.std.proofs.lemmas.List.{take-append-le}
use Rattle.std.proofs.KnownBytes.{Appends-trans}
use Rattle.std.specs.Io.KnownBytes.{Appends}
use Rattle.std.specs.Prelude.{flat_map}
use Rattle.hwdb_spec.specs.Texts.{with_empty_lines}
use Rattle.hwdb_spec.specs.Outputs.{AppendsPrefix}

-- a text was taken, and then the rest
pub whole_texts : (a b c : Option (List ℕ)) (text rest all : List ℕ) → all ≡ text ++ rest → Appends a b text → Appends b c rest → Appends a c all
whole_texts a b c text rest all is p q = subst (λ l. Appends a c l) (sym is) (Appends-trans a b c _ _ p q)

-- a text was taken, and then a prefix of the rest
pub part_texts : (a b c : Option (List ℕ)) (text rest all : List ℕ) → all ≡ text ++ rest → Appends a b text → AppendsPrefix b c rest → AppendsPrefix a c all
part_texts a b c text rest all is p q =
    subst (λ l. AppendsPrefix a c l) (sym is) (
      length text + q.0,
      omega (arith, length-append text rest, q.1),
      (let P : List ℕ → Type 0 = λ l. Appends a c l in subst P (sym (take-append-add text rest q.0)) (Appends-trans a b c _ _ p q.2)),
    )

-- a prefix of a text was taken
pub part_text : (a b : Option (List ℕ)) (text rest all : List ℕ) → all ≡ text ++ rest → AppendsPrefix a b text → AppendsPrefix a b all
part_text a b text rest all is q =
    subst (λ l. AppendsPrefix a b l) (sym is) (
      q.0,
      omega (arith, length-append text rest, q.1),
      (let P : List ℕ → Type 0 = λ l. Appends a b l in subst P (sym (take-append-le q.0 text rest q.1)) q.2),
    )

-- what holds, holds of each error
pub if_err_any : {T E : Type 0} (r : Result T E) (P : Type 0) → P → IfErr r (λ _. P)
if_err_any (Ok x) P p = tt
if_err_any (Err e) P p = p

-- texts that are the same for each device
module _ (f g : List ℕ → List ℕ) (same : (device : List ℕ) → f device ≡ g device) where
  pub each_same : (devices : List (List ℕ)) → map f devices ≡ map g devices
  each_same [] = refl
  each_same (d ∷ devices) = ap (λ (x : List ℕ). x ∷ map f devices) (same d) ∙ ap (λ (l : List (List ℕ)). g d ∷ l) (each_same devices)

  pub same_texts : (devices : List (List ℕ)) → with_empty_lines (map f devices) ≡ with_empty_lines (map g devices)
  same_texts devices = ap with_empty_lines (each_same devices)

  pub same_lines : (devices : List (List ℕ)) → flat_map f devices ≡ flat_map g devices
  same_lines [] = refl
  same_lines (d ∷ devices) = ap (λ (x : List ℕ). x ++ flat_map f devices) (same d) ∙ ap (λ (l : List ℕ). g d ++ l) (same_lines devices)
