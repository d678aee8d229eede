-- A search for the name of a field, step by step.
use Rattle.std.proofs.Common.{◌≡◌, ◌∙◌, ◌+◌, ◌<◌, ap, refl, sym, arith, ℕ, Bool, true, false, List, [], ◌∷◌, drop, length, Some}
use Rattle.std.specs.Prelude.{codes, if◌then◌else◌, nat_eq}
use Rattle.std.specs.List.{starts_with}
use Rattle.std.proofs.lemmas.List.{drop-drop, length-drop}
use Rattle.hwdb_spec_commands.specs.Fields.{field_place, is_odd_at}

if_true : {X : Type 0} (b : Bool) (x y : X) → b ≡ true → (if b then x else y) ≡ x
if_true true x y e = refl
if_true false x y e = absurd cc

if_false : {X : Type 0} (b : Bool) (x y : X) → b ≡ false → (if b then x else y) ≡ y
if_false true x y e = absurd cc
if_false false x y e = refl

-- nothing odd is here
on : (inside : Bool) (at : ℕ) (text : List ℕ) → 0 < length text → is_odd_at inside text ≡ false
    → field_place (if inside then true else starts_with nat_eq text (codes "dmi:")) (at + 1) (drop 1 text) ≡ field_place inside at text
on inside at [] h e = absurd (omega (arith, h))
on inside at (b ∷ more) h e = sym (if_false (is_odd_at inside (b ∷ more)) (Some (at + 1)) _ e)

pub further : (inside : Bool) (at : ℕ) (text : List ℕ) → at < length text → is_odd_at inside (drop at text) ≡ false
    → field_place (if inside then true else starts_with nat_eq (drop at text) (codes "dmi:")) (at + 1) (drop (at + 1) text) ≡ field_place inside at (drop at text)
further inside at text h e =
    let long : 0 < length (drop at text) = omega (arith, h, length-drop at text) in
    let one : drop (at + 1) text ≡ drop 1 (drop at text) = sym (drop-drop 1 at text) in
    ap (field_place (if inside then true else starts_with nat_eq (drop at text) (codes "dmi:")) (at + 1)) one ∙ on inside at (drop at text) long e

-- something odd is here
pub found : (inside : Bool) (at : ℕ) (text : List ℕ) → is_odd_at inside text ≡ true → field_place inside at text ≡ Some (at + 1)
found inside at [] e = absurd (let no : false ≡ true = e in cc)
found inside at (b ∷ more) e = if_true (is_odd_at inside (b ∷ more)) (Some (at + 1)) _ e
