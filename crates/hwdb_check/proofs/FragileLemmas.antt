-- A search for the machine's fields in a pattern, and for the first that names a firmware, step by step.
use Rattle.std.proofs.Common.{◌≡◌, ◌∙◌, ◌+◌, ◌<◌, ◌≤◌, ap, refl, sym, arith, ℕ, suc, Bool, true, false, List, [], ◌∷◌, drop, length}
use Rattle.std.specs.Prelude.{codes, if◌then◌else◌, nat_eq}
use Rattle.std.specs.List.{starts_with}
use Rattle.std.proofs.lemmas.List.{drop-drop, drop_all, length-drop}
use Rattle.hwdb_spec.specs.Lines.{begins_with}
use Rattle.hwdb_spec_commands.specs.Fragile.{is_versioned_at, machine_of, versioned_place}

if_true : {X : Type 0} (b : Bool) (x y : X) → b ≡ true → (if b then x else y) ≡ x
if_true true x y e = refl
if_true false x y e = absurd cc

if_false : {X : Type 0} (b : Bool) (x y : X) → b ≡ false → (if b then x else y) ≡ y
if_false true x y e = absurd cc
if_false false x y e = refl

-- the machine's fields are after `dmi:`
begun : (text : List ℕ) → starts_with nat_eq text (codes "dmi:") ≡ true → drop 4 text ≡ machine_of text
begun [] e = absurd (let no : false ≡ true = e in cc)
begun (b ∷ more) e = sym (if_true (starts_with nat_eq (b ∷ more) (codes "dmi:")) (drop 3 more) (machine_of more) e)

pub after : (pattern : List ℕ) (at : ℕ) → starts_with nat_eq (drop at pattern) (codes "dmi:") ≡ true → machine_of (drop at pattern) ≡ machine_of pattern
    → drop 4 (drop at pattern) ≡ machine_of pattern
after pattern at e same = begun (drop at pattern) e ∙ same

-- they don't begin here
on : (text : List ℕ) → 0 < length text → starts_with nat_eq text (codes "dmi:") ≡ false → machine_of (drop 1 text) ≡ machine_of text
on [] h e = absurd (omega (arith, h))
on (b ∷ more) h e = sym (if_false (starts_with nat_eq (b ∷ more) (codes "dmi:")) (drop 3 more) (machine_of more) e)

pub without : (pattern : List ℕ) (at : ℕ) → at < length pattern → starts_with nat_eq (drop at pattern) (codes "dmi:") ≡ false
    → machine_of (drop at pattern) ≡ machine_of pattern → machine_of (drop (at + 1) pattern) ≡ machine_of pattern
without pattern at h e same =
    let long : 0 < length (drop at pattern) = omega (arith, h, length-drop at pattern) in
    ap machine_of (sym (drop-drop 1 at pattern)) ∙ on (drop at pattern) long e ∙ same

-- there are none
pub at_the_end : (pattern : List ℕ) (at : ℕ) → length pattern ≤ at → machine_of (drop at pattern) ≡ machine_of pattern → [] ≡ machine_of pattern
at_the_end pattern at h same = ap machine_of (sym (drop_all at pattern h)) ∙ same

-- ---- the first that names a firmware

pub found : (begins : Bool) (text : List ℕ) → is_versioned_at begins text ≡ true → versioned_place begins text ≡ 0
found begins [] e = refl
found begins (b ∷ more) e = if_true (is_versioned_at begins (b ∷ more)) 0 _ e

next : (begins : Bool) (text : List ℕ) → 0 < length text → is_versioned_at begins text ≡ false
    → suc (versioned_place (begins_with 58 text) (drop 1 text)) ≡ versioned_place begins text
next begins [] h e = absurd (omega (arith, h))
next begins (b ∷ more) h e = sym (if_false (is_versioned_at begins (b ∷ more)) 0 _ e)

pub further : (begins : Bool) (at : ℕ) (text : List ℕ) (whole : ℕ) → at < length text → is_versioned_at begins (drop at text) ≡ false
    → at + versioned_place begins (drop at text) ≡ whole → (at + 1) + versioned_place (begins_with 58 (drop at text)) (drop (at + 1) text) ≡ whole
further begins at text whole h e same =
    let long : 0 < length (drop at text) = omega (arith, h, length-drop at text) in
    let one : versioned_place (begins_with 58 (drop at text)) (drop (at + 1) text) ≡ versioned_place (begins_with 58 (drop at text)) (drop 1 (drop at text)) =
    ap (versioned_place (begins_with 58 (drop at text))) (sym (drop-drop 1 at text)) in
    let step : suc (versioned_place (begins_with 58 (drop at text)) (drop 1 (drop at text))) ≡ versioned_place begins (drop at text) = next begins (drop at text) long e in
    omega (arith, one, step, same)

pub none_left : (begins : Bool) (at : ℕ) (text : List ℕ) (whole : ℕ) → length text ≤ at → at + versioned_place begins (drop at text) ≡ whole → at ≡ whole
none_left begins at text whole h same =
    let none : versioned_place begins (drop at text) ≡ 0 = ap (versioned_place begins) (drop_all at text h) in omega (arith, none, same)
