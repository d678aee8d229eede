-- What is found among attributes, lines and parents.
use Rattle.std.proofs.Common.{◌≡◌, ℕ, suc, ◌+◌, ◌<◌, ◌≤◌, Bool, true, false, cond, not, Option, None, Some, List, [], ◌∷◌, ◌++◌, take, drop, length, map, refl, ap, ◌∙◌, sym, arith}
use Rattle.std.proofs.lemmas.List.{drop-drop, drop_all, length-drop}
use Rattle.std.specs.List.{find, onto_first, position_or_len, starts_with}
use Rattle.std.specs.Prelude.{nat_eq}
use Rattle.hwdb_spec.specs.Folders.{same}
use Rattle.hwdb_spec.specs.Lines.{is, pieces}
use Rattle.hwdb_spec_commands.specs.Sysfs.{Ancestor, At, Attribute, first_at, line_with, value_of}

pub value_here : (name : List ℕ) (a : Attribute) (more : List Attribute) → same a.name name ≡ true → value_of name (a ∷ more) ≡ Some a.value
unfolding value_of
value_here name a more t = rw t refl

pub value_later : (name : List ℕ) (a : Attribute) (more : List Attribute) → same a.name name ≡ false → value_of name (a ∷ more) ≡ value_of name more
unfolding value_of
value_later name a more t = rw t refl

pub no_value : (name : List ℕ) {A : Type 0} (f : A → Attribute) (list : List A) → length list ≡ 0 → value_of name (map f list) ≡ None
unfolding value_of
no_value name f [] h = refl
no_value name f (x ∷ list) h = absurd (omega arith)

pub first_here : (test : Ancestor → Bool) (place : ℕ) (a : Ancestor) (more : List Ancestor) → test a ≡ true → first_at test place (a ∷ more) ≡ Some (record { place = place; ancestor = a })
unfolding first_at
first_here test place a more t = rw t refl

pub first_later : (test : Ancestor → Bool) (place : ℕ) (a : Ancestor) (more : List Ancestor) → test a ≡ false → first_at test place (a ∷ more) ≡ first_at test (suc place) more
unfolding first_at
first_later test place a more t = rw t refl

pub no_first : (test : Ancestor → Bool) (place : ℕ) {A : Type 0} (f : A → Ancestor) (list : List A) → length list ≡ 0 → first_at test place (map f list) ≡ None
unfolding first_at
no_first test place f [] h = refl
no_first test place f (x ∷ list) h = absurd (omega arith)
