-- Names of builtins and of programs.
use Rattle.std.proofs.Common.{◌≡◌, ℕ, zero, suc, ◌-◌, ◌+◌, ◌<◌, ◌≤◌, Bool, true, false, List, [], ◌∷◌, ◌++◌, drop, take, length, get_or, refl, sym, ap, ◌∙◌, arith, Some, cond, nat_eq, ◌==◌, ◌||◌, eq-eqb}
use Rattle.std.proofs.lemmas.List.{at_drop_more, length-drop, take_all}
use Rattle.std.specs.List.{find, starts_with}
use Rattle.hwdb_spec.specs.Lines.{has}
use Rattle.hwdb_rulecommands.specs.Builtins.{builtin_of, builtins, name_of}
use Rattle.hwdb_rulecommands.specs.Settable.{last_name}
use Rattle.hwdb_rulecommands.specs.Laws.{NameLaws}
use Rattle.hwdb_rulecommands.specs.declared.builtins.Builtin.{Builtin}
use Rattle.hwdb_rulecommands.specs.declared.builtins.Builtin.TheVariants as Builtins

-- one builtin that isn't named, and the others
pub find_next : (word : List ℕ) (xs : List Builtin) (i : ℕ) (builtin : Builtin) → i < length xs
    → starts_with nat_eq (name_of (get_or xs i builtin)) word ≡ false
    → find (λ b. starts_with nat_eq (name_of b) word) (drop (i + 1) xs) ≡ find (λ b. starts_with nat_eq (name_of b) word) (drop i xs)
find_next word xs i builtin h e =
    sym (ap (λ (b : Bool). cond b (Some (get_or xs i builtin)) (find (λ b. starts_with nat_eq (name_of b) word) (drop (i + 1) xs))) e)
    ∙ sym (at_drop_more (find (λ b. starts_with nat_eq (name_of b) word)) xs i builtin h)

pub no_slash : (path : List ℕ) → has 47 path ≡ false → last_name path ≡ path
no_slash [] h = refl
no_slash (b ∷ rest) h = rw h refl

has_at : (path : List ℕ) (n : ℕ) → n < length path → get_or path n 0 ≡ 47 → has 47 path ≡ true
has_at [] n h e = absurd (omega arith)
has_at (b ∷ rest) zero h e = rw (eq-eqb b 47 e) refl
has_at (b ∷ rest) (suc n) h e = rw (has_at rest n (omega arith) e) (any (b == 47))
  where
    any : (x : Bool) → (x || true) ≡ true
    any true = refl
    any false = refl

after_slash : (path : List ℕ) (n : ℕ) → n < length path → get_or path n 0 ≡ 47 → has 47 (drop (suc n) path) ≡ false → last_name path ≡ drop (suc n) path
after_slash [] n h e none = absurd (omega arith)
after_slash (b ∷ rest) zero h e none = rw (has_at (b ∷ rest) zero h e) (no_slash rest none)
after_slash (b ∷ rest) (suc n) h e none = rw (has_at (b ∷ rest) (suc n) h e) (after_slash rest n (omega arith) e none)

pub at_slash : (path : List ℕ) (n at : ℕ) → at ≡ suc n → at ≤ length path → get_or path n 0 ≡ 47 → has 47 (drop at path) ≡ false
    → take (length path - at) (drop at path) ≡ last_name path
at_slash path n at e h slash none =
    take_all (length path - at) (drop at path) (omega (arith, length-drop at path))
    ∙ ap (λ (k : ℕ). drop k path) e
    ∙ sym (after_slash path n (omega arith) slash (ap (λ (k : ℕ). has 47 (drop k path)) (sym e) ∙ none))

whole_name : (builtin : Builtin) → builtin_of (name_of builtin) ≡ Some builtin
unfolding builtins
whole_name Builtins.Blkid = refl
whole_name Builtins.Btrfs = refl
whole_name Builtins.DissectImage = refl
whole_name Builtins.FactoryReset = refl
whole_name Builtins.Hwdb = refl
whole_name Builtins.InputId = refl
whole_name Builtins.Keyboard = refl
whole_name Builtins.Kmod = refl
whole_name Builtins.NetDriver = refl
whole_name Builtins.NetId = refl
whole_name Builtins.NetSetupLink = refl
whole_name Builtins.PathId = refl
whole_name Builtins.Tpm2Id = refl
whole_name Builtins.Uaccess = refl
whole_name Builtins.UsbId = refl

has_slash : (folder name : List ℕ) → has 47 (folder ++ (47 ∷ name)) ≡ true
has_slash [] name = refl
has_slash (b ∷ folder) name = rw (has_slash folder name) (any (b == 47))
  where
    any : (x : Bool) → (x || true) ≡ true
    any true = refl
    any false = refl

in_folder : (folder name : List ℕ) → has 47 name ≡ false → last_name (folder ++ (47 ∷ name)) ≡ name
in_folder [] name h = no_slash name h
in_folder (b ∷ folder) name h = rw (has_slash (b ∷ folder) name) (in_folder folder name h)

pub name_laws_hold : NameLaws
name_laws_hold = record { whole = whole_name; path = in_folder; bare = no_slash }
