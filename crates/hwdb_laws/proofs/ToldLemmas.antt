-- What is told of a path follows from what is there.
use Rattle.std.proofs.Common.{◌≡◌, ◌≤◌, ◌<◌, ◌∙◌, arith, refl, subst, sym, inl, inr, length, IfSome, List, Option, None, Some, Result, Ok, Err, true, ℕ}
use Rattle.std.specs.Prelude.{is_some}
use Rattle.hwdb_spec.specs.Store.{Contents}
use Rattle.hwdb_spec.specs.System.{bytes_at}
use Rattle.hwdb_spec.specs.Texts.{max_file}
use Rattle.hwdb_spec_commands.specs.Refusals.{IsUnreadable}
use Rattle.hwdb_spec_commands.specs.Told.{AreReadsOf, IsSo, Reads}
use Rattle.hwdb_spec_commands.specs.declared.unread.Unread.{Unread}
use Rattle.hwdb_spec_commands.specs.declared.unread.Unread.TheVariants as unread
use Rattle.hwdb_laws.specs.ToldOnce.{IsOneAnswer, IsOneKind, ToldIsOne}

some_one : {X : Type 0} (x y : X) → Some x ≡ Some y → x ≡ y
some_one x y is = cc

none_some : {X Y : Type 0} (x : X) (o : Option X) → o ≡ None → o ≡ Some x → Y
none_some x o none some = absurd cc

too_many : (n most : ℕ) → n ≤ most → most < n → ⊥
too_many n most few many = omega (arith, few, many)

-- no reading may fail
abbrev Never : List ℕ → Type 0
Never path = ⊥

module _ (contents : Contents) (path : List ℕ) where
  abbrev there : Option (List ℕ)
  there = bytes_at contents path

  -- what is told of a file, and why it isn't
  abbrev IsFile : Result (List ℕ) Unread → Type 0
  IsFile (Ok bytes) = (there ≡ Some bytes) × (length bytes ≤ max_file)
  IsFile (Err u) = IsSo contents (IsUnreadable Never contents path) path u

  long_or_not : {Y : Type 0} (bytes : List ℕ) → there ≡ Some bytes → length bytes ≤ max_file → IfSome there (λ b. max_file < length b) → Y
  long_or_not bytes is few long = absurd (too_many (length bytes) max_file few (subst (λ (o : Option (List ℕ)). IfSome o (λ b. max_file < length b)) is long))

  readable : {Y : Type 0} (bytes : List ℕ) → there ≡ Some bytes → IsUnreadable Never contents path → Y
  readable bytes is (inl none) = none_some bytes there none is
  readable bytes is (inr never) = absurd never

  -- nothing is there, so that it isn't too long
  missing : {Y : Type 0} → is_some there ≡ true → IsUnreadable Never contents path → Y
  missing some (inl none) = absurd (let h = subst (λ (o : Option (List ℕ)). is_some o ≡ true) none some in cc)
  missing some (inr never) = absurd never

  no_file : (bytes : List ℕ) (u : Unread) → IsFile (Ok bytes) → IsFile (Err u) → u ≡ unread.Memory
  no_file bytes unread.TooLong (is, few) so = long_or_not bytes is few so.1
  no_file bytes (unread.Failed cause) (is, few) so = readable bytes is so
  no_file bytes unread.Memory is so = refl

  kinds : (u v : Unread) → IsFile (Err u) → IsFile (Err v) → IsOneKind u v
  kinds unread.TooLong (unread.Failed cause) so so2 = missing so.0 so2
  kinds (unread.Failed cause) unread.TooLong so so2 = missing so2.0 so
  kinds unread.TooLong unread.TooLong so so2 = tt
  kinds unread.TooLong unread.Memory so so2 = tt
  kinds (unread.Failed cause) (unread.Failed cause2) so so2 = tt
  kinds (unread.Failed cause) unread.Memory so so2 = tt
  kinds unread.Memory v so so2 = tt

  one_file : (a b : Result (List ℕ) Unread) → IsFile a → IsFile b → IsOneAnswer a b
  one_file (Ok x) (Ok y) is is2 = some_one x y (sym is.0 ∙ is2.0)
  one_file (Ok x) (Err v) is is2 = no_file x v is is2
  one_file (Err u) (Ok y) is is2 = no_file y u is2 is
  one_file (Err u) (Err v) is is2 = kinds u v is is2

  -- what is told of a database, and why it isn't
  abbrev IsBase : Result (Option (List ℕ)) Unread → Type 0
  IsBase (Ok found) = (there ≡ found) × IfSome found (λ bytes. length bytes ≤ max_file)
  IsBase (Err u) = IsSo contents ⊥ path u

  too_long : (found : Option (List ℕ)) → there ≡ found → IfSome found (λ bytes. length bytes ≤ max_file) → is_some there ≡ true → IfSome there (λ b. max_file < length b) → ⊥
  too_long None is few some long = let h = subst (λ (o : Option (List ℕ)). is_some o ≡ true) is some in absurd cc
  too_long (Some bytes) is few some long = long_or_not bytes is few long

  no_base : (found : Option (List ℕ)) (u : Unread) → IsBase (Ok found) → IsBase (Err u) → u ≡ unread.Memory
  no_base found unread.TooLong (is, few) so = absurd (too_long found is few so.0 so.1)
  no_base found (unread.Failed cause) is so = absurd so
  no_base found unread.Memory is so = refl

  base_kinds : (u v : Unread) → IsBase (Err u) → IsBase (Err v) → IsOneKind u v
  base_kinds (unread.Failed cause) v so so2 = absurd so
  base_kinds unread.TooLong (unread.Failed cause) so so2 = absurd so2
  base_kinds unread.TooLong unread.TooLong so so2 = tt
  base_kinds unread.TooLong unread.Memory so so2 = tt
  base_kinds unread.Memory v so so2 = tt

  one_base : (a b : Result (Option (List ℕ)) Unread) → IsBase a → IsBase b → IsOneAnswer a b
  one_base (Ok x) (Ok y) is is2 = sym is.0 ∙ is2.0
  one_base (Ok x) (Err v) is is2 = no_base x v is is2
  one_base (Err u) (Ok y) is is2 = no_base y u is2 is
  one_base (Err u) (Err v) is is2 = base_kinds u v is is2

module _ (contents : Contents) (w : Reads) (are : AreReadsOf w contents Never) (path : List ℕ) where
  input_is : (a : Result (List ℕ) Unread) → w.input path ≡ a → IsFile contents path a
  input_is (Ok bytes) is = are.input path bytes is
  input_is (Err u) is = are.no_input path u is

  text_is : (a : Result (List ℕ) Unread) → w.text path ≡ a → IsFile contents path a
  text_is (Ok bytes) is = are.text path bytes is
  text_is (Err u) is = are.no_text path u is

  base_is : (a : Result (Option (List ℕ)) Unread) → w.database path ≡ a → IsBase contents path a
  base_is (Ok found) is = are.database path found is
  base_is (Err u) is = are.no_database path u is

pub told_is_one : ToldIsOne
told_is_one one two contents are are2 path = (
  one_file contents path (one.input path) (two.input path) (input_is contents one are path (one.input path) refl) (input_is contents two are2 path (two.input path) refl),
  one_file contents path (one.text path) (two.text path) (text_is contents one are path (one.text path) refl) (text_is contents two are2 path (two.text path) refl),
  one_base contents path (one.database path) (two.database path) (base_is contents one are path (one.database path) refl) (base_is contents two are2 path (two.database path) refl),
)
