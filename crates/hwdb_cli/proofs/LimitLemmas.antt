-- The limit, by what was found of its text.
use Rattle.std.proofs.Common.{◌≡◌, ℕ, refl, Option, Some, None, Result}
use Rattle.std.specs.Prelude.{IfSome}
use Rattle.std.specs.Str.Parse.{ParsesUnsigned, ExplainsUnsignedError, HasUnsignedDigitsIfOk}
use Rattle.std.specs.declared.num.ParseIntError.{ParseIntError}
use Rattle.clap.specs.Walk.{Text}
use Rattle.clap.specs.Matches.{ReadsOne}
use Rattle.hwdb_spec_commands.specs.Jobs.{IsLimit, IsNumber}

abbrev pub Reads : Text → Result ℕ ParseIntError → Type 0
Reads bs r = ParsesUnsigned 64 10 bs r × ExplainsUnsignedError 10 bs r × HasUnsignedDigitsIfOk bs r

pub limit_found : (text : Option Text) (r : Option ℕ) → (text ≡ None → r ≡ None) → ((t : Text) → text ≡ Some t → ReadsOne Reads t r) → IfSome text IsNumber → IsLimit text r
limit_found None r none value number = none refl
limit_found (Some t) None none value number = (value t refl).1.0 number
limit_found (Some t) (Some n) none value number = (value t refl).0
