-- Which error one of a crate below becomes.
use Rattle.std.proofs.Common.{◌≡◌, ◌≢◌, ℕ, List, [], Option, None, Some, refl, ap, arith, sym, subst, Result, Ok, Err, IfErr}
use Rattle.std.specs.Option.{option_copied}
use Rattle.hwdb_query.specs.Views.{given_position, next_position}
use Rattle.hwdb_query.specs.declared.position.Position.{Position as OwnedPosition}
use Rattle.std.specs.Result.{IsErrAnd}
use Rattle.std.specs.Borrow.{Bor}
use Rattle.hwdb_spec.specs.Assignment.{Position, ascending, put}
use Rattle.hwdb_spec.specs.Texts.{IsSpelling}
use Rattle.hwdb_spec.specs.declared.errors.PositionError.{PositionError}
use Rattle.hwdb_spec.specs.declared.errors.PositionError.TheVariants as positions
use Rattle.hwdb_spec.specs.declared.errors.ToolError.{ToolError}
use Rattle.hwdb_spec.specs.Errors.{refusal_of_compile, refusal_of_position}
use Rattle.hwdb_spec.specs.CompileErrors.{IsRefusal}
use Rattle.hwdb_spec.specs.declared.errors.CompileError.{CompileError}
use Rattle.hwdb_spec.specs.declared.errors.CompileError.TheVariants as compiling
use Rattle.hwdb_spec_commands.specs.Listings.{IsPositionRefusal, IsListRefusal}
use Rattle.hwdb_spec_commands.specs.DatabaseErrors.{IsDatabaseRefusal}
use Rattle.hwdb_spec_commands.specs.UpdateErrors.{IsAskRefusal, OnUnreplaced}
use Rattle.hwdb_spec_commands.specs.LoneFile.{lone}
use Rattle.hwdb_spec.specs.declared.errors.Unreplaced.{Unreplaced}
use Rattle.hwdb_spec.specs.declared.errors.ToolError.TheVariants.{Write, BadDatabase, Memory, Replace, TooLarge, TooManyLines}
use Rattle.hwdb_spec.specs.Tree.{Map}
use Rattle.hwdb_spec.specs.Written.{IsDatabaseOf}

module _ {X : Type 0} where
  pub position_refused : (text : List ℕ) (q : PositionError) (r : Result X ToolError) → IsErrAnd r (λ e. e ≡ refusal_of_position q)
      → (q ≡ positions.BadPosition → (p : Position) → IsSpelling p text → ⊥) → IfErr r (IsPositionRefusal (Some text))
  position_refused text q (Ok x) h bad = tt
  position_refused text positions.BadPosition (Err e) h bad = let P : ToolError → Type 0 = λ x. IsPositionRefusal (Some text) x in subst P (sym h) (bad refl)
  position_refused text positions.Memory (Err e) h bad = let P : ToolError → Type 0 = λ x. IsPositionRefusal (Some text) x in subst P (sym h) tt

  pub list_without_memory : (after : Option (List ℕ)) (bytes : List ℕ) (r : Result X ToolError) → IsErrAnd r (λ e. e ≡ Memory) → IfErr r (IsListRefusal after bytes)
  list_without_memory after bytes (Ok x) h = tt
  list_without_memory None bytes (Err e) h = let P : ToolError → Type 0 = λ x. IsListRefusal None bytes x in subst P (sym h) tt
  list_without_memory (Some text) bytes (Err e) h = let P : ToolError → Type 0 = λ x. IsListRefusal (Some text) bytes x in subst P (sym h) tt

-- the position that a caller lends
pub lent_position : (lent : Option (Bor OwnedPosition)) (own : Option OwnedPosition) → option_copied lent ≡ own → given_position lent ≡ next_position own
lent_position None own e = ap next_position e
lent_position (Some p) own e = ap next_position e

is_write : ToolError → Type 0
is_write Write = Unit {0}
is_write _ = ⊥

memory_is_no_write : Memory ≢ Write
unfolding is_write
memory_is_no_write e = subst is_write (sym e) tt

other_than_write : (e : ToolError) → (is_write e → ⊥) → e ≢ Write
unfolding is_write
other_than_write e other is = let P : ToolError → Type 0 = λ x. is_write x → ⊥ in subst P is other tt

-- the compiler's errors of the one file
module _ {X : Type 0} where
  pub lone_refused : (bytes : List ℕ) (max_bytes : ℕ) (q : CompileError) (r : Result X ToolError) → IsErrAnd r (λ e. e ≡ refusal_of_compile q)
      → IsRefusal (lone bytes) [] max_bytes q → IfErr r (λ e. (e ≢ Write) × IsAskRefusal bytes max_bytes e)
  unfolding ascending put is_write
  lone_refused bytes max_bytes q (Ok x) h refusal = tt
  lone_refused bytes max_bytes compiling.TooManyFiles (Err e) h refusal = absurd (omega (arith, refusal))
  lone_refused bytes max_bytes compiling.TooManyLines (Err e) h refusal =
      let P : ToolError → Type 0 = λ x. (x ≢ Write) × IsAskRefusal bytes max_bytes x in subst P (sym h) (other_than_write TooManyLines (λ is. is), refusal)
  lone_refused bytes max_bytes compiling.TooLarge (Err e) h refusal =
      let P : ToolError → Type 0 = λ x. (x ≢ Write) × IsAskRefusal bytes max_bytes x in subst P (sym h) (other_than_write TooLarge (λ is. is), refusal)
  lone_refused bytes max_bytes compiling.Memory (Err e) h refusal =
      let P : ToolError → Type 0 = λ x. (x ≢ Write) × IsAskRefusal bytes max_bytes x in subst P (sym h) (memory_is_no_write, tt)

-- a database of a map is taken
module _ {X : Type 0} where
  pub asked_refused : (bytes database : List ℕ) (m : Map) (max_bytes : ℕ) (q : ToolError) (r : Result X ToolError) → IsErrAnd r (λ e. e ≡ q)
      → IsDatabaseRefusal database q → IsDatabaseOf m database → IfErr r (λ e. (e ≢ Write) × IsAskRefusal bytes max_bytes e)
  asked_refused bytes database m max_bytes q (Ok x) h refusal is = tt
  asked_refused bytes database m max_bytes (BadDatabase fault) (Err e) h refusal is = absurd (refusal.no_tree is.0 is.1)
  asked_refused bytes database m max_bytes Memory (Err e) h refusal is =
      let P : ToolError → Type 0 = λ x. (x ≢ Write) × IsAskRefusal bytes max_bytes x in subst P (sym h) (memory_is_no_write, tt)
  asked_refused bytes database m max_bytes _ (Err e) h refusal is = absurd refusal

-- the database wasn't replaced
module _ {X : Type 0} where
  pub unreplaced_for : (P : Unreplaced → Type 0) (u : Unreplaced) (r : Result X ToolError) → IsErrAnd r (λ e. e ≡ Replace u) → P u → IfErr r (OnUnreplaced P)
  unreplaced_for P u (Ok x) is p = tt
  unreplaced_for P u (Err e) is p = let Q : ToolError → Type 0 = λ x. OnUnreplaced P x in subst Q (sym is) p
