-- What the calls that read a database write, and their errors (systemd-hwdb(8)); `list` is our choice.
use Rattle.std.specs.Prelude.{ℕ, List, Bool, true, false, ◌≡◌, ◌≢◌, Option, take, option_map, flat_map, ◌-◌}
use Rattle.hwdb_spec_commands.specs.Asked.{IsFrom}
use Rattle.hwdb_spec.specs.Assignment.{Assignment, Position}
use Rattle.hwdb_spec.specs.Folders.{Source}
use Rattle.hwdb_spec_commands.specs.Json.{last_lines_json}
use Rattle.hwdb_spec.specs.Outputs.{Took}
use Rattle.hwdb_spec.specs.Texts.{last_lines_text}
use Rattle.hwdb_spec.specs.declared.errors.ToolError.TheVariants.{Memory, Write}
use Rattle.hwdb_spec.specs.declared.errors.ToolError.{ToolError}

-- what is printed over the database of some files, as text or with `--json`
abbrev pub last_list : (json : Bool) → (device : List ℕ) (from : Option Position) (limit : Option ℕ) (etc usr : List Source) → List ℕ
last_list false = last_lines_text
last_list true = last_lines_json

-- what `list` prints over it from there on
pub record IsLastList (json : Bool) (device : List ℕ) (after : Option (List ℕ)) (limit : Option ℕ) (etc usr : List Source) (text : List ℕ) : Type 0 where
  pub from : Option Position
  pub spelled : IsFrom after from
  pub is : text ≡ last_list json device from limit etc usr

-- a sink took the lines of the first of some hits, whole, and no call failed
abbrev pub TookLines : (Assignment → List ℕ) → List Assignment → (before now : Option (List ℕ)) (failures_before failures_now : ℕ) → Type 0
TookLines line hits before now failures_before failures_now = (n : ℕ) × Took (flat_map line (take n hits)) before now failures_before failures_now

-- which errors printing may end with
abbrev pub IsPrintRefusal : ToolError → Type 0
IsPrintRefusal Write = Unit {0}
IsPrintRefusal Memory = Unit {0}
IsPrintRefusal _ = ⊥

-- a limit, one smaller
abbrev pub one_less : Option ℕ → Option ℕ
one_less limit = option_map (λ n. n - 1) limit

-- one thing is so after a write that failed, and another one after every other error
abbrev pub IfWrite : (Written Other : Type 0) → ToolError → Type 0
IfWrite Written Other e = (e ≡ Write → Written) × (e ≢ Write → Other)
