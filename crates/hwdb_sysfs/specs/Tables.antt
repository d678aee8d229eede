-- What a tree in memory answers: the first row of a path says what it leads to.
use Rattle.std.specs.Prelude.{ℕ, List, Bool, true, false, Option, Some, None, Result, Ok, Err, find, if◌then◌else◌, length, nat_le, pos}
use Rattle.hwdb_spec_commands.specs.DeviceTree.{Node}
use Rattle.hwdb_spec.specs.Folders.{same}
use Rattle.hwdb_spec.specs.declared.causes.Cause.{Cause}
use Rattle.hwdb_spec.specs.declared.causes.Cause.TheVariants.{System, Unknown}
use Rattle.hwdb_spec_commands.specs.SysfsAnswers.{Answers}
use Rattle.hwdb_sysfs.specs.Views.{node_of}
use Rattle.hwdb_sysfs.specs.declared.table.Row.{Row}
use Rattle.hwdb_sysfs.specs.declared.table.Thing.{Thing}
use Rattle.hwdb_sysfs.specs.declared.table.Thing.TheVariants as thing

-- the row of a path
abbrev pub row_at : List Row → (path : List ℕ) → Option Row
row_at rows path = find (λ r. same r.path.items path) rows

-- an answer by what is at a place
abbrev pub by_thing : {X : Type 0} → (Thing → Result X Cause) → Option Row → Result X Cause
by_thing answer (Some row) = answer row.thing
by_thing answer None = Err (System (pos 2))

abbrev pub real_by : Option Row → Result (List ℕ) Cause
real_by (Some row) = Ok row.place.items
real_by None = Err (System (pos 2))

abbrev pub node_by : Thing → Result (Option Node) Cause
node_by (thing.Node node) = Ok (Some (node_of node))
node_by _ = Ok None

abbrev pub file_by : Thing → Result Bool Cause
file_by (thing.File bytes) = Ok true
file_by _ = Ok false

-- the bytes of a file of a page at most
abbrev pub page_if : List ℕ → Result (List ℕ) Cause
page_if bytes = if nat_le (length bytes) 4096 then Ok bytes else Err Unknown

abbrev pub page_by : Thing → Result (List ℕ) Cause
page_by (thing.File bytes) = page_if bytes.items
page_by _ = Err Unknown

abbrev pub listing_by : Thing → Result (List ℕ) Cause
listing_by (thing.Folder names) = Ok names.items
listing_by _ = Err Unknown

-- the answers of such a tree
abbrev pub answers_of : List Row → Answers
answers_of rows = record {
  real = λ path. real_by (row_at rows path);
  node = λ place. by_thing node_by (row_at rows place);
  file = λ place. by_thing file_by (row_at rows place);
  page = λ place. by_thing page_by (row_at rows place);
  listing = λ place. by_thing listing_by (row_at rows place);
}
