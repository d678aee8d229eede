-- What the proofs of this crate speak of.
use Rattle.std.specs.Prelude.{Bool, if◌then◌else◌, List, [], ◌++◌, ◌≡◌, ℕ, filter, map, not}
use Rattle.std.specs.Borrow.{Bor}
use Rattle.std.specs.BTreeSet.{BTreeSet, contains_by}
use Rattle.std.specs.List.{list_any}
use Rattle.std.specs.List.Sorted.{IsStrictlySortedBy}
use Rattle.hwdb_spec.specs.Assignment.{text_cmp}
use Rattle.hwdb_spec.specs.Lines.{Line, is_none}
use Rattle.hwdb_spec_commands.specs.Wanted.{GivenValue, Record, about, failures, holds, is_given, names, records_from, wants_value}
use Rattle.hwdb_test.specs.Views.{device_at, given_at, line_at, record_at}
use Rattle.hwdb_test.specs.declared.given_values.GivenValue.{GivenValue as Found}
use Rattle.hwdb_test.specs.declared.records.Reading.{Reading}

-- the record that hasn't ended
abbrev pub open_record : Reading → Record
open_record r = record { devices = map device_at r.devices.items; lines = map line_at r.lines.items }

-- the records that were read, and those of the clean lines after them
abbrev pub read_with : Reading → List Line → List Record
read_with r more = map record_at r.ended.items ++ records_from (open_record r) more

-- what is printed of a line among the properties of a device
abbrev pub tried_text : (json : Bool) (path device : List ℕ) (all : List Line) (found : List GivenValue) (properties : List (List ℕ × List ℕ)) → Line → List ℕ
tried_text json path device all found properties l = if holds all properties l then [] else failures json path device l (about all found l)

-- the properties of a device ascend by key
abbrev pub AscendByKey : List Found → Type 0
AscendByKey found = IsStrictlySortedBy text_cmp (map (λ (g : Found). g.key.now) found)

-- whether a text is in a set
abbrev pub has_text : BTreeSet (Bor (List ℕ)) → List ℕ → Bool
has_text texts text = contains_by (λ q. text_cmp text q.now) texts

-- the set has the keys that some lines name
abbrev pub AreNamed : List Line → BTreeSet (Bor (List ℕ)) → Type 0
AreNamed all keys = (key : List ℕ) → has_text keys key ≡ list_any (names key) all

-- the properties that none of some lines names
abbrev pub unnamed : (all : List Line) → List GivenValue → List GivenValue
unnamed all found = filter (λ g. not (list_any (names g.key) all)) found

-- whether a line holds, by the properties that it is about
abbrev pub holds_by : Line → (about : List (List ℕ × List ℕ)) → Bool
holds_by l about = if wants_value l then list_any (is_given l) about else is_none about

-- the properties of a device ascend by key, and of these the others are those that none of some lines names
pub record IsApart (all : List Line) (found kept : List Found) : Type 0 where
  pub ascend : AscendByKey found
  pub others : map given_at kept ≡ unnamed all (map given_at found)
