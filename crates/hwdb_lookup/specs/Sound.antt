-- What a lookup answers of a file of which some blocks were read, whether or not it is a database: it is made of what sound records say.
-- Which these are is systemd's hwdb-internal.h's. Our choice.
use Rattle.std.specs.Prelude.{◌+◌, ◌*◌, ◌<◌, ◌≡◌, ◌≤◌, List, Some, ℕ}
use Rattle.std.specs.List.{All}
use Rattle.hwdb_spec.specs.Answers.{effective_of}
use Rattle.hwdb_spec.specs.Assignment.{Assignment, assignment_cmp, in_order}
use Rattle.hwdb_spec.specs.Format.{IsPlace, IsValue, key_off, layout_of, prefix_off, record_end, text_at, value_entries, value_off, values_count}
use Rattle.hwdb_spec.specs.Tree.{key_of}
use Rattle.hwdb_spec.specs.declared.Layout.{Layout}

-- A record ends before the strings, and its prefix is one of them. It has a value, whose texts are strings too, and whose priority is
-- above 0. That says the property: the key is after a space.
pub record IsSaid (l : Layout) (file key value : List ℕ) : Type 0 where
  pub off : ℕ
  pub ends : record_end l file off ≤ l.strings
  pub prefix : IsPlace l file (prefix_off file off)
  pub number : ℕ
  pub within : number < values_count file off
  pub sound : IsValue l file (value_entries l file off + l.value_size * number)
  pub says_key : key_of (text_at file (key_off file (value_entries l file off + l.value_size * number))) ≡ Some key
  pub says_value : text_at file (value_off file (value_entries l file off + l.value_size * number)) ≡ value

-- properties are the effective list of assignments, each of which is said so
pub record AreSound (file : List ℕ) (properties : List (List ℕ × List ℕ)) : Type 0 where
  pub found : List Assignment
  pub each : All (λ a. IsSaid (layout_of file) file a.position.key a.value) found
  pub are : properties ≡ effective_of (in_order assignment_cmp found)
