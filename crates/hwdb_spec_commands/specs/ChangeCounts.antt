-- How many changes there are, by file and by key, and what `diff --stat` prints of that, as text or JSON. Our choice.
use Rattle.std.specs.Prelude.{◌++◌, ◌==◌, ◌∷◌, Bool, List, None, Option, Some, [], codes, false, flat_map, if◌then◌else◌, length, map, true, ℕ}
use Rattle.std.specs.Fmt.{decimal}
use Rattle.std.specs.Ordering.{match_ordering}
use Rattle.json.specs.Json.{Json}
use Rattle.hwdb_spec.specs.Assignment.{text_cmp}
use Rattle.hwdb_spec_commands.specs.Checks.{both}
use Rattle.hwdb_spec_commands.specs.DeviceDifferences.{device_differences}
use Rattle.hwdb_spec_commands.specs.Differences.{Change, are_some, differences}
use Rattle.hwdb_spec_commands.specs.Differences.Change.{Came, Went, Changed}
use Rattle.hwdb_spec_commands.specs.Json.{array_of, json_line, number_json, object_of, text_json}
use Rattle.hwdb_spec_commands.specs.Reviews.{Review, reviewed}
use Rattle.hwdb_spec_commands.specs.Sides.{file_name}
use Rattle.hwdb_spec.specs.Lines.{byte}
use Rattle.hwdb_spec.specs.Tree.{Tree, map_of}
use Rattle.hwdb_spec.specs.Visible.{shown_name}

-- ---- what is counted

-- how many assignments came, went and changed; each count stops at the greatest number of 64 bits
pub record Count : Type 0 where
  pub came : ℕ
  pub went : ℕ
  pub changed : ℕ

-- none did
abbrev pub no_count : Count
no_count = record { came = 0; went = 0; changed = 0 }

-- one change more
abbrev pub one_more : Change → Count → Count
one_more (Came new) n = record { came = both n.came 1; went = n.went; changed = n.changed }
one_more (Went old) n = record { came = n.came; went = both n.went 1; changed = n.changed }
one_more (Changed old new) n = record { came = n.came; went = n.went; changed = both n.changed 1 }

-- counts by name, ascending: one change more of this name
unfoldable pub counted : (name : List ℕ) → Change → List (List ℕ × Count) → List (List ℕ × Count)
counted name change [] = (name, one_more change no_count) ∷ []
counted name change (n ∷ more) =
    match_ordering (text_cmp name n.0) ((name, one_more change no_count) ∷ n ∷ more) ((n.0, one_more change n.1) ∷ more) (n ∷ counted name change more)

-- the name of a change's file: that of the new assignment, or of one that went. Two sides seldom have one folder.
abbrev pub changed_file : Change → List ℕ
changed_file (Came new) = file_name new.path
changed_file (Went old) = file_name old.path
changed_file (Changed old new) = file_name new.path

-- the key of a change
abbrev pub changed_key : Change → List ℕ
changed_key (Came new) = new.position.key
changed_key (Went old) = old.position.key
changed_key (Changed old new) = new.position.key

-- the counts by file, by key and of all; and how many devices have a change
pub record Stat : Type 0 where
  pub files : List (List ℕ × Count)
  pub keys : List (List ℕ × Count)
  pub total : Count
  pub devices : ℕ

-- those of no change
abbrev pub no_stat : Stat
no_stat = record { files = []; keys = []; total = no_count; devices = 0 }

-- one change more
abbrev pub with_change : Stat → Change → Stat
with_change s change = record {
  files = counted (changed_file change) change s.files;
  keys = counted (changed_key change) change s.keys;
  total = one_more change s.total;
  devices = s.devices;
}

-- some more, one after another
unfoldable pub with_changes : Stat → List Change → Stat
with_changes s [] = s
with_changes s (change ∷ more) = with_changes (with_change s change) more

-- one device more, if it has a change
abbrev pub with_device : (has_changed : Bool) → Stat → Stat
with_device false s = s
with_device true s = record { files = s.files; keys = s.keys; total = s.total; devices = both s.devices 1 }

-- one device more with these changes
abbrev pub with_told : Stat → List Change → Stat
with_told s changes = with_device (are_some changes) (with_changes s changes)

-- the changes for some more devices from one database to another
unfoldable pub with_devices : Review → Stat → (devices : List (List ℕ)) → (old new : Tree) → Stat
with_devices r s [] old new = s
with_devices r s (d ∷ more) old new = with_devices r (with_told s (reviewed r (device_differences d old new))) more old new

-- the changes from one database to another: of all that they assign, or for these devices
abbrev pub stat_of : Review → Option (List (List ℕ)) → (old new : Tree) → Stat
stat_of r None old new = with_changes no_stat (reviewed r (differences (map_of old) (map_of new)))
stat_of r (Some devices) old new = with_devices r no_stat devices old new

-- ---- what is printed

-- the line of a name: the name, as names of files are shown, and after a tab each how many came, went and changed
abbrev pub counts_line : List ℕ × Count → List ℕ
counts_line n =
    shown_name n.0 ++ (codes "\t+" ++ (decimal n.1.came ++ (codes "\t-" ++ (decimal n.1.went ++ (codes "\t~" ++ (decimal n.1.changed ++ byte "\n" ∷ []))))))

-- the line of the devices that have a change, if devices were asked for
abbrev pub devices_line : Option (List (List ℕ)) → ℕ → List ℕ
devices_line None n = []
devices_line (Some devices) n = codes "devices\t" ++ (decimal n ++ byte "\n" ∷ [])

-- lines by file, an empty one, lines by key, an empty one, and the total
abbrev pub stat_lines : Option (List (List ℕ)) → Stat → List ℕ
stat_lines devices s =
    flat_map counts_line s.files
    ++ byte "\n" ∷ (flat_map counts_line s.keys ++ byte "\n" ∷ (counts_line (codes "total", s.total) ++ devices_line devices s.devices))

-- the members of a count
abbrev pub count_members : Count → List (List ℕ × Json)
count_members n = (codes "added", number_json n.came) ∷ (codes "removed", number_json n.went) ∷ (codes "changed", number_json n.changed) ∷ []

-- a name and its counts
abbrev pub count_object : (word : List ℕ) → List ℕ × Count → Json
count_object word n = object_of ((word, text_json n.0) ∷ count_members n.1)

-- the devices that have a change, if devices were asked for
abbrev pub devices_member : Option (List (List ℕ)) → ℕ → List (List ℕ × Json)
devices_member None n = []
devices_member (Some devices) n = (codes "devices", number_json n) ∷ []

-- one object of all counts
abbrev pub stat_object : Option (List (List ℕ)) → Stat → Json
stat_object devices s = object_of ((codes "files", array_of (map (count_object (codes "file")) s.files))
    ∷ (codes "keys", array_of (map (count_object (codes "key")) s.keys)) ∷ (codes "total", object_of (count_members s.total)) ∷ devices_member devices s.devices)

-- as text; nothing if no file has a change
abbrev pub stat_text : Option (List (List ℕ)) → Stat → List ℕ
stat_text devices s = if length s.files == 0 then [] else stat_lines devices s

-- as text or JSON
abbrev pub stat_form : (json : Bool) → Option (List (List ℕ)) → Stat → List ℕ
stat_form false devices s = stat_text devices s
stat_form true devices s = json_line (stat_object devices s)
