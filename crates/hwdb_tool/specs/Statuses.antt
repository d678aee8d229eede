-- What the steps of `status` hold.
use Rattle.std.specs.Prelude.{◌++◌, ◌≡◌, ◌≤◌, Bool, List, Option, codes, if◌then◌else◌, length, ℕ}
use Rattle.hwdb_spec.specs.Folders.{AreAccepted, Source}
use Rattle.hwdb_spec.specs.Texts.{max_file}
use Rattle.hwdb_spec.specs.Tree.{Map, map_of_files}
use Rattle.hwdb_spec.specs.Written.{IsDatabaseOf, IsWritten}
use Rattle.hwdb_plan.specs.Status.{InPlaces, Now}

-- the bytes are what `update` would write of these files
pub record AreMadeOf (of_etc of_usr : List Source) (made : List ℕ) : Type 0 where
  pub accepted : AreAccepted of_etc of_usr
  pub written : IsWritten (map_of_files of_etc of_usr) made
  pub database : IsDatabaseOf (map_of_files of_etc of_usr) made
  pub within : length made ≤ max_file

-- the path of an ignored file with this name
abbrev pub ignored_path : (usr : Bool) (name : List ℕ) → List ℕ
ignored_path usr name = (if usr then codes "/usr/lib/udev/hwdb.d/" else codes "/etc/udev/hwdb.d/") ++ name

-- ---- as plans go on with them
-- of which folders there is a database, the one that is asked, and the one that it hides
abbrev pub places : (etc usr : Bool) (asked hidden : Option (List ℕ)) → InPlaces
places etc usr asked hidden = record { etc = etc; usr = usr; asked = asked; hidden = hidden }

-- what the text files make now, if they assign this
abbrev pub now_with : Map → (bytes : List ℕ) (bare : Bool) (masked ignored : List (List ℕ)) → Now
now_with m bytes bare masked ignored = record { assigned = m; bytes = bytes; bare = bare; masked = masked; ignored = ignored }

-- they make these bytes, whatever they assign
abbrev pub IsNow : (bytes : List ℕ) (bare : Bool) (masked ignored : List (List ℕ)) → Now → Type 0
IsNow bytes bare masked ignored now = (now ≡ now_with now.assigned bytes bare masked ignored) × IsDatabaseOf now.assigned bytes
