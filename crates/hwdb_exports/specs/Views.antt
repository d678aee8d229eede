-- What the types of this crate mean.
use Rattle.std.specs.Prelude.{◌≡◌, ◌++◌, ℕ, List, [], Option, Vec, map, option_map}
use Rattle.std.specs.declared.alloc.Global.{Global}
use Rattle.std.specs.BTreeMap.{BTreeMap, get_by}
use Rattle.std.specs.Cmp.Lexicographic.{slice_cmp}
use Rattle.std.specs.Option.{option_map_or}
use Rattle.std.specs.Ordering.{nat_cmp}
use Rattle.hwdb_spec_commands.specs.Exports as spec
use Rattle.hwdb_exports.specs.declared.devices.Exported.{Exported}
use Rattle.hwdb_exports.specs.declared.rules.Rule.{Rule}
use Rattle.hwdb_exports.specs.declared.spots.Spot.{Spot}

-- a rule
abbrev pub rule_of : Rule → spec.Rule
rule_of r = record { name = r.name.now; start = r.start.now; word = r.word.now; needs = r.needs.now }

-- a device of an export
abbrev pub exported : Exported → spec.Exported
exported d = record { path = d.path.now; lines = map (λ l. l.now) d.lines.now }

-- what a path leads to
abbrev pub spot_of : Spot → spec.Spot
spot_of s = record { place = s.place.items; text = option_map (λ t. t.items) s.text }

-- the same of a path in a table
abbrev pub spot_at : BTreeMap (Vec ℕ Global) Spot → (path : List ℕ) → Option spec.Spot
spot_at spots path = option_map spot_of (get_by (λ k. slice_cmp nat_cmp path k.items) spots)

-- a table took up these paths, one after another
abbrev pub AreSet : List (List ℕ × spec.Spot) → (old new : BTreeMap (Vec ℕ Global) Spot) → Type 0
AreSet rows old new = (path : List ℕ) → spot_at new path ≡ spec.spot_after path (spot_at old path) rows

-- what a folder lists in a table
abbrev pub names_at : BTreeMap (Vec ℕ Global) (Vec ℕ Global) → (folder : List ℕ) → List ℕ
names_at names folder = option_map_or (λ v. v.items) (get_by (λ k. slice_cmp nat_cmp folder k.items) names) []

-- a table took up these names, one after another
abbrev pub AreListed : List spec.Entry → (old new : BTreeMap (Vec ℕ Global) (Vec ℕ Global)) → Type 0
AreListed entries old new = (folder : List ℕ) → names_at new folder ≡ names_at old folder ++ spec.names_under folder entries
