-- What the laws say of a tree and its map, of its dump, and of the samples of two.
use Rattle.std.specs.Prelude.{◌≡◌, [], false, map, List, ℕ, None}
use Rattle.std.specs.FinMap as finite
use Rattle.std.specs.List.{AllByRecursion}
use Rattle.hwdb_spec.specs.Answers.{effective_of}
use Rattle.hwdb_spec.specs.Assignment.{Assignment}
use Rattle.hwdb_spec_commands.specs.DeviceDifferences.{gifts}
use Rattle.hwdb_spec_commands.specs.Dump.{dumped, dump_text, first_unsaid}
use Rattle.hwdb_spec.specs.Records.{Origin, assignments}
use Rattle.hwdb_spec.specs.Texts.{query_text, last_values_text}
use Rattle.hwdb_spec_commands.specs.LoneFile.{lone}
use Rattle.hwdb_spec_commands.specs.Reviews.{Review}
use Rattle.hwdb_spec_commands.specs.SampleDevices.{sample_devices, samples_differ, undecided_patterns}
use Rattle.hwdb_spec.specs.Tree.{Tree, IsTree, answers, members_under, map_of, entry_of}

-- What a tree assigns, from its root on, is its map from the first entry to the last.
abbrev pub MembersAreTheMap : Type 0
MembersAreTheMap = (t : Tree) → IsTree t → finite.entries (map_of t) ≡ map entry_of (members_under [] t)

-- what an assignment says: its pattern, its key and its value
abbrev pub said_of : Assignment → List ℕ × (List ℕ × List ℕ)
said_of f = (f.position.pattern, (f.position.key, f.value))

-- The text of a database whose records say all that it assigns, read as a file, says just that, in the dump's order.
abbrev pub DumpSays : Type 0
DumpSays = (t : Tree) (o : Origin) → first_unsaid (dumped t) ≡ None → map said_of (assignments o (dump_text t)) ≡ map said_of (dumped t)

-- `ask` tells a device of that text what `query` tells it of the database.
abbrev pub DumpTells : Type 0
DumpTells = (t : Tree) (device : List ℕ) → IsTree t → first_unsaid (dumped t) ≡ None
    → last_values_text device (lone (dump_text t)) [] ≡ query_text device t

-- What a database gives a device, by key, is what `query` tells it.
abbrev pub GiftsAreEffective : Type 0
GiftsAreEffective = (device : List ℕ) (t : Tree) → map (λ e. (e.0.1, e.1.value)) (finite.entries (gifts device t)) ≡ effective_of (answers device t)

-- Two databases give a device the same: for each key the value that `query` prints.
abbrev pub GiveSame : (old new : Tree) → (device : List ℕ) → Type 0
GiveSame old new device = effective_of (answers device old) ≡ effective_of (answers device new)

-- Each device of the samples gets something else from the new database.
abbrev pub SamplesShowChanges : Type 0
SamplesShowChanges = (old new : Tree) → IsTree old → IsTree new → AllByRecursion (λ device. ¬ GiveSame old new device) (sample_devices old new)

-- no option leaves a change out
abbrev pub LeavesNoneOut : Review → Type 0
LeavesNoneOut r = (r.only ≡ []) × (r.without ≡ []) × (r.prefixes ≡ [])

-- If no change is told of the samples and no pattern is undecided, then no device at all gets something else.
abbrev pub SamplesAreComplete : Type 0
SamplesAreComplete = (r : Review) (old new : Tree) → IsTree old → IsTree new → LeavesNoneOut r
    → samples_differ r old new ≡ false → undecided_patterns old new ≡ [] → (device : List ℕ) → GiveSame old new device
