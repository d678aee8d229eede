use Rattle.std.proofs.Common.{◌≡◌, ◌≤◌, ◌++◌, ◌-◌, [], drop, length, take}
use Rattle.std.specs.Prelude.{flat_map}
use Rattle.hwdb_spec_commands.specs.Patches.{hunk_text, hunks_from}
use Rattle.hwdb_check.specs.Patching.{edits_of}
use Rattle.hwdb_check.proofs.hunks.push_hunks.Given as goal

abbrev pub invariant-lines : goal.invariant-lines
invariant-lines l = record {
  before : l.from ≤ l.at;
  within : l.at ≤ length l.edits;
  text : l.text.items ++ flat_map (hunk_text l.bare) (hunks_from l.left (edits_of (take (l.at - l.from) (drop l.from l.edits))) (edits_of (drop l.at l.edits)))
      ≡ l.fn.text.items ++ flat_map (hunk_text l.bare) (hunks_from 0 [] (edits_of l.edits));
}

abbrev pub decreases-lines : goal.decreases-lines
decreases-lines l = length l.edits - l.at
