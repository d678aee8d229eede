use Rattle.std.proofs.Common.{◌≤◌, ◌-◌, length, map}
use Rattle.hwdb_spec.specs.Patterns.{tokens}
use Rattle.hwdb_forms.specs.Internal.{IsCut, LedTo, piece_of}
use Rattle.hwdb_forms.proofs.plain.through_way.Given as goal

abbrev pub invariant-loop-done : goal.invariant-loop-done
invariant-loop-done l = record {
  pieces : l.done ≤ length l.way;
  within : l.at ≤ length l.text;
  cut : IsCut l.text l.at;
  led : LedTo (map piece_of l.way) (tokens l.text) l.done l.at;
}

abbrev pub decreases-loop-done : goal.decreases-loop-done
decreases-loop-done l = length l.way - l.done
