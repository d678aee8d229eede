use Rattle.std.proofs.Common.{◌≡◌, map, length}
use Rattle.hwdb_text.specs.Views.{choice_of}
use Rattle.hwdb_text.specs.Internal.Choosing.{with_priorities, entry_of}
use Rattle.hwdb_text.proofs.choice.list.Given as goal

abbrev pub invariant-loop-name : goal.invariant-loop-name
invariant-loop-name l = record {
  so_far : map choice_of l.chosen.items ≡ with_priorities 1 (map entry_of l.yielded);
  count : l.priority ≡ length l.yielded;
}
