use Rattle.std.proofs.Common.{◌≡◌, ◌≤◌, length}
use Rattle.hwdb_writer.specs.Internal.Numbered.{texts, IsReached, IsFilledTo, IsSectioned}
use Rattle.hwdb_writer.proofs.strings.fill.Given as goal

abbrev pub invariant-loop-i : goal.invariant-loop-i
invariant-loop-i l = record {
  long : length l.places ≡ length l.ordered;
  within : l.i ≤ length l.ordered;
  reached : IsReached l.first (texts l.ordered) l.i l.start l.end;
  filled : IsFilledTo l.first l.ordered l.places l.i;
  sectioned : IsSectioned l.initial.section.items (texts l.ordered) l.i l.section.items;
}
