use Rattle.std.proofs.Common.{◌≤◌, All, length}
use Rattle.hwdb_reader.specs.Internal.Shared.{AreShared}
use Rattle.hwdb_reader.specs.declared.twins.Stretch.{Stretch}
use Rattle.hwdb_reader.proofs.twins.stretches_from.Given as goal

abbrev pub invariant-loop : goal.invariant-loop
invariant-loop l = record {
  all : All (λ (s : Stretch). AreShared l.a l.b s.old s.new s.count) l.found.items;
  old : l.at.old ≤ length l.a;
  new : l.at.new ≤ length l.b;
}
