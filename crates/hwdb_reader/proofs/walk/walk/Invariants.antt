use Rattle.std.proofs.Common.{◌≡◌, ◌↔◌}
use Rattle.hwdb_spec.specs.Format.{record_end, max_levels}
use Rattle.hwdb_reader.specs.Internal.Placed.{visit, IsSoundNode}
use Rattle.hwdb_reader.specs.Internal.Walks.{AreOpen, ToCome, last_end, steps_left}
use Rattle.hwdb_reader.proofs.walk.walk.Given as goal

abbrev pub invariant-loop-last : goal.invariant-loop-last
invariant-loop-last l = record {
  kept : l.repeats ≡ l.b;
  stand : AreOpen l.l.sizes l.b l.path l.begin;
  sound : ToCome l.l.sizes l.b l.path l.begin ↔ IsSoundNode l.l.sizes l.b (visit max_levels l.from l.off l.limit);
  end : last_end l.l.sizes l.b l.path l.begin ≡ record_end l.l.sizes l.b l.off;
}

abbrev pub decreases-loop-last : goal.decreases-loop-last
decreases-loop-last l = steps_left l.b l.path l.begin
