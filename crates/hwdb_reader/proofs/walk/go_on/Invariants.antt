use Rattle.std.proofs.Common.{◌≡◌, ◌≤◌, ◌↔◌, ◌∷◌}
use Rattle.hwdb_reader.specs.Internal.Walks.{AreOpen, ToCome}
use Rattle.hwdb_reader.proofs.walk.go_on.Given as goal

abbrev pub invariant-loop-i : goal.invariant-loop-i
invariant-loop-i l = record {
  same : l.path ≡ l.initial.path;
  kept : l.repeats ≡ l.initial.repeats;
  stand : AreOpen l.l.sizes l.b ((l.last.off, l.i) ∷ l.initial.path) l.next;
  sound : ToCome l.l.sizes l.b ((l.last.off, l.i) ∷ l.initial.path) l.next ↔ ToCome l.l.sizes l.b ((l.last.off, l.last.done) ∷ l.initial.path) l.begin;
  grown : l.begin ≤ l.next;
}
