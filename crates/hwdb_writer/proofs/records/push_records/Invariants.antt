use Rattle.std.proofs.Common.{List, ℕ}
use Rattle.hwdb_writer.specs.declared.entries.Setting.{Setting}
use Rattle.hwdb_writer.specs.declared.nodes.BuiltNode.{BuiltNode}
use Rattle.hwdb_writer.specs.Internal.Stored.{AreRecords}
use Rattle.hwdb_writer.proofs.RecordLemmas.{AreDone}
use Rattle.hwdb_writer.proofs.records.push_records.Given as goal

abbrev pub invariant-loop-node : goal.invariant-loop-node
invariant-loop-node l = (place : List ℕ → ℕ) (es : List Setting) (ns : List BuiltNode) → AreRecords place l.places es ns l.nodes l.values →
    AreDone place l.places es ns l.node-index l.initial.out.items l.out.items l.children.items l.rest
