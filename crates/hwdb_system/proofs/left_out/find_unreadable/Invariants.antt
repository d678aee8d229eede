use Rattle.std.proofs.Common.{map, string_bytes}
use Rattle.hwdb_text.specs.Views.{choice_of}
use Rattle.hwdb_system.specs.LeftOut.{AreToldOf}
use Rattle.hwdb_spec_commands.specs.Refusals.{IsUnreadable}
use Rattle.hwdb_system.proofs.ReadableLemmas.{HaveLooked}
use Rattle.hwdb_system.proofs.left_out.find_unreadable.Given as goal

abbrev pub invariant-loop-file : goal.invariant-loop-file
invariant-loop-file g l = record {
  told : AreToldOf (IsUnreadable (g.D.System.may_fail l.system) (g.D.Store.seen l.system)) l.root (map choice_of l.chosen) (map string_bytes l.found.names.items) l.found.said.items;
  looks : g.D.Store.tells → HaveLooked (g.D.System.reads l.system) l.root l.chosen l.file-index (map string_bytes l.found.names.items) l.found.said.items;
}
