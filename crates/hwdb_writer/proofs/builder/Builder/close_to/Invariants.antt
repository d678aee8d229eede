use Rattle.std.proofs.Common.{List}
use Rattle.hwdb_writer.specs.declared.entries.Setting.{Setting}
use Rattle.hwdb_writer.specs.Internal.Spine.{Frame, IsClosable, IsClosing}
use Rattle.hwdb_writer.proofs.builder.Builder.close_to.Given as goal

abbrev pub invariant-loop-self : goal.invariant-loop-self
invariant-loop-self l =
    (es : List Setting) (fs : List Frame) → IsClosable es l.initial.self fs → (gs : List Frame) × IsClosing es l.at l.initial.self l.self fs gs

abbrev pub decreases-loop-self : goal.decreases-loop-self
decreases-loop-self l = l.self.top.end
