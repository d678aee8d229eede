use Rattle.std.proofs.Common.{◌∷◌, [], codes}
use Rattle.hwdb_spec_commands.specs.Refusals.{file_text}
use Rattle.hwdb_system.proofs.LeftOutLemmas.{line_pieces}
use Rattle.hwdb_system.proofs.left_out.push_line.Goals as goal

pub returns : goal.returns
returns c = (
  c.in_ok-push_file.ensures.0,
  line_pieces c.args.said.now.items (codes "hwdb: cannot read ") (file_text c.args.path.now c.args.cause c.in_ok-push_file.ensures.0) (codes "; left out") (10 ∷ []) _ _ _
      c.in_ok-extend_from_slice.ensures.items c.in_ok-push_file.ensures.1 c.in_ok-extend_from_slice-2.ensures.items,
)
