use Rattle.std.proofs.Common.{◌++◌, ◌∙◌, ap}
use Rattle.hwdb_tool.proofs.ProgressLemmas.{deep_pieces}
use Rattle.hwdb_tool.proofs.progress.push_deep_line.Goals as goal

pub returns-in_ok-extend_from_slice-3 : goal.returns-in_ok-extend_from_slice-3
returns-in_ok-extend_from_slice-3 c =
    deep_pieces c.args.depth c.args.text.now.items _ _ _ c.if-depth-gt-DEEPEST_FOR_UDEV.true c.in_ok-extend_from_slice.ensures.items
    (c.in_ok-extend_from_slice-2.ensures.items ∙ ap (λ l. c.extend_from_slice.new.self.items ++ l) (c.as_bytes.ensures.value ∙ c.format.ensures.text)) c.in_ok-extend_from_slice-3.ensures.items
