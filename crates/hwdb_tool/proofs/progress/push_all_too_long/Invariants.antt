use Rattle.std.proofs.Common.{◌≡◌, ◌++◌, take}
use Rattle.std.specs.Prelude.{flat_map}
use Rattle.hwdb_spec_commands.specs.Progress.{too_long_lines}
use Rattle.hwdb_text.specs.Views.{bytes_in, choice_in}
use Rattle.hwdb_tool.proofs.progress.push_all_too_long.Given as goal

abbrev pub invariant-loop-file : goal.invariant-loop-file
invariant-loop-file l =
    l.text.items ≡ l.fn.text.items ++ flat_map (λ f. too_long_lines (λ _. bytes_in f) (choice_in f)) (take l.file-index l.files)
