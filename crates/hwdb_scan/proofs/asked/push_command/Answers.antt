use Rattle.std.proofs.Common.{◌∙◌, ◌++◌, ap, append_assoc, codes, List, ℕ}
use Rattle.hwdb_spec_commands.specs.Commands.{shell_word}
use Rattle.hwdb_scan.proofs.asked.push_command.Goals as goal

pub returns : goal.returns
returns c =
    c.in_ok-push_word.ensures ∙ ap (λ (l : List ℕ). l ++ shell_word c.args.path.now) c.in_ok-extend_from_slice.ensures.items
    ∙ append_assoc c.args.text.now.items (codes "; run it as root: sudo hwdb scan ") (shell_word c.args.path.now)
