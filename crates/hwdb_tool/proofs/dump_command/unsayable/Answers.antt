use Rattle.std.proofs.Common.{◌∙◌, ◌++◌, ap, append_assoc, codes}
use Rattle.hwdb_spec_commands.specs.Reports.{shown}
use Rattle.hwdb_spec.specs.Visible.{shown_name}
use Rattle.hwdb_tool.proofs.dump_command.unsayable.Goals as goal

pub returns : goal.returns
returns c =
    c.in_ok-push_shown.ensures
    ∙ ap (λ l. l ++ shown c.args.pattern.now)
    (c.in_ok-extend_from_slice.ensures.items
    ∙ ap (λ l. l ++ codes ": no text file can say an assignment of the pattern ")
    (c.in_ok-push_name.ensures ∙ ap (λ l. l ++ shown_name c.args.path.now) c.new-text.ensures.items))
    ∙ append_assoc (shown_name c.args.path.now) (codes ": no text file can say an assignment of the pattern ") (shown c.args.pattern.now)
