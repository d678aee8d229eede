use Rattle.std.proofs.Common.{◌++◌, ◌∙◌, ap, length}
use Rattle.std.specs.Prelude.{flat_map}
use Rattle.hwdb_spec_commands.specs.Progress.{deep_line, kept_line, too_long_lines}
use Rattle.hwdb_spec_commands.specs.Summary.{depth}
use Rattle.hwdb_text.specs.Views.{bytes_in, choice_in}
use Rattle.hwdb_tool.proofs.progress.full_progress.Goals as goal

pub returns : goal.returns
returns c etc usr of m t is tree =
    c.in_ok-push_deep_line.ensures
    ∙ ap (λ n. c.push_all_too_long.new.text.items ++ deep_line n) (c.in_ok-depth.ensures t tree)
    ∙ ap (λ l. l ++ deep_line (depth t))
    (c.in_ok-push_all_too_long.ensures
    ∙ ap (λ l. l ++ flat_map (λ f. too_long_lines (λ _. bytes_in f) (choice_in f)) c.args.files.now)
    (c.in_ok-push_kept_line.ensures ∙ (λ i. c.in_ok-text.ensures i ++ kept_line (length c.args.files.now) (c.in_ok-given.ensures etc usr of i) (c.in_ok-kept.ensures m is i))))
