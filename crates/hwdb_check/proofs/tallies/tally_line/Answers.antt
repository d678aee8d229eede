use Rattle.std.proofs.Common.{◌++◌, ◌∙◌, ap, append_assoc, codes}
use Rattle.hwdb_spec_commands.specs.Checks.{count_text}
use Rattle.hwdb_check.proofs.tallies.tally_line.Goals as goal

pub returns : goal.returns
returns c =
    let files = count_text c.args.tally.files (codes "file") ++ codes ", " in
    let assignments = count_text c.args.tally.assignments (codes "assignment") ++ codes ", " in
    let found = count_text c.args.tally.faults (codes "fault") ++ codes ", " ++ (count_text c.args.tally.warnings (codes "warning") ++ codes "\n") in
    c.in_ok-push_findings.ensures
    ∙ ap (λ l. l ++ found) (c.in_ok-push_count_and-2.ensures ∙ ap (λ l. l ++ assignments) (c.in_ok-push_count_and.ensures ∙ ap (λ l. l ++ files) c.new-text.ensures.items))
    ∙ append_assoc files assignments found
