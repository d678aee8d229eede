use Rattle.hwdb_spec_commands.specs.ChangeCounts.{counts_line}
use Rattle.hwdb_databases.proofs.NamedCountLemmas.{counts_step}
use Rattle.hwdb_databases.proofs.counts_text.push_lines.Goals as goal

pub loop-name-preserved : goal.loop-name-preserved
loop-name-preserved c =
    counts_step counts_line c.loop-name.text.items c.push_line.new.text.items c.loop-name.name-iterator c.next.new.self c.in-Some.name c.in-Some.count _
    c.in-Some.ensures.steps c.in_ok-push_line.ensures c.loop-name.invariant
