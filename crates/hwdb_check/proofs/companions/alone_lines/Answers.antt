use Rattle.hwdb_spec_commands.specs.Surroundings.{companions_text}
use Rattle.hwdb_check.specs.Internal.{lacks_of}
use Rattle.hwdb_check.proofs.SoughtLemmas.{lines_step}
use Rattle.hwdb_check.proofs.companions.alone_lines.Goals as goal

pub loop-given-preserved : goal.loop-given-preserved
loop-given-preserved c =
    lines_step (λ a. lacks_of c.args.places.now a.position.pattern (companions_text a.position.key)) c.args.all.now c.loop-given.given-index _ _ _ c.loop-given-test.true
    c.in_ok-put_alone.ensures c.loop-given.invariant
