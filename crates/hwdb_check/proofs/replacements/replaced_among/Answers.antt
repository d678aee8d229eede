use Rattle.std.proofs.Common.{map}
use Rattle.hwdb_text.specs.Views.{given_in}
use Rattle.hwdb_check.specs.Internal.{own}
use Rattle.hwdb_check.proofs.ReplaceLemmas.{line_step, no_line}
use Rattle.hwdb_check.proofs.replacements.replaced_among.Goals as goal

pub loop-given-init : goal.loop-given-init
loop-given-init c = no_line (map (given_in own) c.args.all.now) c.new-replaced.result c.new-replaced.ensures.empty

pub loop-given-preserved : goal.loop-given-preserved
loop-given-preserved c =
    line_step c.args.all.now c.loop-given.given-index _ c.in_ok-last.last c.in_ok-same.same c.loop-given.replaced c.put_given.new.replaced c.loop-given-test.true c.in_ok-last.ensures c.in_ok-same.ensures
    c.loop-given.invariant c.in_ok-put_given.ensures
