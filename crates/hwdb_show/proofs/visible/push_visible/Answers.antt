use Rattle.std.proofs.Common.{arith}
use Rattle.hwdb_show.proofs.VisibleLemmas.{all_shown}
use Rattle.hwdb_show.proofs.visible.push_visible.Goals as goal

pub returns : goal.returns
returns c =
    let past = c.showing-test.false in
    all_shown c.args.in_name c.args.text.now c.showing.shown.items _ c.showing.i c.showing.left (omega (arith, past)) c.showing.invariant
