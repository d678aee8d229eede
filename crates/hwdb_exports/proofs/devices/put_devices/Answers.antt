use Rattle.std.proofs.Common.{arith, ◌+◌}
use Rattle.std.proofs.lemmas.List.{take_rest}
use Rattle.hwdb_exports.specs.Views.{exported}
use Rattle.hwdb_exports.proofs.StepLemmas.{device_here, names_step, no_spots, spots_step}
use Rattle.hwdb_exports.proofs.devices.put_devices.Goals as goal

pub lines-preserved-in-Continue-1 : goal.lines-preserved-in-Continue-1
lines-preserved-in-Continue-1 c =
    let d = exported c.in-Some.device in
    let begins = device_here c.args.lines.now _ c.lines.at _ d c.lines-test.true (take_rest c.args.lines.now (c.lines.at + 1)) c.in-Some.ensures in record {
      at_in = omega (arith, c.lines-test.true);
      spots = λ path. spots_step path c.lines.spots c.put_both.new.spots _ d _ _ begins c.in_ok-put_both.ensures.spots (c.lines.invariant.spots path);
      names = λ folder. names_step folder c.lines.names c.put_both.new.names _ d _ _ begins c.in_ok-put_both.ensures.names (c.lines.invariant.names folder);
    }

pub returns-clause-spots : goal.returns-clause-spots
returns-clause-spots c = λ path. no_spots c.args.lines.now c.lines.at path _ _ c.lines-test.false (c.lines.invariant.spots path)
