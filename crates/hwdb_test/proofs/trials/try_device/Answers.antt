use Rattle.std.proofs.Common.{map}
use Rattle.hwdb_test.specs.Views.{line_at}
use Rattle.hwdb_test.proofs.TrialLemmas.{apart_from}
use Rattle.hwdb_test.proofs.trials.try_device.Goals as goal

pub try_lines-requires : goal.try_lines-requires
try_lines-requires c =
    apart_from (map line_at c.args.all.now) c.in_ok-found.found.items _ _ c.in_ok-others.others.items _ c.deref.ensures.value c.deref-2.ensures.value c.deref-3.ensures.value
    c.in_ok-found.ensures.ascend c.in_ok-others.ensures
