use Rattle.std.proofs.Common.{List, map, subst, sym, ℕ}
use Rattle.hwdb_test.specs.Laws.{holds_of}
use Rattle.hwdb_test.specs.Views.{device_at}
use Rattle.hwdb_test.proofs.recording.record.Goals as goal

pub returns-clause-holds : goal.returns-clause-holds
returns-clause-holds c = λ path.
    subst (λ (text : List ℕ). holds_of c.args.db.now path text) (sym c.in_ok-text.ensures.text)
    (c.recorded_holds.ensures.holds c.args.db.now (map device_at c.args.devices.now) path c.in_ok-text.ensures.said)
