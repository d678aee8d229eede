use Rattle.std.proofs.Common.{◌≡◌}
use Rattle.hwdb_spec.specs.Store.{AreTaken, Same}
use Rattle.hwdb_replace.specs.Internal.{Step}
use Rattle.hwdb_replace.proofs.replacement.make.Given as goal

abbrev pub invariant-numbers : goal.invariant-numbers
invariant-numbers g l = record {
  step : Step g.S.Store Same (g.S.Store.may_leave l.fn.store) l.fn.store l.store;
  taken : g.S.Store.tells → AreTaken l.folder l.number (g.S.Store.seen l.fn.store);
  folder : g.S.Store.is_folder l.store l.folder;
  same : g.S.Store.failures l.store ≡ g.S.Store.failures l.fn.store;
}
