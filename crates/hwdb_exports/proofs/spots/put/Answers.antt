use Rattle.std.proofs.Common.{refl}
use Rattle.hwdb_exports.proofs.SetLemmas.{set_one}
use Rattle.hwdb_exports.proofs.spots.put.Goals as goal

pub returns : goal.returns
returns c = set_one c.args.spots.now c.insert.new.self c.args.path c.args.spot _ (λ a b. refl) c.in_ok-insert.ensures.entries
