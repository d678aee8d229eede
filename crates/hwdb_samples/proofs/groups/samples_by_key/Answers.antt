use Rattle.std.proofs.lemmas.Result.{IfOk-weaker}
use Rattle.hwdb_samples.proofs.AllKeysLemmas.{all_found}
use Rattle.hwdb_samples.proofs.groups.samples_by_key.Goals as goal

pub returns : goal.returns
returns c = IfOk-weaker c.samples.result _ _ (λ list all. all_found c.in_ok-groups.groups c.args.old.now c.args.new.now c.in_ok-groups.ensures list.items all) c.samples.ensures
