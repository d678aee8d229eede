use Rattle.std.proofs.lemmas.Result.{IfOk-weaker}
use Rattle.hwdb_spec.specs.Patterns.{token_at}
use Rattle.hwdb_pattern.proofs.PlaceLemmas.{steps_gathered, if_some_weaker, rest_none_passes}
use Rattle.hwdb_pattern.proofs.rests.Rest.stepped.Goals as goal

pub returns-clause-steps : goal.returns-clause-steps
returns-clause-steps c =
    IfOk-weaker c.gather.result _ _
    (λ found. if_some_weaker found _ _
    (λ lengths g. steps_gathered (token_at c.args.text.now) c.args.device.now c.bytes_of.result.now c.args.self.least c.args.self.count lengths.items c.bytes_of.ensures g))
    c.gather.ensures.gathered

pub returns-clause-free : goal.returns-clause-free
returns-clause-free c none =
    c.gather.ensures.free (rest_none_passes (token_at c.args.text.now) c.args.device.now c.bytes_of.result.now c.args.self.least c.args.self.count c.bytes_of.ensures none)
