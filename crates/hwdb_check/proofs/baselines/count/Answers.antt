use Rattle.std.proofs.Common.{◌∙◌, ◌+◌, ap}
use Rattle.std.specs.Option.{unwrap_or}
use Rattle.hwdb_check.proofs.CountLemmas.{once_more}
use Rattle.hwdb_check.proofs.baselines.count.Goals as goal

pub returns : goal.returns
returns c =
    once_more c.args.left.now c.insert.new.self c.args.mark.now _ c.in_ok-insert.ensures.updates.0
    (ap (λ n. n + 1) (c.unwrap_or-before.ensures ∙ ap (λ o. unwrap_or o 0) (c.copied.ensures ∙ c.get.ensures.value)))
