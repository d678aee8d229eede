use Rattle.std.proofs.Common.{List, ap, length, map, take, ◌+◌, ◌∙◌}
use Rattle.hwdb_spec_commands.specs.SamplesFound.{near}
use Rattle.hwdb_samples.specs.Views.{rule_texts}
use Rattle.hwdb_samples.specs.declared.rules.Rule.{Rule}
use Rattle.hwdb_samples.proofs.LevelLemmas.{level_longer}
use Rattle.hwdb_samples.proofs.levels.longer_level.Goals as goal

pub returns : goal.returns
returns c = λ old new is.
    let front = take (length c.args.last.now.front.now + 1) c.args.pattern.now in
    level_longer old new c.args.last.now c.in_ok-level.level front c.if-not-begins_with.ensures c.in_ok-level.ensures.front
    (c.in_ok-level.ensures.old ∙ ap (λ (l : List Rule). near front (map rule_texts l)) c.deref.ensures.value)
    (c.in_ok-level.ensures.new ∙ ap (λ (l : List Rule). near front (map rule_texts l)) c.deref-2.ensures.value) is
