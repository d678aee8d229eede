use Rattle.std.proofs.Common.{List, ap, map, ◌∙◌}
use Rattle.hwdb_spec_commands.specs.SamplesFound.{samples_of}
use Rattle.hwdb_samples.specs.Views.{rule_texts}
use Rattle.hwdb_samples.specs.declared.rules.Rule.{Rule}
use Rattle.hwdb_samples.proofs.groups.found_of.Goals as goal

pub returns-clause-found : goal.returns-clause-found
returns-clause-found c =
    c.in_ok-found.ensures ∙ ap (λ (l : List Rule). samples_of (map rule_texts l) (map rule_texts c.deref-2.result.now)) c.deref.ensures.value
    ∙ ap (λ (l : List Rule). samples_of (map rule_texts c.args.sides.now.before.items) (map rule_texts l)) c.deref-2.ensures.value
