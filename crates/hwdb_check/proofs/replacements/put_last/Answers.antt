use Rattle.std.proofs.Common.{ap, ◌∙◌}
use Rattle.std.specs.Option.{unwrap_or}
use Rattle.hwdb_check.proofs.RaiseLemmas.{raise_once, raise_twice}
use Rattle.hwdb_check.proofs.replacements.put_last.Goals as goal

pub returns-in_ok-insert-2 : goal.returns-in_ok-insert-2
returns-in_ok-insert-2 c =
    raise_twice c.args.last.now c.insert.new.self c.insert-then-line-before.new.self c.args.given.now.pattern c.args.given.now.key c.args.given.now.line c.unwrap_or-before.result
    (c.unwrap_or-before.ensures ∙ ap (λ o. unwrap_or o 0) c.in_ok-insert.ensures.old) c.if-line-before.true c.in_ok-insert.ensures.updates.0 c.in_ok-insert-2.ensures.updates.0

pub returns-else-line-before : goal.returns-else-line-before
returns-else-line-before c =
    raise_once c.args.last.now c.insert.new.self c.args.given.now.pattern c.args.given.now.key c.args.given.now.line c.unwrap_or-before.result
    (c.unwrap_or-before.ensures ∙ ap (λ o. unwrap_or o 0) c.in_ok-insert.ensures.old) c.if-line-before.false c.in_ok-insert.ensures.updates.0
