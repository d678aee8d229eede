use Rattle.std.proofs.Common.{◌≡◌, map, drop}
use Rattle.hwdb_rulefiles.specs.TokenViews.{token_of}
use Rattle.hwdb_ruleevents.specs.ChangeViews.{held_of}
use Rattle.hwdb_ruleevents.specs.EffectViews.{knowledge_of}
use Rattle.hwdb_ruleevents.specs.TellViews.{turn_of, tale_of}
use Rattle.hwdb_ruleevents.specs.Internal.{rest_of}
use Rattle.hwdb_ruleevents.specs.Telling.{tell_tokens}
use Rattle.hwdb_ruleevents.proofs.telling.tell_tokens.Given as goal

abbrev pub invariant-loop-token : goal.invariant-loop-token
invariant-loop-token g l =
    rest_of (knowledge_of (g.C.Commands.known l.knowledge.commands.now) l.knowledge.facts) l.sure (turn_of l.at) (tale_of l.tale) (map token_of (drop l.token-index l.tokens))
    ≡ tell_tokens (knowledge_of (g.C.Commands.known l.knowledge.commands.now) l.knowledge.facts) l.at.sure (turn_of l.at) (map held_of l.fn.changes.items) (map token_of l.tokens)
