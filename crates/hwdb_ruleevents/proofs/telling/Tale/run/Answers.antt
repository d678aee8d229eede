use Rattle.std.proofs.Common.{◌∙◌, ap, map}
use Rattle.hwdb_rulefiles.specs.PairViews.{value_view}
use Rattle.hwdb_rulefiles.specs.TokenViews.{token_of}
use Rattle.hwdb_ruleevents.specs.ChangeViews.{held_of}
use Rattle.hwdb_ruleevents.specs.EffectViews.{effect_view, knowledge_of}
use Rattle.hwdb_ruleevents.specs.Telling.{effect_by_text}
use Rattle.hwdb_ruleevents.specs.TellViews.{tale_of, turn_of}
use Rattle.hwdb_ruleevents.specs.Texts.{text_told}
use Rattle.hwdb_ruleevents.proofs.TellLemmas.{run_passes, run_tale}
use Rattle.hwdb_ruleevents.proofs.telling.Tale.run.Goals as goal

pub returns-clause-tale : goal.returns-clause-tale
returns-clause-tale g c =
    run_tale (knowledge_of (g.C.Commands.known c.args.knowledge.now.commands.now) c.args.knowledge.now.facts) c.args.at.sure (turn_of c.args.at) (tale_of c.args.self.now) (tale_of c.ask.new.self)
    (token_of c.args.token.now) (value_view c.in_ok-text.text) (effect_view c.in_ok-effect.effect) c.passes_by-passes.result _ _
    (c.in_ok-text.ensures
    ∙ ap (λ cs. text_told (knowledge_of (g.C.Commands.known c.args.knowledge.now.commands.now) c.args.knowledge.now.facts) (map held_of cs) (token_of c.args.token.now)) c.deref.ensures.value)
    (c.in_ok-effect.ensures
    ∙ ap (λ cs. effect_by_text (knowledge_of (g.C.Commands.known c.args.knowledge.now.commands.now) c.args.knowledge.now.facts) (map held_of cs) (token_of c.args.token.now) (value_view c.in_ok-text.text))
    c.deref-2.ensures.value)
    c.passes_by-passes.ensures c.in_ok-ask.ensures c.and_then-self.ensures c.in_ok-put_all.ensures

pub returns-clause-passes : goal.returns-clause-passes
returns-clause-passes g c =
    run_passes (knowledge_of (g.C.Commands.known c.args.knowledge.now.commands.now) c.args.knowledge.now.facts) (tale_of c.args.self.now).changes (token_of c.args.token.now) (value_view c.in_ok-text.text)
    (effect_view c.in_ok-effect.effect) c.passes_by-passes.result
    (c.in_ok-text.ensures
    ∙ ap (λ cs. text_told (knowledge_of (g.C.Commands.known c.args.knowledge.now.commands.now) c.args.knowledge.now.facts) (map held_of cs) (token_of c.args.token.now)) c.deref.ensures.value)
    (c.in_ok-effect.ensures
    ∙ ap (λ cs. effect_by_text (knowledge_of (g.C.Commands.known c.args.knowledge.now.commands.now) c.args.knowledge.now.facts) (map held_of cs) (token_of c.args.token.now) (value_view c.in_ok-text.text))
    c.deref-2.ensures.value)
    c.passes_by-passes.ensures
