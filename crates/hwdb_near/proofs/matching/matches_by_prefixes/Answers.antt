use Rattle.std.proofs.Common.{◌∙◌, ◌↔◌, IsTrue, List, [], ℕ, subst}
use Rattle.hwdb_spec.specs.Patterns.{Matches, tokens}
use Rattle.hwdb_near.proofs.MatchingLemmas.{is_hit}
use Rattle.hwdb_near.proofs.matching.matches_by_prefixes.Goals as goal

pub accepts-requires : goal.accepts-requires
accepts-requires c = c.in_ok-reach.ensures.path [] c.start.ensures.path

pub returns : goal.returns
returns c =
    let device = c.args.device.now in
    let read = tokens c.args.pattern.now in
    let met = subst (λ (d : List ℕ). IsTrue c.accepts.result ↔ Matches read d) (c.in_ok-reach.ensures.device ∙ c.start.ensures.device) c.accepts.ensures in
    is_hit c.accepts.result read device met (c.matches_is_tested.ensures read device)
