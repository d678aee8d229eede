use Rattle.std.proofs.Common.{◌∙◌, ap, map, subst, List}
use Rattle.hwdb_spec.specs.Fronts.{Stops}
use Rattle.hwdb_spec.specs.Patterns.{Token, tokens}
use Rattle.hwdb_pattern.specs.Fronts.{front_of, token_of}
use Rattle.hwdb_near.proofs.fronts.stops.Goals as goal

pub returns-clause-computed : goal.returns-clause-computed
returns-clause-computed c =
    let front = front_of c.in_ok-front.front in
    c.stops_are_computed.ensures (tokens c.args.pattern.now) c.args.device.now front
    (subst (λ (ts : List Token). Stops ts c.args.device.now front) (ap (map token_of) c.deref.ensures.value ∙ c.in_ok-list.ensures) c.in_ok-front.ensures.stops)
