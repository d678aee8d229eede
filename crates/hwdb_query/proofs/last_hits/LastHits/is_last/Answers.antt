use Rattle.std.proofs.Common.{◌∙◌, ap, sym, Option, option_map}
use Rattle.hwdb_spec.specs.Assignment.{position_cmp}
use Rattle.hwdb_query.specs.Internal.Hits.{parts_position}
use Rattle.hwdb_query.specs.Internal.Collected.{Told, told_last}
use Rattle.hwdb_query.specs.declared.last_hits.Last.{Last}
use Rattle.hwdb_query.proofs.OrderLemmas.{after_none, after_less, after_other}
use Rattle.hwdb_query.proofs.last_hits.LastHits.is_last.Goals as goal

pub returns-in-None : goal.returns-in-None
returns-in-None c =
    after_none _ _ (ap (λ (o : Option Last). option_map (λ (t : Told). t.0) (option_map (told_last c.args.parts.key.now) o)) (sym c.in-None.ensures.value))

pub returns-in-Less : goal.returns-in-Less
returns-in-Less c =
    after_less _ _ _ (ap (λ (o : Option Last). option_map (λ (t : Told). t.0) (option_map (told_last c.args.parts.key.now) o)) (sym c.in-Some.ensures.value))
    (c.in-Less.ensures ∙ ap (λ s. position_cmp s (parts_position c.args.parts)) c.parts.ensures)

pub returns-in_default : goal.returns-in_default
returns-in_default c =
    after_other _ _ _ _ (ap (λ (o : Option Last). option_map (λ (t : Told). t.0) (option_map (told_last c.args.parts.key.now) o)) (sym c.in-Some.ensures.value))
    (c.order.ensures ∙ ap (λ s. position_cmp s (parts_position c.args.parts)) c.parts.ensures) c.in_default.not-Less
