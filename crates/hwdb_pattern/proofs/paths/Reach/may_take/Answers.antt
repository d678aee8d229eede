use Rattle.std.proofs.Common.{ap, sym, ◌∙◌, length, eqb-true}
use Rattle.hwdb_pattern.specs.Views.{Reached}
use Rattle.hwdb_pattern.proofs.TakenLemmas.{not_taken}
use Rattle.hwdb_pattern.specs.Internal.Met.{lengths_of}
use Rattle.hwdb_pattern.proofs.paths.Reach.may_take.Goals as goal

pub returns-then-is_empty : goal.returns-then-is_empty
returns-then-is_empty c lost path stands =
    not_taken c.args.self.now path c.self.inside.device.now (lengths_of c.self.inside.met) c.args.byte
    (c.stands_for_itself.ensures.no_star c.if-not-stands_for_itself.false) (c.stands_for_itself.ensures.no_mark c.if-not-stands_for_itself.false) (c.stands_for_itself.ensures.no_bracket c.if-not-stands_for_itself.false)
    (ap (λ (r : Reached). r.device) c.self.view_is)
    (ap (λ (r : Reached). r.lengths) c.self.view_is)
    (sym (ap (λ (r : Reached). length r.kept) c.self.view_is) ∙ sym (ap length c.deref-kept.ensures.value)
    ∙ eqb-true (length c.deref-kept.result.now) 0 (sym c.is_empty.ensures ∙ c.if-is_empty.true))
    (c.is_next.ensures lost) stands
