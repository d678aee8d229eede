use Rattle.std.proofs.Common.{ap, sym, ◌∙◌, length, eqb-true, [], ◌∷◌}
use Rattle.hwdb_pattern.specs.Views.{Reached}
use Rattle.hwdb_pattern.proofs.PathLemmas.{no_bytes}
use Rattle.hwdb_pattern.proofs.TakenLemmas.{fed_closed}
use Rattle.hwdb_pattern.proofs.paths.Reach.feed.Goals as goal

pub returns-in-Some-clause-path : goal.returns-in-Some-clause-path
returns-in-Some-clause-path c path stands =
    fed_closed c.args.self.now c.self.inside.device.now (c.in-Some.length ∷ []) path c.args.piece.now c.new.result.items
    (ap (λ (r : Reached). r.device) c.self.view_is)
    (no_bytes c.args.self.now.kept
    (sym (ap (λ (r : Reached). length r.kept) c.self.view_is) ∙ sym (ap length c.deref-kept.ensures.value)
    ∙ eqb-true (length c.deref-kept.result.now) 0 (sym c.is_empty.ensures ∙ c.if-is_empty.true)))
    c.new.ensures.items c.in-Some.ensures.closed c.in-Some.ensures.follows stands
