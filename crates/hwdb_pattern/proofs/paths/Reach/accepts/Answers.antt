use Rattle.std.proofs.Common.{ap, sym, ◌∙◌, length, eqb-true}
use Rattle.hwdb_pattern.specs.Views.{Reached}
use Rattle.hwdb_pattern.proofs.PathLemmas.{accept_test}
use Rattle.hwdb_pattern.specs.Internal.Met.{lengths_of}
use Rattle.hwdb_pattern.proofs.paths.Reach.accepts.Goals as goal

pub returns-then-is_empty : goal.returns-then-is_empty
returns-then-is_empty c =
    accept_test c.args.self.now c.args.path.now (lengths_of c.self.inside.met) c.self.inside.device.now c.contains.result
    (ap (λ (r : Reached). r.lengths) c.self.view_is)
    (ap (λ (r : Reached). r.device) c.self.view_is)
    (sym (ap (λ (r : Reached). length r.kept) c.self.view_is) ∙ sym (ap length c.deref-kept.ensures.value)
    ∙ eqb-true (length c.deref-kept.result.now) 0 (sym c.is_empty.ensures ∙ c.if-is_empty.true))
    c.contains.ensures c.requires
