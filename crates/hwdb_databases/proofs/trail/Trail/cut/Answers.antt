use Rattle.std.proofs.Common.{◌∙◌, ap, min, take}
use Rattle.hwdb_databases.proofs.TrailLemmas.{cut_follows}
use Rattle.hwdb_databases.proofs.trail.Trail.cut.Goals as goal

pub returns-clause-follows : goal.returns-clause-follows
returns-clause-follows c =
    cut_follows c.args.self.now _ c.args.count c.requires (c.truncate.ensures.items ∙ ap (λ l. take c.args.count l.items) c.cut_path.ensures.segments)
    (c.min-self.ensures ∙ ap (λ k. min k c.args.count) c.cut_path.ensures.kept) c.cut_path.ensures.copies c.cut_path.ensures.path
