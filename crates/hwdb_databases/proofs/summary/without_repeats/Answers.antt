use Rattle.std.proofs.lemmas.List.Filters.{dedup_is}
use Rattle.hwdb_databases.proofs.DifferentLemmas.{different_left}
use Rattle.hwdb_databases.proofs.summary.without_repeats.Goals as goal

pub returns : goal.returns
returns c = different_left (λ t. t.now) c.args.texts.items c.dedup.new.self.items (dedup_is _ _ _ c.dedup.ensures.filtered)
