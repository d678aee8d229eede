use Rattle.std.proofs.Common.{◌∙◌, sym}
use Rattle.hwdb_databases.proofs.PairLemmas.{less_told, equal_told, greater_told}
use Rattle.hwdb_databases.proofs.pairs.Pairs.take_least.Goals as goal

pub returns-in-Less-clause-told : goal.returns-in-Less-clause-told
returns-in-Less-clause-told c = less_told _ _ _ _ c.args.old.now c.args.new.now c.requires.old c.requires.new (sym c.by_place.ensures ∙ c.in-Less.is)

pub returns-in-Equal-clause-told : goal.returns-in-Equal-clause-told
returns-in-Equal-clause-told c = equal_told _ _ _ _ c.args.old.now c.args.new.now c.requires.old c.requires.new (sym c.by_place.ensures ∙ c.in-Equal.is)

pub returns-in-Greater-clause-told : goal.returns-in-Greater-clause-told
returns-in-Greater-clause-told c = greater_told _ _ _ _ c.args.old.now c.args.new.now c.requires.old c.requires.new (sym c.by_place.ensures ∙ c.in-Greater.is)
