use Rattle.hwdb_databases.proofs.PairLemmas.{none_told, old_told, new_told}
use Rattle.hwdb_databases.proofs.pairs.Pairs.next.Goals as goal

pub returns-in-None-None-clause-none : goal.returns-in-None-None-clause-none
returns-in-None-None-clause-none c = none_told _ _ c.in-None-None.ensures.none c.in-None-None.ensures'.none

pub returns-in-None-Some-clause-some : goal.returns-in-None-Some-clause-some
returns-in-None-Some-clause-some c = new_told _ _ _ c.in-None-Some.new.now c.in-None-Some.ensures.none c.in-None-Some.ensures'.some

pub returns-in-Some-None-clause-some : goal.returns-in-Some-None-clause-some
returns-in-Some-None-clause-some c = old_told _ _ _ c.in-Some-None.old.now c.in-Some-None.ensures.some c.in-Some-None.ensures'.none
