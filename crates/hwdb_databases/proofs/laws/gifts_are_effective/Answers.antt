use Rattle.hwdb_databases.proofs.GiftLemmas.{gifts_told}
use Rattle.hwdb_databases.proofs.laws.gifts_are_effective.Goals as goal

pub returns : goal.returns
returns c = gifts_told c.explained_are_effective.ensures.properties c.explained_are_effective.ensures.present
