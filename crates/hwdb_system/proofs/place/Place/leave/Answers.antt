use Rattle.std.proofs.Common.{map, string_bytes, subst}
use Rattle.std.specs.Prelude.{All, option_to_list}
use Rattle.hwdb_system.specs.Roots.{IsName}
use Rattle.hwdb_system.proofs.RootLemmas.{front_names}
use Rattle.hwdb_system.proofs.place.Place.leave.Goals as goal

pub invariant_of-self : goal.invariant_of-self
invariant_of-self c = record {
  inward = front_names c.pop.new.self.items (option_to_list c.pop.result) (subst (λ l. All IsName (map string_bytes l)) c.pop.ensures.items c.args.self.now.inward);
}
