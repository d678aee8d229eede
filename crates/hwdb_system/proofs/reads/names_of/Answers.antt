use Rattle.std.proofs.Common.{◌≡◌, [], List, ℕ, ap, map, rules, Ok}
use Rattle.std.specs.Prelude.{string_bytes}
use Rattle.hwdb_spec.specs.Folders.{counts}
use Rattle.hwdb_system.proofs.EntryLemmas.{all_taken}
use Rattle.hwdb_system.proofs.reads.names_of.Goals as goal

pub returns-clause-exact : goal.returns-clause-exact
returns-clause-exact c =
    let none : c.names.left.now ≡ [] = search rules in
    ap (λ (l : List (List ℕ)). Ok l) (all_taken counts (map string_bytes c.names.names.items) c.names.left.now c.args.listing.now c.names.invariant none)
