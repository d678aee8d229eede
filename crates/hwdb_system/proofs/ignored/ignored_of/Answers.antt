use Rattle.std.proofs.Common.{◌≡◌, [], map, rules, sym}
use Rattle.hwdb_spec_commands.specs.Ignored.{is_ignored}
use Rattle.hwdb_system.proofs.EntryLemmas.{all_taken}
use Rattle.hwdb_system.proofs.ignored.ignored_of.Goals as goal

pub returns : goal.returns
returns c =
    let none : c.names.left.now ≡ [] = search rules in
    sym (all_taken is_ignored (map (λ n. n.items) c.names.names.items) c.names.left.now c.args.listing.now c.names.invariant none)
