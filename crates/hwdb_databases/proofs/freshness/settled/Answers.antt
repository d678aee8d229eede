use Rattle.std.proofs.Common.{◌∙◌, sym}
use Rattle.hwdb_spec.specs.Tree.{map_of}
use Rattle.hwdb_databases.specs.Views.{state_shown}
use Rattle.hwdb_databases.proofs.AlikeLemmas.{changed_maps, stale_how}
use Rattle.hwdb_databases.proofs.freshness.settled.Goals as goal

pub returns : goal.returns
returns c =
    let old = map_of c.args.old.now in
    let new = map_of c.args.new.now in
    stale_how old new (state_shown c.args.state) c.requires.counted
    (changed_maps old new (state_shown c.args.state) c.requires.counted (sym c.is_unchanged.ensures ∙ c.if-is_unchanged.false))
