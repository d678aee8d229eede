use Rattle.std.proofs.Common.{◌∙◌, sym}
use Rattle.hwdb_spec.specs.Tree.{map_of}
use Rattle.hwdb_databases.specs.Views.{state_shown}
use Rattle.hwdb_databases.proofs.AlikeLemmas.{one_map, stale_how, two_maps}
use Rattle.hwdb_databases.proofs.freshness.looked_at.Goals as goal

pub returns-then-same : goal.returns-then-same
returns-then-same c = one_map c.args.old.now c.args.new.now (sym c.in_ok-same.ensures ∙ c.if-same.true)

pub returns : goal.returns
returns c =
    let old = map_of c.args.old.now in
    let new = map_of c.args.new.now in
    stale_how old new (state_shown c.args.state) c.requires.counted
    (two_maps c.args.old.now c.args.new.now c.requires.old c.requires.new (sym c.in_ok-same.ensures ∙ c.if-same.false))
