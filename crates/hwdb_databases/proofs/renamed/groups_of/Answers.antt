use Rattle.std.proofs.Common.{◌≡◌, ◌∙◌, ◌+◌, ap, arith, length, refl}
use Rattle.std.proofs.lemmas.List.{length-drop, take_rest}
use Rattle.hwdb_spec_commands.specs.Renamed.{changed_pattern}
use Rattle.hwdb_databases.specs.Views.{change_shown}
use Rattle.hwdb_databases.proofs.RenamedLemmas.{group_taken, groups_over}
use Rattle.hwdb_databases.proofs.renamed.groups_of.Goals as goal

pub loop-from-preserved : goal.loop-from-preserved
loop-from-preserved c =
    let all = c.args.changes.now in
    let i = c.loop-from.from in
    let rest = take_rest all (i + 1) in
    record {
      in_all = omega (arith, ap length rest, length-drop (i + 1) all, c.run_len.ensures.within, c.loop-from-test.true);
      grouped = group_taken all i c.run_len.result c.index-changes-from.result c.pattern_of.result.now _ _ c.loop-from.all.items c.push.new.self.items c.in_ok-group.group _ c.loop-from-test.true
          c.index-changes-from.is c.pattern_of.ensures rest c.run_len.ensures.value refl c.in_ok-group.ensures c.in_ok-push.ensures.items c.loop-from.invariant.grouped;
    }

pub returns : goal.returns
returns c = groups_over c.args.changes.now c.loop-from.from c.loop-from.all.items _ c.loop-from-test.false c.loop-from.invariant.grouped
