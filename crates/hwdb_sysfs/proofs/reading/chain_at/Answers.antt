use Rattle.std.proofs.Common.{arith, ap, map, List, ◌++◌, [], ◌∙◌, ◌-◌}
use Rattle.std.specs.List.{cons_option}
use Rattle.hwdb_spec_commands.specs.DeviceTree.{ancestor_below}
use Rattle.hwdb_spec.specs.Lines.{is, pieces}
use Rattle.hwdb_spec_commands.specs.SysfsAnswers.{seen}
use Rattle.hwdb_sysfs.specs.Views.{ancestor_of}
use Rattle.hwdb_sysfs.specs.declared.device.Ancestor.{Ancestor}
use Rattle.hwdb_sysfs.proofs.ChainLemmas.{chain_begins, chain_ends, chain_more}
use Rattle.hwdb_sysfs.proofs.reading.chain_at.Goals as goal

pub bytes-init : goal.bytes-init
bytes-init g c =
    let find = ancestor_below (seen (g.F.DeviceFiles.answers c.args.sysfs.now.files.now)) (pieces (is 10) c.args.sysfs.now.names.now) c.args.sysfs.now.folder.now in
    record {
      within = omega arith;
      chain = λ tells. chain_begins find c.args.place.now _ (c.in_ok-push_ancestor.ensures tells
          ∙ ap (λ (l : List Ancestor). map ancestor_of l ++ cons_option (find c.args.place.now) []) c.new-chain.ensures.items);
    }

pub bytes-preserved : goal.bytes-preserved
bytes-preserved g c =
    let find = ancestor_below (seen (g.F.DeviceFiles.answers c.args.sysfs.now.files.now)) (pieces (is 10) c.args.sysfs.now.names.now) c.args.sysfs.now.folder.now in
    record {
      within = omega (arith, c.bytes.invariant.within);
      chain = λ tells. chain_more find c.args.place.now c.bytes.end (c.bytes.end - 1) (map ancestor_of c.bytes.chain.items) _ _
          (omega (arith, c.bytes.invariant.within, c.bytes-test.true)) (omega (arith, c.bytes-test.true))
          (c.bytes.invariant.chain tells) (c.in_ok-push_above.ensures tells);
    }

pub returns : goal.returns
returns g c = λ tells.
    let find = ancestor_below (seen (g.F.DeviceFiles.answers c.args.sysfs.now.files.now)) (pieces (is 10) c.args.sysfs.now.names.now) c.args.sysfs.now.folder.now in
    chain_ends find c.args.place.now c.bytes.end (map ancestor_of c.bytes.chain.items) _ (omega (arith, c.bytes-test.false)) (c.bytes.invariant.chain tells)
