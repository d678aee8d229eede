use Rattle.std.proofs.Common.{arith, add-one, ◌+◌}
use Rattle.hwdb_spec_commands.specs.FormTable.{is_near}
use Rattle.hwdb_forms.proofs.LikeLemmas.{no_prefix, prefix_found, prefix_passed}
use Rattle.hwdb_forms.proofs.likeness.nearest.Goals as goal

pub returns-then-branch : goal.returns-then-branch
returns-then-branch c =
    prefix_found (is_near c.args.exact c.args.text.now) c.args.prefixes.now c.loop-prefix.prefix-index _ c.in_ok-is_near.field-0 _ (omega arith) c.in_ok-is_near.ensures c.if-branch.true c.loop-prefix.invariant

pub loop-prefix-preserved : goal.loop-prefix-preserved
loop-prefix-preserved c =
    prefix_passed (is_near c.args.exact c.args.text.now) c.args.prefixes.now c.loop-prefix.prefix-index (c.loop-prefix.prefix-index + 1) _ c.in_ok-is_near.field-0 _ (omega arith) (add-one c.loop-prefix.prefix-index)
    c.in_ok-is_near.ensures c.if-branch.false c.loop-prefix.invariant

pub returns : goal.returns
returns c = no_prefix (is_near c.args.exact c.args.text.now) c.args.prefixes.now c.loop-prefix.prefix-index _ c.loop-prefix-test.false c.loop-prefix.invariant
