use Rattle.std.proofs.Common.{◌∙◌, ap, string_bytes}
use Rattle.hwdb_spec_commands.specs.Given.{is_dash}
use Rattle.hwdb_tool.proofs.CheckLemmas.{any_at, any_behind, any_from}
use Rattle.hwdb_tool.proofs.given.any_dash.Goals as goal

pub returns-then-is_dash : goal.returns-then-is_dash
returns-then-is_dash c = any_at string_bytes c.args.given.now c.loop-path.path-index c.path-item.result c.is_dash.result c.path-item.is c.loop-path-test.true
    (c.is_dash.ensures ∙ ap is_dash c.as_str.ensures.value) c.if-is_dash.true c.loop-path.invariant

pub loop-path-preserved : goal.loop-path-preserved
loop-path-preserved c = any_from string_bytes c.args.given.now c.loop-path.path-index c.path-item.result c.is_dash.result c.path-item.is c.loop-path-test.true
    (c.is_dash.ensures ∙ ap is_dash c.as_str.ensures.value) c.if-is_dash.false c.loop-path.invariant

pub returns : goal.returns
returns c = any_behind string_bytes c.args.given.now c.loop-path.path-index c.loop-path-test.false c.loop-path.invariant
