use Rattle.std.proofs.Common.{◌+◌, ◌++◌, ◌∙◌, Bool, ap, drop, sym}
use Rattle.std.specs.Prelude.{slice_index}
use Rattle.hwdb_spec_commands.specs.Json.{begins_control, escaped_after}
use Rattle.hwdb_show.proofs.EscapeLemmas.{step_first, step_second}
use Rattle.hwdb_show.proofs.VisibleLemmas.{slice_is}
use Rattle.hwdb_show.proofs.escapes.push_at.Goals as goal

pub returns-then-second : goal.returns-then-second
returns-then-second c =
    step_second c.args.text.now.items _ c.args.json.now c.args.i c.requires c.in_ok-push_code.ensures
    ∙ ap (λ (b : Bool). c.args.text.now.items ++ escaped_after b (drop c.args.i c.args.json.now)) (sym c.if-second.true)

pub returns : goal.returns
returns c =
    step_first c.args.text.now.items _ c.args.json.now c.args.i c.begins_control-follows.result c.requires
    (c.begins_control-follows.ensures ∙ ap (begins_control (slice_index c.args.json.now c.args.i)) (slice_is c.args.json.now (c.args.i + 1))) c.in_ok-push_byte.ensures
    ∙ ap (λ (b : Bool). c.args.text.now.items ++ escaped_after b (drop c.args.i c.args.json.now)) (sym c.if-second.false)
