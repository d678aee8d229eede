use Rattle.std.proofs.Common.{◌≡◌, ◌++◌, drop}
use Rattle.hwdb_spec_commands.specs.Colours.{painted, painted_after, style_of, styled_after}
use Rattle.hwdb_show.proofs.colours.painted.Given as goal

abbrev pub invariant-painting : goal.invariant-painting
invariant-painting l = l.shown.items ++ painted_after (style_of l.before) (styled_after l.kind l.before (drop l.byte-index l.text)) ≡ painted l.kind l.text
