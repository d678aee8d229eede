use denote.Shadow.{shadow}
use denote.Text.{Utf8}
use Rattle.std.proofs.Common.{◌≡◌, length}
use Rattle.hwdb_spec_commands.specs.Sides.{file_name}
use Rattle.hwdb_tool.proofs.sides.file_name.Given as goal

abbrev pub invariant-slashes : goal.invariant-slashes
invariant-slashes l = (file_name l.left ≡ file_name l.fn.path) × shadow (Utf8 l.left)

abbrev pub decreases-slashes : goal.decreases-slashes
decreases-slashes l = length l.left
