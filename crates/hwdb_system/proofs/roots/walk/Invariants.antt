use denote.Shadow.{shadow}
use denote.Text.{Utf8}
use Rattle.std.proofs.Common.{◌≡◌, length}
use Rattle.hwdb_system.proofs.roots.walk.Given as goal

abbrev pub decreases-names : goal.decreases-names
decreases-names g l = length l.left

abbrev pub invariant-names : goal.invariant-names
invariant-names g l = (l.place.root ≡ l.fn.place.root) × shadow (Utf8 l.left)
