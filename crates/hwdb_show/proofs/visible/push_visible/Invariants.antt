use Rattle.std.proofs.Common.{◌≡◌, ◌++◌, drop}
use Rattle.hwdb_spec.specs.Visible.{visible_after}
use Rattle.hwdb_show.proofs.visible.push_visible.Given as goal

abbrev pub invariant-showing : goal.invariant-showing
invariant-showing l = l.shown.items ++ visible_after l.in_name l.left (drop l.i l.text) ≡ l.fn.shown.items ++ visible_after l.in_name 0 l.text
