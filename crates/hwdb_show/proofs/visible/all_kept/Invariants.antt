use Rattle.std.proofs.Common.{◌≡◌}
use Rattle.std.specs.List.{list_all}
use Rattle.hwdb_spec.specs.Visible.{is_kept}
use Rattle.hwdb_show.proofs.visible.all_kept.Given as goal

abbrev pub invariant-loop-c : goal.invariant-loop-c
invariant-loop-c l = l.kept ≡ list_all (is_kept l.in_name) l.yielded
