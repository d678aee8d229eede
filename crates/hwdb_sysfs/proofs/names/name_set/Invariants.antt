use Rattle.std.proofs.Common.{◌≡◌, filter, map}
use Rattle.hwdb_spec.specs.Assignment.{in_order, put_all, text_cmp}
use Rattle.hwdb_text.specs.PiecesLeft.{pieces_left}
use Rattle.hwdb_spec_commands.specs.SysfsAnswers.{leads_on, names_listed}
use Rattle.hwdb_sysfs.proofs.names.name_set.Given as goal

abbrev pub invariant-loop-name : goal.invariant-loop-name
invariant-loop-name l = put_all text_cmp (filter leads_on (pieces_left l.name-iterator)) (map (λ n. n.items) l.names.keys) ≡ in_order text_cmp (names_listed l.listing)
