use Rattle.std.proofs.Common.{◌≡◌, ◌++◌, map, take}
use Rattle.hwdb_spec_commands.specs.FormTable.{free}
use Rattle.hwdb_forms.specs.Internal.{form_of}
use Rattle.hwdb_forms.proofs.expecting.with_free.Given as goal

abbrev pub invariant-loop-prefix : goal.invariant-loop-prefix
invariant-loop-prefix l =
    map form_of l.all.items ≡ map form_of l.forms ++ map (λ prefix. free prefix.now) (take l.prefix-index l.prefixes)
