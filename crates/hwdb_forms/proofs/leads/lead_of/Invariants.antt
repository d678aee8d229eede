use Rattle.std.proofs.Common.{◌≤◌, ◌-◌, ◌++◌, List, length, map}
use Rattle.hwdb_spec.specs.Patterns.{Token}
use Rattle.hwdb_forms.specs.Internal.{piece_of, views}
use Rattle.hwdb_forms.proofs.LeadLemmas.{Led}
use Rattle.hwdb_forms.proofs.leads.lead_of.Given as goal

abbrev pub invariant-loop-done : goal.invariant-loop-done
invariant-loop-done l = record {
  pieces : l.done ≤ length l.pieces;
  tokens : l.at ≤ length l.tokens;
  led : (more : List Token) → Led (map piece_of l.pieces) (views l.tokens ++ more) l.done l.at;
}

abbrev pub decreases-loop-done : goal.decreases-loop-done
decreases-loop-done l = length l.pieces - l.done
