use Rattle.std.proofs.Common.{◌≡◌, List, ℕ, Option, length}
use Rattle.std.specs.Prelude.{flat_map}
use Rattle.std.specs.Io.KnownBytes.{Appends}
use Rattle.hwdb_spec.specs.Outputs.{AppendsPrefix}
use Rattle.hwdb_answers.specs.Internal.{AppendsLines}
use Rattle.hwdb_spec_commands.specs.Listings.{line_of}
use Rattle.hwdb_spec.specs.Texts.{within_limit}
use Rattle.hwdb_answers.proofs.hit_lines.print_hits.Given as goal

abbrev pub invariant-printing : goal.invariant-printing
invariant-printing g l = record {
  whole : (end : Option (List ℕ)) → Appends (g.O.Sink.taken l.out) end (flat_map (line_of l.json) (within_limit l.left l.hits.to_come))
      → Appends (g.O.Sink.taken l.initial.out) end (flat_map (line_of l.json) (within_limit l.initial.left l.initial.hits.to_come));
  part : (end : Option (List ℕ)) → AppendsPrefix (g.O.Sink.taken l.out) end (flat_map (line_of l.json) (within_limit l.left l.hits.to_come))
      → AppendsPrefix (g.O.Sink.taken l.initial.out) end (flat_map (line_of l.json) (within_limit l.initial.left l.initial.hits.to_come));
  lines : (end : Option (List ℕ)) → AppendsLines (line_of l.json) (g.O.Sink.taken l.out) end (within_limit l.left l.hits.to_come)
      → AppendsLines (line_of l.json) (g.O.Sink.taken l.initial.out) end (within_limit l.initial.left l.initial.hits.to_come);
  same : g.O.Sink.failures l.out ≡ g.O.Sink.failures l.initial.out;
  flushed : g.O.Sink.is_flushed l.initial.out → g.O.Sink.is_flushed l.out;
}

abbrev pub decreases-printing : goal.decreases-printing
decreases-printing g l = length l.hits.to_come
