use Rattle.std.proofs.Common.{◌≡◌, Option, None, List, ℕ}
use Rattle.hwdb_spec.specs.Format.{IsDatabase}
use Rattle.hwdb_spec.specs.Tree.{Tree}
use Rattle.hwdb_answers.proofs.AnsweredLemmas.{AreAnsweredOf}
use Rattle.hwdb_answers.specs.Internal.{IsHeard}
use Rattle.hwdb_answers.specs.Streams.{to_come}
use Rattle.hwdb_answers.proofs.streaming.answer_lines.Given as goal

abbrev pub invariant-answering : goal.invariant-answering
invariant-answering g l = let untold : Option (List ℕ) = None in record {
  held : (t : Tree) × IsDatabase (g.R.Renewal.held l.database) t;
  same : g.R.Renewal.stays l.initial.database → g.R.Renewal.held l.database ≡ g.R.Renewal.held l.initial.database;
  stays : g.R.Renewal.stays l.initial.database → g.R.Renewal.stays l.database;
  lines : (t : Tree) → AreAnsweredOf l.form t l.counter l.is_first (g.I.Source.left l.initial.input) (to_come l.lines (g.I.Source.left l.input)) untold untold;
  so_far : g.R.Renewal.stays l.initial.database → (t : Tree) → IsDatabase (g.R.Renewal.held l.initial.database) t
      → AreAnsweredOf l.form t l.counter l.is_first (g.I.Source.left l.initial.input) (to_come l.lines (g.I.Source.left l.input)) (g.O.Sink.taken l.initial.out) (g.O.Sink.taken l.out);
  same_input : g.I.Source.failures l.input ≡ g.I.Source.failures l.initial.input;
  same_out : g.O.Sink.failures l.out ≡ g.O.Sink.failures l.initial.out;
  flushed : g.O.Sink.is_flushed l.initial.out → g.O.Sink.is_flushed l.out;
  quiet : g.R.Renewal.stays l.initial.database → l.err ≡ l.initial.err;
  heard : IsHeard l.is_heard (g.E.Sink.is_flushed l.initial.err) (g.E.Sink.is_flushed l.err) (g.E.Sink.failures l.initial.err) (g.E.Sink.failures l.err);
}
