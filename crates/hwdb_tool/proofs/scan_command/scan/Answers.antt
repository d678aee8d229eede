use Rattle.hwdb_spec_commands.specs.Runs.{told_by}
use Rattle.hwdb_spec.specs.Lemmas.Calls.{failed_call}
use Rattle.hwdb_tool.proofs.ScanLemmas.{scan_done, scan_stops}
use Rattle.hwdb_tool.proofs.scan_command.scan.Goals as goal

pub returns-in-Ok-clause-follows : goal.returns-in-Ok-clause-follows
returns-in-Ok-clause-follows g c = λ reads err.
    let input = told_by g.I.Source.left g.I.Source.failures in
    let out = told_by g.O.Sink.taken g.O.Sink.failures in
    scan_done reads c.args.asked.root.now c.args.asked.device.now c.args.asked.count (input c.args.input.now) (input c.run_scan.new.input) err (out c.args.out.now) (out c.run_scan.new.out) c.in-Ok.ensures.scanned c.in-Ok.ensures.writes

pub returns-in-Err-clause-follows : goal.returns-in-Err-clause-follows
returns-in-Err-clause-follows g c = λ reads err.
    let input = told_by g.I.Source.left g.I.Source.failures in
    let out = told_by g.O.Sink.taken g.O.Sink.failures in
    scan_stops reads c.args.asked.root.now c.args.asked.device.now c.args.asked.count (input c.args.input.now) (input c.run_scan.new.input) err (out c.args.out.now) (out c.run_scan.new.out) c.in-Err.error c.refusal_of.result
    c.in-Err.ensures.errors c.refusal_of.ensures.read c.refusal_of.ensures.other c.in-Err.ensures.scanned (λ is. failed_call _ _ (c.in-Err.ensures.reads.0 is)) c.in-Err.ensures.writes
