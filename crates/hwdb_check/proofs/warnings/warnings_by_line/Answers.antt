use Rattle.std.proofs.Common.{◌∙◌, ◌++◌, ap, arith, filter, length, List, ℕ}
use Rattle.std.specs.Prelude.{flat_map}
use Rattle.hwdb_spec.specs.Lines.{is}
use Rattle.hwdb_spec.specs.declared.Fault.{Fault}
use Rattle.hwdb_spec_commands.specs.Findings.{found_faults, found_warnings, line_findings, one_fault}
use Rattle.hwdb_check.specs.Found.{finds}
use Rattle.hwdb_text.specs.PiecesLeft.{lines_left}
use Rattle.hwdb_check.specs.Internal.{line_of}
use Rattle.hwdb_check.specs.Leaving.{names_of}
use Rattle.hwdb_check.proofs.FollowLemmas.{line_step, two_pieces}
use Rattle.hwdb_check.proofs.warnings.warnings_by_line.Goals as goal

pub loop-text-preserved : goal.loop-text-preserved
loop-text-preserved c =
    let allowed = names_of c.args.telling.now in
    let format = c.args.telling.now.format in
    let path = c.args.path.now in
    let bytes = c.args.bytes.now in
    let n = c.loop-text.number in
    let text = c.in-Some.text.now in
    let line = line_of n text in
    let left = lines_left c.loop-text.text-iterator in
    let rest = lines_left c.next.new.self in
    record {
      near = omega (arith, ap length c.in-Some.ensures.steps, c.loop-text.invariant.near);
      next = c.in_ok-next.ensures.next;
      found = line_step (line_findings format allowed path bytes) _ _ _ n left text rest c.in-Some.ensures.steps
          (two_pieces _ _ _ (found_faults path bytes line) (found_warnings format allowed path bytes line)
          (c.in_ok-next.ensures.found ∙ ap (λ (fs : List Fault). finds c.loop-text.warned.found.items ++ flat_map (one_fault path text) (filter (λ f. is n f.line) fs)) (c.deref-faults.ensures.value ∙ c.requires.faults))
          (c.in_ok-put_line.ensures ∙ ap (λ (b : List ℕ). finds c.put_line_faults.new.found.items ++ found_warnings format allowed path b line) c.in_ok-known.ensures.1))
          c.loop-text.invariant.found;
    }
