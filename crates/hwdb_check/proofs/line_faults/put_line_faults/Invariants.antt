use Rattle.std.proofs.Common.{◌≡◌, ◌++◌, ◌+◌, ◌-◌, ◌≤◌, ℕ, drop, filter, length}
use Rattle.std.specs.Prelude.{flat_map}
use Rattle.hwdb_spec.specs.Lines.{is}
use Rattle.hwdb_spec_commands.specs.Findings.{one_fault}
use Rattle.hwdb_check.specs.Found.{finds}
use Rattle.hwdb_check.specs.Following.{AreFrom}
use Rattle.hwdb_check.proofs.line_faults.put_line_faults.Given as goal

abbrev pub invariant-loop-next : goal.invariant-loop-next
invariant-loop-next l =
    let told = one_fault l.line.path.now l.line.text.now in
    record {
      within : l.next ≤ length l.faults;
      found : finds l.found.items ++ flat_map told (filter (λ f. is l.line.number f.line) (drop l.next l.faults))
          ≡ finds l.fn.found.items ++ flat_map told (filter (λ f. is l.line.number f.line) l.faults);
      same : (k : ℕ) → l.line.number + 1 ≤ k → filter (λ f. is k f.line) l.faults ≡ filter (λ f. is k f.line) (drop l.next l.faults);
      from : AreFrom l.line.number (drop l.next l.faults);
    }

abbrev pub decreases-loop-next : goal.decreases-loop-next
decreases-loop-next l = length l.faults - l.next
