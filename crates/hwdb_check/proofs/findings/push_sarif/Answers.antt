use Rattle.std.proofs.Common.{◌≡◌, ◌∙◌, ◌++◌, ℕ, List, OnOk, length, subst}
use Rattle.std.specs.Option.{option_map}
use Rattle.hwdb_spec_commands.specs.Findings.{column, message}
use Rattle.hwdb_spec_commands.specs.Logs.{result_line}
use Rattle.hwdb_check.specs.Found.{finding_of}
use Rattle.hwdb_check.proofs.findings.push_sarif.Goals as goal

pub returns : goal.returns
returns c =
    let found = c.args.found.now in
    let Is : (severity : List ℕ) (n : ℕ) (text : List ℕ) (after : ℕ) → Type 0 = λ severity n text after.
    OnOk c.push_result.result (c.push_result.new.text.items
    ≡ c.args.text.now.items ++ result_line severity found.path.now found.line n found.kind.now text after (option_map (λ t. t.items) found.fix.now)) in
    let after = column (length found.source.now) in
    subst (λ (s : List ℕ). Is s (column found.place) (message (finding_of found)) after) c.severity_name.ensures
    (subst (λ (n : ℕ). Is c.severity_name.result.now n (message (finding_of found)) after) c.column_of.ensures
    (subst (λ (t : List ℕ). Is c.severity_name.result.now c.column_of.result t after) (c.deref.ensures.value ∙ c.in_ok-message.ensures)
    (subst (λ (a : ℕ). Is c.severity_name.result.now c.column_of.result c.deref.result.now a) c.column_of-2.ensures c.push_result.ensures)))
