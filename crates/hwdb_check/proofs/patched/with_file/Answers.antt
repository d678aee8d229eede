use Rattle.std.proofs.Common.{◌≡◌, ◌∙◌, List, ap, map, subst, ℕ}
use Rattle.std.specs.Prelude.{string_bytes}
use Rattle.hwdb_spec_commands.specs.RuleFindings.{findings_of}
use Rattle.hwdb_spec_commands.specs.Patches as spec
use Rattle.hwdb_check.specs.Patching.{edits_of}
use Rattle.hwdb_check.specs.Summed.{patched_of}
use Rattle.hwdb_check.proofs.HunkLemmas.{file_added}
use Rattle.hwdb_check.proofs.patched.with_file.Goals as goal

pub returns-clause-patched : goal.returns-clause-patched
returns-clause-patched c =
    let told = findings_of c.args.telling.now.format (map string_bytes c.args.telling.now.allowed.now) in
    let bytes = c.args.file.now.bytes.now in
    let so_far = patched_of c.args.so_far in
    let path = c.as_bytes-path.result.now in
    let own = c.in_ok-own.own in
    let all : spec.Patched = record { text = c.push_patch.new.text.items; found = c.both.result; left = c.both-2.result } in
    subst (λ (p : List ℕ). all ≡ spec.with_file so_far p bytes (spec.mended (told p) bytes)) c.as_bytes-path.ensures.value
    (file_added (spec.mended (told path) bytes) so_far path bytes c.push_patch.new.text.items (edits_of c.deref.result.now) own.before own.left c.both.result c.both-2.result
    (ap edits_of c.deref.ensures.value ∙ c.in_ok-own.ensures.mended.edits) c.in_ok-own.ensures.mended.before c.in_ok-own.ensures.mended.left
    c.in_ok-push_patch.ensures c.both.ensures c.both-2.ensures)
