use Rattle.std.proofs.Common.{◌∙◌, ◌++◌, ap, arith, cond, length, List, ℕ}
use Rattle.std.specs.Prelude.{filter, flat_map}
use Rattle.hwdb_spec.specs.Lines.{is}
use Rattle.hwdb_spec.specs.declared.Fault.{Fault}
use Rattle.hwdb_text.specs.PiecesLeft.{lines_left}
use Rattle.hwdb_spec_commands.specs.AllowedKinds.{ends_record, found_in_line, marked_from, names_in, names_to_end, one_unknown, unknown_names}
use Rattle.hwdb_spec_commands.specs.Findings.{found_faults, one_fault, one_warning}
use Rattle.hwdb_check.specs.Found.{finds}
use Rattle.hwdb_spec_commands.specs.Kinds.{is_told}
use Rattle.hwdb_spec_commands.specs.declared.WarningKind.{WarningKind}
use Rattle.hwdb_check.specs.Internal.{line_of, texts}
use Rattle.hwdb_check.specs.Leaving.{all_names}
use Rattle.hwdb_check.proofs.AllowedLemmas.{marked_end, marked_step}
use Rattle.hwdb_check.proofs.FollowLemmas.{two_pieces}
use Rattle.hwdb_check.proofs.KeptLemmas.{grown_alike}
use Rattle.hwdb_check.proofs.left.left_by_line.Goals as goal

pub lines-init : goal.lines-init
lines-init c =
    let allowed = texts c.args.manner.now.allowed.now in
    let format = c.args.manner.now.format in
    let path = c.args.path.now in
    let bytes = c.args.bytes.now in
    let left = lines_left c.new-lines.result in
    record {
      near = omega (arith, c.new-lines.ensures.few);
      next = c.first_next-next.ensures;
      names = names_to_end left;
      are = c.in_ok-kinds.ensures;
      found = ap (λ own. finds own ++ flat_map (found_in_line format allowed path bytes) (marked_from (names_to_end left) 1 left)) c.new.ensures.items
          ∙ ap (λ (ts : List (List ℕ)). flat_map (found_in_line format allowed path bytes) (marked_from (names_to_end ts) 1 ts)) c.new-lines.ensures.lines;
    }

pub lines-preserved : goal.lines-preserved
lines-preserved c =
    let allowed = texts c.args.manner.now.allowed.now in
    let format = c.args.manner.now.format in
    let path = c.args.path.now in
    let bytes = c.args.bytes.now in
    let names = c.lines.invariant.names in
    let n = c.lines.number in
    let text = c.in-Some.text.now in
    let line = line_of n text in
    let left = lines_left c.lines.lines in
    let rest = lines_left c.next.new.self in
    let here = λ (kind : WarningKind). ap (λ (o : List (List ℕ)). is_told o kind) (ap all_names c.deref-in-Some.ensures.value) ∙ c.lines.invariant.are kind in
    let all : List (List ℕ) = flat_map names_in allowed ++ names in
    record {
      near = omega (arith, ap length c.in-Some.ensures.steps, c.lines.invariant.near);
      next = c.in_ok-next.ensures.next;
      names = cond (ends_record text) (names_to_end rest) names;
      are = c.in_ok-kinds-2.ensures names c.lines.invariant.are;
      found = marked_step (found_in_line format allowed path bytes) _ _ _ names n left text rest c.in-Some.ensures.steps
          (two_pieces _ _ _ (found_faults path bytes line) _
          (c.in_ok-next.ensures.found ∙ ap (λ (fs : List Fault). finds c.lines.left.found.items ++ flat_map (one_fault path text) (filter (λ f. is n f.line) fs)) (c.deref-faults.ensures.value ∙ c.requires.faults))
          (grown_alike (λ ws. flat_map (one_unknown path line) (unknown_names text) ++ flat_map (one_warning format path line) ws) _ _ _ all _ bytes line here c.in_ok-known.ensures.1 c.in_ok-put_left.ensures))
          c.lines.invariant.found;
    }

pub returns : goal.returns
returns c =
    marked_end (found_in_line c.args.manner.now.format (texts c.args.manner.now.allowed.now) c.args.path.now c.args.bytes.now) _ _ c.lines.invariant.names c.lines.number (lines_left c.lines.lines)
    c.in_default.ensures.steps.0 c.lines.invariant.found
