use Rattle.std.proofs.Common.{length, ◌+◌, ◌≡◌, ◌≤◌, ◌++◌, ℕ, List}
use Rattle.std.specs.Prelude.{flat_map}
use Rattle.hwdb_text.specs.PiecesLeft.{lines_left}
use Rattle.hwdb_spec_commands.specs.AllowedKinds.{file_findings, found_in_line, marked_from, names_in}
use Rattle.hwdb_check.specs.Found.{finds}
use Rattle.hwdb_check.specs.Following.{IsNext}
use Rattle.hwdb_check.specs.Internal.{texts}
use Rattle.hwdb_check.specs.Kept.{AreAlike}
use Rattle.hwdb_check.proofs.left.left_by_line.Given as goal

abbrev pub invariant-lines : goal.invariant-lines
invariant-lines l =
    let allowed = texts l.manner.allowed.now in
    record {
      near : l.number + length (lines_left l.lines) ≤ length l.bytes + 1;
      next : IsNext l.number l.next l.faults;
      names : List (List ℕ);
      are : AreAlike (flat_map names_in (texts l.kinds.items)) (flat_map names_in allowed ++ names);
      found : finds l.left.found.items ++ flat_map (found_in_line l.manner.format allowed l.path l.bytes) (marked_from names l.number (lines_left l.lines))
          ≡ file_findings l.manner.format allowed l.path l.bytes;
    }

abbrev pub decreases-lines : goal.decreases-lines
decreases-lines l = length (lines_left l.lines)
