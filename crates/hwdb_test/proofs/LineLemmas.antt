-- A file, line by line.
use Rattle.std.proofs.Common.{◌≡◌, ℕ, ◌+◌, ◌<◌, ◌≤◌, List, [], ◌∷◌, take, drop, length, ap}
use Rattle.std.specs.List.{position_or_len}
use Rattle.hwdb_spec.specs.Lines.{is, numbered, pieces}
use Rattle.hwdb_check.specs.Lemmas.Pieces.{line_at, no_line_at}
use Rattle.hwdb_check.specs.Internal.{line_of}

-- from line to line
pub first_line : (file : List ℕ) (at end number : ℕ) (rest : List ℕ) → at < length file → rest ≡ drop at file → end ≡ position_or_len (is 10) rest
    → numbered number (pieces (is 10) (drop at file)) ≡ line_of number (take end rest) ∷ numbered (number + 1) (pieces (is 10) (drop (at + end + 1) file))
unfolding numbered
first_line file at end number rest h r e = ap (numbered number) (line_at file at end rest h r e)

pub no_line : (file : List ℕ) (at number : ℕ) → length file ≤ at → numbered number (pieces (is 10) (drop at file)) ≡ []
unfolding numbered
no_line file at number h = ap (numbered number) (no_line_at file at h)
