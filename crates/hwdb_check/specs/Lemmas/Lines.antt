-- A line of a file, by what is read of it.
use Rattle.std.proofs.Common.{◌≡◌, ℕ, Bool, true, false, List, ◌∷◌, ap, cond}
use Rattle.hwdb_spec.specs.Lines.{Line, begins_with, clean, clean_line, has, is_dropped}
use Rattle.hwdb_check.specs.Internal.{line_of}

-- a line, by what it says
pub clean_by : (d : Bool) (l : Line) (more : List Line) → is_dropped l ≡ d → clean (l ∷ more) ≡ cond d (clean more) (clean_line l ∷ clean more)
clean_by d l more e = ap (λ (t : Bool). cond t (clean more) (clean_line l ∷ clean more)) e

pub kept : (c z : Bool) → c ≡ false → z ≡ false → cond c true z ≡ false
kept true z e f = cc
kept false z e f = f

pub cleaned : (number : ℕ) (text : List ℕ) (more : List Line) → begins_with 35 text ≡ false → has 0 text ≡ false → clean (line_of number text ∷ more) ≡ clean_line (line_of number text) ∷ clean more
cleaned number text more e f = clean_by false (line_of number text) more (kept (begins_with 35 text) (has 0 text) e f)
