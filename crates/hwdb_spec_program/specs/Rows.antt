-- Worked rows of this crate's definitions, with values from docs of others: libudev asks /etc's database first.
use Rattle.std.specs.Prelude.{[], Err, None, Ok, Some, codes, false, true, ◌∷◌, ◌≡◌}
use Rattle.hwdb_spec.specs.Store.{Contents}
use Rattle.hwdb_spec_commands.specs.declared.unread.Unread.TheVariants as unread
use Rattle.hwdb_plan.specs.Plans.End.{Answers}
use Rattle.hwdb_plan.specs.Plans.Plan.{Done}
use Rattle.hwdb_spec_program.specs.Hiding.{hiding_line, hiding_text}
use Rattle.hwdb_spec_program.specs.HidingPlan.{hiding_plan, is_there}

-- the line names both databases below the root, /etc's first; a byte that forges a line is shown
abbrev pub HidingRows : Type 0
HidingRows =
    hiding_line [] ∷ hiding_line (codes "/mnt\n") ∷ []
    ≡ codes "/etc/udev/hwdb.bin hides /usr/lib/udev/hwdb.bin: it is asked first\n"
    ∷ codes "/mnt\\x0a/etc/udev/hwdb.bin hides /mnt\\x0a/usr/lib/udev/hwdb.bin: it is asked first\n"
    ∷ []

-- it is said with both options alone
abbrev pub UnsaidRows : Type 0
UnsaidRows = (contents : Contents) → hiding_text true false [] contents ∷ hiding_text false true [] contents ∷ [] ≡ [] ∷ [] ∷ []

-- and nothing is asked without both
abbrev pub QuietRows : Type 0
QuietRows = hiding_plan true false [] ∷ hiding_plan false true [] ∷ [] ≡ Done (Answers 0 [] []) ∷ Done (Answers 0 [] []) ∷ []

-- what can't be read is there, too
abbrev pub ThereRows : Type 0
ThereRows = is_there (Ok None) ∷ is_there (Ok (Some [])) ∷ is_there (Err unread.TooLong) ∷ [] ≡ false ∷ true ∷ true ∷ []
