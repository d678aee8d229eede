-- Worked rows of `check --rules`: where rules files are and which names count (udev(7)), which words it takes, and which files it reads. An
-- empty file in an earlier folder masks, as udev(7) has it.
use Rattle.std.specs.Prelude.{◌++◌, ◌∷◌, ◌≡◌, Err, List, None, Ok, Some, [], codes, false, flat_map, if◌then◌else◌, map, true, ℕ}
use Rattle.std.specs.Str.{bytes_eq}
use Rattle.hwdb_spec.specs.Folders.{Source}
use Rattle.hwdb_spec.specs.declared.errors.ToolError.TheVariants.{Read}
use Rattle.hwdb_rulefiles.specs.declared.choice.Folder.TheVariants.{Etc, Local, Run, Usr}
use Rattle.hwdb_spec_commands.specs.Checks.{names_other, rules_name}
use Rattle.hwdb_spec_commands.specs.RulePaths.{rules_folder, rules_path}
use Rattle.hwdb_spec_commands.specs.Told.{Reads, rules_told}
use Rattle.hwdb_spec_commands.specs.Told.Stop.{Over, Says}
use Rattle.hwdb_spec_commands.specs.Told.Unlisted.{Misnamed, Unopened}
use Rattle.hwdb_spec_commands.specs.declared.formats.Format.TheVariants.{Text as Reports}
use Rattle.hwdb_spec_commands.specs.declared.unread.Unread.TheVariants as unread
use Rattle.hwdb_plan.specs.Baseline.{over_baseline}
use Rattle.hwdb_plan.specs.Check.{check_plan, said_of}
use Rattle.hwdb_plan.specs.OwnRules.{own_rules}
use Rattle.hwdb_plan.specs.Plans.{End, Ends, Plan}
use Rattle.hwdb_plan.specs.Plans.End.{Answers, Stops}
use Rattle.hwdb_plan.specs.Plans.Plan.{Done}
use Rattle.hwdb_plan.specs.Requests.{Around}
use Rattle.hwdb_system.specs.Reads.{no_reads}
use Rattle.hwdb_laws.specs.PlanRows.{asked}

-- ---- folders and names
-- the four folders, and the path of a file without the root
abbrev pub FolderRows : Type 0
FolderRows =
    (map (rules_folder (codes "/r")) (Etc ∷ Run ∷ Local ∷ Usr ∷ [])
    ≡ codes "/r/etc/udev/rules.d" ∷ codes "/r/run/udev/rules.d" ∷ codes "/r/usr/local/lib/udev/rules.d" ∷ codes "/r/usr/lib/udev/rules.d" ∷ [])
    × (rules_path (record { folder = Run; name = codes "a.rules" }) ≡ codes "/run/udev/rules.d/a.rules")

-- Names that end in `.rules` count, unless they begin with a dot. One of them that isn't UTF-8 is an error, and another one isn't.
abbrev pub NameRows : Type 0
NameRows =
    rules_told (Ok (codes "b.rules" ∷ codes "a.rule" ∷ codes ".c.rules" ∷ codes "a.rules" ∷ [])) ∷ rules_told (Ok ((255 ∷ codes ".rule") ∷ codes "a.rules" ∷ []))
    ∷ rules_told (Ok (codes "a.rules" ∷ (255 ∷ codes ".rules") ∷ [])) ∷ rules_told (Err unread.TooLong) ∷ []
    ≡ Ok (codes "b.rules" ∷ codes "a.rules" ∷ []) ∷ Ok (codes "a.rules" ∷ []) ∷ Err (Misnamed (255 ∷ codes ".rules")) ∷ Err (Unopened unread.TooLong) ∷ []

-- ---- words
-- Each file is a rules file by its name, or standard input, which has a name that is one.
abbrev pub FitRows : Type 0
FitRows =
    (names_other None (codes "a.rules" ∷ codes "-" ∷ []) ∷ names_other None (codes "a.rules" ∷ codes "b.hwdb" ∷ []) ∷ names_other (Some (codes "c.rules")) (codes "-" ∷ [])
    ∷ names_other (Some (codes "c")) (codes "-" ∷ []) ∷ names_other (Some (codes "c.rules")) (codes "d" ∷ []) ∷ []
    ≡ false ∷ true ∷ false ∷ true ∷ true ∷ [])
    × (rules_name None (codes "a.rules" ∷ []) ∷ rules_name None (codes "-" ∷ []) ∷ rules_name (Some (codes "c.rules")) (codes "-" ∷ []) ∷ []
    ≡ None ∷ Some (codes "standard-input.rules") ∷ Some (codes "c.rules") ∷ [])

-- what is said of words that don't fit
abbrev pub unfit : Plan
unfit = Done (Stops (Says (codes "--rules takes rules files alone: FILE and the NAME of --name end in .rules, and - is standard input")))

-- which plans words ask for
abbrev pub WordRows : Type 0
WordRows =
    (a : Around)
    → asked a (codes "check" ∷ codes "--rules" ∷ codes "-r" ∷ codes "/r" ∷ []) ∷ asked a (codes "--strict" ∷ codes "check" ∷ codes "--rules" ∷ codes "--baseline=b" ∷ [])
    ∷ asked a (codes "check" ∷ codes "--rules" ∷ codes "a.rules" ∷ codes "-" ∷ []) ∷ asked a (codes "check" ∷ codes "--name=n.rules" ∷ codes "--rules" ∷ codes "-" ∷ [])
    ∷ asked a (codes "check" ∷ codes "--rules" ∷ codes "f" ∷ []) ∷ asked a (codes "check" ∷ codes "--rules" ∷ codes "--name=n" ∷ codes "-" ∷ [])
    ∷ asked a (codes "check" ∷ codes "--rules" ∷ codes "--name=n.rules" ∷ []) ∷ []
    ≡ Some (own_rules (codes "/r") (λ sources. Done (said_of Reports false [] None [] sources)))
    ∷ Some (over_baseline (Some (codes "b")) (λ known. own_rules [] (λ sources. Done (said_of Reports true [] None known sources))))
    ∷ Some (check_plan a.input (codes "a.rules" ∷ codes "-" ∷ []) [] (said_of Reports false [] (Some (codes "standard-input.rules")) []))
    ∷ Some (check_plan a.input (codes "-" ∷ []) [] (said_of Reports false [] (Some (codes "n.rules")) [])) ∷ Some unfit ∷ Some unfit
    ∷ Some (Done (Stops (Says (codes "--name names standard input: give - as FILE")))) ∷ []

-- ---- files
-- what is in the folders below /r
abbrev pub listing : List ℕ → List (List ℕ)
listing folder =
    if bytes_eq folder (codes "/r/etc/udev/rules.d") then codes "60-b.rules" ∷ codes "note" ∷ []
    else (if bytes_eq folder (codes "/r/run/udev/rules.d") then codes "60-b.rules" ∷ codes "10-a.rules" ∷ []
    else (if bytes_eq folder (codes "/r/usr/local/lib/udev/rules.d") then codes ".x.rules" ∷ codes "70-c.rules" ∷ codes "10-a.rules" ∷ []
    else (if bytes_eq folder (codes "/r/usr/lib/udev/rules.d") then codes "70-c.rules" ∷ codes "60-b.rules" ∷ codes "05-d.rules" ∷ [] else [])))

-- each file has its own path, but for the masked ones, which can't be read
abbrev pub told : Reads
told = record no_reads { ignored = λ folder. Ok (listing folder); text = λ path. if bytes_eq path (codes "/r/usr/lib/udev/rules.d/60-b.rules") then Err unread.TooLong else Ok path }

-- the same, but one folder or one file can't be read
abbrev pub unlisted : Reads
unlisted = record told { ignored = λ folder. if bytes_eq folder (codes "/r/run/udev/rules.d") then Err (unread.Failed None) else Ok (listing folder) }

abbrev pub unread_file : Reads
unread_file = record told { text = λ path. if bytes_eq path (codes "/r/usr/local/lib/udev/rules.d/70-c.rules") then Err (unread.Failed None) else Ok path }

-- the paths and texts of files, a line each
abbrev pub lines_of : List Source → End
lines_of sources = Answers 0 [] (flat_map (λ s. s.name ++ codes " " ++ s.bytes ++ codes "\n") sources)

abbrev pub read_below : List ℕ → Plan
read_below root = own_rules root (λ sources. Done (lines_of sources))

-- By name over all folders, each from its first folder. Without a folder there are none. What can't be read is an error.
abbrev pub ReadRows : Type 0
ReadRows =
    Ends told (read_below (codes "/r")) (Answers 0 [] (codes
    "/usr/lib/udev/rules.d/05-d.rules /r/usr/lib/udev/rules.d/05-d.rules\n/run/udev/rules.d/10-a.rules /r/run/udev/rules.d/10-a.rules\n/etc/udev/rules.d/60-b.rules /r/etc/udev/rules.d/60-b.rules\n/usr/local/lib/udev/rules.d/70-c.rules /r/usr/local/lib/udev/rules.d/70-c.rules\n"))
    × Ends told (read_below []) (Answers 0 [] []) × Ends unlisted (read_below (codes "/r")) (Stops (Over Read (codes "/r/run/udev/rules.d") None))
    × Ends unread_file (read_below (codes "/r")) (Stops (Over Read (codes "/r/usr/local/lib/udev/rules.d/70-c.rules") None))
