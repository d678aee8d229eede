-- The plans of `update`. That text files that were read become a database in a folder is systemd-hwdb(8)'s; what is said, `--strict` and
-- `--skip-unreadable` are our choice.
use Rattle.std.specs.Prelude.{◌==◌, ◌∷◌, ℕ, Bool, true, false, List, [], None, Option, Some, Result, Ok, Err, length, not}
use Rattle.hwdb_spec.specs.Folders.{Choice, FaultIn, Source, chosen_of}
use Rattle.hwdb_spec.specs.System.{database_folder}
use Rattle.hwdb_spec.specs.Texts.{status_of}
use Rattle.hwdb_spec.specs.Tree.{Tree, members_under}
use Rattle.hwdb_spec_commands.specs.Asked.{database_path}
use Rattle.hwdb_spec_commands.specs.Emptied.{loss_text}
use Rattle.hwdb_spec_commands.specs.LeftOut.{status_less}
use Rattle.hwdb_spec_commands.specs.Progress.{listing}
use Rattle.hwdb_spec_commands.specs.Told.{unread_stop}
use Rattle.hwdb_spec_commands.specs.declared.unread.Unread.{Unread}
use Rattle.hwdb_plan.specs.Plans.{Plan}
use Rattle.hwdb_plan.specs.Plans.End.{Answers, Stops}
use Rattle.hwdb_plan.specs.Plans.Plan.{Database, Done, Inspect}
use Rattle.hwdb_plan.specs.Put.{put_plan}
use Rattle.hwdb_plan.specs.Readable.{Readable, readable_texts}

-- ---- what is lost
-- what follows what may be in the place of a database, or the error if that isn't read
abbrev pub if_seen : (path : List ℕ) → (Option (List ℕ) → Plan) → Result (Option (List ℕ)) Unread → Plan
if_seen path next (Ok found) = next found
if_seen path next (Err w) = Done (Stops (unread_stop path w))

-- a tree assigns something, and so may bytes that are no database of ours
abbrev pub is_some_lost : Option Tree → Bool
is_some_lost None = true
is_some_lost (Some t) = not (length (members_under [] t) == 0)

-- whether something is lost if bytes that there may be are replaced or hidden
abbrev pub lost_of : Option (List ℕ) → (Bool → Plan) → Plan
lost_of None next = next false
lost_of (Some bytes) next = Inspect bytes (λ t. next (is_some_lost t))

-- the same of what is in a place
abbrev pub lost_in : (path : List ℕ) → (Bool → Plan) → Plan
lost_in path next = Database path (if_seen path (λ found. lost_of found next))

-- the lines of what is lost, if no text file is chosen: /etc's database is looked at first
abbrev pub loss_of : List Choice → (root : List ℕ) (usr : Bool) → ((loss : List ℕ) → Plan) → Plan
loss_of [] root usr next = lost_in (database_path false root) (λ etc. lost_in (database_path true root) (λ of_usr. next (loss_text root usr etc of_usr)))
loss_of (c ∷ more) root usr next = next []

-- ---- the command
-- The database of files that were read, put in its place in a folder. The status goes by their faults.
abbrev pub put_files : (root : List ℕ) (usr verbose : Bool) (answer : List FaultIn → ℕ) (of_etc of_usr : List Source) → Plan
put_files root usr verbose answer of_etc of_usr =
    loss_of (chosen_of of_etc of_usr) root usr (λ loss. put_plan loss of_etc of_usr (listing verbose of_usr) answer (database_folder usr root))

-- the same of those that can be read
abbrev pub put_readable : (root : List ℕ) (usr strict verbose : Bool) → Readable → Plan
put_readable root usr strict verbose r = put_files root usr verbose (λ faults. status_less strict r.left.files (status_of strict faults)) r.etc r.usr

-- what is said before: a line for each file that is left out, if the causes have these words
abbrev pub left_out_plan : (root : List ℕ) (skip : Bool) (words : List (List ℕ)) → Plan
left_out_plan root skip words = readable_texts skip root words (λ r. Done (Answers 0 r.left.said []))

-- and what is done after that
abbrev pub update_plan : (root : List ℕ) (usr strict verbose skip : Bool) (words : List (List ℕ)) → Plan
update_plan root usr strict verbose skip words = readable_texts skip root words (put_readable root usr strict verbose)
