-- What the program reports after a command.
use Rattle.std.proofs.Common.{◌≡◌, ◌∙◌, ◌<◌, ◌⊎◌, ⊎_elim, inl, inr, ap, subst, sym, List, Option, None, Some, Err, ℕ, []}
use Rattle.std.specs.Prelude.{◌||◌, codes, if◌then◌else◌}
use Rattle.std.specs.Str.{bytes_eq}
use Rattle.clap.specs.Faults.{fault_of}
use Rattle.clap.specs.Simple.{matches_of, subcommand_of}
use Rattle.clap.specs.Walk.{Row, Text}
use Rattle.hwdb_spec_commands.specs.CommandLine.{hwdb_app}
use Rattle.hwdb_spec_commands.specs.Jobs.{IsJobOf, IsTask}
use Rattle.hwdb_spec_commands.specs.Runs.{Told}
use Rattle.hwdb_spec_commands.specs.declared.job.Job.{Job}
use Rattle.hwdb_spec_commands.specs.declared.job.Task.{Task}
use Rattle.hwdb_spec_commands.specs.declared.job.Task.TheVariants.{Update}
use Rattle.hwdb_spec_commands.specs.declared.job.WordsFault.TheVariants.{Help, Usage}
use Rattle.hwdb_spec_commands.specs.WordFaults.{IsToldOfOne}
use Rattle.hwdb_spec_commands.specs.declared.refusals.Refusal.{Refusal}
use Rattle.hwdb_spec_commands.specs.declared.refusals.Refusal.TheVariants.{Plain}
use Rattle.hwdb_spec.specs.declared.errors.ToolError.TheVariants.{Write}
use Rattle.hwdb_spec_program.specs.ProgramPlan.{IsReported, error_status}
use Rattle.hwdb_spec_program.specs.TaskRefusals.{IsSaid, refused_status}
use Rattle.hwdb_spec_program.specs.Words.{AskFor}

-- ---- the status of an error
abbrev of_word : Text → ℕ
of_word word = if bytes_eq word (codes "diff") || bytes_eq word (codes "check") then 2 else 1

by_task : (word : Text) (rows : List Row) (task : Task) → IsTask word rows task → refused_status task ≡ of_word word
by_task word rows (Update u) is = ap of_word (sym is.0)
by_task word rows task is = ap of_word (sym is.0)

pub status_is : (words : List Text) (job : Job) → AskFor words job → refused_status job.task ≡ error_status (subcommand_of hwdb_app words)
status_is words job asked = by (matches_of hwdb_app words) (subcommand_of hwdb_app words) asked
  where
    by : (top : List Row) (found : Option (Text × List Row)) → IsJobOf top found job → refused_status job.task ≡ error_status found
    by top None is = absurd is
    by top (Some p) is = by_task p.0 p.1 job.task is.task

-- ---- the line of an error
pub refused_reported : (gone : Type 0) (failed given : ℕ) (r : Refusal) (status : ℕ) (then_ now : Told) → given ≡ failed → 0 < given → (status ≡ 0) ⊎ (status ≡ given) → (status ≡ 0 → r ≡ Plain Write)
    → (status ≡ 0 → gone) → (status ≡ 0 → now ≡ then_) → (0 < status → IsSaid r then_ now) → IsReported gone failed (Err r) status then_ now
refused_reported gone failed given r status then_ now same some (inl none) said is_gone quiet line = inr (none, said none, is_gone none, quiet none)
refused_reported gone failed given r status then_ now same some (inr is) said is_gone quiet line = inl (is ∙ same, line (subst (λ (n : ℕ). 0 < n) (sym is) some))

-- ---- words that are told something have a fault
pub help_is_told : (words : List Text) (text : _) → fault_of hwdb_app words ≡ [] → IsToldOfOne (fault_of hwdb_app words) (Help text) → ⊥
help_is_told words text none told = ⊎_elim (λ help. help) (λ version. version) (subst (λ ks. IsToldOfOne ks (Help text)) none told).0

pub usage_is_told : (words : List Text) (text : _) → fault_of hwdb_app words ≡ [] → IsToldOfOne (fault_of hwdb_app words) (Usage text) → ⊥
usage_is_told words text none told = (subst (λ ks. IsToldOfOne ks (Usage text)) none told).0.3
