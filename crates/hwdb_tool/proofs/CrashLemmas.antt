-- A query over what an update leaves at any moment.
use Rattle.std.proofs.Common.{◌≡◌, ◌∙◌, inl, inr, ⊎_elim, ap, sym, subst, ℕ, Bool, true, false, List, [], ◌∷◌, Option, Some, None, bytes_eq, codes, if◌then◌else◌, get_or, arith}
use Rattle.std.specs.Prelude.{option_map}
use Rattle.std.specs.Option.{option_map_or, option_or}
use Rattle.std.proofs.lemmas.List.{append-nil, append_cancel_left}
use Rattle.clap.specs.Walk.{Row, Text}
use Rattle.clap.specs.Simple.{matches_of, subcommand_of}
use Rattle.hwdb_spec_commands.specs.Jobs.{IsJobOf, IsTask, has_flag}
use Rattle.hwdb_spec_commands.specs.CommandLine.{hwdb_app}
use Rattle.hwdb_spec_commands.specs.declared.job.Job.{Job}
use Rattle.hwdb_spec_commands.specs.declared.job.Task.{Task}
use Rattle.hwdb_spec_commands.specs.declared.job.Task.TheVariants.{Fresh, Update}
use Rattle.hwdb_query.specs.Laws.{AllCompiledAnswersAreLast, LastAssignmentsAreLast}
use Rattle.hwdb_spec.specs.Answers.{effective_of, last_assignments}
use Rattle.hwdb_spec.specs.Assignment.{Assignment}
use Rattle.hwdb_spec.specs.Folders.{Choice, all_assignments}
use Rattle.hwdb_spec.specs.Format.{IsDatabase}
use Rattle.hwdb_spec.specs.Store.{Contents, IsPartPath, LeftAtParts, Outcomes, Stored, database_name, part_name, path_in}
use Rattle.hwdb_spec.specs.System.{asked_database, bytes_at, database_folder}
use Rattle.hwdb_spec.specs.Texts as texts
use Rattle.hwdb_spec.specs.Texts.{properties_text}
use Rattle.hwdb_spec_commands.specs.Done.{IsLeftByUpdate}
use Rattle.hwdb_spec_commands.specs.LeftOut.{AreLeftOut, without}
use Rattle.hwdb_spec_program.specs.Program.{root_of, skips}
use Rattle.hwdb_tool.specs.Crash.{AnswersFrom, CrashThenQuery, CrashThenQueryOfAll, FaultsLeaveAll}
use Rattle.hwdb_tool.proofs.JobLemmas.{one_root}
use Rattle.hwdb_tool.proofs.OutcomeLemmas.{one_held}

-- what can't be read is left out by the command and its flags
abbrev by_flags : (check : Bool) → List Row → Bool
by_flags true inner = false
by_flags false inner = has_flag (codes "skip-unreadable") inner

abbrev by_name : Text → List Row → Bool
by_name name inner = if bytes_eq name (codes "update") then by_flags (has_flag (codes "check") inner) inner else false

skips_by_name : (name : Text) (inner : List Row) (t : Task) → IsTask name inner t → skips t ≡ by_name name inner
skips_by_name name inner (Update u) t = t.3 ∙ ap (λ (b : Bool). by_flags b inner) (sym t.1) ∙ ap (λ (n : Text). by_name n inner) (sym t.0)
skips_by_name name inner Fresh t = ap (λ (b : Bool). by_flags b inner) (sym t.1) ∙ ap (λ (n : Text). by_name n inner) (sym t.0)
skips_by_name name inner task t = ap (λ (n : Text). by_name n inner) (sym t.0)

-- words ask for one root and one folder, and one thing about what can't be read
one_place_of : (top : List Row) (found : Option (Text × List Row)) (j k : Job) → IsJobOf top found j → IsJobOf top found k → (root_of j ≡ root_of k) × (j.usr ≡ k.usr) × (skips j.task ≡ skips k.task)
one_place_of top None j k one two = absurd one
one_place_of top (Some p) j k one two = (
  one_root j ∙ ap (λ (o : Option (List ℕ)). option_map_or (λ (x : List ℕ). x) o []) (one.root ∙ sym two.root) ∙ sym (one_root k),
  one.usr ∙ sym two.usr,
  skips_by_name p.0 p.1 j.task one.task ∙ sym (skips_by_name p.0 p.1 k.task two.task),
)

-- no new file's name is the database's
path_apart : (folder : List ℕ) → IsPartPath folder (path_in folder database_name) → ⊥
path_apart folder is =
    let same : 47 ∷ database_name ≡ 47 ∷ part_name is.number = append_cancel_left folder (47 ∷ database_name) (47 ∷ part_name is.number) is.is in
    let first : 104 ≡ 46 = ap (λ (l : List ℕ). get_or l 1 0) same in
    absurd (omega (arith, first))

part_apart : (folder : List ℕ) (old : Contents) (v : Option Stored) → LeftAtParts folder old (path_in folder database_name) v → ⊥
part_apart folder old v (inl is) = path_apart folder (record { number = is.number; tried = is.tried; is = is.is })
part_apart folder old v (inr gone) = path_apart folder gone.0

module _ (all_last : AllCompiledAnswersAreLast) (are : LastAssignmentsAreLast) where
  answers : (root : List ℕ) (files old after : Contents) → IsLeftByUpdate root false files old (path_in (database_folder false root) database_name) (after (path_in (database_folder false root) database_name))
      → AnswersFrom root files after
  unfolding texts.with_empty_lines effective_of
  answers root files old after left device shown answered =
      let here = ⊎_elim (λ new. new) (λ part. absurd (part_apart (database_folder false root) old _ part)) left.left in
      let stands : asked_database root after ≡ Some here.0 =
      ap (λ o. option_or (option_map (λ (f : Stored). f.bytes) o) (bytes_at after (path_in (database_folder true root) database_name))) here.4 in
      let text = answered.is in
      let same : answered.bytes ≡ here.0 = one_held (asked_database root after) answered.bytes here.0 answered.named stands in
      let tree : IsDatabase here.0 text.tree = subst (λ b. IsDatabase b text.tree) same text.database in
      let hits = all_last left.of_etc left.of_usr here.0 here.2 text.tree tree device in
      record {
        of_etc = left.of_etc;
        of_usr = left.of_usr;
        in_etc = left.in_etc;
        in_usr = left.in_usr;
        last = last_assignments device None (all_assignments left.of_etc left.of_usr);
        are_last = are device None (all_assignments left.of_etc left.of_usr);
        is = text.is ∙ append-nil _ ∙ ap (λ (l : List Assignment). properties_text (effective_of l)) hits;
      }

  pub crashed : (fails : List ℕ → Type 0) (before : Outcomes) → CrashThenQuery fails before
  crashed fails before words job asked etc old after booted =
      let place = path_in (database_folder false (root_of job)) database_name in
      ⊎_elim (λ was. inl was)
      (λ asks. ⊎_elim (λ was. inl was)
      (λ done.
      let one = one_place_of (matches_of hwdb_app words) (subcommand_of hwdb_app words) asks.0 job asks.1 asked in
      let less = done.1 in
      let are = subst (λ (b : Bool). AreLeftOut b fails (root_of job) old less.left_out) one.2
      (subst (λ (r : List ℕ). AreLeftOut (skips asks.0.task) fails r old less.left_out) one.0 less.are) in
      inr (
        less.left_out,
        are,
        answers (root_of job) (without less.left_out (root_of job) old) old after
            (subst (λ (r : List ℕ). IsLeftByUpdate r false (without less.left_out r old) old place (after place)) one.0
            (subst (λ (b : Bool). IsLeftByUpdate (root_of asks.0) b (without less.left_out (root_of asks.0) old) old place (after place)) (one.1 ∙ etc) less.left)),
      )) asks.3)
      (booted place)

  pub crashed_of_all : (fails : List ℕ → Type 0) (before : Outcomes) → CrashThenQueryOfAll fails before
  crashed_of_all fails before words job asked etc whole old after booted =
      ⊎_elim (λ was. inl was)
      (λ read. inr (subst (λ (l : List Choice). AnswersFrom (root_of job) (without l (root_of job) old) after) (read.1.asked_for whole) read.2))
      (crashed fails before words job asked etc old after booted)

pub faults_leave : (fails : List ℕ → Type 0) (before : Outcomes) → FaultsLeaveAll fails before
faults_leave fails before words wrong old after booted p = ⊎_elim (λ was. was) (λ asks. absurd (wrong asks.2)) (booted p)
