use Rattle.std.proofs.Common.{◌≡◌, ◌∙◌, ap, sym, subst, map, string_bytes, List, [], Option}
use Rattle.clap.specs.Walk.{Row, Text, rows_of}
use Rattle.clap.specs.Matches.{found_of}
use Rattle.clap.specs.Simple.{App, is_simple, matches_of, subcommand_of, subcommand_rows_of}
use Rattle.clap.specs.Takes.{takes}
use Rattle.clap.specs.Faults.{fault_of, is_simple_and_free}
use Rattle.clap.specs.declared.parser.matches.ArgMatches.TheViews.{out-ArgMatches}
use Rattle.hwdb_spec_commands.specs.CommandLine.{hwdb_app}
use Rattle.hwdb_spec_commands.specs.Jobs.{IsJobOf}
use Rattle.hwdb_cli.proofs.FoundLemmas.{name_in_rows, job_found, command_found}
use Rattle.hwdb_cli.proofs.TakenLemmas.{command_taken}
use Rattle.hwdb_cli.proofs.ToldLemmas.{told_of_one}
use Rattle.clap.specs.Kinds.{HasKind}
use Rattle.hwdb_cli.proofs.args.read_words.Goals as goal

-- what is found is one of the commands, with what it needs
pub job_of-requires : goal.job_of-requires
job_of-requires c =
    let words = map string_bytes c.args.words.now in
    let app = c.in_ok-command.ensures in
    let exact = c.in-Ok.ensures.matches (ap is_simple app) in
    let sub_is : subcommand_rows_of c.in-Ok.matches ≡ subcommand_of hwdb_app words = exact.1 ∙ ap (λ (a : App). subcommand_of a words) app in
    let no_fault : fault_of hwdb_app words ≡ [] = sym (ap (λ (a : App). fault_of a words) app) ∙ c.in-Ok.ensures.kinds (ap is_simple_and_free app) in
    let taken = command_taken words no_fault in
    command_found (subcommand_rows_of c.in-Ok.matches) c.in-Some.name.now (rows_of (found_of c.in-Some.inner.now))
    (c.in-Some.ensures.name ∙ name_in_rows (out-ArgMatches c.in-Ok.matches).subcommand) c.in-Some.ensures.rows (taken.0, sub_is ∙ taken.1, taken.2)

pub returns-in-Err-clause-taken : goal.returns-in-Err-clause-taken
returns-in-Err-clause-taken c = λ t. c.refusal_of.ensures.memory (c.in-Err.ensures.passes (ap (λ (a : App). takes a (map string_bytes c.args.words.now)) c.in_ok-command.ensures ∙ t))

pub returns-clause-job : goal.returns-clause-job
returns-clause-job c =
    let words = map string_bytes c.args.words.now in
    let exact = c.in-Ok.ensures.matches (ap is_simple c.in_ok-command.ensures) in
    let top_is : rows_of (found_of c.in-Ok.matches) ≡ matches_of hwdb_app words = exact.0 ∙ ap (λ (a : App). matches_of a words) c.in_ok-command.ensures in
    let sub_is : subcommand_rows_of c.in-Ok.matches ≡ subcommand_of hwdb_app words = exact.1 ∙ ap (λ (a : App). subcommand_of a words) c.in_ok-command.ensures in
    let found : IsJobOf (rows_of (found_of c.in-Ok.matches)) (subcommand_rows_of c.in-Ok.matches) c.in_ok-job-in-Some.job =
    job_found _ _ _ _ _ (c.in-Some.ensures.name ∙ name_in_rows (out-ArgMatches c.in-Ok.matches).subcommand) c.in-Some.ensures.rows c.in_ok-job-in-Some.ensures in
    let P : List Row → Type 0 = λ rows. IsJobOf rows (subcommand_of hwdb_app words) c.in_ok-job-in-Some.job in
    let Q : Option (Text × List Row) → Type 0 = λ sub. IsJobOf (rows_of (found_of c.in-Ok.matches)) sub c.in_ok-job-in-Some.job in
    subst P top_is (subst Q sub_is found)

-- a job comes only if the words have no fault
pub returns-clause-whole : goal.returns-clause-whole
returns-clause-whole c =
    let words = map string_bytes c.args.words.now in
    let app = c.in_ok-command.ensures in
    sym (ap (λ (a : App). fault_of a words) app) ∙ c.in-Ok.ensures.kinds (ap is_simple_and_free app)

pub returns-in-Err-clause-told : goal.returns-in-Err-clause-told
returns-in-Err-clause-told c =
    let words = map string_bytes c.args.words.now in
    let app = c.in_ok-command.ensures in
    let may = subst (λ (a : App). HasKind (fault_of a words) c.in-Err.error) app (c.in-Err.ensures.kinds (ap is_simple_and_free app)) in
    told_of_one (fault_of hwdb_app words) c.in-Err.error c.refusal_of.result may c.refusal_of.ensures.told
