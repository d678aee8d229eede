-- Command lines that the command takes.
use Rattle.std.proofs.Common.{◌≡◌, refl, true, codes, List, [], ◌∷◌, Some, None, option_map}
use Rattle.clap.specs.Walk.{Text, all_of, first_of}
use Rattle.clap.specs.Faults.{fault_of}
use Rattle.clap.specs.Takes.{takes}
use Rattle.clap.specs.declared.error.kind.ErrorKind.TheVariants.{DisplayHelp, InvalidSubcommand}
use Rattle.clap.specs.Simple.{subcommand_of}
use Rattle.clap.proofs.OnLiterals.{clap_on_literals}
use Rattle.hwdb_spec_commands.specs.CommandLine.{hwdb_app}

abbrev update_words : List Text
update_words = codes "hwdb" ∷ codes "-s" ∷ codes "update" ∷ codes "-r" ∷ codes "/x" ∷ []

pub update_taken : takes hwdb_app update_words ≡ true
unfolding clap_on_literals
update_taken = refl

abbrev query_words : List Text
query_words = codes "hwdb" ∷ codes "query" ∷ codes "--" ∷ codes "-a" ∷ []

pub query_taken : takes hwdb_app query_words ≡ true
unfolding clap_on_literals
query_taken = refl

pub query_device : option_map (λ p. first_of (codes "MODALIAS") p.1) (subcommand_of hwdb_app query_words) ≡ Some (Some (codes "-a"))
unfolding clap_on_literals
query_device = refl

abbrev check_words : List Text
check_words = codes "hwdb" ∷ codes "check" ∷ codes "b" ∷ codes "--strict" ∷ codes "a" ∷ codes "--" ∷ codes "-c" ∷ []

pub check_taken : takes hwdb_app check_words ≡ true
unfolding clap_on_literals
check_taken = refl

pub check_files : option_map (λ p. all_of (codes "FILE") p.1) (subcommand_of hwdb_app check_words) ≡ Some (Some (codes "b" ∷ codes "a" ∷ codes "-c" ∷ []))
unfolding clap_on_literals
check_files = refl

abbrev check_all_words : List Text
check_all_words = codes "hwdb" ∷ codes "check" ∷ []

pub check_all_taken : takes hwdb_app check_all_words ≡ true
unfolding clap_on_literals
check_all_taken = refl

pub check_no_files : option_map (λ p. all_of (codes "FILE") p.1) (subcommand_of hwdb_app check_all_words) ≡ Some None
unfolding clap_on_literals
check_no_files = refl

abbrev diff_words : List Text
diff_words = codes "hwdb" ∷ codes "diff" ∷ codes "a" ∷ codes "-s" ∷ codes "b" ∷ []

pub diff_taken : takes hwdb_app diff_words ≡ true
unfolding clap_on_literals
diff_taken = refl

pub diff_old : option_map (λ p. first_of (codes "OLD") p.1) (subcommand_of hwdb_app diff_words) ≡ Some (Some (codes "a"))
unfolding clap_on_literals
diff_old = refl

pub diff_new : option_map (λ p. first_of (codes "NEW") p.1) (subcommand_of hwdb_app diff_words) ≡ Some (Some (codes "b"))
unfolding clap_on_literals
diff_new = refl

abbrev verify_words : List Text
verify_words = codes "hwdb" ∷ codes "verify" ∷ codes "--" ∷ codes "-a" ∷ []

pub verify_taken : takes hwdb_app verify_words ≡ true
unfolding clap_on_literals
verify_taken = refl

pub verify_database : option_map (λ p. first_of (codes "DATABASE") p.1) (subcommand_of hwdb_app verify_words) ≡ Some (Some (codes "-a"))
unfolding clap_on_literals
verify_database = refl

abbrev dump_words : List Text
dump_words = codes "hwdb" ∷ codes "dump" ∷ codes "-r" ∷ codes "/x" ∷ []

pub dump_taken : takes hwdb_app dump_words ≡ true
unfolding clap_on_literals
dump_taken = refl

pub dump_no_database : option_map (λ p. first_of (codes "DATABASE") p.1) (subcommand_of hwdb_app dump_words) ≡ Some None
unfolding clap_on_literals
dump_no_database = refl

abbrev test_words : List Text
test_words = codes "hwdb" ∷ codes "test" ∷ codes "--database" ∷ codes "d" ∷ codes "b" ∷ codes "--json" ∷ codes "a" ∷ []

pub test_taken : takes hwdb_app test_words ≡ true
unfolding clap_on_literals
test_taken = refl

pub test_files : option_map (λ p. all_of (codes "FILE") p.1) (subcommand_of hwdb_app test_words) ≡ Some (Some (codes "b" ∷ codes "a" ∷ []))
unfolding clap_on_literals
test_files = refl

pub test_database : option_map (λ p. first_of (codes "database") p.1) (subcommand_of hwdb_app test_words) ≡ Some (Some (codes "d"))
unfolding clap_on_literals
test_database = refl

abbrev help_words : List Text
help_words = codes "hwdb" ∷ codes "-r" ∷ codes "/x" ∷ codes "help" ∷ codes "query" ∷ []

pub help_answers : fault_of hwdb_app help_words ≡ DisplayHelp ∷ InvalidSubcommand ∷ []
unfolding clap_on_literals
help_answers = refl

abbrev help_device_words : List Text
help_device_words = codes "hwdb" ∷ codes "query" ∷ codes "help" ∷ []

pub help_device_taken : takes hwdb_app help_device_words ≡ true
unfolding clap_on_literals
help_device_taken = refl
