-- What a terminal changes of a run.
use Rattle.std.proofs.Common.{◌≡◌, ap, refl, subst, sym, true, false, List, None, Option, Some, ℕ}
use Rattle.std.specs.Prelude.{option_map}
use Rattle.std.specs.Char.{encode_utf8}
use Rattle.std.specs.Fmt.{digits}
use Rattle.std.specs.Str.{chars, is_utf8}
use Rattle.clap.specs.Faults.{defaults_fault, flags_fault, walk_fault}
use Rattle.clap.specs.Simple.{subcommand_of}
use Rattle.clap.specs.Walk.{bundle_met, walked}
use Rattle.hex.specs.Hex.{encode_with}
use Rattle.hwdb_spec.specs.Lines.{pieces}
use Rattle.hwdb_spec.specs.Visible.{visible_after}
use Rattle.hwdb_spec_commands.specs.DeviceTree.{last_after}
use Rattle.hwdb_spec_commands.specs.CommandLine.{hwdb_app}
use Rattle.hwdb_spec_program.specs.ProgramPlan.{advice_given, program_plan}
use Rattle.hwdb_plan.specs.Advice.{advised, advised_if}
use Rattle.hwdb_plan.specs.Plans.{Plan}
use Rattle.hwdb_laws.specs.ShownPlans.{LineRows, ShownErrorRows, ShownRows, UnadvisedIsPlain, UnseenIsPlain}

unseen : (line : Option (List ℕ)) (p : Plan) → advised_if false line p ≡ p
unseen None p = refl
unseen (Some line) p = refl

each : (f : Plan → Plan) (o : Option Plan) → ((p : Plan) → f p ≡ p) → option_map f o ≡ o
each f None same = refl
each f (Some p) same = ap Some (same p)

pub unseen_is_plain : UnseenIsPlain
unseen_is_plain a words = each (advised_if false (advice_given (subcommand_of hwdb_app words))) (program_plan a words) (unseen (advice_given (subcommand_of hwdb_app words)))

pub unadvised_is_plain : UnadvisedIsPlain
unadvised_is_plain a words none =
    subst (λ (line : Option (List ℕ)). option_map (advised_if true line) (program_plan a words) ≡ program_plan a words) (sym none) (each (advised_if true None) (program_plan a words) (λ p. refl))

-- ---- rows
pub line_rows : LineRows
unfolding pieces visible_after is_utf8 chars encode_utf8 encode_with digits bundle_met walked flags_fault walk_fault defaults_fault last_after
line_rows = (refl, refl)

pub shown_rows : ShownRows
unfolding pieces visible_after is_utf8 chars encode_utf8 encode_with digits bundle_met walked flags_fault walk_fault defaults_fault last_after
shown_rows = λ a. refl

pub shown_error_rows : ShownErrorRows
unfolding pieces visible_after is_utf8 chars encode_utf8 encode_with digits bundle_met walked flags_fault walk_fault defaults_fault last_after advised
shown_error_rows = λ sight cause. refl
