use Rattle.std.proofs.Common.{ap, refl, sym, ◌∙◌, ◌++◌, List, [], ℕ, Option, Some}
use Rattle.hwdb_spec_commands.specs.Refusals.{refusal_line, file_text}
use Rattle.hwdb_spec.specs.Visible.{shown_name}
use Rattle.hwdb_spec.specs.declared.causes.Cause.{Cause}
use Rattle.hwdb_system.proofs.LineLemmas.{refused_as, cause_line, two_line}
use Rattle.hwdb_system.proofs.refusals.refuse_file.Goals as goal

pub returns-in-Some-clause-line : goal.returns-in-Some-clause-line
returns-in-Some-clause-line g c =
    let words = c.as_bytes.result.now in (
      words,
      c.as_bytes.ensures,
      refused_as _ _ _ _ _ _
          (cause_line c.as_bytes-failed.result.now (shown_name c.args.path.now) c.as_slice-colon.result.now words c.as_slice-colon.ensures
          ∙ ap (λ (f : List ℕ). refusal_line (f ++ file_text c.args.path.now (Some c.in-Some.cause) words)) c.as_bytes-failed.ensures.value
          ∙ ap (λ (o : Option Cause). refusal_line (c.args.failed.now ++ file_text c.args.path.now o words)) (sym c.in-Some.is))
          c.refuse-in-Some.ensures.line,
    )

pub returns-in-None-clause-line : goal.returns-in-None-clause-line
returns-in-None-clause-line g c = (
  [],
  refl,
  refused_as _ _ _ _ _ _
      (two_line c.as_bytes-failed.result.now (shown_name c.args.path.now)
      ∙ ap (λ (f : List ℕ). refusal_line (f ++ shown_name c.args.path.now)) c.as_bytes-failed.ensures.value
      ∙ ap (λ (o : Option Cause). refusal_line (c.args.failed.now ++ file_text c.args.path.now o [])) (sym c.in-None.is))
      c.refuse.ensures.line,
)
