use Rattle.std.proofs.Common.{ap, refl, sym, ◌∙◌, ◌++◌, List, [], ℕ}
use Rattle.hwdb_spec_commands.specs.Refusals.{refusal_line, path_text}
use Rattle.hwdb_spec.specs.Visible.{shown_name}
use Rattle.hwdb_spec.specs.declared.errors.ToolError.{ToolError}
use Rattle.hwdb_system.proofs.LineLemmas.{refused_as, two_line, plain_text}
use Rattle.hwdb_system.proofs.refusals.refuse_over.Goals as goal

pub returns-in-Read-clause-line : goal.returns-in-Read-clause-line
returns-in-Read-clause-line g c =
    let line = c.refuse_file.ensures.line in
    let words = line.0 in (
      words,
      line.1,
      refused_as _ _ _ _ _ _ (ap (λ (e : ToolError). refusal_line (path_text e c.args.path.now c.args.cause words)) (sym c.in-Read.is)) line.2,
    )

pub returns-in-Write-clause-line : goal.returns-in-Write-clause-line
returns-in-Write-clause-line g c =
    let line = c.refuse_file-in-Write.ensures.line in
    let words = line.0 in (
      words,
      line.1,
      refused_as _ _ _ _ _ _ (ap (λ (e : ToolError). refusal_line (path_text e c.args.path.now c.args.cause words)) (sym c.in-Write.is)) line.2,
    )

pub returns-in-TooLong-clause-line : goal.returns-in-TooLong-clause-line
returns-in-TooLong-clause-line g c = (
  [],
  refl,
  refused_as _ _ _ _ _ _
      (two_line (shown_name c.args.path.now) c.as_slice-words.result.now
      ∙ ap (λ (w : List ℕ). refusal_line (shown_name c.args.path.now ++ w)) c.as_slice-words.ensures
      ∙ ap (λ (e : ToolError). refusal_line (path_text e c.args.path.now c.args.cause [])) (sym c.in-TooLong.is))
      c.refuse.ensures.line,
)

pub returns-in_default-clause-line : goal.returns-in_default-clause-line
returns-in_default-clause-line g c = (
  [],
  refl,
  refused_as _ _ _ _ _ _
      (ap refusal_line (plain_text c.args.error c.args.path.now [] c.args.cause c.in_default.not-Read c.in_default.not-Write c.in_default.not-TooLong c.in_default.not-BadDatabase))
      c.refuse_plainly.ensures.line,
)

pub returns-in-BadDatabase-clause-line : goal.returns-in-BadDatabase-clause-line
returns-in-BadDatabase-clause-line g c = (
  [],
  refl,
  refused_as _ _ _ _ _ _
      (ap (λ (e : ToolError). refusal_line (path_text e c.args.path.now c.args.cause [])) (sym c.in-BadDatabase.is))
      c.refuse_database_at.ensures.line,
)
