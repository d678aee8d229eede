use Rattle.std.proofs.Common.{ap, refl, sym, ◌∙◌, List, [], ℕ}
use Rattle.hwdb_spec_commands.specs.Refusals.{refusal_line, refusal_text, path_text}
use Rattle.hwdb_spec_commands.specs.declared.refusals.Refusal.{Refusal}
use Rattle.hwdb_system.proofs.LineLemmas.{refused_as}
use Rattle.hwdb_system.proofs.refusals.refuse_for.Goals as goal

pub returns-in-At-clause-line : goal.returns-in-At-clause-line
returns-in-At-clause-line g c =
    let line = c.refuse_over.ensures.line in
    let words = line.0 in (
      words,
      line.1,
      refused_as _ _ _ _ _ _
          (ap (λ (p : List ℕ). refusal_line (path_text c.in-At.error p c.in-At.cause words)) c.deref.ensures.value
          ∙ ap (λ (r : Refusal). refusal_line (refusal_text r words)) (sym c.in-At.is))
          line.2,
    )

pub returns-in-NoDatabase-clause-line : goal.returns-in-NoDatabase-clause-line
returns-in-NoDatabase-clause-line g c = (
  [],
  refl,
  refused_as _ _ _ _ _ _ (ap (λ (r : Refusal). refusal_line (refusal_text r [])) (sym c.in-NoDatabase.is)) c.refuse_text.ensures.line,
)

pub returns-in-Plain-clause-line : goal.returns-in-Plain-clause-line
returns-in-Plain-clause-line g c = (
  [],
  refl,
  refused_as _ _ _ _ _ _ (ap (λ (r : Refusal). refusal_line (refusal_text r [])) (sym c.in-Plain.is)) c.refuse_plainly.ensures.line,
)
