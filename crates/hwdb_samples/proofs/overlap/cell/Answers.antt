use Rattle.std.proofs.Common.{sym, ◌∙◌, true, false, refl}
use Rattle.hwdb_spec.specs.Patterns.{token_at}
use Rattle.hwdb_spec_commands.specs.Overlaps.{takes_all}
use Rattle.hwdb_samples.proofs.OverlapLemmas.{star_here, star_next, one_cell}
use Rattle.hwdb_samples.proofs.overlap.cell.Goals as goal

pub returns-then-here : goal.returns-then-here
returns-then-here c = λ ps qs h a n. star_here (token_at c.args.over.now) (token_at c.args.under.now) ps qs c.if-begins_star.ensures (sym c.if-here.true ∙ h)

pub returns-then-begins_star : goal.returns-then-begins_star
returns-then-begins_star c = λ ps qs h a n. star_next (token_at c.args.over.now) (token_at c.args.under.now) ps qs _ c.if-begins_star.ensures (sym c.if-here.false ∙ h) n

pub returns-then-not-after : goal.returns-then-not-after
returns-then-not-after c = λ ps qs h a n.
    one_cell (token_at c.args.over.now) (token_at c.args.under.now) ps qs false (takes_all (token_at c.args.over.now) (token_at c.args.under.now)) c.if-begins_star.ensures (sym c.if-not-after.true ∙ a) refl

pub returns : goal.returns
returns c = λ ps qs h a n. one_cell (token_at c.args.over.now) (token_at c.args.under.now) ps qs true _ c.if-begins_star.ensures (sym c.if-not-after.false ∙ a) c.takes_all.ensures
