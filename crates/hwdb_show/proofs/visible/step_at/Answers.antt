use Rattle.std.proofs.Common.{ap, arith, sym, take, List, ℕ, ◌+◌, ◌∙◌}
use Rattle.hwdb_spec.specs.Visible.{are_kept}
use Rattle.hwdb_show.proofs.VisibleLemmas.{slice_is, step_hex, step_kept}
use Rattle.hwdb_show.proofs.visible.step_at.Goals as goal

pub returns-then-are_kept : goal.returns-then-are_kept
returns-then-are_kept c =
    let none = c.if-left-gt0.false in
    step_kept c.args.in_name c.args.text.now c.args.i c.args.left c.continuation_len-more.result c.requires (omega (arith, none)) c.continuation_len-more.ensures
    (ap (λ (l : List ℕ). are_kept c.args.in_name (take (1 + c.continuation_len-more.result) l)) (sym (slice_is c.args.text.now c.args.i))
    ∙ ap (are_kept c.args.in_name) (sym c.front.ensures) ∙ sym c.are_kept.ensures ∙ c.if-are_kept.true)

pub returns : goal.returns
returns c =
    let none = c.if-left-gt0.false in
    step_hex c.args.in_name c.args.text.now c.args.i c.args.left c.continuation_len-more.result c.requires (omega (arith, none)) c.continuation_len-more.ensures
    (ap (λ (l : List ℕ). are_kept c.args.in_name (take (1 + c.continuation_len-more.result) l)) (sym (slice_is c.args.text.now c.args.i))
    ∙ ap (are_kept c.args.in_name) (sym c.front.ensures) ∙ sym c.are_kept.ensures ∙ c.if-are_kept.false)
