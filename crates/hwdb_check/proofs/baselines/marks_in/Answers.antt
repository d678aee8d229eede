use Rattle.std.proofs.Common.{◌∙◌, List, Result, ap, map, subst, sym, ℕ}
use Rattle.hwdb_spec_commands.specs.Baselines.{marks_from}
use Rattle.hwdb_check.specs.Known.{IsWrong, after_marks}
use Rattle.hwdb_text.specs.PiecesLeft.{lines_left}
use Rattle.hwdb_check.proofs.BaselineLemmas.{all_marked}
use Rattle.hwdb_check.proofs.baselines.marks_in.Goals as goal

pub returns-in-Err-clause-wrong : goal.returns-in-Err-clause-wrong
returns-in-Err-clause-wrong c =
    let marks = map (λ t. t.items) c.loop-text.marks.items in
    subst (λ (r : Result (List (List ℕ)) ℕ). IsWrong r c.in-Err.fault)
    (sym (ap (λ (l : List (List ℕ)). after_marks marks (marks_from c.loop-text.number l)) c.in-Some.ensures.steps) ∙ c.loop-text.invariant.marks)
    (c.in-Err.ensures.wrong (lines_left c.next.new.self))

pub returns-clause-marks : goal.returns-clause-marks
returns-clause-marks c =
    all_marked (map (λ t. t.items) c.loop-text.marks.items) c.loop-text.number (lines_left c.loop-text.text-iterator) _ c.in-None.ensures.steps.0 c.loop-text.invariant.marks
