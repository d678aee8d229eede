use Rattle.std.proofs.Common.{◌+◌, ◌<◌, ap, arith, length, take}
use Rattle.std.proofs.lemmas.List.{length-drop, take_rest}
use Rattle.hwdb_check.proofs.MarkLemmas.{mark_passed, mark_step}
use Rattle.hwdb_check.proofs.plain_files.tame_size.Goals as goal
use Rattle.hwdb_check.specs.Plain.{IsTame}

pub returns-then-place-text : goal.returns-then-place-text
returns-then-place-text c =
    mark_step c.args.text.now c.loop-at.at c.end_of.result _ c.loop-at.invariant.within c.loop-at.invariant.tame (take_rest c.args.text.now c.loop-at.at) c.end_of.ensures.place

pub returns-then-not-is_after_blank : goal.returns-then-not-is_after_blank
returns-then-not-is_after_blank c =
    mark_step c.args.text.now c.loop-at.at c.end_of.result _ c.loop-at.invariant.within c.loop-at.invariant.tame (take_rest c.args.text.now c.loop-at.at) c.end_of.ensures.place

pub loop-at-preserved : goal.loop-at-preserved
loop-at-preserved c =
    let text = c.args.text.now in
    let tame : IsTame 10 (take (c.loop-at.at + c.end_of.result) text) =
    mark_step text c.loop-at.at c.end_of.result _ c.loop-at.invariant.within c.loop-at.invariant.tame (take_rest text c.loop-at.at) c.end_of.ensures.place in
    let below : c.loop-at.at + c.end_of.result < length text =
    omega (arith, ap length (take_rest text c.loop-at.at), length-drop c.loop-at.at text, c.end_of.ensures.within, c.if-place-text.false, c.loop-at.invariant.within) in
    record {
      within = omega (arith, below);
      tame = mark_passed text (c.loop-at.at + c.end_of.result) below tame (c.is_after_blank.ensures c.if-not-is_after_blank.false);
    }
