use Rattle.std.proofs.Common.{◌∙◌, ◌+◌, ap, arith, sym}
use Rattle.std.proofs.lemmas.Result.{on_ok_weaker}
use Rattle.hwdb_check.specs.Patching.{edits_of}
use Rattle.hwdb_spec_commands.specs.Patches.{is_shown}
use Rattle.hwdb_check.proofs.HunkLemmas.{IsUpTo, all_hunks, hidden, is_rest, shown, up_to}
use Rattle.hwdb_check.proofs.hunks.push_hunks.Goals as goal
use Rattle.hwdb_check.proofs.hunks.push_hunks.Goals.{else-is_shown+in_ok-push_hunk, then-is_shown}

pub lines-preserved : goal.lines-preserved
lines-preserved c =
    let es = c.args.edits.now in
    let bare = c.args.bare in
    let at = c.lines.at in
    let from = c.lines.from in
    let left = c.lines.left in
    let text = c.lines.text.items in
    let inv = c.lines.invariant in
    let h = c.lines-test.true in
    let rest = sym (ap (λ l. is_shown left (edits_of l)) (is_rest es at)) in
    let r : IsUpTo bare es (at + 1) c.if-is_shown.text.items c.if-is_shown.left c.if-is_shown.from _ = elim c.if-is_shown.branch [
      | then-is_shown b ↦ up_to bare es (at + 1) text c.if-is_shown.text.items _ _ from _ _ (ap (λ v. v.items) b.text-is) b.left-is b.from-is
          (record {
            before = omega (arith, inv.before);
            within = omega (arith, h);
            so_far = shown bare es from at left c.index-edits-at.result text _ inv.before h c.index-edits-at.is inv.text b.left_after-left.result (rest ∙ sym c.is_shown.ensures ∙ b.if-is_shown.true) b.left_after-left.ensures;
          })
      | else-is_shown+in_ok-push_hunk b ↦ up_to bare es (at + 1) b.push_hunk.new.text.items c.if-is_shown.text.items 0 _ (at + 1) _ _ (ap (λ v. v.items) b.text-is) b.left-is b.from-is
          (record {
            before = omega arith;
            within = omega (arith, h);
            so_far = hidden bare es from at left c.index-edits-at.result text _ inv.before h c.index-edits-at.is inv.text b.push_hunk.new.text.items (rest ∙ sym c.is_shown.ensures ∙ b.if-is_shown.false) b.in_ok-push_hunk.ensures;
          })
    ] in
    record { before = r.before; within = r.within; text = r.so_far }

pub returns : goal.returns
returns c =
    on_ok_weaker c.push_hunk-2.result (λ grown. all_hunks c.args.bare c.args.edits.now c.lines.from c.lines.at c.lines.left c.lines.text.items c.push_hunk-2.new.text.items _ c.lines-test.false grown c.lines.invariant.text) c.push_hunk-2.ensures
