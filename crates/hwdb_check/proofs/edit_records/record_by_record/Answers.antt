use Rattle.std.proofs.Common.{◌∙◌, ap, arith, sym}
use Rattle.hwdb_spec_commands.specs.AllowedKinds.{ends_record}
use Rattle.hwdb_check.specs.declared.edits.Edit.{Edit}
use Rattle.hwdb_check.proofs.EditRecordLemmas.{all_records, record_ends, same_record}
use Rattle.hwdb_check.proofs.edit_records.record_by_record.Goals as goal

pub lines-preserved-in_ok-seen : goal.lines-preserved-in_ok-seen
lines-preserved-in_ok-seen c =
    let inv = c.lines.invariant in
    let h = c.lines-test.true in
    record {
      before = omega arith;
      within = omega (arith, h);
      seen = c.in_ok-seen.ensures.within;
      lines = record_ends c.args.found.now c.args.edits.now c.lines.seen c.lines.from c.lines.at c.lines.all.items _ inv.lines c.index-edits-at.result inv.before h c.index-edits-at.is c.in_ok-seen.seen
          c.put_record.new.all.items (sym c.if-ends_record.true ∙ c.ends_record.ensures ∙ sym (ap (λ (e : Edit). ends_record e.old.now) c.index-edits-at.is)) c.in_ok-seen.ensures.end c.in_ok-seen.ensures.lines;
    }

pub lines-preserved : goal.lines-preserved
lines-preserved c =
    let inv = c.lines.invariant in
    let h = c.lines-test.true in
    record {
      before = omega (arith, inv.before);
      within = omega (arith, h);
      seen = inv.seen;
      lines = same_record c.args.found.now c.args.edits.now c.lines.seen c.lines.from c.lines.at c.lines.all.items _ inv.lines c.index-edits-at.result inv.before h c.index-edits-at.is (sym c.if-ends_record.false ∙ c.ends_record.ensures ∙ sym (ap (λ (e : Edit). ends_record e.old.now) c.index-edits-at.is));
    }

pub returns : goal.returns
returns c =
    all_records c.args.found.now c.args.edits.now c.lines.seen c.lines.from c.lines.at c.lines.all.items _ c.lines.invariant.lines c.in_ok-put_record.field-0 c.put_record-2.new.all.items c.lines-test.false
    c.in_ok-put_record.ensures.end c.in_ok-put_record.ensures.lines
