use Rattle.std.proofs.Common.{◌≡◌, ◌⊎◌, ap, map, string_bytes, Global, Vec, ℕ}
use Rattle.hwdb_text.specs.Views.{choice_of}
use Rattle.hwdb_spec_commands.specs.Reading.{IsChosenUnread}
use Rattle.hwdb_spec_commands.specs.Refusals.{IsUnreadable}
use Rattle.hwdb_spec_commands.specs.declared.refusals.Refusal.TheVariants.{Plain}
use Rattle.hwdb_spec.specs.declared.errors.ToolError.TheVariants.{Memory}
use Rattle.hwdb_system.proofs.LeftOutLemmas.{chosen_at, handed_unread, none_told, told_more}
use Rattle.hwdb_system.proofs.ReadableLemmas.{have_all, have_ended, have_more, have_none}
use Rattle.hwdb_system.specs.Selections.{AreLeftOutBy}
use Rattle.hwdb_system.specs.declared.left_out.Unreadable.{Unreadable}
use Rattle.hwdb_system.proofs.left_out.find_unreadable.Goals as goal
use Rattle.hwdb_spec.specs.Lemmas.Calls.{given_error}

pub loop-file-init : goal.loop-file-init
loop-file-init g c = record {
  told = none_told (IsUnreadable (g.D.System.may_fail c.args.system.now) (g.D.Store.seen c.args.system.now)) c.args.root.now (map choice_of c.args.chosen.now) _ _
      (ap (map string_bytes) c.new.ensures.items) c.new-2.ensures.items;
  looks = λ tells. have_none (g.D.System.reads c.args.system.now) c.args.root.now c.args.chosen.now _ _ (ap (map string_bytes) c.new.ensures.items) c.new-2.ensures.items;
}

pub loop-file-preserved : goal.loop-file-preserved
loop-file-preserved g c = record {
  told = told_more (IsUnreadable (g.D.System.may_fail c.args.system.now) (g.D.Store.seen c.args.system.now)) (g.D.Store.seen c.args.system.now) c.args.root.now (map choice_of c.args.chosen.now) _ _ _ _
      (choice_of c.file-item.result) c.read_file-read.result c.loop-file.invariant.told
      (chosen_at c.args.chosen.now c.loop-file.file-index c.file-item.result c.file-item.is c.loop-file-test.true)
      c.read_file-read.ensures.refused c.read_file-read.ensures.reason c.in_ok-push_unread.ensures.noted;
  looks = λ tells. have_more (g.D.System.reads c.args.system.now) c.args.root.now c.args.chosen.now c.loop-file.file-index c.file-item.result _ _ c.loop-file-test.true c.file-item.is
      (c.loop-file.invariant.looks tells) (λ (v : Vec ℕ Global). v.items) c.read_file-read.result _ _ (c.read_file-read.ensures.told tells) c.read_file-read.ensures.refused c.in_ok-push_unread.ensures.noted;
}

pub returns-in_err-push_unread-clause-refused : goal.returns-in_err-push_unread-clause-refused
returns-in_err-push_unread-clause-refused g c =
    given_error c.in_err-push_unread.field-0.0 (λ r. (r ≡ Plain Memory) ⊎ IsChosenUnread c.args.root.now (map choice_of c.args.chosen.now) r) c.from_residual.result c.from_residual.ensures.1
    (handed_unread c.args.root.now c.args.chosen.now c.loop-file.file-index c.file-item.result c.read_file-read.result c.in_err-push_unread.field-0.0 c.file-item.is c.loop-file-test.true
    c.read_file-read.ensures.refused c.in_err-push_unread.ensures.refused)

pub returns-in_err-push_unread-clause-follows : goal.returns-in_err-push_unread-clause-follows
returns-in_err-push_unread-clause-follows g c = λ tells.
    have_ended (g.D.System.reads c.args.system.now) c.args.root.now c.args.chosen.now c.loop-file.file-index c.file-item.result _ _ c.loop-file-test.true c.file-item.is
    (c.loop-file.invariant.looks tells) (λ (v : Vec ℕ Global). v.items) (λ (u : Unreadable). AreLeftOutBy c.args.root.now (map string_bytes u.names.items) u.said.items)
    c.read_file-read.result c.in_err-push_unread.field-0.0 c.from_residual.result
    (c.read_file-read.ensures.told tells) c.in_err-push_unread.ensures.refused c.in_err-push_unread.ensures.other c.from_residual.ensures.1

pub returns-clause-follows : goal.returns-clause-follows
returns-clause-follows g c = λ tells.
    have_all (g.D.System.reads c.args.system.now) c.args.root.now c.args.chosen.now (λ (u : Unreadable). map string_bytes u.names.items) (λ (u : Unreadable). u.said.items) c.loop-file.file-index c.loop-file.found
    c.loop-file-test.false (c.loop-file.invariant.looks tells)
