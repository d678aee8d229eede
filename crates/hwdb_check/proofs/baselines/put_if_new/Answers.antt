use Rattle.std.proofs.Common.{◌∙◌, sym}
use Rattle.std.proofs.lemmas.Result.{on_ok_weaker}
use Rattle.hwdb_spec_commands.specs.Baselines.{mark_of}
use Rattle.hwdb_check.specs.Found.{finds, kept_of}
use Rattle.hwdb_check.proofs.CountLemmas.{added, left_after, passed}
use Rattle.hwdb_check.proofs.baselines.put_if_new.Goals as goal

pub returns-then-branch-clause-put : goal.returns-then-branch-clause-put
returns-then-branch-clause-put c = λ known rest are.
    passed (kept_of c.args.found.now) rest known c.args.left.now (finds c.args.new.now.items) are (sym c.if-branch.true ∙ c.in_ok-passes.ensures.passes)

pub returns-then-branch-clause-left : goal.returns-then-branch-clause-left
returns-then-branch-clause-left c = λ known are.
    left_after known (mark_of (kept_of c.args.found.now)) c.args.left.now c.passes.new.left are c.in_ok-passes.ensures.left

pub returns-clause-put : goal.returns-clause-put
returns-clause-put c = λ known rest are.
    on_ok_weaker c.put_copy.result
    (λ grown. added (kept_of c.args.found.now) rest known c.args.left.now (finds c.args.new.now.items) are (finds c.put_copy.new.all.items)
    (sym c.if-branch.false ∙ c.in_ok-passes.ensures.passes) grown) c.put_copy.ensures

pub returns-clause-left : goal.returns-clause-left
returns-clause-left c = λ known are.
    on_ok_weaker c.put_copy.result
    (λ grown. left_after known (mark_of (kept_of c.args.found.now)) c.args.left.now c.passes.new.left are c.in_ok-passes.ensures.left) c.put_copy.ensures
