use Rattle.std.proofs.Common.{◌∙◌, ◌-◌, Global, Option, Vec, ap, arith, sym, ℕ}
use Rattle.std.specs.Option.{option_or}
use Rattle.hwdb_spec_commands.specs.Mends.{moved_before}
use Rattle.hwdb_check.proofs.MendLemmas.{items_of, moved_none, moved_step}
use Rattle.hwdb_check.proofs.mends.moved_before.Goals as goal

pub returns-in-Some : goal.returns-in-Some
returns-in-Some c =
    let pattern = c.args.pattern.now in
    let rest = moved_before pattern c.args.start c.args.end (c.loop-left.left - 1) in
    sym (ap (λ (o : Option (Vec ℕ Global)). option_or (items_of o) rest) c.in-Some.is)
    ∙ moved_step pattern c.args.start c.args.end c.loop-left.left (items_of c.in_ok-text.field-0) (omega (arith, c.loop-left-test.true)) c.in_ok-text.ensures
    ∙ c.loop-left.invariant.same

pub loop-left-preserved : goal.loop-left-preserved
loop-left-preserved c =
    let pattern = c.args.pattern.now in
    let rest = moved_before pattern c.args.start c.args.end (c.loop-left.left - 1) in
    record {
      within = let h = c.loop-left.invariant.within in omega (arith, h);
      same =
          sym (ap (λ (o : Option (Vec ℕ Global)). option_or (items_of o) rest) c.in_default.is)
          ∙ moved_step pattern c.args.start c.args.end c.loop-left.left (items_of c.in_ok-text.field-0) (omega (arith, c.loop-left-test.true)) c.in_ok-text.ensures
          ∙ c.loop-left.invariant.same;
    }

pub returns : goal.returns
returns c = moved_none c.args.pattern.now c.args.start c.args.end c.loop-left.left (omega (arith, c.loop-left-test.false)) ∙ c.loop-left.invariant.same
