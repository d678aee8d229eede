use Rattle.std.proofs.Common.{◌∙◌, ap, sym, ◌++◌, ◌∷◌, [], true, false}
use Rattle.hwdb_check.specs.Internal.{above_texts, texts}
use Rattle.hwdb_check.proofs.RepeatLemmas.{put_step, stands_by}
use Rattle.hwdb_check.proofs.repeats.Run.put.Goals as goal

pub returns-in_ok-push : goal.returns-in_ok-push
returns-in_ok-push c = λ more.
    put_step (above_texts c.args.self.now) (texts c.settle.new.self.above.keys) c.args.clean.now c.args.number c.args.self.now.numbers.items c.push.new.self.items more true
    c.in_ok-settle.ensures.above c.requires
    (sym (stands_by c.args.clean.now c.settle.new.self.above.keys) ∙ sym c.contains-is_there.ensures ∙ c.if-is_there.true)
    (c.in_ok-push.ensures.items ∙ ap (λ v. v.items ++ c.args.number ∷ []) c.in_ok-settle.ensures.numbers)

pub returns-else-is_there : goal.returns-else-is_there
returns-else-is_there c = λ more.
    put_step (above_texts c.args.self.now) (texts c.settle.new.self.above.keys) c.args.clean.now c.args.number c.args.self.now.numbers.items c.settle.new.self.numbers.items more false
    c.in_ok-settle.ensures.above c.requires
    (sym (stands_by c.args.clean.now c.settle.new.self.above.keys) ∙ sym c.contains-is_there.ensures ∙ c.if-is_there.false)
    (ap (λ v. v.items) c.in_ok-settle.ensures.numbers)
