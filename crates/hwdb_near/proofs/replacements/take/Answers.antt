use Rattle.std.proofs.Common.{◌∙◌, ap, sym}
use Rattle.std.specs.Prelude.{option_map}
use Rattle.hwdb_near.specs.Views.{assignment_of}
use Rattle.hwdb_near.proofs.ReplacedLemmas.{taken_last, taken_replaced}
use Rattle.hwdb_near.proofs.replacements.take.Goals as goal

pub returns-in_ok-push-in-Some : goal.returns-in_ok-push-in-Some
returns-in_ok-push-in-Some c =
    taken_replaced c.args.last.now c.args.pairs.now.items c.push.new.self.items c.args.old c.in-Some.new
    (ap (option_map assignment_of) (sym c.get.ensures.value ∙ sym c.in-Some.ensures)) c.in_ok-push-in-Some.ensures.items

pub returns-in_ok-insert-in-None : goal.returns-in_ok-insert-in-None
returns-in_ok-insert-in-None c =
    taken_last c.args.last.now c.insert.new.self c.args.pairs.now.items c.args.old
    (ap (option_map assignment_of) (sym c.get.ensures.value ∙ sym c.in-None.ensures)) c.in_ok-insert-in-None.ensures.updates.0
