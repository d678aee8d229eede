use Rattle.std.proofs.Common.{List, ℕ, refl, sym, ap, ◌-◌, ◌+◌, subst}
use Rattle.hwdb_reader.specs.Internal.Repeats.{IsRepeat}
use Rattle.hwdb_reader.proofs.JoinLemmas.{repeat_of}
use Rattle.hwdb_reader.proofs.repeats.Repeats.remember.Goals as goal

pub joined-requires-clause-other : goal.joined-requires-clause-other
joined-requires-clause-other c =
    let first = c.min-first.result in
    let gap = c.max.result - first in
    let end = first + c.args.pair.count in
    let r = repeat_of c.args.self.now c.args.pair.left c.args.pair.right c.args.pair.count first gap end c.requires c.min-first.ensures (ap (λ m. m - c.min-first.result) c.max.ensures) refl in
    subst (λ (b : List ℕ). IsRepeat b first gap end) (sym c.self.view_is) r

pub put-requires-2-clause-sound : goal.put-requires-2-clause-sound
put-requires-2-clause-sound c =
    let first = c.min-first.result in
    let gap = c.max.result - first in
    let end = first + c.args.pair.count in
    let r = repeat_of c.args.self.now c.args.pair.left c.args.pair.right c.args.pair.count first gap end c.requires c.min-first.ensures (ap (λ m. m - c.min-first.result) c.max.ensures) refl in
    subst (λ (b : List ℕ). IsRepeat b first gap end) (sym c.loop-k.invariant.same) r
