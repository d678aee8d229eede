use Rattle.std.proofs.Common.{◌-◌, ◌∙◌, sym, subst}
use Rattle.hwdb_lookup.specs.Internal.Agreement.{AgreeIn}
use Rattle.hwdb_lookup.proofs.KnownLemmas.{agree_back}
use Rattle.hwdb_lookup.proofs.OpeningLemmas.{layout_same, header_same, strings_inside}
use Rattle.hwdb_lookup.proofs.opening.frame_of.Goals as goal

pub returns-in-Ok-clause-layout : goal.returns-in-Ok-clause-layout
returns-in-Ok-clause-layout c file m = (c.in-Ok.ensures.ok).0 ∙ layout_same c.args.known.buffer.now file (agree_back file c.args.known.buffer.now 0 80 (c.in_ok-need.ensures.read file m))

pub returns-in-Ok-clause-inside : goal.returns-in-Ok-clause-inside
returns-in-Ok-clause-inside c = let ok = c.in-Ok.ensures.ok in rw ok.0 (strings_inside c.args.known.buffer.now ok.1)

pub returns-in-Err-clause-stop : goal.returns-in-Err-clause-stop
returns-in-Err-clause-stop c file m h =
    let b = c.args.known.buffer.now in
    let last = subst (λ n. AgreeIn file b (n - 1) n) (sym m.size) (c.in_ok-need-2.ensures.read file m) in
    c.in-Err.ensures.err (header_same file b (c.in_ok-need.ensures.read file m) m.size last h)
