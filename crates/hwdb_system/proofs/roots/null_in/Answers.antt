use Rattle.std.proofs.Common.{◌∙◌, ◌++◌, ap, codes, subst, sym}
use Rattle.hwdb_system.specs.Roots.{IsBelow}
use Rattle.hwdb_system.proofs.RootLemmas.{null_below}
use Rattle.hwdb_system.proofs.roots.null_in.Goals as goal

pub returns : goal.returns
returns c = subst (IsBelow c.args.root.now) (sym (c.in_ok-push_str.ensures.bytes ∙ ap (λ l. l ++ codes "/dev/null") c.in_ok-place.ensures.ok)) (null_below c.args.root.now)
