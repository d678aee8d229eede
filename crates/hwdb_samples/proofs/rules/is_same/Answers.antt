use Rattle.std.proofs.Common.{◌≡◌, subst, true}
use Rattle.std.proofs.lemmas.Slice.Eq.{slice_eq-Decides}
use Rattle.std.proofs.lemmas.Bool.Decides.{Decides-eqb, same_from_decides}
use Rattle.hwdb_spec.specs.Folders.{same}
use Rattle.hwdb_spec.specs.Lemmas.Orders.{same_text, same_itself}
use Rattle.hwdb_samples.proofs.rules.is_same.Goals as goal

pub returns : goal.returns
returns c =
    let one = c.args.one.now in
    let other = c.args.other.now in
    same_from_decides c.eq.result (same one other) (slice_eq-Decides Decides-eqb one other c.eq.result c.eq.ensures)
    (same_text one other, λ e. subst (λ t. same one t ≡ true) e (same_itself one))
