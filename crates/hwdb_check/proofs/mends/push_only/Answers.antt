use Rattle.std.proofs.Common.{◌++◌, ◌∙◌, List, ℕ, ap}
use Rattle.std.specs.Prelude.{codes}
use Rattle.hwdb_spec.specs.Lemmas.Lists.{three_pieces}
use Rattle.hwdb_check.proofs.mends.push_only.Goals as goal

pub returns : goal.returns
returns c =
    three_pieces c.args.text.now.items _ _ _ (codes "only ") _ (codes " can be here") c.in_ok-extend_from_slice.ensures.items
    (c.in_ok-extend_from_slice-2.ensures.items ∙ ap (λ (t : List ℕ). c.extend_from_slice.new.self.items ++ t) c.front_of.ensures) c.in_ok-extend_from_slice-3.ensures.items
