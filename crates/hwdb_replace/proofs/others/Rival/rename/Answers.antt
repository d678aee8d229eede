use Rattle.std.proofs.Common.{◌≡◌, ◌∙◌, ap, arith, rules, refl, false, List, ℕ, bytes_eq}
use Rattle.std.proofs.lemmas.Bool.Decides.{not_from_Decides}
use Rattle.std.proofs.lemmas.Slice.Eq.{bytes_eq-Decides}
use Rattle.hwdb_spec.specs.Store.{path_in}
use Rattle.hwdb_replace.proofs.others.Rival.rename.Goals as goal

pub returns : goal.returns
returns c =
    let apart : (p q : List ℕ) → bytes_eq p q ≡ false → p ≡ q → ⊥ = λ p q e. not_from_Decides (bytes_eq p q) (bytes_eq-Decides p q) e in
    let own = c.args.own.now in (
      (
        c.as_str.result.now,
        record {
          number = 0;
          tried = omega arith;
          is = c.in_ok-from.ensures ∙ ap (path_in c.as_str.result.now) (c.as_str-2.ensures.value ∙ c.part_name.ensures);
        },
      ),
      apart c.in_ok-from.from.items own (search rules),
      apart c.in_ok-to.to.items own (search rules),
      refl,
      refl,
      (c.as_str-3.result.now, search rules),
    )
