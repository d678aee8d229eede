use Rattle.std.proofs.Common.{◌≡◌, ◌∙◌, List, ℕ, ap, sym, subst}
use Rattle.hwdb_spec.specs.Patterns.{token_at}
use Rattle.hwdb_pattern.specs.Internal.Met.{lengths_of}
use Rattle.hwdb_pattern.specs.Internal.Prefixes.{Steps, stepped}
use Rattle.hwdb_pattern.proofs.PathLemmas.{steps_stepped}
use Rattle.hwdb_pattern.proofs.met.Met.taken.Goals as goal

pub returns-in_ok-after-in-Few-clause-steps : goal.returns-in_ok-after-in-Few-clause-steps
returns-in_ok-after-in-Few-clause-steps c =
    let t = token_at c.args.text.now in
    let device = c.args.device.now in
    let list = c.deref.result.now in
    let before : list ≡ lengths_of c.args.self.now = c.deref.ensures.value ∙ ap lengths_of (sym c.in-Few.is) in
    let after : lengths_of c.of_list.result ≡ stepped t device list = c.of_list.ensures ∙ c.in_ok-after-in-Few.ensures.stepped in
    subst (λ (l : List ℕ). Steps t device l (lengths_of c.of_list.result)) before
    (subst (Steps t device list) (sym after) (steps_stepped t device list))
