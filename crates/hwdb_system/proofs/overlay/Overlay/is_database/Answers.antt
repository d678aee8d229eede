use Rattle.std.proofs.Common.{List, ap, sym, ℕ, ◌++◌, ◌∙◌}
use Rattle.hwdb_system.specs.Lemmas.OverNames.{rest_is, rest_is_none}
use Rattle.hwdb_system.proofs.overlay.Overlay.is_database.Goals as goal

pub returns-in-Some : goal.returns-in-Some
returns-in-Some g c =
    c.eq.ensures ∙ rest_is c.args.self.now.root.now c.args.path.now c.in-Some.rest.now
    (c.in-Some.ensures.cases.1.1 ∙ ap (λ (l : List ℕ). c.args.self.now.root.now ++ l) (sym c.in-Some.ensures.cases.2))

pub returns-in-None : goal.returns-in-None
returns-in-None g c = sym (rest_is_none c.args.self.now.root.now c.args.path.now c.in-None.ensures.cases)
