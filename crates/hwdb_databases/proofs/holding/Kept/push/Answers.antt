use Rattle.std.proofs.Common.{◌≡◌, ◌∙◌, ◌++◌, ◌∷◌, [], ap, sym, subst, length, map, List, ℕ}
use Rattle.std.specs.Prelude.{All}
use Rattle.hwdb_databases.specs.declared.holding.Held.{Held}
use Rattle.hwdb_databases.specs.Internal.Holding.{IsWithin, held_in}
use Rattle.hwdb_databases.proofs.HoldingLemmas.{pushed, within_pushed}
use Rattle.hwdb_databases.proofs.holding.Kept.push.Goals as goal

-- the list with the new one
listed : (c : goal.In_ok-push) → c.push.new.self.items
    ≡ c.args.self.now.list.items ++ record { from = length c.args.self.now.patterns.items; length = length c.args.pattern.now; member = c.args.member } ∷ []
listed c =
    c.in_ok-push.ensures.items
    ∙ ap (λ (t : List ℕ). c.args.self.now.list.items ++ record { from = length t; length = length c.args.pattern.now; member = c.args.member } ∷ []) c.as_slice-from.ensures.value

pub returns-clause-held : goal.returns-clause-held
returns-clause-held c = λ w.
    ap (λ (g : List ℕ × List Held). map (held_in g.0) g.1) (λ i. (c.in_ok-extend_from_slice.ensures.items i, listed c i))
    ∙ pushed c.args.self.now.patterns.items c.args.pattern.now c.args.member c.args.self.now.list.items w

pub returns-clause-within : goal.returns-clause-within
returns-clause-within c = λ w.
    let Q : List ℕ × List Held → Type 0 = λ g. All (IsWithin g.0) g.1 in
    subst Q (λ i. (sym c.in_ok-extend_from_slice.ensures.items i, sym (listed c) i))
    (within_pushed c.args.self.now.patterns.items c.args.pattern.now c.args.member c.args.self.now.list.items w)
