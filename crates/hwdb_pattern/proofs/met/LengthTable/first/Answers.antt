use Rattle.std.proofs.Common.{◌≡◌, ◌≤◌, ◌+◌, ℕ, [], List, Bool, arith, subst}
use Rattle.std.specs.Prelude.{Contains, All}
use Rattle.std.proofs.lemmas.List.Elements.{All-contains}
use Rattle.hwdb_pattern.specs.Internal.Tables.{said}
use Rattle.hwdb_pattern.proofs.TableLemmas.{said_has, least_said, said_nothing}
use Rattle.hwdb_pattern.proofs.met.LengthTable.first.Goals as goal

pub overflow_add-result : goal.overflow_add-result
overflow_add-result c =
    let least = c.args.self.now.least in
    let n = least + c.in-Some.at in
    let member : Contains (said least c.args.self.now.says.items) n =
    subst (λ (l : List Bool). Contains (said least l) n) c.deref-says.ensures.value
    (said_has least c.deref-says.result.now c.in-Some.at c.in-Some.ensures.within c.in-Some.ensures.here) in
    let below : n ≤ c.args.end = All-contains (λ (m : ℕ). m ≤ c.args.end) (said least c.args.self.now.says.items) n c.requires.within member in
    omega (arith, below, c.requires.room)

pub returns-in-Some-clause-member : goal.returns-in-Some-clause-member
returns-in-Some-clause-member c =
    let least = c.args.self.now.least in
    subst (λ (l : List Bool). Contains (said least l) (least + c.in-Some.at)) c.deref-says.ensures.value
    (said_has least c.deref-says.result.now c.in-Some.at c.in-Some.ensures.within c.in-Some.ensures.here)

pub returns-in-Some-clause-least : goal.returns-in-Some-clause-least
returns-in-Some-clause-least c =
    let least = c.args.self.now.least in
    subst (λ (l : List Bool). All (λ (m : ℕ). least + c.in-Some.at ≤ m) (said least l)) c.deref-says.ensures.value
    (least_said least c.in-Some.at c.deref-says.result.now c.in-Some.ensures.before)

pub returns-in-None-clause-none : goal.returns-in-None-clause-none
returns-in-None-clause-none c =
    subst (λ (l : List Bool). said c.args.self.now.least l ≡ []) c.deref-says.ensures.value
    (said_nothing c.args.self.now.least c.deref-says.result.now c.in-None.ensures.none)
