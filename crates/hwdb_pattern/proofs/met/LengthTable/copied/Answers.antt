use Rattle.std.proofs.Common.{◌≡◌, ◌≤◌, ◌+◌, ◌∙◌, ℕ, [], List, Bool, arith, ap, sym, subst}
use Rattle.std.specs.Prelude.{Contains}
use Rattle.std.proofs.lemmas.List.{take_rest}
use Rattle.std.proofs.lemmas.List.Elements.{All-contains}
use Rattle.hwdb_pattern.specs.Internal.Tables.{said}
use Rattle.hwdb_pattern.proofs.TableLemmas.{said_has, said_nothing, said_on}
use Rattle.hwdb_pattern.proofs.met.LengthTable.copied.Goals as goal

pub overflow_add-result : goal.overflow_add-result
overflow_add-result c =
    let least = c.args.self.now.least in
    let n = least + c.in-Some.at in
    let member : Contains (said least c.args.self.now.says.items) n =
    subst (λ (l : List Bool). Contains (said least l) n) c.deref-says.ensures.value
    (said_has least c.deref-says.result.now c.in-Some.at c.in-Some.ensures.within c.in-Some.ensures.here) in
    let below : n ≤ c.args.end = All-contains (λ (m : ℕ). m ≤ c.args.end) (said least c.args.self.now.says.items) n c.requires.within member in
    omega (arith, below, c.requires.room)

pub returns-in_ok-rest-in-Some : goal.returns-in_ok-rest-in-Some
returns-in_ok-rest-in-Some c =
    let least = c.args.self.now.least in
    let at = c.in-Some.at in
    let says = c.deref-says.result.now in
    ap (λ (l : List Bool). said (least + at) l) (c.in_ok-rest-in-Some.ensures.items ∙ take_rest says at)
    ∙ sym (said_on least at says c.in-Some.ensures.before) ∙ ap (λ (l : List Bool). said least l) c.deref-says.ensures.value

pub returns-in-None : goal.returns-in-None
unfolding said
returns-in-None c =
    ap (said 0) c.new.ensures.items
    ∙ sym (subst (λ (l : List Bool). said c.args.self.now.least l ≡ []) c.deref-says.ensures.value (said_nothing c.args.self.now.least c.deref-says.result.now c.in-None.ensures.none))
