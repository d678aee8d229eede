use Rattle.std.proofs.Common.{◌≡◌, ◌∙◌, ap, sym, refl, subst, cond, ℕ, List, [], ◌∷◌, Some, None, Option, option_map}
use Rattle.std.specs.Prelude.{IsSome}
use Rattle.std.specs.Borrow.{Bor}
use Rattle.std.specs.Ordering.{is_eq}
use Rattle.std.specs.BTreeMap.{BTreeMap, get_by}
use Rattle.hwdb_spec.specs.Assignment.{text_cmp}
use Rattle.hwdb_samples.specs.Groups.{both_at, both_in, or_none, with_rules}
use Rattle.hwdb_samples.specs.declared.groups.Groups.{Groups}
use Rattle.hwdb_samples.specs.declared.groups.Sides.{Sides}
use Rattle.hwdb_samples.proofs.GroupLemmas.{added}
use Rattle.hwdb_samples.proofs.groups.Groups.add.Goals as goal

pub returns-in-Some : goal.returns-in-Some
returns-in-Some c =
    let m = c.args.self.now in
    let k = c.args.property.key in
    let rule = c.args.property.rule in
    let side = c.args.side in
    let old = c.in-Some.sides.now in
    let w = c.push.new.self in
    let writes = c.get_mut.follows.holds w in
    let there : get_by (λ j. text_cmp k.now j.now) m.sides ≡ Some old = sym c.in-Some.ensures.value in
    let whole : both_in w ≡ with_rules side (rule ∷ []) (or_none (both_at m k.now)) =
    c.in_ok-push.ensures ∙ ap (λ (o : Option Sides). with_rules side (rule ∷ []) (or_none (option_map both_in o))) (sym there) in
    let n : Groups = record { sides = c.get_mut.follows.lender w } in
    added m n side k.now rule w whole (λ q. (writes.3 (subst IsSome (sym there) refl)).0 (record k { now = q }))

pub returns : goal.returns
returns c =
    let m = c.args.self.now in
    let k = c.args.property.key in
    let rule = c.args.property.rule in
    let side = c.args.side in
    let w = c.push-2.new.self in
    let none : get_by (λ j. text_cmp k.now j.now) m.sides ≡ None = sym c.in_default.ensures.value in
    let whole : both_in w ≡ with_rules side (rule ∷ []) (or_none (both_at m k.now)) =
    c.in_ok-push-2.ensures ∙ ap (with_rules side (rule ∷ [])) (c.new-sides.ensures ∙ ap (λ (o : Option Sides). or_none (option_map both_in o)) (sym none)) in
    let n : Groups = record { sides = c.insert.new.self } in
    let P : BTreeMap (Bor (List ℕ)) Sides → Type 0 = λ z.
    (q : List ℕ) → get_by (λ j. text_cmp q j.now) c.insert.new.self ≡ cond (is_eq (text_cmp k.now q)) (Some w) (get_by (λ j. text_cmp q j.now) z) in
    let gets : P m.sides = subst P c.get_mut.follows.holds-at-none (λ q. c.in_ok-insert.ensures.updates.0 (record k { now = q })) in
    added m n side k.now rule w whole gets
