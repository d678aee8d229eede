use Rattle.std.proofs.Common.{refl, arith, ◌≡◌, get_or, sym, ap, subst, List, map, take, ◌++◌, ◌∷◌, [], ◌∙◌, append_assoc}
use Rattle.std.proofs.lemmas.List.{get_or_default, map_more, take_all}
use Rattle.hwdb_spec.specs.Written.{strings_of_value}
use Rattle.hwdb_writer.specs.Internal.Entries.{value_of}
use Rattle.hwdb_writer.specs.Internal.Stored.{IsUnder, AreValues}
use Rattle.hwdb_writer.specs.declared.entries.Setting.{Setting}
use Rattle.hwdb_writer.proofs.EmissionLemmas.{one_left, none_left, value_strings, value_strings-cons}
use Rattle.hwdb_writer.proofs.MembershipLemmas.{same_refl, same_step, same_done}
use Rattle.hwdb_writer.proofs.StoredLemmas.{grows_itself, none_behind}
use Rattle.hwdb_writer.proofs.stored.push_values.Goals as goal

pub loop-headed-init : goal.loop-headed-init
loop-headed-init c = record {
  few = omega arith;
  within = omega arith;
  grows = grows_itself _;
  members = same_refl _;
  values = λ xs p. subst (AreValues (IsUnder c.args.interner.now) c.args.out.now.items) (sym (none_behind xs)) p;
}

pub loop-headed-preserved : goal.loop-headed-preserved
loop-headed-preserved c =
    let es = c.args.entries.now in
    let i = c.loop-headed.headed-index in
    let lt = c.loop-headed-test.true in
    let e = c.entry.result.now in
    let is : e ≡ get_or es i e = c.entry.ensures ∙ c.headed-item.is ∙ get_or_default es i _ e lt in
    let words = c.push_value.new.interner in
    record {
      few = omega (arith, c.in_ok-push_value.ensures.few, c.loop-headed.invariant.few);
      within = omega (arith, c.loop-headed-test.true);
      grows = λ n s u. c.in_ok-push_value.ensures.grows n s (c.loop-headed.invariant.grows n s u);
      members = same_step _ _ (strings_of_value (value_of e)) _ _ _ c.in_ok-push_value.ensures.members
          (one_left value_strings (λ (s : Setting). strings_of_value (value_of s)) value_strings-cons es i e is lt) c.loop-headed.invariant.members;
      values = λ xs p.
          subst (AreValues (IsUnder words) c.push_value.new.out.items)
          (append_assoc xs (map value_of (take i es)) (value_of e ∷ []) ∙ ap (λ l. xs ++ l) (ap (λ (s : Setting). map value_of (take i es) ++ value_of s ∷ []) is ∙ sym (map_more value_of es i e lt)))
          (c.in_ok-push_value.ensures.values (xs ++ map value_of (take i es)) (c.loop-headed.invariant.values xs p));
    }

pub push_value-requires : goal.push_value-requires
push_value-requires c = omega (arith, c.requires, c.loop-headed.invariant.few, c.loop-headed-test.true)

pub returns-clause-few : goal.returns-clause-few
returns-clause-few c = omega (arith, c.loop-headed.invariant.few, c.loop-headed.invariant.within)

pub returns-clause-grows : goal.returns-clause-grows
returns-clause-grows c = c.loop-headed.invariant.grows

pub returns-clause-members : goal.returns-clause-members
returns-clause-members c = same_done _ _ _ (none_left value_strings refl c.args.entries.now c.loop-headed.headed-index c.loop-headed-test.false) c.loop-headed.invariant.members

pub returns-clause-values : goal.returns-clause-values
returns-clause-values c xs p =
    let P : List Setting → Type 0 = λ l. AreValues (IsUnder c.loop-headed.interner) c.loop-headed.out.items (xs ++ map value_of l) in
    subst P (take_all c.loop-headed.headed-index c.args.entries.now c.loop-headed-test.false) (c.loop-headed.invariant.values xs p)
