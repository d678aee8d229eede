use Rattle.hwdb_writer.specs.Internal.Entries.{value_of}
use Rattle.hwdb_writer.specs.Internal.Stored.{IsUnder, IsValue}
use Rattle.hwdb_writer.proofs.MembershipLemmas.{same_named, same_three}
use Rattle.hwdb_writer.proofs.StoredLemmas.{pairs_one, values_by, under_same}
use Rattle.std.proofs.Common.{subst, sym, refl, List, ◌++◌, ◌∷◌, []}
use Rattle.hwdb_writer.specs.Internal.Stored.{AreValues}
use Rattle.hwdb_writer.specs.declared.stored.StoredValue.{StoredValue}
use Rattle.hwdb_writer.proofs.stored.push_value.Goals as goal

pub returns-clause-grows : goal.returns-clause-grows
returns-clause-grows c = λ n s u. c.in_ok-path.ensures.grows n s (c.in_ok-value.ensures.grows n s (c.in_ok-key.ensures.grows n s u))

pub returns-clause-members : goal.returns-clause-members
returns-clause-members c =
    let v = value_of c.args.entry.now in
    same_three c.args.interner.now c.intern_near.new.self c.intern.new.self c.intern_near-2.new.self v.key v.value v.path
    (same_named _ _ _ _ c.spaced.ensures c.in_ok-key.ensures.members) (same_named _ _ _ _ c.new.ensures.word c.in_ok-value.ensures.members) (same_named _ _ _ _ c.new-2.ensures.word c.in_ok-path.ensures.members)

pub returns-clause-values : goal.returns-clause-values
returns-clause-values c xs p =
    let words = c.intern_near-2.new.self in
    let v = value_of c.args.entry.now in
    let grown = values_by (IsUnder c.args.interner.now) (IsUnder words) (λ n s u. c.in_ok-path.ensures.grows n s (c.in_ok-value.ensures.grows n s (c.in_ok-key.ensures.grows n s u))) c.args.out.now.items xs p in
    let own : IsValue (IsUnder words) _ v = record {
      key = under_same words _ _ _ c.spaced.ensures (c.in_ok-path.ensures.grows _ _ (c.in_ok-value.ensures.grows _ _ c.in_ok-key.ensures.number));
      value = under_same words _ _ _ c.new.ensures.word (c.in_ok-path.ensures.grows _ _ c.in_ok-value.ensures.number);
      path = under_same words _ _ _ c.new-2.ensures.word c.in_ok-path.ensures.number;
      line = refl;
      priority = refl;
    } in
    let P : List StoredValue → Type 0 = λ l. AreValues (IsUnder words) l (xs ++ v ∷ []) in
    subst P (sym c.in_ok-push.ensures.items) (pairs_one (IsValue (IsUnder words)) c.args.out.now.items xs _ v grown own)
