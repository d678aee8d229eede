use Rattle.std.proofs.Common.{refl, arith, subst, sym, ap, ◌≡◌, ◌+◌, ◌-◌, List, ◌++◌, ◌∷◌, [], map, take, drop, append_assoc}
use Rattle.std.specs.Prelude.{flat_map}
use Rattle.hwdb_spec.specs.Written.{strings_of_value}
use Rattle.hwdb_writer.specs.Internal.Entries.{value_of}
use Rattle.hwdb_writer.specs.Internal.PostOrder.{values_at}
use Rattle.hwdb_writer.specs.Internal.Membership.{SameMembers}
use Rattle.hwdb_writer.specs.Internal.Stored.{IsUnder, IsNode, AreNodes, AreValues}
use Rattle.hwdb_writer.specs.declared.stored.StoredNode.{StoredNode}
use Rattle.hwdb_writer.proofs.MembershipLemmas.{same_trans, same_both, same_refl, same_path, same_named}
use Rattle.hwdb_writer.proofs.StoredLemmas.{pairs_one, nodes_by, values_by, under_same}
use Rattle.hwdb_writer.proofs.stored.Stored.push.Goals as goal

pub returns : goal.returns
returns c =
    let n = c.args.node in
    let es = c.args.entries.now in
    let old = c.args.self.now.interner in
    let mid = c.intern_near.new.self in
    let words = c.push_values.new.interner in
    let own = take (n.first + n.count - n.first) (drop n.first es) in
    let is : map value_of own ≡ values_at es n = ap (λ m. map value_of (take m (drop n.first es))) {x = n.first + n.count - n.first} {y = n.count} (omega arith) in
    let p = n.prefix.now ∷ [] in
    let s = flat_map strings_of_value (values_at es n) in
    record {
      sized = omega (arith, c.record_length-length.ensures, c.saturating_add-self.ensures);
      stored = λ not. (
        not,
        record {
          nodes = λ ns all.
              let grown = nodes_by (IsUnder old) (IsUnder words) (λ m t u. c.in_ok-push_values.ensures.grows m t (c.in_ok-prefix.ensures.grows m t u)) c.args.self.now.nodes.items ns all in
              let new : IsNode (IsUnder words) _ n = record {
                prefix = under_same words _ _ _ c.new.ensures.word (c.in_ok-push_values.ensures.grows _ _ c.in_ok-prefix.ensures.number);
                byte = refl;
                count = refl;
                children = refl;
              } in
              subst (λ (l : List StoredNode). AreNodes (IsUnder words) l (ns ++ n ∷ [])) (sym c.in_ok-push.ensures.items) (pairs_one (IsNode (IsUnder words)) c.args.self.now.nodes.items ns _ n grown new);
          values = λ xs all.
              subst (λ l. AreValues (IsUnder words) c.push_values.new.out.items (xs ++ l)) is
              (c.in_ok-push_values.ensures.values xs (values_by (IsUnder old) (IsUnder mid) c.in_ok-prefix.ensures.grows c.args.self.now.values.items xs all));
          members =
              same_trans words (mid ++ s) _ (subst (λ l. SameMembers words (mid ++ flat_map strings_of_value l)) is c.in_ok-push_values.ensures.members)
              (same_trans (mid ++ s) ((old ++ p) ++ s) _ (same_both mid (old ++ p) s s (same_named old mid n.prefix.now _ c.new.ensures.word c.in_ok-prefix.ensures.members) (same_refl s))
              (same_path _ _ (append_assoc old p s)));
          few = omega (arith, c.in_ok-prefix.ensures.few, c.in_ok-push_values.ensures.few);
        },
      );
      full = λ was is. absurd (cc);
    }
