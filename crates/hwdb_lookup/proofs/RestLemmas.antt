-- The children of an open node that aren't done.
use Rattle.std.proofs.Common.{◌≡◌, ◌∙◌, ap, sym, refl, subst, ℕ, ◌+◌, ◌≤◌, ◌<◌, List, [], ◌∷◌, ◌++◌, arith}
use Rattle.hwdb_pattern.specs.Laws.{MatchesIsTested, DeadMatchesNothing}
use Rattle.hwdb_spec.specs.Assignment.{Assignment}
use Rattle.hwdb_spec.specs.Tree.{Children, IsLive, count}
use Rattle.hwdb_spec.specs.Tree.Children.{NoMore, Child}
use Rattle.hwdb_spec.specs.Format.{NodeText, ChildrenText, record_end, child_entry, child_byte, child_off}
use Rattle.hwdb_lookup.specs.declared.arrivals.OpenNode.{OpenNode}
use Rattle.hwdb_lookup.specs.declared.arrivals.Candidate.{Candidate}
use Rattle.hwdb_lookup.specs.Internal.Descents.{Rest, Next, wanted_under, wanted_below}
use Rattle.hwdb_lookup.proofs.TreeLemmas.{below_split, below_none, dead_at, node_begins, next_entry}

-- nothing is left
pub rest_ends : (file : List ℕ) (o : OpenNode) (i from : ℕ) (w : List Assignment) → Rest file o i from w → o.node.children ≤ i → w ≡ []
unfolding count
rest_ends file o i from w r le = go r.ks r.count r.is
  where
    go : (ks : Children) → count ks + i ≡ o.node.children → w ≡ wanted_below o.reach.device o.path.items ks → w ≡ []
    go NoMore n is = is ∙ below_none o.reach.device o.path.items
    go (Child c t more) n is = absurd (omega (arith, le, n))

module _ (file : List ℕ) (o : OpenNode) (i from : ℕ) (w : List Assignment) (byte off : ℕ) (lt : i < o.node.children)
    (b : byte ≡ child_byte file (child_entry o.node.frame.sizes o.node.off i)) (k : off ≡ child_off file (child_entry o.node.frame.sizes o.node.off i)) where
  -- the first child is at a dead path
  pub rest_passes : MatchesIsTested → DeadMatchesNothing → (IsLive (o.path.items ++ byte ∷ []) o.reach.device → ⊥) → Rest file o i from w → Rest file o (i + 1) from w
  unfolding count NodeText
  rest_passes matched patterns dead r = go r.ks r.text r.count r.is
    where
      go : (ks : Children) → ChildrenText o.node.frame.sizes file o.levels r.begin (child_entry o.node.frame.sizes o.node.off i) r.byte o.node.off ks
          → count ks + i ≡ o.node.children → w ≡ wanted_below o.reach.device o.path.items ks → Rest file o (i + 1) from w
      go NoMore text n is = absurd (omega (arith, lt, n))
      go (Child c t more) text n is =
          let l = o.node.frame.sizes in
          let e = child_entry l o.node.off i in
          let begins = node_begins l file o.levels r.begin (child_off file e) t text.2 in
          let after = r.after in
          let none = dead_at o.reach.device (o.path.items ++ byte ∷ []) t matched patterns dead in
          let same : c ≡ byte = text.1 ∙ sym b in
          record {
            ks = more;
            begin = record_end l file (child_off file e);
            byte = c;
            head = r.head;
            after = omega (arith, after, begins);
            text = subst (λ at. ChildrenText l file o.levels (record_end l file (child_off file e)) at c o.node.off more) (next_entry l o.node.off i) text.3;
            count = omega (arith, n);
            is = is ∙ below_split o.reach.device o.path.items c t more
                ∙ ap (λ x. wanted_under o.reach.device (o.path.items ++ x ∷ []) t ++ wanted_below o.reach.device o.path.items more) same
                ∙ ap (λ x. x ++ wanted_below o.reach.device o.path.items more) none;
          }

  -- the first child, and those after it
  pub rest_next : (c : Candidate) → c.byte ≡ byte → c.off ≡ off → c.done ≡ i + 1 → Rest file o i from w → Next file o from w c
  unfolding count NodeText
  rest_next k-is cb co cd r = go r.ks r.text r.count r.is
    where
      go : (ks : Children) → ChildrenText o.node.frame.sizes file o.levels r.begin (child_entry o.node.frame.sizes o.node.off i) r.byte o.node.off ks
          → count ks + i ≡ o.node.children → w ≡ wanted_below o.reach.device o.path.items ks → Next file o from w k-is
      go NoMore text n is = absurd (omega (arith, lt, n))
      go (Child c t more) text n is =
          let l = o.node.frame.sizes in
          let e = child_entry l o.node.off i in
          let there : child_off file e ≡ k-is.off = sym (co ∙ k) in
          let same : c ≡ k-is.byte = text.1 ∙ sym (cb ∙ b) in
          record {
            tree = t;
            begin = r.begin;
            after = r.after;
            text = subst (λ at. NodeText l file o.levels r.begin at t) there text.2;
            more = wanted_below o.reach.device o.path.items more;
            rest = record {
              ks = more;
              begin = record_end l file k-is.off;
              byte = c;
              head = r.head;
              after = omega arith;
              text = subst (λ at. ChildrenText l file o.levels (record_end l file at) (child_entry l o.node.off k-is.done) c o.node.off more) there
                  (subst (λ at. ChildrenText l file o.levels (record_end l file (child_off file e)) at c o.node.off more) (next_entry l o.node.off i ∙ ap (child_entry l o.node.off) (sym cd)) text.3);
              count = omega (arith, n, cd);
              is = refl;
            };
            is = is ∙ below_split o.reach.device o.path.items c t more
                ∙ ap (λ x. wanted_under o.reach.device (o.path.items ++ x ∷ []) t ++ wanted_below o.reach.device o.path.items more) same;
          }
