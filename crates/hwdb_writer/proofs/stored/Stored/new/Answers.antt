use Rattle.std.proofs.Common.{List, [], ap, arith, length, refl, subst, sym}
use Rattle.hwdb_spec.specs.Written.{strings_of, text_size}
use Rattle.hwdb_writer.specs.Internal.PostOrder.{trees_after}
use Rattle.hwdb_writer.specs.Internal.Stored.{IsUnder, AreNodes, AreValues}
use Rattle.hwdb_writer.specs.declared.stored.StoredNode.{StoredNode}
use Rattle.hwdb_writer.specs.declared.stored.StoredValue.{StoredValue}
use Rattle.hwdb_writer.proofs.MembershipLemmas.{same_path}
use Rattle.hwdb_writer.proofs.stored.Stored.new.Goals as goal

pub returns : goal.returns
unfolding trees_after strings_of text_size
returns c = λ es.
    let words = c.in_ok-interner.interner in
    record {
      sized = refl;
      stored = λ not. record {
        nodes = subst (λ (l : List StoredNode). AreNodes (IsUnder words) l []) (sym c.in_ok-nodes.ensures.items) tt;
        values = subst (λ (l : List StoredValue). AreValues (IsUnder words) l []) (sym c.in_ok-values.ensures.items) tt;
        members = same_path _ _ c.in_ok-interner.ensures;
        few = let one = ap length c.in_ok-interner.ensures in omega (arith, one);
      };
      full = λ is. absurd (cc);
    }
