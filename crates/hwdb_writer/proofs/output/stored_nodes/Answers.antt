use Rattle.std.proofs.Common.{◌++◌, ℕ, map, sym, refl, subst, List, arith, ◌∷◌, []}
use Rattle.hwdb_spec.specs.Tree.{surviving}
use Rattle.hwdb_spec.specs.Written.{written, strings_of}
use Rattle.hwdb_writer.specs.Internal.Entries.{assignment_of}
use Rattle.hwdb_writer.specs.Internal.Membership.{SameMembers}
use Rattle.hwdb_writer.specs.Internal.PostOrder.{tree_of, trees_after}
use Rattle.hwdb_writer.proofs.EmissionLemmas.{one_size, one_strings}
use Rattle.hwdb_writer.proofs.MadeLemmas.{made}
use Rattle.hwdb_writer.proofs.MembershipLemmas.{collected}
use Rattle.hwdb_writer.proofs.OpenLemmas.{all_stored}
use Rattle.hwdb_writer.proofs.SoundnessLemmas.{sound_tight}
use Rattle.hwdb_writer.proofs.WholeLemmas.{length-written}
use Rattle.hwdb_writer.proofs.output.stored_nodes.Goals as goal

pub post_order-requires-clause-none : goal.post_order-requires-clause-none
post_order-requires-clause-none c = c.in_ok-none.ensures c.deref-2.result.now

pub returns-then-closed-max_bytes-clause-too_large : goal.returns-then-closed-max_bytes-clause-too_large
returns-then-closed-max_bytes-clause-too_large c w =
    let all = c.args.all.items in
    let es = c.deref-2.result.now in
    let m = surviving (map assignment_of all) in
    let tree = c.in_ok-closed.ensures in
    let ns = tree.ns in
    let t = tree_of es ns in
    let is = made es es c.in_ok-entries.entries.items c.deref.result.now all ns ns m refl refl (sym c.deref-2.ensures.value) c.deref.ensures.value tree.sound tree.values c.in_ok-entries.ensures.same refl in
    let size = one_size (trees_after es [] ns) tree.order.one in
    let long = length-written t in
    (written t, (t, sound_tight m t is.sound is.same, refl), omega (arith, size, tree.kept.sized, long, c.if-closed-max_bytes.true))

pub returns-clause-stored : goal.returns-clause-stored
returns-clause-stored c =
    let all = c.args.all.items in
    let es = c.deref-2.result.now in
    let m = surviving (map assignment_of all) in
    let tree = c.in_ok-closed.ensures in
    let ns = tree.ns in
    let t = tree_of es ns in
    let words = c.in_ok-closed.closed.interner in
    let kept = all_stored es ns c.in_ok-closed.closed c.in_ok-closed.closed.is_full refl tree.kept (omega (arith, c.if-closed-max_bytes.false, c.ranges.max_bytes.fits)) in
    let size = one_size (trees_after es [] ns) tree.order.one in
    let S : List (List ℕ) → Type 0 = λ l. SameMembers words (([] ∷ []) ++ l) in (
      es,
      ns,
      record {
        order = tree.order;
        nodes = kept.nodes;
        values = kept.values;
        strings = collected words ([] ∷ []) (strings_of t) refl (subst S (one_strings (trees_after es [] ns) tree.order.one) kept.members);
        sized = omega (arith, size, tree.kept.sized, c.if-closed-max_bytes.false, c.ranges.max_bytes.fits);
      },
      made es es c.in_ok-entries.entries.items c.deref.result.now all ns ns m refl refl (sym c.deref-2.ensures.value) c.deref.ensures.value tree.sound tree.values c.in_ok-entries.ensures.same refl,
    )
