use Rattle.std.proofs.Common.{◌≡◌, ◌∙◌, List, ap, arith, length, subst, sym}
use Rattle.std.proofs.lemmas.Cmp.{nat_list_cmp_total, tied_itself}
use Rattle.hwdb_spec.specs.Assignment.{text_cmp}
use Rattle.hwdb_databases.specs.Internal.Trails.{AreAlike, path_of}
use Rattle.hwdb_databases.specs.declared.trail.Segment.{Segment}
use Rattle.hwdb_databases.proofs.TrailLemmas.{all_alike}
use Rattle.hwdb_databases.proofs.abreast.Abreast.meet.Goals as goal

pub alike-self-requires-clause-alike : goal.alike-self-requires-clause-alike
alike-self-requires-clause-alike c =
    subst (λ (g : List Segment × List Segment). AreAlike c.keep.new.self.common g.0 g.1) (λ i. (sym c.deref.ensures.value i, sym c.deref-2.ensures.value i)) c.keep.ensures.abreast.alike

pub returns-then-self-len-2-clause-order : goal.returns-then-self-len-2-clause-order
returns-then-self-len-2-clause-order c =
    let n = c.alike-self.result in
    let olds = c.args.old.now.segments.items in
    let news = c.args.new.now.segments.items in
    let old_read = c.len.ensures in
    let old_ok = c.args.old.now.segments.ok in
    let old_is = c.if-self-len.true in
    let new_read = c.len-then-self-len.ensures in
    let new_ok = c.args.new.now.segments.ok in
    let new_is = c.if-self-len-2.true in
    let old_all : n ≡ length olds = omega (arith, old_read, old_ok, old_is) in
    let new_all : n ≡ length news = omega (arith, new_read, new_ok, new_is) in
    let are : AreAlike n olds news =
    subst (λ (g : List Segment × List Segment). AreAlike n g.0 g.1) (λ i. (c.deref.ensures.value i, c.deref-2.ensures.value i)) c.alike-self.ensures in
    let same : path_of c.args.old.now ≡ path_of c.args.new.now = all_alike n olds news old_all new_all are in
    sym (tied_itself nat_list_cmp_total (path_of c.args.new.now)) ∙ ap (λ p. text_cmp p (path_of c.args.new.now)) (sym same)
