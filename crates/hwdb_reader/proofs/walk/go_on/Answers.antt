use Rattle.std.proofs.Common.{◌≡◌, ◌≤◌, ◌∙◌, ◌-◌, ap, sym, subst, ◌∷◌, ◌+◌, List, ℕ, suc, length, arith}
use Rattle.std.proofs.lemmas.Result.{err_from_is_err_and}
use Rattle.hwdb_spec.specs.Format.{record_end, max_levels}
use Rattle.hwdb_reader.specs.Internal.Walks.{GoesOn}
use Rattle.hwdb_reader.proofs.BoundLemmas.{record_fields}
use Rattle.hwdb_reader.proofs.WalkLemmas.{record_inside, open_fault, gap_stands, node_done, ends_there, visits_below, next_sound, next_above, child_opened, child_done, goes_behind}
use Rattle.hwdb_reader.proofs.walk.go_on.Goals as goal

pub overflow_add-i-end : goal.overflow_add-i-end
overflow_add-i-end c =
    let inside = record_inside c.args.l.sizes c.args.b.now _ c.args.last.off c.args.last.done c.args.begin c.requires.open.0 in
    omega (arith, inside, record_fields c.args.l.sizes c.args.b.now c.args.last.off c.args.l.node_fields)

pub bounds-b-last : goal.bounds-b-last
bounds-b-last c =
    let inside = record_inside c.args.l.sizes c.args.b.now _ c.args.last.off c.args.last.done c.args.begin c.requires.open.0 in
    omega (arith, inside, record_fields c.args.l.sizes c.args.b.now c.args.last.off c.args.l.node_fields)

pub returns-in_err-child-clause-err : goal.returns-in_err-child-clause-err
returns-in_err-child-clause-err c =
    let p = err_from_is_err_and c.from_residual.result c.from_residual.ensures.1 in
    rw p.1 (λ h.
    c.in_err-child.ensures.err (next_above c.args.l.sizes c.args.b.now c.args.path.now c.args.last.off c.loop-i.i c.loop-i.next c.loop-i.invariant.stand c.loop-i-test.true (c.loop-i.invariant.sound.1 h)))

pub returns-in_err-child-clause-fault : goal.returns-in_err-child-clause-fault
returns-in_err-child-clause-fault c =
    let p = err_from_is_err_and c.from_residual.result c.from_residual.ensures.1 in
    rw (p.1, p.2) (open_fault c.args.l.sizes c.args.b.now _ c.args.last.off c.loop-i.i c.loop-i.next c.loop-i.invariant.stand.0 _ c.in_err-child.ensures.fault)

-- how many levels are left for a child
left : (above : List (ℕ × ℕ)) (levels : ℕ) → levels ≡ max_levels - length above → levels - 1 ≡ max_levels - suc (length above)
left above levels is = omega (arith, is)

pub check_record-requires-clause-visited : goal.check_record-requires-clause-visited
check_record-requires-clause-visited c =
    let levels = left c.args.path.now c.levels_left-levels.result c.levels_left-levels.ensures in
    rw (levels, c.in_ok-child.ensures.place) (visits_below c.args.l.sizes c.args.b.now c.args.path.now c.args.last.off c.loop-i.i c.loop-i.next c.loop-i.invariant.stand c.loop-i-test.true)

pub returns-in_err-end-clause-err : goal.returns-in_err-end-clause-err
returns-in_err-end-clause-err c =
    let p = err_from_is_err_and c.from_residual-in_err-end.result c.from_residual-in_err-end.ensures.1 in
    let levels = left c.args.path.now c.levels_left-levels.result c.levels_left-levels.ensures in
    let not = rw (levels, c.in_ok-child.ensures.place) at c.in_err-end.ensures.err in
    rw p.1 (λ h.
    not (next_sound c.args.l.sizes c.args.b.now c.args.path.now c.args.last.off c.loop-i.i c.loop-i.next c.loop-i.invariant.stand c.args.l.node_fields c.loop-i-test.true (c.loop-i.invariant.sound.1 h)))

pub overflow_add-child : goal.overflow_add-child
overflow_add-child c =
    let inside = record_inside c.args.l.sizes c.args.b.now _ c.args.last.off c.args.last.done c.args.begin c.requires.open.0 in
    let fits = c.in_ok-end.ensures.ok.fits.1 in
    omega (arith, inside, fits, record_fields c.args.l.sizes c.args.b.now c.in_ok-child.child c.args.l.node_fields, record_fields c.args.l.sizes c.args.b.now c.args.last.off c.args.l.node_fields)

pub bounds-b-child : goal.bounds-b-child
bounds-b-child c =
    let inside = record_inside c.args.l.sizes c.args.b.now _ c.args.last.off c.args.last.done c.args.begin c.requires.open.0 in
    let fits = c.in_ok-end.ensures.ok.fits.1 in
    omega (arith, inside, fits, record_fields c.args.l.sizes c.args.b.now c.in_ok-child.child c.args.l.node_fields, record_fields c.args.l.sizes c.args.b.now c.args.last.off c.args.l.node_fields)

-- the nodes on the path, with a node put on it
on_top : (above path now : List (ℕ × ℕ)) (node : ℕ × ℕ) → now ≡ node ∷ path → path ≡ above → now ≡ node ∷ above
on_top above path now node is same = is ∙ ap (λ (nodes : List (ℕ × ℕ)). node ∷ nodes) same

pub push-requires-then-b-child-ne0 : goal.push-requires-then-b-child-ne0
push-requires-then-b-child-ne0 c =
    let size = ap length (on_top c.args.path.now c.loop-i.path c.push.new.self _ c.push.ensures c.loop-i.invariant.same) in
    let some = c.in_ok-end.ensures.ok.some in
    let levels = c.levels_left-levels.ensures in
    omega (arith, size, some, levels)

pub returns-then-b-child-ne0-clause-ok : goal.returns-then-b-child-ne0-clause-ok
returns-then-b-child-ne0-clause-ok c =
    let below = on_top c.args.path.now c.loop-i.path c.push.new.self _ c.push.ensures c.loop-i.invariant.same in
    let nodes = on_top _ c.push.new.self c.push-then-b-child-ne0.new.self _ c.push-then-b-child-ne0.ensures below in
    let g = child_opened c.args.l.sizes c.args.b.now c.args.path.now c.args.last.off c.loop-i.i c.loop-i.next c.loop-i.invariant.stand c.in_ok-child.child c.in_ok-child.ensures.place c.loop-i-test.true c.in_ok-child.ensures.ok c.levels_left-levels.result c.levels_left-levels.ensures c.in_ok-end.ensures.ok in
    subst (λ (now : List (ℕ × ℕ)). GoesOn c.args.l.sizes c.args.b.now ((c.args.last.off, c.args.last.done) ∷ c.args.path.now) c.args.begin now c.loop-i.next) (sym nodes)
    (goes_behind c.args.l.sizes c.args.b.now c.args.path.now c.args.last.off c.args.last.done c.loop-i.i c.args.begin c.loop-i.next _ _ c.loop-i.invariant.sound c.loop-i.invariant.grown g)

pub returns-then-next-child-clause-err : goal.returns-then-next-child-clause-err
returns-then-next-child-clause-err c h =
    let g = child_opened c.args.l.sizes c.args.b.now c.args.path.now c.args.last.off c.loop-i.i c.loop-i.next c.loop-i.invariant.stand c.in_ok-child.child c.in_ok-child.ensures.place c.loop-i-test.true c.in_ok-child.ensures.ok c.levels_left-levels.result c.levels_left-levels.ensures c.in_ok-end.ensures.ok in
    c.if-next-child.true
    (ends_there c.args.l.sizes c.args.b.now ((c.args.last.off, c.loop-i.i + 1) ∷ c.args.path.now) c.in_ok-child.child 0 c.loop-i.next g.stand (sym c.if-b-child-ne0.false) (g.sound.1 (c.loop-i.invariant.sound.1 h)))

pub returns-then-next-child-clause-fault : goal.returns-then-next-child-clause-fault
returns-then-next-child-clause-fault c =
    let g = child_opened c.args.l.sizes c.args.b.now c.args.path.now c.args.last.off c.loop-i.i c.loop-i.next c.loop-i.invariant.stand c.in_ok-child.child c.in_ok-child.ensures.place c.loop-i-test.true c.in_ok-child.ensures.ok c.levels_left-levels.result c.levels_left-levels.ensures c.in_ok-end.ensures.ok in
    gap_stands c.args.l.sizes c.args.b.now _ c.in_ok-child.child 0 c.loop-i.next g.stand.0 (sym c.if-b-child-ne0.false) c.if-next-child.true

pub loop-i-preserved : goal.loop-i-preserved
loop-i-preserved c =
    let child = c.in_ok-child.child in
    let end : c.in_ok-end.end ≡ record_end c.args.l.sizes c.args.b.now child = c.in_ok-end.ensures.end in
    let g = child_opened c.args.l.sizes c.args.b.now c.args.path.now c.args.last.off c.loop-i.i c.loop-i.next c.loop-i.invariant.stand child c.in_ok-child.ensures.place c.loop-i-test.true c.in_ok-child.ensures.ok c.levels_left-levels.result c.levels_left-levels.ensures c.in_ok-end.ensures.ok in
    let done = child_done c.args.l.sizes c.args.b.now c.args.path.now c.args.last.off c.loop-i.i c.loop-i.next child c.args.l.node_fields g (sym c.if-b-child-ne0.false) c.if-next-child.false in
    let passed = subst (λ e. GoesOn c.args.l.sizes c.args.b.now ((c.args.last.off, c.loop-i.i) ∷ c.args.path.now) c.loop-i.next ((c.args.last.off, c.loop-i.i + 1) ∷ c.args.path.now) e) (sym end) done in
    let grown = c.loop-i.invariant.grown in
    let at = c.if-next-child.false in
    record {
      kept = c.in_ok-end.ensures.same ∙ c.loop-i.invariant.kept;
      same = c.loop-i.invariant.same;
      stand = passed.stand;
      sound = (λ x. c.loop-i.invariant.sound.0 (passed.sound.0 x), λ x. passed.sound.1 (c.loop-i.invariant.sound.1 x));
      grown = omega (arith, grown, at, end, record_fields c.args.l.sizes c.args.b.now child c.args.l.node_fields);
    }

-- all children are done
all_done : (i n : ℕ) → i ≤ n → n ≤ i → i ≡ n
all_done i n within past = omega (arith, within, past)

pub returns-then-next-last-clause-err : goal.returns-then-next-last-clause-err
returns-then-next-last-clause-err c h =
    c.if-next-last.true
    (ends_there c.args.l.sizes c.args.b.now c.args.path.now c.args.last.off c.loop-i.i c.loop-i.next c.loop-i.invariant.stand (all_done _ _ c.loop-i.invariant.stand.0.within c.loop-i-test.false) (c.loop-i.invariant.sound.1 h))

pub returns-then-next-last-clause-fault : goal.returns-then-next-last-clause-fault
returns-then-next-last-clause-fault c =
    gap_stands c.args.l.sizes c.args.b.now _ c.args.last.off c.loop-i.i c.loop-i.next c.loop-i.invariant.stand.0 (all_done _ _ c.loop-i.invariant.stand.0.within c.loop-i-test.false) c.if-next-last.true

pub returns-clause-ok : goal.returns-clause-ok
returns-clause-ok c =
    let all = all_done _ _ c.loop-i.invariant.stand.0.within c.loop-i-test.false in
    let g = node_done c.args.l.sizes c.args.b.now c.args.path.now c.args.last.off c.loop-i.i c.loop-i.next c.loop-i.invariant.stand c.args.l.node_fields all c.if-next-last.false in
    let behind = goes_behind c.args.l.sizes c.args.b.now c.args.path.now c.args.last.off c.args.last.done c.loop-i.i c.args.begin c.loop-i.next _ _ c.loop-i.invariant.sound c.loop-i.invariant.grown g in
    subst (λ (r : List (ℕ × ℕ) × ℕ). GoesOn c.args.l.sizes c.args.b.now ((c.args.last.off, c.args.last.done) ∷ c.args.path.now) c.args.begin r.0 r.1)
    (λ j. (sym c.loop-i.invariant.same j, sym c.record_end_at.ensures j)) behind
