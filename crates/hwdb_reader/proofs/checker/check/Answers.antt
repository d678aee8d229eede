use Rattle.std.proofs.Common.{ap, sym, ◌∙◌, arith}
use Rattle.std.proofs.lemmas.Result.{err_from_is_err_and}
use Rattle.hwdb_spec.specs.declared.Layout.{Layout}
use Rattle.hwdb_spec.specs.Format.Visited.{Root}
use Rattle.hwdb_reader.specs.Views.{tree_of}
use Rattle.hwdb_reader.proofs.WholeLemmas.{strings_inside, read_text, root_fits, few_nodes, header_stands, node_stands, root_stands_at, database_of}
use Rattle.hwdb_reader.proofs.checker.check.Goals as goal

pub returns-in_err-frame-clause-fault : goal.returns-in_err-frame-clause-fault
returns-in_err-frame-clause-fault c =
    let p = err_from_is_err_and c.from_residual.result c.from_residual.ensures.1 in
    rw (p.1, p.2) (header_stands _ _ c.in_err-frame.ensures.fault)

pub walk-requires-clause-inside : goal.walk-requires-clause-inside
walk-requires-clause-inside c = let ok = c.in_ok-frame.ensures.ok in rw ok.0 (strings_inside c.args.bytes.now ok.1)

pub walk-requires-clause-visited : goal.walk-requires-clause-visited
walk-requires-clause-visited c = Root

pub returns-in_err-end-clause-refused : goal.returns-in_err-end-clause-refused
returns-in_err-end-clause-refused c =
    let p = err_from_is_err_and c.from_residual-in_err-end.result c.from_residual-in_err-end.ensures.1 in
    let ok = c.in_ok-frame.ensures.ok in
    let e = rw ok.0 at c.in_err-end.ensures.err in
    rw p.1 (λ t h. e (root_fits c.args.bytes.now t h, read_text c.args.bytes.now t h))

pub returns-in_err-end-clause-fault : goal.returns-in_err-end-clause-fault
returns-in_err-end-clause-fault c =
    let p = err_from_is_err_and c.from_residual-in_err-end.result c.from_residual-in_err-end.ensures.1 in
    let ok = c.in_ok-frame.ensures.ok in
    rw (p.1, p.2) (node_stands _ _ ok.1 (rw ok.0 at c.in_err-end.ensures.fault))

pub returns-then-end-strings-clause-fault : goal.returns-then-end-strings-clause-fault
returns-then-end-strings-clause-fault c =
    let ok = c.in_ok-frame.ensures.ok in
    let e = c.in_ok-end.ensures.ok in
    root_stands_at c.args.bytes.now c.in_ok-frame.frame.sizes ok.0 ok.1 (λ w. c.if-end-strings.true (e.0 ∙ w))

pub invariant_of-result : goal.invariant_of-result
invariant_of-result c =
    let ok = c.in_ok-frame.ensures.ok in
    let e = c.in_ok-end.ensures.ok in
    let inside = strings_inside c.args.bytes.now ok.1 in
    let sizes = ap (λ (m : Layout). m.strings) ok.0 in
    let below = e.1.0.1 in
    record { placed = ∣ record { from = c.in_ok-frame.frame.sizes.nodes; text = e.1.1; inside = omega (arith, below, sizes, inside); small = omega arith } ∣₁; starry = c.no_stars.ensures.stars c.args.bytes.now }

pub returns-clause-accepted : goal.returns-clause-accepted
unfolding tree_of
returns-clause-accepted c =
    let ok = c.in_ok-frame.ensures.ok in
    let e = c.in_ok-end.ensures.ok in
    database_of c.args.bytes.now c.in_ok-frame.frame.sizes ok.0 ok.1 e.1.1 (sym e.0 ∙ c.if-end-strings.false)

pub returns-clause-nodes : goal.returns-clause-nodes
unfolding tree_of
returns-clause-nodes c =
    let ok = c.in_ok-frame.ensures.ok in
    let e = c.in_ok-end.ensures.ok in
    few_nodes c.args.bytes.now _ (database_of c.args.bytes.now c.in_ok-frame.frame.sizes ok.0 ok.1 e.1.1 (sym e.0 ∙ c.if-end-strings.false))
