use Rattle.std.proofs.Common.{◌≡◌, ◌+◌, ◌∷◌, [], sym, subst, map, drop, arith, add-one}
use Rattle.hwdb_query.specs.Internal.Collected.{PageCollects}
use Rattle.hwdb_query.specs.Views.{assignment_of_answer}
use Rattle.hwdb_query.proofs.CollectionLemmas.{answer_next, answers_over, page_none, page_more}
use Rattle.hwdb_query.proofs.among.take_page.Goals as goal

pub loop-i-preserved : goal.loop-i-preserved
loop-i-preserved c =
    let found = c.args.found.now in
    let i = c.loop-i.i in
    let x = assignment_of_answer c.index-found-i.result in
    let next : map assignment_of_answer (drop i found) ≡ x ∷ map assignment_of_answer (drop (i + 1) found) =
    rw (add-one i) (answer_next found i c.index-found-i.result c.loop-i-test.true c.index-found-i.is) in
    λ end rest. c.loop-i.invariant end
    (subst (λ xs. PageCollects c.loop-i.page xs end) (sym next)
    (page_more c.loop-i.page c.take.new.self end (x ∷ []) (map assignment_of_answer (drop (i + 1) found)) c.in_ok-take.ensures rest))

pub returns : goal.returns
returns c =
    let over = answers_over c.args.found.now c.loop-i.i (let t = c.loop-i-test.false in omega (arith, t)) in
    c.loop-i.invariant c.loop-i.page (subst (λ xs. PageCollects c.loop-i.page xs c.loop-i.page) (sym over) (page_none c.loop-i.page))
