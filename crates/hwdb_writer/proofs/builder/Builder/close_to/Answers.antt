use Rattle.std.proofs.Common.{arith}
use Rattle.hwdb_writer.proofs.OpenLemmas.{few_children, top_inside}
use Rattle.hwdb_writer.proofs.ClosingLemmas.{start, close_step, close_shorter, cut_step, cut_room}
use Rattle.hwdb_writer.proofs.builder.Builder.close_to.Goals as goal

pub loop-self-init : goal.loop-self-init
loop-self-init c = λ es fs is. (fs, start es c.args.at c.args.self.now fs is c.requires.within)

pub close-requires : goal.close-requires
close-requires c =
    let k = c.requires.closable in
    let i = c.loop-self.invariant k.0 k.1 k.2 in
    record { inside = top_inside k.0 c.loop-self.self i.0 i.1.nodes; few = few_children k.0 c.loop-self.self i.0 i.1.nodes }

pub loop-self-smaller-in-Continue-1 : goal.loop-self-smaller-in-Continue-1
loop-self-smaller-in-Continue-1 c =
    let k = c.requires.closable in
    let i = c.loop-self.invariant k.0 k.1 k.2 in
    let y = c.if-reaches.ensures.yes in
    close_shorter k.0 c.args.at c.args.self.now c.loop-self.self c.close.new.self k.1 i.0 i.1 c.loop-self-test.true y.0 y.1 y.2 y.3 c.in_ok-close.ensures

pub loop-self-preserved-in-Continue-1 : goal.loop-self-preserved-in-Continue-1
loop-self-preserved-in-Continue-1 c = λ es fs is.
    let i = c.loop-self.invariant es fs is in
    let y = c.if-reaches.ensures.yes in
    close_step es c.args.at c.args.self.now c.loop-self.self c.close.new.self fs i.0 i.1 c.loop-self-test.true y.0 y.1 y.2 y.3 c.in_ok-close.ensures

pub cut-requires-clause-prefix : goal.cut-requires-clause-prefix
cut-requires-clause-prefix c =
    let k = c.requires.closable in
    let i = c.loop-self.invariant k.0 k.1 k.2 in
    cut_room k.0 c.args.at c.args.self.now c.loop-self.self c.loop-self.self k.1 i.0 i.1 c.loop-self-test.true c.if-reaches.ensures.no

pub cut-requires-clause-values : goal.cut-requires-clause-values
cut-requires-clause-values c =
    let k = c.requires.closable in
    let i = c.loop-self.invariant k.0 k.1 k.2 in
    top_inside k.0 c.loop-self.self i.0 i.1.nodes

pub loop-self-preserved : goal.loop-self-preserved
loop-self-preserved c = λ es fs is.
    let i = c.loop-self.invariant es fs is in
    cut_step es c.args.at c.args.self.now c.loop-self.self c.cut.new.self fs i.0 i.1 c.loop-self-test.true c.if-reaches.ensures.no c.in_ok-cut.ensures

pub returns : goal.returns
returns c = λ es fs is.
    let i = c.loop-self.invariant es fs is in
    (i.0, record { nodes = i.1.nodes; closed = i.1.closed; end = omega (arith, c.loop-self-test.false, i.1.within); path = i.1.path })
