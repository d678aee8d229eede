use Rattle.std.proofs.Common.{◌≡◌, ◌∙◌, ◌++◌, ap, sym, arith, None, Option, reverse, refl}
use Rattle.hwdb_reader.specs.declared.view.Inside.{Inside}
use Rattle.hwdb_databases.specs.Internal.Walks.{entered_one, named_at, own_of, to_come}
use Rattle.hwdb_databases.specs.Internal.Trails.{path_of}
use Rattle.hwdb_databases.proofs.TrailLemmas.{follows_itself, follows_on}
use Rattle.hwdb_databases.proofs.WalkLemmas.{at_none}
use Rattle.hwdb_databases.proofs.walk.Walk.next.Goals as goal

pub returns-then-branch-clause-file : goal.returns-then-branch-clause-file
returns-then-branch-clause-file c f all = c.in_ok-go_on.ensures.file f (c.nodes.invariant.files f all)

pub returns-then-branch-clause-files : goal.returns-then-branch-clause-files
returns-then-branch-clause-files c f all = c.in_ok-go_on.ensures.files f (c.nodes.invariant.files f all)

pub returns-then-branch-clause-follows : goal.returns-then-branch-clause-follows
returns-then-branch-clause-follows c = follows_on c.args.self.now.trail c.nodes.self.trail c.go_on.new.self.trail c.nodes.invariant.follows c.in_ok-go_on.ensures.follows

pub returns-then-branch-clause-segments : goal.returns-then-branch-clause-segments
returns-then-branch-clause-segments c f all held = c.in_ok-go_on.ensures.segments f (c.nodes.invariant.files f all) (c.nodes.invariant.segments f all held)

pub nodes-init : goal.nodes-init
nodes-init c = record {
  none = refl;
  rest = refl;
  stands = c.requires.1.stands;
  room = let small = c.requires.1.small in let counted = c.requires.1.counted in omega (arith, small, counted);
  counted = refl;
  left = refl;
  named = refl;
  deepest = refl;
  reached = c.requires.1.reached;
  files = λ f all. all;
  follows = follows_itself c.args.self.now.trail;
  segments = λ f all held. held;
}

pub nodes-preserved : goal.nodes-preserved
nodes-preserved c =
    let e = c.in_ok-go_on.ensures in
    let i = c.nodes.invariant in
    let now = c.go_on.new.self in
    let none : now.at ≡ None = at_none now.at (sym e.found ∙ c.if-branch.false) in
    let zero = ap entered_one none in
    let unnamed = ap named_at none in
    record {
      none = none;
      rest = sym (ap (λ (o : Option Inside). own_of (path_of now.trail) o ++ to_come now.trail.segments.items (reverse now.stack.items)) none) ∙ e.rest ∙ i.rest;
      stands = e.stands;
      room = omega (arith, e.counted, e.left, i.room);
      counted = omega (arith, e.counted, zero, i.counted);
      left = omega (arith, e.left, zero, i.left);
      named = omega (arith, e.named, unnamed, i.named);
      deepest = e.deepest ∙ i.deepest;
      reached = e.reached;
      files = λ f all. e.files f (i.files f all);
      follows = follows_on c.args.self.now.trail c.nodes.self.trail now.trail i.follows e.follows;
      segments = λ f all held. e.segments f (i.files f all) (i.segments f all held);
    }
