use Rattle.std.proofs.Common.{◌≡◌, ◌∙◌, refl, arith, sym, subst, [], IfNone, IfSome, List, Option, ℕ}
use Rattle.hwdb_databases.specs.Internal.Trails.{AreKeptOf, AreThere, IsCopied}
use Rattle.hwdb_databases.specs.Internal.Walks.{IsAtOne, IsOf, IsWalkOf}
use Rattle.hwdb_reader.specs.Unread.{IsFrom, file_in}
use Rattle.hwdb_reader.specs.declared.view.Inside.{Inside}
use Rattle.hwdb_databases.specs.declared.walk.Walk.{Walk}
use Rattle.hwdb_databases.proofs.MeetingLemmas.{found_next, next_node, some_next}
use Rattle.hwdb_databases.proofs.members.Members.pass.Goals as goal

pub next-requires : goal.next-requires
next-requires c =
    let t = c.requires.0 in (t, subst (λ (w : Walk). IsWalkOf t w) (sym c.look.ensures.same) (c.nodes.invariant.walk t c.requires.1).walk)

pub returns-then-look-clause-walk : goal.returns-then-look-clause-walk
returns-then-look-clause-walk c t way =
    let under = c.nodes.invariant.walk t way in
    record {
      walk = subst (λ (w : Walk). IsWalkOf t w) (sym c.look.ensures.same) under.walk;
      end = subst (λ (w : Walk). IfNone w.at (w.stack.items ≡ [])) (sym c.look.ensures.same) under.end;
    }

pub returns-then-look-clause-left : goal.returns-then-look-clause-left
returns-then-look-clause-left c =
    found_next c.nodes.self c.look.new.self c.in-Some.inside c.look.ensures.same c.in-Some.is c.look.ensures.rest ∙ c.nodes.invariant.left

pub returns-then-look-clause-end : goal.returns-then-look-clause-end
returns-then-look-clause-end c = some_next c.look.new.self.next _ (sym c.if-look.true ∙ c.look.ensures.found)

pub nodes-preserved : goal.nodes-preserved
nodes-preserved c = record {
  walk = λ t way. record {
    walk = c.in_ok-next.ensures.walk t (subst (λ (w : Walk). IsWalkOf t w) (sym c.look.ensures.same) (c.nodes.invariant.walk t way).walk);
    end = c.in_ok-next.ensures.end;
  };
  left = next_node c.nodes.self c.look.new.self.walk c.next.new.self c.in-Some.inside c.look.ensures.same c.in-Some.is (c.look.ensures.none c.if-look.false) c.in_ok-next.ensures.rest
      ∙ c.nodes.invariant.left;
  file = λ f are.
      let held : IsOf f c.look.new.self.walk = subst (λ (w : Walk). IsOf f w) (sym c.look.ensures.same) (c.nodes.invariant.file f are) in
      record { stack = c.in_ok-next.ensures.files f held.stack; at = c.in_ok-next.ensures.file f held.stack; segments = c.in_ok-next.ensures.segments f held.stack held.segments };
  there = c.in_ok-next.ensures.follows.there (subst (λ (w : Walk). AreThere w.trail) (sym c.look.ensures.same) c.nodes.invariant.there);
  kept = c.in_ok-next.ensures.follows.kept (subst (λ (w : Walk). AreThere w.trail) (sym c.look.ensures.same) c.nodes.invariant.there)
      c.args.self.now.walk.trail.segments.items (subst (λ (w : Walk). AreKeptOf c.args.self.now.walk.trail.segments.items w.trail) (sym c.look.ensures.same) c.nodes.invariant.kept);
  copied = λ h. c.in_ok-next.ensures.follows.copied (subst (λ (w : Walk). IsCopied w.trail) (sym c.look.ensures.same) (c.nodes.invariant.copied h));
}

pub returns-then-look-clause-there : goal.returns-then-look-clause-there
returns-then-look-clause-there c = subst (λ (w : Walk). AreThere w.trail) (sym c.look.ensures.same) c.nodes.invariant.there

pub returns-then-look-clause-kept : goal.returns-then-look-clause-kept
returns-then-look-clause-kept c = subst (λ (w : Walk). AreKeptOf c.args.self.now.walk.trail.segments.items w.trail) (sym c.look.ensures.same) c.nodes.invariant.kept

pub returns-then-look-clause-copied : goal.returns-then-look-clause-copied
returns-then-look-clause-copied c h = subst (λ (w : Walk). IsCopied w.trail) (sym c.look.ensures.same) (c.nodes.invariant.copied h)

pub returns-then-look-clause-file : goal.returns-then-look-clause-file
returns-then-look-clause-file c f are =
    let held = c.nodes.invariant.file f are in
    let here : file_in c.in-Some.inside ≡ f = subst (λ (o : Option Inside). IsAtOne f o) c.in-Some.is held.at in
    record {
      walk = subst (λ (w : Walk). IsOf f w) (sym c.look.ensures.same) held;
      next = subst (λ (g : List ℕ). IfSome c.look.new.self.next (IsFrom g)) here c.look.ensures.file;
    }

pub returns-clause-file : goal.returns-clause-file
returns-clause-file c f are = record { walk = c.nodes.invariant.file f are; next = tt }

pub nodes-init : goal.nodes-init
nodes-init c =
    let read = c.len-self.ensures in
    let ok = c.args.self.now.walk.trail.segments.ok in
    record {
      walk = λ t way.
          let old = way.walk in
          record { walk = record { stands = old.stands; small = old.small; counted = old.counted; deepest = old.deepest; reached = old.reached }; end = way.end };
      left = refl;
      there = omega (arith, read, ok);
      kept = λ n small. refl;
      copied = λ h. record { copies = h.copies; path = h.path; measured = h.measured };
      file = λ f are. let old = are.walk in record { stack = old.stack; at = old.at; segments = old.segments };
    }
