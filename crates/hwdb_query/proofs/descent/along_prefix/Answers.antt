use Rattle.std.proofs.Common.{◌≡◌, ◌∙◌, ◌+◌, ◌++◌, [], List, ℕ, ap, sym, subst, arith, take, drop, length, eqb-true}
use Rattle.std.proofs.lemmas.List.{append-nil}
use Rattle.hwdb_pattern.specs.Views.{StandsFor}
use Rattle.hwdb_spec.specs.Tree.{prefix_of, is_live, IsLive}
use Rattle.hwdb_reader.specs.Views.{tree_of}
use Rattle.hwdb_query.proofs.FedLemmas.{no_bytes, piece_goes_on, piece_within, piece_ends, front_stays, dead_before}
use Rattle.hwdb_query.proofs.StepLemmas.{live_is}
use Rattle.hwdb_query.proofs.descent.along_prefix.Goals as goal

pub feeding-preserved : goal.feeding-preserved
feeding-preserved c =
    let prefix = prefix_of (tree_of c.args.node) in
    let path = c.feeding.path.items in
    let piece = c.prefix_part-piece.result.now in
    let longer : c.extend_from_slice.new.self.items ≡ path ++ piece = c.in_ok-extend_from_slice.ensures.items in
    record {
      fed = piece_within prefix piece c.feeding.fed c.max.result c.prefix_part-piece.ensures.part c.feeding.invariant.fed;
      stands = subst (StandsFor c.in_ok-reach.reach) (sym longer) (c.in_ok-reach.ensures.path path c.feeding.invariant.stands);
      same_device = c.in_ok-reach.ensures.device ∙ c.feeding.invariant.same_device;
      whole = ap (λ (l : List ℕ). l ++ drop (c.feeding.fed + length piece) prefix) longer
          ∙ piece_goes_on prefix path piece _ c.feeding.fed c.max.result c.prefix_part-piece.ensures.part c.feeding.invariant.whole;
      front = ap (take (length c.args.path.now.items)) longer ∙ front_stays c.args.path.now.items path piece c.feeding.invariant.front;
    }

pub returns-then-is_empty-clause-fed : goal.returns-then-is_empty-clause-fed
returns-then-is_empty-clause-fed c =
    let prefix = prefix_of (tree_of c.args.node) in
    let path = c.feeding.path.items in
    let piece = c.prefix_part-piece.result.now in
    let none : length piece ≡ 0 = eqb-true (length piece) 0 (sym c.is_empty.ensures ∙ c.if-is_empty.true) in
    let ends : drop c.feeding.fed prefix ≡ [] = piece_ends (drop c.feeding.fed prefix) piece c.max.result c.prefix_part-piece.ensures.part (omega (arith, c.max.ensures)) none in
    let whole : path ++ piece ≡ path = ap (λ (l : List ℕ). path ++ l) (no_bytes piece none) ∙ append-nil path in
    record {
      path_is = whole ∙ sym (ap (λ (l : List ℕ). path ++ l) ends ∙ append-nil path) ∙ c.feeding.invariant.whole;
      stands = subst (StandsFor c.feeding.reach) (sym whole) c.feeding.invariant.stands;
      same_device = c.feeding.invariant.same_device;
      live = ap (λ p. is_live p c.args.reach.device) whole ∙ ap (is_live path) (sym c.feeding.invariant.same_device)
          ∙ live_is c.path_laws.ensures.live c.feeding.reach.device path _ c.feeding-test.true (c.is_alive.ensures path c.feeding.invariant.stands);
    }

pub returns-in-Some-clause-fed : goal.returns-in-Some-clause-fed
returns-in-Some-clause-fed c =
    let prefix = prefix_of (tree_of c.args.node) in
    let path = c.feeding.path.items in
    let seen = c.in-Some.seen in
    let same = c.in-Some.ensures.device ∙ c.feeding.invariant.same_device in
    record {
      path_is = ap (λ (l : List ℕ). path ++ l) c.in-Some.ensures.tail ∙ c.feeding.invariant.whole;
      stands = c.in-Some.ensures.stands path c.feeding.invariant.stands;
      same_device = same;
      live = ap (is_live (path ++ seen.tail.now)) (sym same)
          ∙ (c.path_laws.ensures.live (path ++ seen.tail.now) seen.reach.device).1 (c.in-Some.ensures.live path c.feeding.invariant.stands);
    }

pub returns-clause-fed : goal.returns-clause-fed
returns-clause-fed c =
    let prefix = prefix_of (tree_of c.args.node) in
    let path = c.feeding.path.items in
    let whole = c.args.path.now.items ++ drop c.args.fed prefix in
    subst (λ (d : List ℕ). IsLive whole d → ⊥) c.feeding.invariant.same_device
    (dead_before c.feeding.reach.device path (drop c.feeding.fed prefix) whole _ c.path_laws.ensures.longer c.feeding.invariant.whole
    c.feeding-test.false (c.is_alive.ensures path c.feeding.invariant.stands))
