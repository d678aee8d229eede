use Rattle.std.proofs.Common.{◌∙◌, arith, ap, refl, sym, subst, ◌++◌, ◌∷◌, [], List, ℕ, append-nil, take}
use Rattle.std.proofs.lemmas.Result.{on_ok_weaker, IfOk-weaker}
use Rattle.hwdb_pattern.specs.Views.{StandsFor}
use Rattle.hwdb_spec.specs.Tree.{Tree, IsLive, prefix_of, is_live}
use Rattle.hwdb_reader.specs.Views.{tree_of}
use Rattle.hwdb_query.specs.Internal.Descents.{IsSeen}
use Rattle.hwdb_query.proofs.StepLemmas.{live_is, dead_is}
use Rattle.hwdb_query.proofs.FedLemmas.{child_front, piece_within, short_piece, shared_front, seen_by_fed}
use Rattle.hwdb_query.proofs.DeadPathLemmas.{dead_path}
use Rattle.hwdb_query.proofs.StackLemmas.{child_path, child_fed, lost_at_byte, lost_at_path}
use Rattle.hwdb_query.proofs.descent.OpenNode.look_at.Goals as goal

pub returns-then-not-may_take-clause-seen : goal.returns-then-not-may_take-clause-seen
returns-then-not-may_take-clause-seen c =
    let device = c.args.self.now.reach.device in
    let base = take c.args.self.now.length c.args.path.now.items in
    lost_at_byte device base (c.args.child.byte, tree_of c.args.child.node)
    (dead_path device (base ++ c.args.child.byte ∷ []) c.path_laws.ensures.matched c.path_laws.ensures.live c.path_laws.ensures.longer c.path_laws.ensures.below
    (c.may_take.ensures c.if-not-may_take.true base c.requires.reach))

pub along_prefix-requires-clause-stands : goal.along_prefix-requires-clause-stands
along_prefix-requires-clause-stands c =
    child_fed c.args.self.now.reach c.in_ok-reach.reach c.args.self.now.length c.args.path.now.items c.truncate.new.self.items c.push.new.self.items c.extend_from_slice.new.self.items c.prefix_part-front.result.now c.deref.result.now _ c.args.child.byte
    c.requires.within c.truncate.ensures.items c.in_ok-push.ensures.items c.in_ok-extend_from_slice.ensures.items c.deref.ensures.value refl c.requires.reach c.in_ok-reach.ensures.path

pub along_prefix-requires-clause-fed : goal.along_prefix-requires-clause-fed
along_prefix-requires-clause-fed c =
    let prefix = prefix_of (tree_of c.args.child.node) in
    let within = piece_within prefix c.prefix_part-front.result.now 0 64 c.prefix_part-front.ensures.part (omega arith) in
    omega (arith, within)

pub returns-then-front-eq-PIECE-clause-path : goal.returns-then-front-eq-PIECE-clause-path
returns-then-front-eq-PIECE-clause-path c =
    let size = c.args.self.now.length in
    let old = c.args.path.now.items in
    let piece = c.prefix_part-front.result.now in
    let path_is = c.in_ok-extend_from_slice.ensures.items ∙ ap (λ (l : List ℕ). l ++ piece) (c.in_ok-push.ensures.items ∙ ap (λ (l : List ℕ). l ++ c.args.child.byte ∷ []) c.truncate.ensures.items) in
    on_ok_weaker c.along_prefix.result
    (λ front. (shared_front size old _ c.along_prefix.new.path.items (child_front size old c.extend_from_slice.new.self.items piece c.args.child.byte c.requires.within path_is) front).1)
    c.along_prefix.ensures.path

pub returns-then-front-eq-PIECE-clause-within : goal.returns-then-front-eq-PIECE-clause-within
returns-then-front-eq-PIECE-clause-within c =
    let size = c.args.self.now.length in
    let old = c.args.path.now.items in
    let piece = c.prefix_part-front.result.now in
    let path_is = c.in_ok-extend_from_slice.ensures.items ∙ ap (λ (l : List ℕ). l ++ piece) (c.in_ok-push.ensures.items ∙ ap (λ (l : List ℕ). l ++ c.args.child.byte ∷ []) c.truncate.ensures.items) in
    on_ok_weaker c.along_prefix.result
    (λ front. (shared_front size old _ c.along_prefix.new.path.items (child_front size old c.extend_from_slice.new.self.items piece c.args.child.byte c.requires.within path_is) front).0)
    c.along_prefix.ensures.path

pub returns-then-front-eq-PIECE-clause-seen : goal.returns-then-front-eq-PIECE-clause-seen
returns-then-front-eq-PIECE-clause-seen c =
    let base = take c.args.self.now.length c.args.path.now.items in
    let piece = c.prefix_part-front.result.now in
    let now = c.along_prefix.new.path.items in
    let k : ℕ × Tree = (c.args.child.byte, tree_of c.args.child.node) in
    let path_is = c.in_ok-extend_from_slice.ensures.items ∙ ap (λ (l : List ℕ). l ++ piece) (c.in_ok-push.ensures.items ∙ ap (λ (l : List ℕ). l ++ c.args.child.byte ∷ []) c.truncate.ensures.items) in
    IfOk-weaker c.along_prefix.result _ _
    (λ o fed. subst (λ (d : List ℕ). IsSeen d base k now o) c.in_ok-reach.ensures.device
    (seen_by_fed c.in_ok-reach.reach.device base c.extend_from_slice.new.self.items piece now k 64 o
    c.path_laws.ensures.matched c.path_laws.ensures.live c.path_laws.ensures.longer c.path_laws.ensures.below path_is c.prefix_part-front.ensures.part fed))
    c.along_prefix.ensures.fed

pub returns-then-is_alive-clause-seen : goal.returns-then-is_alive-clause-seen
returns-then-is_alive-clause-seen c =
    let size = c.args.self.now.length in
    let path = c.extend_from_slice.new.self.items in
    let piece = c.prefix_part-front.result.now in
    let dev = c.in_ok-reach.ensures.device in
    let whole = short_piece (prefix_of (tree_of c.args.child.node)) piece 64 c.prefix_part-front.ensures.part c.if-front-eq-PIECE.false in
    let stands = child_fed c.args.self.now.reach c.in_ok-reach.reach size c.args.path.now.items c.truncate.new.self.items c.push.new.self.items path piece c.deref.result.now _ c.args.child.byte
    c.requires.within c.truncate.ensures.items c.in_ok-push.ensures.items c.in_ok-extend_from_slice.ensures.items c.deref.ensures.value refl c.requires.reach c.in_ok-reach.ensures.path in
    record {
      path_is = append-nil path ∙ child_path (take size c.args.path.now.items) c.truncate.new.self.items c.push.new.self.items path piece c.args.child.byte (tree_of c.args.child.node)
          c.truncate.ensures.items c.in_ok-push.ensures.items c.in_ok-extend_from_slice.ensures.items whole;
      stands = subst (StandsFor c.in_ok-reach.reach) (sym (append-nil path)) stands;
      same_device = dev;
      live = ap (λ p. is_live p c.args.self.now.reach.device) (append-nil path) ∙ ap (λ d. is_live path d) (sym dev) ∙ live_is c.path_laws.ensures.live c.in_ok-reach.reach.device path _ c.if-is_alive.true (c.is_alive.ensures path stands);
    }

pub returns-clause-seen : goal.returns-clause-seen
returns-clause-seen c =
    let size = c.args.self.now.length in
    let device = c.args.self.now.reach.device in
    let base = take size c.args.path.now.items in
    let path = c.extend_from_slice.new.self.items in
    let piece = c.prefix_part-front.result.now in
    let k : ℕ × Tree = (c.args.child.byte, tree_of c.args.child.node) in
    let all = (base ++ c.args.child.byte ∷ []) ++ prefix_of (tree_of c.args.child.node) in
    let whole = short_piece (prefix_of (tree_of c.args.child.node)) piece 64 c.prefix_part-front.ensures.part c.if-front-eq-PIECE.false in
    let stands = child_fed c.args.self.now.reach c.in_ok-reach.reach size c.args.path.now.items c.truncate.new.self.items c.push.new.self.items path piece c.deref.result.now _ c.args.child.byte
    c.requires.within c.truncate.ensures.items c.in_ok-push.ensures.items c.in_ok-extend_from_slice.ensures.items c.deref.ensures.value refl c.requires.reach c.in_ok-reach.ensures.path in
    let path_is = child_path base c.truncate.new.self.items c.push.new.self.items path piece c.args.child.byte (tree_of c.args.child.node)
    c.truncate.ensures.items c.in_ok-push.ensures.items c.in_ok-extend_from_slice.ensures.items whole in
    let lost = dead_is c.in_ok-reach.reach.device path _ c.if-is_alive.false (c.is_alive.ensures path stands) in
    lost_at_path device base k
    (dead_path device all c.path_laws.ensures.matched c.path_laws.ensures.live c.path_laws.ensures.longer c.path_laws.ensures.below
    (subst (λ d. IsLive all d → ⊥) c.in_ok-reach.ensures.device (subst (λ p. IsLive p c.in_ok-reach.reach.device → ⊥) path_is lost)))
