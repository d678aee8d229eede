use Rattle.std.proofs.Common.{◌≡◌, ◌∙◌, ap, refl, sym, subst, ◌+◌, ◌++◌, append-nil, [], List, ℕ, filter, length, reverse, arith, true}
use Rattle.hwdb_pattern.specs.Views.{StandsFor}
use Rattle.hwdb_spec.specs.Tree.{IsLive, is_live, prefix_of, values_of, live_under}
use Rattle.hwdb_spec.specs.Answers.{is_wanted}
use Rattle.hwdb_reader.specs.Views.{tree_of}
use Rattle.hwdb_query.specs.Internal.Members.{own_members}
use Rattle.hwdb_query.specs.Internal.Descents.{to_come, live_to_come, StandsOn, Opened}
use Rattle.hwdb_query.specs.Internal.LongPaths.{path_of}
use Rattle.hwdb_query.specs.declared.descent.OpenNode.{OpenNode}
use Rattle.hwdb_query.proofs.StepLemmas.{live_is, dead_is}
use Rattle.hwdb_query.proofs.DeadPathLemmas.{dead_path}
use Rattle.hwdb_query.proofs.StackLemmas.{root_path, root_collected, root_live, root_left, root_lost, root_dead, opened_stands}
use Rattle.hwdb_query.proofs.descent.Descent.enter_root.Goals as goal

pub returns-then-not-is_alive-clause-collected : goal.returns-then-not-is_alive-clause-collected
returns-then-not-is_alive-clause-collected g c =
    let tree = tree_of c.args.root in
    let device = c.args.device.now in
    let path = c.extend_from_slice.new.self.items in
    let tail = c.args.self.now.path.tail.now in
    let whole : path ++ tail ≡ path = ap (λ (t : List ℕ). path ++ t) c.requires.tail ∙ append-nil path in
    let is = root_path c.args.self.now.path.copied.items c.prefix.result.now path tree c.requires.path c.in_ok-extend_from_slice.ensures.items c.prefix.ensures in
    let dev : c.in_ok-reach.reach.device ≡ device = c.in_ok-reach.ensures.device ∙ c.start-start.ensures.device in
    let stands = subst (StandsFor c.in_ok-reach.reach) c.deref.ensures.value (c.in_ok-reach.ensures.path [] c.start-start.ensures.path) in
    let lost = dead_is c.in_ok-reach.reach.device path _ c.if-not-is_alive.true (c.is_alive.ensures path stands) in
    let dead = dead_path device (prefix_of tree) c.path_laws.ensures.matched c.path_laws.ensures.live c.path_laws.ensures.longer c.path_laws.ensures.below
    (subst (λ (g : List ℕ × List ℕ). IsLive g.0 g.1 → ⊥) (λ i. (is i, dev i)) lost) in
    λ end rest. root_lost g.C.Collector.collects device tree c.args.into.now end dead (subst (λ (b : List OpenNode). g.C.Collector.collects c.args.into.now (to_come device (path ++ tail) (reverse b)) end) c.requires.stack rest)

pub returns-then-not-is_alive-clause-counted : goal.returns-then-not-is_alive-clause-counted
returns-then-not-is_alive-clause-counted g c =
    let tree = tree_of c.args.root in
    let device = c.args.device.now in
    let path = c.extend_from_slice.new.self.items in
    let tail = c.args.self.now.path.tail.now in
    let whole : path ++ tail ≡ path = ap (λ (t : List ℕ). path ++ t) c.requires.tail ∙ append-nil path in
    let is = root_path c.args.self.now.path.copied.items c.prefix.result.now path tree c.requires.path c.in_ok-extend_from_slice.ensures.items c.prefix.ensures in
    let dev : c.in_ok-reach.reach.device ≡ device = c.in_ok-reach.ensures.device ∙ c.start-start.ensures.device in
    let stands = subst (StandsFor c.in_ok-reach.reach) c.deref.ensures.value (c.in_ok-reach.ensures.path [] c.start-start.ensures.path) in
    let lost = dead_is c.in_ok-reach.reach.device path _ c.if-not-is_alive.true (c.is_alive.ensures path stands) in
    let dead = dead_path device (prefix_of tree) c.path_laws.ensures.matched c.path_laws.ensures.live c.path_laws.ensures.longer c.path_laws.ensures.below
    (subst (λ (g : List ℕ × List ℕ). IsLive g.0 g.1 → ⊥) (λ i. (is i, dev i)) lost) in
    let none = root_dead device tree dead in
    let start = c.requires.entered in
    let nothing : live_to_come device (path ++ tail) (reverse c.args.self.now.stack.items) ≡ 0 = ap (λ (b : List OpenNode). live_to_come device (path ++ tail) (reverse b)) c.requires.stack in
    let goal_is : c.args.self.now.entered + live_to_come device (path ++ tail) (reverse c.args.self.now.stack.items) ≡ live_under device [] tree = omega (arith, none, start, nothing) in
    goal_is

pub returns-clause-stands : goal.returns-clause-stands
returns-clause-stands g c =
    let tree = tree_of c.args.root in
    let device = c.args.device.now in
    let path = c.extend_from_slice.new.self.items in
    let tail = c.args.self.now.path.tail.now in
    let whole : path ++ tail ≡ path = ap (λ (t : List ℕ). path ++ t) c.requires.tail ∙ append-nil path in
    let now = c.enter.new.self.stack.items in
    let reach = c.in_ok-reach.reach in
    let dev : reach.device ≡ device = c.in_ok-reach.ensures.device ∙ c.start-start.ensures.device in
    let stands = subst (StandsFor reach) c.deref.ensures.value (c.in_ok-reach.ensures.path [] c.start-start.ensures.path) in
    let opened : Opened [] now tree reach (length path) = subst (λ b. Opened b now tree reach (length path)) (c.reserve.ensures.items ∙ c.requires.stack) (subst (λ (p : List ℕ). Opened c.reserve.new.self.items now tree reach (length p)) whole c.in_ok-enter.ensures.stack) in
    subst (λ p. StandsOn device p (reverse now)) (sym (c.in_ok-enter.ensures.path ∙ whole)) (opened_stands [] now tree reach path opened device stands dev tt)

pub returns-clause-collected : goal.returns-clause-collected
returns-clause-collected g c =
    let tree = tree_of c.args.root in
    let device = c.args.device.now in
    let path = c.extend_from_slice.new.self.items in
    let tail = c.args.self.now.path.tail.now in
    let whole : path ++ tail ≡ path = ap (λ (t : List ℕ). path ++ t) c.requires.tail ∙ append-nil path in
    let now = c.enter.new.self.stack.items in
    let reach = c.in_ok-reach.reach in
    let is = root_path c.args.self.now.path.copied.items c.prefix.result.now path tree c.requires.path c.in_ok-extend_from_slice.ensures.items c.prefix.ensures in
    let dev : reach.device ≡ device = c.in_ok-reach.ensures.device ∙ c.start-start.ensures.device in
    let opened : Opened [] now tree reach (length path) = subst (λ b. Opened b now tree reach (length path)) (c.reserve.ensures.items ∙ c.requires.stack) (subst (λ (p : List ℕ). Opened c.reserve.new.self.items now tree reach (length p)) whole c.in_ok-enter.ensures.stack) in
    let own : g.C.Collector.collects c.args.into.now (filter (is_wanted device) (own_members path (values_of tree))) c.enter.new.into =
    subst (λ d. g.C.Collector.collects c.args.into.now (filter (is_wanted d) (own_members path (values_of tree))) c.enter.new.into) dev
    (subst (λ (p : List ℕ). g.C.Collector.collects c.args.into.now (filter (is_wanted reach.device) (own_members p (values_of tree))) c.enter.new.into) whole c.in_ok-enter.ensures.collected) in
    λ end rest. root_collected device path tree reach now is opened g.C.Collector.collects c.law_collects.ensures.more c.args.into.now c.enter.new.into end own
    (subst (λ p. g.C.Collector.collects c.enter.new.into (to_come device p (reverse now)) end) (c.in_ok-enter.ensures.path ∙ whole) rest)

pub returns-clause-counted : goal.returns-clause-counted
returns-clause-counted g c =
    let tree = tree_of c.args.root in
    let device = c.args.device.now in
    let path = c.extend_from_slice.new.self.items in
    let tail = c.args.self.now.path.tail.now in
    let whole : path ++ tail ≡ path = ap (λ (t : List ℕ). path ++ t) c.requires.tail ∙ append-nil path in
    let now = c.enter.new.self.stack.items in
    let reach = c.in_ok-reach.reach in
    let is = root_path c.args.self.now.path.copied.items c.prefix.result.now path tree c.requires.path c.in_ok-extend_from_slice.ensures.items c.prefix.ensures in
    let dev : reach.device ≡ device = c.in_ok-reach.ensures.device ∙ c.start-start.ensures.device in
    let stands = subst (StandsFor reach) c.deref.ensures.value (c.in_ok-reach.ensures.path [] c.start-start.ensures.path) in
    let opened : Opened [] now tree reach (length path) = subst (λ b. Opened b now tree reach (length path)) (c.reserve.ensures.items ∙ c.requires.stack) (subst (λ (p : List ℕ). Opened c.reserve.new.self.items now tree reach (length p)) whole c.in_ok-enter.ensures.stack) in
    let alive : is_live path device ≡ true = ap (λ d. is_live path d) (sym dev) ∙ live_is c.path_laws.ensures.live reach.device path _ c.if-not-is_alive.false (c.is_alive.ensures path stands) in
    let live = root_live device path tree reach now is opened alive in
    let same : live_to_come device (path_of c.enter.new.self.path) (reverse now) ≡ live_to_come device path (reverse now) = ap (λ p. live_to_come device p (reverse now)) (c.in_ok-enter.ensures.path ∙ whole) in
    let counted = c.in_ok-enter.ensures.counted in
    let start = c.requires.entered in
    let goal_is : c.enter.new.self.entered + live_to_come device (path_of c.enter.new.self.path) (reverse now) ≡ live_under device [] tree = omega (arith, live, same, counted, start) in
    goal_is

pub returns-clause-room : goal.returns-clause-room
returns-clause-room g c =
    let tree = tree_of c.args.root in
    let path = c.extend_from_slice.new.self.items in
    let tail = c.args.self.now.path.tail.now in
    let whole : path ++ tail ≡ path = ap (λ (t : List ℕ). path ++ t) c.requires.tail ∙ append-nil path in
    let now = c.enter.new.self.stack.items in
    let reach = c.in_ok-reach.reach in
    let is = root_path c.args.self.now.path.copied.items c.prefix.result.now path tree c.requires.path c.in_ok-extend_from_slice.ensures.items c.prefix.ensures in
    let opened : Opened [] now tree reach (length path) = subst (λ b. Opened b now tree reach (length path)) (c.reserve.ensures.items ∙ c.requires.stack) (subst (λ (p : List ℕ). Opened c.reserve.new.self.items now tree reach (length p)) whole c.in_ok-enter.ensures.stack) in
    let rest = root_left c.args.device.now path tree reach now is opened in
    let counted = c.in_ok-enter.ensures.counted in
    let start = c.requires.entered in
    omega (arith, rest, counted, start)

pub enter-requires : goal.enter-requires
enter-requires g c =
    let path = c.extend_from_slice.new.self.items in
    let tail = c.args.self.now.path.tail.now in
    let start = c.requires.entered in
    let whole : path ++ tail ≡ path = ap (λ (t : List ℕ). path ++ t) c.requires.tail ∙ append-nil path in
    let stands = subst (StandsFor c.in_ok-reach.reach) c.deref.ensures.value (c.in_ok-reach.ensures.path [] c.start-start.ensures.path) in
    λ lifetimes. ((refl, tt), (subst (StandsFor c.in_ok-reach.reach) (sym whole) stands, omega (arith, start)))
