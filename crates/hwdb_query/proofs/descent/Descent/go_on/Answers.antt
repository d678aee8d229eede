use Rattle.std.proofs.Common.{◌≡◌, ◌∙◌, ap, refl, sym, subst, suc, ◌<◌, ◌≤◌, ◌+◌, ◌-◌, ◌++◌, ◌∷◌, [], ℕ, List, filter, take, length, reverse, arith}
use Rattle.hwdb_spec.specs.Tree.{values_of}
use Rattle.hwdb_spec.specs.Answers.{is_wanted}
use Rattle.hwdb_query.specs.Internal.Members.{own_members}
use Rattle.hwdb_query.specs.Internal.Descents.{device_of, kids_of, to_come, live_to_come, left, steps, StandsOn, IsNext, Opened, child_of}
use Rattle.hwdb_query.specs.Internal.LongPaths.{path_of}
use Rattle.hwdb_query.specs.declared.descent.OpenNode.{OpenNode}
use Rattle.hwdb_query.proofs.StackLemmas.{popped, last_set, reversed, some_left, child_stands, child_collected_on, child_live, child_left, child_steps, done_comes, done_live, done_left, done_steps}
use Rattle.hwdb_query.proofs.descent.Descent.go_on.Goals as goal

pub next_live-requires : goal.next_live-requires
next_live-requires g c =
    let items = c.args.self.now.stack.items in
    let i = c.len-last.result - 1 in
    let size : c.len-last.result ≡ length items = (let e = c.len-last.ensures in let ok = c.args.self.now.stack.ok in omega (arith, e, ok)) in
    let some = c.requires.some in
    let last : suc i ≡ length items = omega (arith, size, some) in
    let top = c.index_mut.result.now in
    let before = take i items in
    let rev : reverse items ≡ top ∷ reverse before = reversed items i top last c.index_mut.ensures.value in
    let stands = subst (λ l. StandsOn (device_of l) (path_of c.args.self.now.path) l) rev c.requires.stands in
    stands.0

pub enter-requires : goal.enter-requires
enter-requires g c =
    let items = c.args.self.now.stack.items in
    let i = c.len-last.result - 1 in
    let size : c.len-last.result ≡ length items = (let e = c.len-last.ensures in let ok = c.args.self.now.stack.ok in omega (arith, e, ok)) in
    let some = c.requires.some in
    let last : suc i ≡ length items = omega (arith, size, some) in
    let top = c.index_mut.result.now in
    let before = take i items in
    let rev : reverse items ≡ top ∷ reverse before = reversed items i top last c.index_mut.ensures.value in
    let stands = subst (λ l. StandsOn (device_of l) (path_of c.args.self.now.path) l) rev c.requires.stands in
    let path = path_of c.args.self.now.path in
    let gone = c.next_live.new.self in
    let device = top.reach.device in
    let long = path_of c.next_live.new.path in
    let kid = child_of c.in-Some.live in
    let found = subst (IsNext device (take top.length path) (kids_of top) (kids_of gone) long) c.in-Some.is c.in_ok-found.ensures.found in
    let one = some_left device (take top.length path) top (reverse before) kid (kids_of gone) found.0 in
    let room : c.args.self.now.entered + left (top ∷ reverse before) < 18446744073709551616 = subst (λ l. c.args.self.now.entered + left l < 18446744073709551616) rev c.requires.room in
    λ lifetimes. ((refl, tt), (found.1.stands, omega (arith, one, room)))

pub returns-clause-stands : goal.returns-clause-stands
returns-clause-stands g c =
    let items = c.args.self.now.stack.items in
    let i = c.len-last.result - 1 in
    let size : c.len-last.result ≡ length items = (let e = c.len-last.ensures in let ok = c.args.self.now.stack.ok in omega (arith, e, ok)) in
    let some = c.requires.some in
    let last : suc i ≡ length items = omega (arith, size, some) in
    let top = c.index_mut.result.now in
    let before = take i items in
    let rev : reverse items ≡ top ∷ reverse before = reversed items i top last c.index_mut.ensures.value in
    let stands = subst (λ l. StandsOn (device_of l) (path_of c.args.self.now.path) l) rev c.requires.stands in
    let path = path_of c.args.self.now.path in
    let gone = c.next_live.new.self in
    let device = top.reach.device in
    let long = path_of c.next_live.new.path in
    let k = child_of c.in-Some.live in
    let reach = c.in-Some.live.reach in
    let found = subst (IsNext device (take top.length path) (kids_of top) (kids_of gone) long) c.in-Some.is c.in_ok-found.ensures.found in
    let now = c.enter.new.self.stack.items in
    let opened : Opened (before ++ gone ∷ []) now k.1 reach (length long) = subst (λ b. Opened b now k.1 reach (length long)) (last_set items i gone last) c.in_ok-enter.ensures.stack in
    subst (λ l. StandsOn (device_of l) (path_of c.enter.new.self.path) (reverse now)) (sym rev) (subst (λ p. StandsOn device p (reverse now)) (sym c.in_ok-enter.ensures.path)
    (child_stands device path long top gone before now k reach stands.0.within c.in_ok-found.ensures.same found.0 found.1 opened stands))

pub returns-clause-collected : goal.returns-clause-collected
returns-clause-collected g c =
    let items = c.args.self.now.stack.items in
    let i = c.len-last.result - 1 in
    let size : c.len-last.result ≡ length items = (let e = c.len-last.ensures in let ok = c.args.self.now.stack.ok in omega (arith, e, ok)) in
    let some = c.requires.some in
    let last : suc i ≡ length items = omega (arith, size, some) in
    let top = c.index_mut.result.now in
    let before = take i items in
    let rev : reverse items ≡ top ∷ reverse before = reversed items i top last c.index_mut.ensures.value in
    let stands = subst (λ l. StandsOn (device_of l) (path_of c.args.self.now.path) l) rev c.requires.stands in
    let path = path_of c.args.self.now.path in
    let gone = c.next_live.new.self in
    let device = top.reach.device in
    let long = path_of c.next_live.new.path in
    let k = child_of c.in-Some.live in
    let reach = c.in-Some.live.reach in
    let found = subst (IsNext device (take top.length path) (kids_of top) (kids_of gone) long) c.in-Some.is c.in_ok-found.ensures.found in
    let now = c.enter.new.self.stack.items in
    let opened : Opened (before ++ gone ∷ []) now k.1 reach (length long) = subst (λ b. Opened b now k.1 reach (length long)) (last_set items i gone last) c.in_ok-enter.ensures.stack in
    let own : g.C.Collector.collects c.args.into.now (filter (is_wanted device) (own_members long (values_of k.1))) c.enter.new.into =
    subst (λ d. g.C.Collector.collects c.args.into.now (filter (is_wanted d) (own_members long (values_of k.1))) c.enter.new.into) found.1.same_device c.in_ok-enter.ensures.collected in
    λ end rest. subst (λ l. g.C.Collector.collects c.args.into.now (to_come (device_of l) path l) end) (sym rev)
    (child_collected_on device path long top gone before now k reach stands.0.within c.in_ok-found.ensures.same found.0 found.1 opened g.C.Collector.collects c.law_collects.ensures.more c.args.into.now c.enter.new.into end own
    (subst (λ p. g.C.Collector.collects c.enter.new.into (to_come device p (reverse now)) end) c.in_ok-enter.ensures.path
    (subst (λ l. g.C.Collector.collects c.enter.new.into (to_come (device_of l) (path_of c.enter.new.self.path) (reverse now)) end) rev rest)))

pub returns-clause-counted : goal.returns-clause-counted
returns-clause-counted g c =
    let items = c.args.self.now.stack.items in
    let i = c.len-last.result - 1 in
    let size : c.len-last.result ≡ length items = (let e = c.len-last.ensures in let ok = c.args.self.now.stack.ok in omega (arith, e, ok)) in
    let some = c.requires.some in
    let last : suc i ≡ length items = omega (arith, size, some) in
    let top = c.index_mut.result.now in
    let before = take i items in
    let rev : reverse items ≡ top ∷ reverse before = reversed items i top last c.index_mut.ensures.value in
    let stands = subst (λ l. StandsOn (device_of l) (path_of c.args.self.now.path) l) rev c.requires.stands in
    let path = path_of c.args.self.now.path in
    let gone = c.next_live.new.self in
    let device = top.reach.device in
    let long = path_of c.next_live.new.path in
    let k = child_of c.in-Some.live in
    let reach = c.in-Some.live.reach in
    let found = subst (IsNext device (take top.length path) (kids_of top) (kids_of gone) long) c.in-Some.is c.in_ok-found.ensures.found in
    let now = c.enter.new.self.stack.items in
    let opened : Opened (before ++ gone ∷ []) now k.1 reach (length long) = subst (λ b. Opened b now k.1 reach (length long)) (last_set items i gone last) c.in_ok-enter.ensures.stack in
    let live = child_live device path long top gone before now k reach stands.0.within c.in_ok-found.ensures.same found.0 found.1 opened in
    let same : live_to_come (device_of (reverse items)) (path_of c.enter.new.self.path) (reverse now) ≡ live_to_come device long (reverse now) =
    ap (λ l. live_to_come (device_of l) (path_of c.enter.new.self.path) (reverse now)) rev ∙ ap (λ p. live_to_come device p (reverse now)) c.in_ok-enter.ensures.path in
    let old : live_to_come (device_of (reverse items)) path (reverse items) ≡ live_to_come device path (top ∷ reverse before) = ap (λ l. live_to_come (device_of l) path l) rev in
    let counted = c.in_ok-enter.ensures.counted in
    omega (arith, live, same, old, counted)

pub returns-clause-room : goal.returns-clause-room
returns-clause-room g c =
    let items = c.args.self.now.stack.items in
    let i = c.len-last.result - 1 in
    let size : c.len-last.result ≡ length items = (let e = c.len-last.ensures in let ok = c.args.self.now.stack.ok in omega (arith, e, ok)) in
    let some = c.requires.some in
    let last : suc i ≡ length items = omega (arith, size, some) in
    let top = c.index_mut.result.now in
    let before = take i items in
    let rev : reverse items ≡ top ∷ reverse before = reversed items i top last c.index_mut.ensures.value in
    let stands = subst (λ l. StandsOn (device_of l) (path_of c.args.self.now.path) l) rev c.requires.stands in
    let path = path_of c.args.self.now.path in
    let gone = c.next_live.new.self in
    let device = top.reach.device in
    let long = path_of c.next_live.new.path in
    let k = child_of c.in-Some.live in
    let reach = c.in-Some.live.reach in
    let found = subst (IsNext device (take top.length path) (kids_of top) (kids_of gone) long) c.in-Some.is c.in_ok-found.ensures.found in
    let now = c.enter.new.self.stack.items in
    let opened : Opened (before ++ gone ∷ []) now k.1 reach (length long) = subst (λ b. Opened b now k.1 reach (length long)) (last_set items i gone last) c.in_ok-enter.ensures.stack in
    let rest = child_left device path long top gone before now k reach stands.0.within c.in_ok-found.ensures.same found.0 found.1 opened in
    let old : left (reverse items) ≡ left (top ∷ reverse before) = ap left rev in
    let counted = c.in_ok-enter.ensures.counted in
    omega (arith, rest, old, counted)

pub returns-clause-fewer : goal.returns-clause-fewer
returns-clause-fewer g c =
    let items = c.args.self.now.stack.items in
    let i = c.len-last.result - 1 in
    let size : c.len-last.result ≡ length items = (let e = c.len-last.ensures in let ok = c.args.self.now.stack.ok in omega (arith, e, ok)) in
    let some = c.requires.some in
    let last : suc i ≡ length items = omega (arith, size, some) in
    let top = c.index_mut.result.now in
    let before = take i items in
    let rev : reverse items ≡ top ∷ reverse before = reversed items i top last c.index_mut.ensures.value in
    let stands = subst (λ l. StandsOn (device_of l) (path_of c.args.self.now.path) l) rev c.requires.stands in
    let path = path_of c.args.self.now.path in
    let gone = c.next_live.new.self in
    let device = top.reach.device in
    let long = path_of c.next_live.new.path in
    let k = child_of c.in-Some.live in
    let reach = c.in-Some.live.reach in
    let found = subst (IsNext device (take top.length path) (kids_of top) (kids_of gone) long) c.in-Some.is c.in_ok-found.ensures.found in
    let now = c.enter.new.self.stack.items in
    let opened : Opened (before ++ gone ∷ []) now k.1 reach (length long) = subst (λ b. Opened b now k.1 reach (length long)) (last_set items i gone last) c.in_ok-enter.ensures.stack in
    subst (λ l. steps (reverse now) < steps l) (sym rev) (child_steps device path long top gone before now k reach stands.0.within c.in_ok-found.ensures.same found.0 found.1 opened)

pub returns-in_default-clause-stands : goal.returns-in_default-clause-stands
returns-in_default-clause-stands g c =
    let items = c.args.self.now.stack.items in
    let i = c.len-last.result - 1 in
    let size : c.len-last.result ≡ length items = (let e = c.len-last.ensures in let ok = c.args.self.now.stack.ok in omega (arith, e, ok)) in
    let some = c.requires.some in
    let last : suc i ≡ length items = omega (arith, size, some) in
    let top = c.index_mut.result.now in
    let before = take i items in
    let rev : reverse items ≡ top ∷ reverse before = reversed items i top last c.index_mut.ensures.value in
    let stands = subst (λ l. StandsOn (device_of l) (path_of c.args.self.now.path) l) rev c.requires.stands in
    let path = path_of c.args.self.now.path in
    let gone = c.next_live.new.self in
    let device = top.reach.device in
    let found = subst (IsNext device (take top.length path) (kids_of top) (kids_of gone) (path_of c.next_live.new.path)) c.in_default.is c.in_ok-found.ensures.found in
    let rest : c.pop.new.self.items ≡ before = popped items i gone last c.args.self.now.stack.len (let ok = c.args.self.now.stack.ok in omega (arith, ok)) c.pop.new.self.items c.pop.ensures.rest in
    subst (λ l. StandsOn (device_of l) (path_of c.next_live.new.path) (reverse c.pop.new.self.items)) (sym rev)
    (subst (λ (g : List ℕ × List OpenNode). StandsOn device g.0 (reverse g.1)) (λ j. (sym found.1 j, sym rest j)) stands.1)

pub returns-in_default-clause-collected : goal.returns-in_default-clause-collected
returns-in_default-clause-collected g c =
    let items = c.args.self.now.stack.items in
    let i = c.len-last.result - 1 in
    let size : c.len-last.result ≡ length items = (let e = c.len-last.ensures in let ok = c.args.self.now.stack.ok in omega (arith, e, ok)) in
    let some = c.requires.some in
    let last : suc i ≡ length items = omega (arith, size, some) in
    let top = c.index_mut.result.now in
    let before = take i items in
    let rev : reverse items ≡ top ∷ reverse before = reversed items i top last c.index_mut.ensures.value in
    let stands = subst (λ l. StandsOn (device_of l) (path_of c.args.self.now.path) l) rev c.requires.stands in
    let path = path_of c.args.self.now.path in
    let gone = c.next_live.new.self in
    let device = top.reach.device in
    let found = subst (IsNext device (take top.length path) (kids_of top) (kids_of gone) (path_of c.next_live.new.path)) c.in_default.is c.in_ok-found.ensures.found in
    let rest : c.pop.new.self.items ≡ before = popped items i gone last c.args.self.now.stack.len (let ok = c.args.self.now.stack.ok in omega (arith, ok)) c.pop.new.self.items c.pop.ensures.rest in
    λ end more. subst (λ l. g.C.Collector.collects c.args.into.now (to_come (device_of l) path l) end) (sym rev)
    (subst (λ l. g.C.Collector.collects c.args.into.now l end) (sym (done_comes device path top (reverse before) found.0))
    (subst (λ (w : List ℕ × List OpenNode). g.C.Collector.collects c.args.into.now (to_come device w.0 (reverse w.1)) end) (λ j. (found.1 j, rest j))
    (subst (λ l. g.C.Collector.collects c.args.into.now (to_come (device_of l) (path_of c.next_live.new.path) (reverse c.pop.new.self.items)) end) rev more)))

pub returns-in_default-clause-counted : goal.returns-in_default-clause-counted
returns-in_default-clause-counted g c =
    let items = c.args.self.now.stack.items in
    let i = c.len-last.result - 1 in
    let size : c.len-last.result ≡ length items = (let e = c.len-last.ensures in let ok = c.args.self.now.stack.ok in omega (arith, e, ok)) in
    let some = c.requires.some in
    let last : suc i ≡ length items = omega (arith, size, some) in
    let top = c.index_mut.result.now in
    let before = take i items in
    let rev : reverse items ≡ top ∷ reverse before = reversed items i top last c.index_mut.ensures.value in
    let stands = subst (λ l. StandsOn (device_of l) (path_of c.args.self.now.path) l) rev c.requires.stands in
    let path = path_of c.args.self.now.path in
    let gone = c.next_live.new.self in
    let device = top.reach.device in
    let found = subst (IsNext device (take top.length path) (kids_of top) (kids_of gone) (path_of c.next_live.new.path)) c.in_default.is c.in_ok-found.ensures.found in
    let rest : c.pop.new.self.items ≡ before = popped items i gone last c.args.self.now.stack.len (let ok = c.args.self.now.stack.ok in omega (arith, ok)) c.pop.new.self.items c.pop.ensures.rest in
    let old : live_to_come (device_of (reverse items)) path (reverse items) ≡ live_to_come device path (top ∷ reverse before) = ap (λ l. live_to_come (device_of l) path l) rev in
    let done = done_live device path top (reverse before) found.0 in
    let same : live_to_come (device_of (reverse items)) (path_of c.next_live.new.path) (reverse c.pop.new.self.items) ≡ live_to_come device (take top.length path) (reverse before) =
    ap (λ l. live_to_come (device_of l) (path_of c.next_live.new.path) (reverse c.pop.new.self.items)) rev
    ∙ ap (λ (g : List ℕ × List OpenNode). live_to_come device g.0 (reverse g.1)) (λ j. (found.1 j, rest j)) in
    omega (arith, old, done, same)

pub returns-in_default-clause-room : goal.returns-in_default-clause-room
returns-in_default-clause-room g c =
    let items = c.args.self.now.stack.items in
    let i = c.len-last.result - 1 in
    let size : c.len-last.result ≡ length items = (let e = c.len-last.ensures in let ok = c.args.self.now.stack.ok in omega (arith, e, ok)) in
    let some = c.requires.some in
    let last : suc i ≡ length items = omega (arith, size, some) in
    let top = c.index_mut.result.now in
    let before = take i items in
    let rev : reverse items ≡ top ∷ reverse before = reversed items i top last c.index_mut.ensures.value in
    let stands = subst (λ l. StandsOn (device_of l) (path_of c.args.self.now.path) l) rev c.requires.stands in
    let path = path_of c.args.self.now.path in
    let gone = c.next_live.new.self in
    let device = top.reach.device in
    let found = subst (IsNext device (take top.length path) (kids_of top) (kids_of gone) (path_of c.next_live.new.path)) c.in_default.is c.in_ok-found.ensures.found in
    let rest : c.pop.new.self.items ≡ before = popped items i gone last c.args.self.now.stack.len (let ok = c.args.self.now.stack.ok in omega (arith, ok)) c.pop.new.self.items c.pop.ensures.rest in
    let old : left (reverse items) ≡ left (top ∷ reverse before) = ap left rev in
    let same : left (reverse c.pop.new.self.items) ≡ left (reverse before) = ap (λ (l : List OpenNode). left (reverse l)) rest in
    let less : left (reverse before) ≤ left (top ∷ reverse before) = done_left top (reverse before) in
    omega (arith, old, same, less)

pub returns-in_default-clause-fewer : goal.returns-in_default-clause-fewer
returns-in_default-clause-fewer g c =
    let items = c.args.self.now.stack.items in
    let i = c.len-last.result - 1 in
    let size : c.len-last.result ≡ length items = (let e = c.len-last.ensures in let ok = c.args.self.now.stack.ok in omega (arith, e, ok)) in
    let some = c.requires.some in
    let last : suc i ≡ length items = omega (arith, size, some) in
    let top = c.index_mut.result.now in
    let before = take i items in
    let rev : reverse items ≡ top ∷ reverse before = reversed items i top last c.index_mut.ensures.value in
    let stands = subst (λ l. StandsOn (device_of l) (path_of c.args.self.now.path) l) rev c.requires.stands in
    let path = path_of c.args.self.now.path in
    let gone = c.next_live.new.self in
    let device = top.reach.device in
    let found = subst (IsNext device (take top.length path) (kids_of top) (kids_of gone) (path_of c.next_live.new.path)) c.in_default.is c.in_ok-found.ensures.found in
    let rest : c.pop.new.self.items ≡ before = popped items i gone last c.args.self.now.stack.len (let ok = c.args.self.now.stack.ok in omega (arith, ok)) c.pop.new.self.items c.pop.ensures.rest in
    let old : steps (reverse items) ≡ steps (top ∷ reverse before) = ap steps rev in
    let same : steps (reverse c.pop.new.self.items) ≡ steps (reverse before) = ap (λ (l : List OpenNode). steps (reverse l)) rest in
    let less : steps (reverse before) < steps (top ∷ reverse before) = done_steps top (reverse before) in
    omega (arith, old, same, less)
