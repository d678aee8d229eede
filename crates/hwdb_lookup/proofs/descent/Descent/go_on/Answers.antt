use Rattle.std.proofs.Common.{◌≡◌, ◌∙◌, ◌∷◌, ◌++◌, ◌-◌, [], List, ℕ, suc, refl, ap, sym, subst, arith, length, take, reverse}
use Rattle.std.specs.Vec.{with_item}
use Rattle.std.proofs.lemmas.Result.{on_ok_weaker}
use Rattle.hwdb_pattern.specs.Views.{StandsFor}
use Rattle.hwdb_spec.specs.Assignment.{Assignment}
use Rattle.hwdb_lookup.specs.declared.descent.Descent.{Descent}
use Rattle.hwdb_lookup.specs.Internal.Descents.{AllStand, Enters, Comes, IsNext, stack_of, found_in}
use Rattle.hwdb_lookup.specs.Internal.Saids.{AllLaid, StaySaid}
use Rattle.hwdb_lookup.proofs.PartsLemmas.{stop_returned}
use Rattle.hwdb_lookup.proofs.DescentLemmas.{goes_ends, goes_down, goes_from, comes_at, enters_at_path, on_top, changed, taken_off}
use Rattle.hwdb_lookup.proofs.descent.Descent.go_on.Goals as goal

pub returns-in_default-clause-comes : goal.returns-in_default-clause-comes
returns-in_default-clause-comes c file device all m h =
    let d = c.args.self.now in
    let items = d.stack.items in
    let i = c.len-last.result - 1 in
    let size : c.len-last.result ≡ length items = (let e = c.len-last.ensures in let ok = d.stack.ok in omega (arith, e, ok)) in
    let some = c.requires.some in
    let last : suc i ≡ length items = omega (arith, size, some) in
    let top = c.index_mut-open.result.now in
    let below = reverse (take i items) in
    let on : stack_of d ≡ top ∷ below = on_top items i top last c.index_mut-open.ensures.value in
    let stands = subst (AllStand c.args.known) on c.requires.all in
    let g = goes_from file device top (stack_of d) below (found_in d) d.left all on h in
    comes_at file top.reach.device device below (reverse c.pop.new.self.items) (found_in d) d.left all g.1
    (sym (taken_off items c.pop.new.self.items i d.stack.len top last (let ok = d.stack.ok in omega (arith, ok)) c.pop.ensures.rest))
    (goes_ends file top below (found_in d) d.left all g.2 (λ from w rest. subst (IsNext file top from w) c.in_default.is (c.in_ok-next.ensures.next file from w g.0 rest)))

pub visit-requires-clause-stands : goal.visit-requires-clause-stands
visit-requires-clause-stands c =
    let d = c.args.self.now in
    let items = d.stack.items in
    let i = c.len-last.result - 1 in
    let size : c.len-last.result ≡ length items = (let e = c.len-last.ensures in let ok = d.stack.ok in omega (arith, e, ok)) in
    let some = c.requires.some in
    let last : suc i ≡ length items = omega (arith, size, some) in
    let top = c.index_mut-open.result.now in
    let below = reverse (take i items) in
    let on : stack_of d ≡ top ∷ below = on_top items i top last c.index_mut-open.ensures.value in
    let stands = subst (AllStand c.args.known) on c.requires.all in
    let k = c.in-Some.next in
    let path = c.in_ok-path.ensures ∙ ap (λ p. p ++ k.byte ∷ []) c.deref.ensures.value in
    subst (StandsFor c.in_ok-reach.reach) (sym path) (c.in_ok-reach.ensures.path top.path.items stands.1)

pub visit-requires-clause-all : goal.visit-requires-clause-all
visit-requires-clause-all c =
    let d = c.args.self.now in
    let items = d.stack.items in
    let i = c.len-last.result - 1 in
    let size : c.len-last.result ≡ length items = (let e = c.len-last.ensures in let ok = d.stack.ok in omega (arith, e, ok)) in
    let some = c.requires.some in
    let last : suc i ≡ length items = omega (arith, size, some) in
    let top = c.index_mut-open.result.now in
    let below = reverse (take i items) in
    let on : stack_of d ≡ top ∷ below = on_top items i top last c.index_mut-open.ensures.value in
    let stands = subst (AllStand c.args.known) on c.requires.all in
    subst (AllStand c.args.known) (sym (changed items i (record top { done = (c.in-Some.next).done }) last)) stands

pub returns-clause-comes : goal.returns-clause-comes
returns-clause-comes c =
    let d = c.args.self.now in
    let items = d.stack.items in
    let i = c.len-last.result - 1 in
    let size : c.len-last.result ≡ length items = (let e = c.len-last.ensures in let ok = d.stack.ok in omega (arith, e, ok)) in
    let some = c.requires.some in
    let last : suc i ≡ length items = omega (arith, size, some) in
    let top = c.index_mut-open.result.now in
    let below = reverse (take i items) in
    let on : stack_of d ≡ top ∷ below = on_top items i top last c.index_mut-open.ensures.value in
    let stands = subst (AllStand c.args.known) on c.requires.all in
    let k = c.in-Some.next in
    let now : Descent = record { stack = with_item d.stack i (record top { done = k.done }); found = d.found; left = d.left } in
    let path = c.in_ok-path.ensures ∙ ap (λ p. p ++ k.byte ∷ []) c.deref.ensures.value in
    let same = c.in_ok-reach.ensures.device in
    on_ok_weaker c.visit.result
    (λ comes file device all m h.
    let g = goes_from file device top (stack_of d) below (found_in d) d.left all on h in
    let e = goes_down file top below (found_in d) d.left all g.2 now k (changed items i (record top { done = k.done }) last) refl refl
    (λ from w rest. subst (IsNext file top from w) c.in-Some.is (c.in_ok-next.ensures.next file from w g.0 rest)) in
    let at = enters_at_path file top.node.frame.sizes top.levels k.off (top.path.items ++ k.byte ∷ []) c.in_ok-path.path.items top.reach.device c.in_ok-reach.reach.device now all (sym path) (sym same) e in
    subst (λ x. Comes file x c.visit.new.self all) (same ∙ g.1) (comes file all m at))
    c.visit.ensures.comes

pub returns-clause-stop : goal.returns-clause-stop
returns-clause-stop c =
    let d = c.args.self.now in
    let items = d.stack.items in
    let i = c.len-last.result - 1 in
    let size : c.len-last.result ≡ length items = (let e = c.len-last.ensures in let ok = d.stack.ok in omega (arith, e, ok)) in
    let some = c.requires.some in
    let last : suc i ≡ length items = omega (arith, size, some) in
    let top = c.index_mut-open.result.now in
    let below = reverse (take i items) in
    let on : stack_of d ≡ top ∷ below = on_top items i top last c.index_mut-open.ensures.value in
    let stands = subst (AllStand c.args.known) on c.requires.all in
    let k = c.in-Some.next in
    let now : Descent = record { stack = with_item d.stack i (record top { done = k.done }); found = d.found; left = d.left } in
    let path = c.in_ok-path.ensures ∙ ap (λ p. p ++ k.byte ∷ []) c.deref.ensures.value in
    let same = c.in_ok-reach.ensures.device in
    stop_returned c.args.known
    (λ file. (all : List Assignment) × Enters file top.node.frame.sizes top.levels k.off c.in_ok-path.path.items c.in_ok-reach.reach.device now all)
    (λ file. (device : List ℕ) × (all : List Assignment) × Comes file device d all)
    (λ file m s.
    let g = goes_from file s.0 top (stack_of d) below (found_in d) d.left s.1 on s.2 in
    let e = goes_down file top below (found_in d) d.left s.1 g.2 now k (changed items i (record top { done = k.done }) last) refl refl
    (λ from w rest. subst (IsNext file top from w) c.in-Some.is (c.in_ok-next.ensures.next file from w g.0 rest)) in
    let at = enters_at_path file top.node.frame.sizes top.levels k.off (top.path.items ++ k.byte ∷ []) c.in_ok-path.path.items top.reach.device c.in_ok-reach.reach.device now s.1 (sym path) (sym same) e in
    (s.1, at))
    c.visit.result c.visit.ensures.stop

pub returns-in_default-clause-laid : goal.returns-in_default-clause-laid
returns-in_default-clause-laid c l laid =
    let d = c.args.self.now in
    let items = d.stack.items in
    let i = c.len-last.result - 1 in
    let size : c.len-last.result ≡ length items = (let e = c.len-last.ensures in let ok = d.stack.ok in omega (arith, e, ok)) in
    let some = c.requires.some in
    let last : suc i ≡ length items = omega (arith, size, some) in
    let top = c.index_mut-open.result.now in
    let below = reverse (take i items) in
    let on : stack_of d ≡ top ∷ below = on_top items i top last c.index_mut-open.ensures.value in
    subst (AllLaid l) (sym (taken_off items c.pop.new.self.items i d.stack.len top last (let ok = d.stack.ok in omega (arith, ok)) c.pop.ensures.rest)) ((subst (AllLaid l) on laid).1)

pub returns-clause-said : goal.returns-clause-said
returns-clause-said c =
    let d = c.args.self.now in
    let items = d.stack.items in
    let i = c.len-last.result - 1 in
    let size : c.len-last.result ≡ length items = (let e = c.len-last.ensures in let ok = d.stack.ok in omega (arith, e, ok)) in
    let some = c.requires.some in
    let last : suc i ≡ length items = omega (arith, size, some) in
    let top = c.index_mut-open.result.now in
    let below = reverse (take i items) in
    let on : stack_of d ≡ top ∷ below = on_top items i top last c.index_mut-open.ensures.value in
    on_ok_weaker c.visit.result
    (λ said l laid. subst (λ m. StaySaid c.args.known m d.found.items c.visit.new.self.found.items) (subst (AllLaid l) on laid).0 said)
    c.visit.ensures.said

pub returns-clause-laid : goal.returns-clause-laid
returns-clause-laid c =
    let d = c.args.self.now in
    let items = d.stack.items in
    let i = c.len-last.result - 1 in
    let size : c.len-last.result ≡ length items = (let e = c.len-last.ensures in let ok = d.stack.ok in omega (arith, e, ok)) in
    let some = c.requires.some in
    let last : suc i ≡ length items = omega (arith, size, some) in
    let top = c.index_mut-open.result.now in
    let below = reverse (take i items) in
    let on : stack_of d ≡ top ∷ below = on_top items i top last c.index_mut-open.ensures.value in
    on_ok_weaker c.visit.result
    (λ more l laid.
    let all = subst (AllLaid l) on laid in
    more l all.0 (subst (AllLaid l) (sym (changed items i (record top { done = (c.in-Some.next).done }) last)) all))
    c.visit.ensures.laid
