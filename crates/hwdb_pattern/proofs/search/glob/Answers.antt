use Rattle.std.proofs.Common.{◌≡◌, ◌≤◌, ◌+◌, List, ℕ, length, drop, take, ◌-◌, arith, ap, sym, subst, eqb-true, refl}
use Rattle.std.proofs.lemmas.List.{take_rest, length-drop}
use Rattle.hwdb_pattern.specs.Internal.Search.{ArePlain}
use Rattle.hwdb_pattern.proofs.SearchLemmas.{reaches_end, reaches_past_test, remains_first, remains_later, remains_star, remains_more, reaches_past, remains_end}
use Rattle.hwdb_pattern.proofs.search.glob.Goals as goal

pub returns-then-first-pattern : goal.returns-then-first-pattern
returns-then-first-pattern c = (
  (λ t. reaches_end _ _ c.in-Some.first.at c.in-Some.first.met c.if-first-pattern.true (eqb-true _ _ t) c.in-Some.ensures.reached),
  reaches_past_test _ _ c.in-Some.first.at c.in-Some.first.met c.if-first-pattern.true c.in-Some.ensures.met c.in-Some.ensures.reached,
)

pub loop-met-init : goal.loop-met-init
loop-met-init c =
    let within : c.in-Some.first.at ≤ length c.args.pattern.now = c.in-Some.ensures.within in
    let met : c.in-Some.first.met ≤ length c.args.device.now = c.in-Some.ensures.met in
    let at = c.in-Some.first.at + 1 in
    let tried = c.first_try-met.ensures in
    record {
      at_in = omega arith;
      met_in = omega (arith, tried.high met);
      remains = remains_later c.args.pattern.now c.args.device.now _ at c.in-Some.first.met c.first_try-met.result (take_rest c.args.pattern.now at)
          tried.low (tried.high met) tried.last
          (remains_first _ _ c.in-Some.first.at c.in-Some.first.met (omega arith) met (c.in-Some.ensures.star (omega arith)) c.in-Some.ensures.reached);
      plain_in = subst (λ (t : List ℕ). c.plain_size-plain.result ≤ length t) (take_rest c.args.pattern.now at) c.plain_size-plain.ensures.within;
      plain = subst (λ (t : List ℕ). ArePlain t c.plain_size-plain.result) (take_rest c.args.pattern.now at) c.plain_size-plain.ensures.plain;
    }

pub loop-met-preserved-in-None : goal.loop-met-preserved-in-None
loop-met-preserved-in-None c = record {
  at_in = c.loop-met.invariant.at_in;
  met_in = omega arith;
  remains = remains_more _ _ _ _ c.loop-met.at c.loop-met.met (take_rest c.args.pattern.now c.loop-met.at)
      (take_rest c.args.device.now c.loop-met.met) (omega arith) c.in-None.ensures.refused c.loop-met.invariant.remains;
  plain_in = c.loop-met.invariant.plain_in;
  plain = c.loop-met.invariant.plain;
}

pub loop-met-preserved-then-at-next : goal.loop-met-preserved-then-at-next
loop-met-preserved-then-at-next c =
    let t : take (length c.args.pattern.now - c.loop-met.at) (drop c.loop-met.at c.args.pattern.now) ≡ drop c.loop-met.at c.args.pattern.now = take_rest c.args.pattern.now c.loop-met.at in
    let l : take (length c.args.device.now - c.loop-met.met) (drop c.loop-met.met c.args.device.now) ≡ drop c.loop-met.met c.args.device.now = take_rest c.args.device.now c.loop-met.met in
    let at = c.loop-met.at + (c.in-Some-run_alike.next.at + 1) in
    let met = c.loop-met.met + c.in-Some-run_alike.next.met in
    let in_device : met ≤ length c.args.device.now = omega (arith, c.in-Some-run_alike.ensures.met, ap length l, length-drop c.loop-met.met c.args.device.now) in
    let tried = c.first_try-met-then-at-next.ensures in
    record {
      at_in = omega arith;
      met_in = omega (arith, tried.high in_device);
      remains = remains_later c.args.pattern.now c.args.device.now _ at met c.first_try-met-then-at-next.result (take_rest c.args.pattern.now at)
          tried.low (tried.high in_device) tried.last
          (remains_star _ _ _ _ c.loop-met.at c.loop-met.met c.in-Some-run_alike.next.at c.in-Some-run_alike.next.met t l
          c.if-at-next.true (omega arith) c.in-Some-run_alike.ensures.met
          (c.in-Some-run_alike.ensures.star (omega (arith, ap length t, length-drop c.loop-met.at c.args.pattern.now)))
          c.in-Some-run_alike.ensures.reached c.loop-met.invariant.remains);
      plain_in = subst (λ (t : List ℕ). c.plain_size-plain-then-at-next.result ≤ length t) (take_rest c.args.pattern.now at) c.plain_size-plain-then-at-next.ensures.within;
      plain = subst (λ (t : List ℕ). ArePlain t c.plain_size-plain-then-at-next.result) (take_rest c.args.pattern.now at) c.plain_size-plain-then-at-next.ensures.plain;
    }

pub returns-then-met-next : goal.returns-then-met-next
returns-then-met-next c =
    let t : take (length c.args.pattern.now - c.loop-met.at) (drop c.loop-met.at c.args.pattern.now) ≡ drop c.loop-met.at c.args.pattern.now = take_rest c.args.pattern.now c.loop-met.at in
    let l : take (length c.args.device.now - c.loop-met.met) (drop c.loop-met.met c.args.device.now) ≡ drop c.loop-met.met c.args.device.now = take_rest c.args.device.now c.loop-met.met in (
      (λ _. remains_end _ _ _ _ c.loop-met.at c.loop-met.met t l (omega arith)
          (reaches_end _ _ c.in-Some-run_alike.next.at c.in-Some-run_alike.next.met
          (omega (arith, c.in-Some-run_alike.ensures.within, ap length t, length-drop c.loop-met.at c.args.pattern.now))
          (omega (arith, ap length l, length-drop c.loop-met.met c.args.device.now))
          c.in-Some-run_alike.ensures.reached)
          c.loop-met.invariant.remains),
      (λ _. refl),
    )

pub loop-met-preserved : goal.loop-met-preserved
loop-met-preserved c =
    let t : take (length c.args.pattern.now - c.loop-met.at) (drop c.loop-met.at c.args.pattern.now) ≡ drop c.loop-met.at c.args.pattern.now = take_rest c.args.pattern.now c.loop-met.at in
    let l : take (length c.args.device.now - c.loop-met.met) (drop c.loop-met.met c.args.device.now) ≡ drop c.loop-met.met c.args.device.now = take_rest c.args.device.now c.loop-met.met in
    record {
      at_in = c.loop-met.invariant.at_in;
      met_in = omega arith;
      remains = remains_more _ _ _ _ c.loop-met.at c.loop-met.met t l (omega arith)
          (reaches_past _ _ c.in-Some-run_alike.next.at c.in-Some-run_alike.next.met
          (omega (arith, c.in-Some-run_alike.ensures.within, ap length t, length-drop c.loop-met.at c.args.pattern.now))
          c.in-Some-run_alike.ensures.met
          (λ e. c.if-met-next.false (omega (arith, e, ap length l, length-drop c.loop-met.met c.args.device.now)))
          c.in-Some-run_alike.ensures.reached)
          c.loop-met.invariant.remains;
      plain_in = c.loop-met.invariant.plain_in;
      plain = c.loop-met.invariant.plain;
    }

pub run_alike-requires-clause-plain_within : goal.run_alike-requires-clause-plain_within
run_alike-requires-clause-plain_within c =
    subst (λ (t : List ℕ). c.loop-met.plain ≤ length t) (sym (take_rest c.args.pattern.now c.loop-met.at)) c.loop-met.invariant.plain_in

pub run_alike-requires-clause-plain : goal.run_alike-requires-clause-plain
run_alike-requires-clause-plain c =
    subst (λ (t : List ℕ). ArePlain t c.loop-met.plain) (sym (take_rest c.args.pattern.now c.loop-met.at)) c.loop-met.invariant.plain
