use Rattle.std.proofs.Common.{inl}
use Rattle.std.proofs.lemmas.Result.{MatchResult-weaker}
use Rattle.hwdb_spec.specs.Store.{Cleared, OldOrCleared}
use Rattle.hwdb_replace.specs.Internal.{Step}
use Rattle.hwdb_replace.proofs.ClearingLemmas.{alone, counted, installed, left_then, seen_then, shared}
use Rattle.hwdb_replace.proofs.ComposedLemmas.{leaves_only}
use Rattle.hwdb_replace.proofs.replacement.replace.Goals as goal

pub returns : goal.returns
returns g c =
    let folder = c.args.folder.now in
    let bytes = c.args.bytes.now in
    let s0 = c.args.store.now in
    let s1 = c.clear_parts.new.self in
    let s2 = c.exchange.new.store in
    let e = c.clear_parts.ensures in
    let clears : Step g.S.Store (Cleared folder) (OldOrCleared folder (g.S.Store.may_leave s0)) s0 s1 =
    record { seen = e.seen; left = e.crash; time = e.time } in
    let r = c.exchange.result in
    let leaves = λ (t : g.S.Store.tells). c.exchange.ensures.leaves (g.met.S.Store.tells_more t) in
    let all = λ (t : g.S.Store.tells). alone g.S.Store folder bytes s0 s1 s2 clears t r (leaves t) in
    let beside = λ (t : g.S.Store.tells_own). shared g.S.Store folder bytes s0 s1 s2 clears r (c.exchange.ensures.leaves t) in
    record {
      replaced = λ t. MatchResult-weaker r (leaves t) (λ x done. installed g.S.Store folder bytes s0 s1 s2 clears t (done.step.seen t))
          (λ u fails. tt);
      durable = λ t. MatchResult-weaker r (leaves t) (λ x done. done.durable t) (λ u fails. tt);
      any_moment = λ t. leaves_only (all t) g.met.S.Store.only_now (λ p v was. inl was);
      afterwards = λ t. (all t).left;
      seen = λ t. MatchResult-weaker r (leaves t) (λ x done. tt) (seen_then g.S.Store folder bytes s0 s1 s2 clears t);
      left = λ t. MatchResult-weaker r (leaves t) (λ x done. tt) (left_then g.S.Store folder bytes s0 s1 s2 clears t);
      shared = λ t. leaves_only (beside t) g.met.S.Store.only_now (λ p v was. inl was);
      shared_afterwards = λ t. (beside t).left;
      shared_last = λ t. MatchResult-weaker r (c.exchange.ensures.leaves t) (λ x done. done.last) (λ u fails. tt);
      shared_put = λ t. MatchResult-weaker r (c.exchange.ensures.leaves t)
          (λ x done. g.met.S.Store.earlier s2 _ _ _ _ e.time.later done.put) (λ u fails. tt);
      cause = counted r _ _ _ e.cause c.exchange.ensures.cause;
    }
