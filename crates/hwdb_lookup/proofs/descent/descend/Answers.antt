use Rattle.std.proofs.Common.{◌≡◌, ◌∙◌, [], List, ℕ, ap, refl, reverse, sym, subst, eqb-true}
use Rattle.std.specs.List.{All}
use Rattle.std.proofs.lemmas.List.Elements.{All-nil}
use Rattle.hwdb_query.specs.declared.answer.StoredAssignment.{StoredAssignment}
use Rattle.hwdb_lookup.specs.Internal.Saids.{AllLaid}
use Rattle.hwdb_lookup.specs.Sound.{IsSaid}
use Rattle.hwdb_spec.specs.Assignment.{Assignment}
use Rattle.hwdb_spec.specs.Tree.{Tree}
use Rattle.hwdb_spec.specs.Format.{IsDatabase, layout_of, max_levels}
use Rattle.hwdb_lookup.specs.declared.descent.Descent.{Descent}
use Rattle.hwdb_lookup.specs.Internal.Descents.{Enters, Comes, wanted_under}
use Rattle.hwdb_lookup.proofs.PartsLemmas.{stop_given}
use Rattle.hwdb_lookup.proofs.DescentLemmas.{begins, all_found, none_open}
use Rattle.hwdb_lookup.proofs.descent.descend.Goals as goal

pub returns-in_err-visit-clause-stop : goal.returns-in_err-visit-clause-stop
returns-in_err-visit-clause-stop c =
    let l = c.args.frame.sizes in
    let d : Descent = record { stack = c.in_ok-with_capacity.field-0; found = c.new.result; left = c.len.result } in
    stop_given c.args.known (λ file. (all : List Assignment) × Enters file l max_levels l.root c.new-2.result.items c.start-start.result.device d all)
    (λ file. (t : Tree) × (l ≡ layout_of file) × IsDatabase file t)
    (λ file m s. (
      wanted_under c.args.device.now [] s.0,
      begins file c.args.known l s.0 c.args.device.now c.start-start.result.device c.new-2.result.items d m s.1 s.2 c.in_ok-with_capacity.ensures.items c.new.ensures.items c.len.ensures c.new-2.ensures.items c.start-start.ensures.device,
    ))
    c.in_err-visit.field-0.0 c.from_residual-in_err-visit.result c.from_residual-in_err-visit.ensures.1 c.in_err-visit.ensures.stop

pub open-init : goal.open-init
open-init c =
    let l = c.args.frame.sizes in
    let d : Descent = record { stack = c.in_ok-with_capacity.field-0; found = c.new.result; left = c.len.result } in
    record {
      all = c.in_ok-visit.ensures.all;
      comes = λ file t m is h.
          subst (λ x. Comes file x c.visit.new.self (wanted_under c.args.device.now [] t)) c.start-start.ensures.device
          (c.in_ok-visit.ensures.comes file (wanted_under c.args.device.now [] t) m
          (begins file c.args.known l t c.args.device.now c.start-start.result.device c.new-2.result.items d m is h c.in_ok-with_capacity.ensures.items c.new.ensures.items c.len.ensures c.new-2.ensures.items c.start-start.ensures.device));
      said = c.in_ok-visit.ensures.said (λ file m. subst (All (λ (a : StoredAssignment). IsSaid l file a.key.now a.value.now)) (sym c.new.ensures.items) (All-nil _));
      laid = c.in_ok-visit.ensures.laid l refl (subst (AllLaid l) (sym (ap reverse c.in_ok-with_capacity.ensures.items)) tt);
    }

pub open-preserved : goal.open-preserved
open-preserved c = record {
  all = c.in_ok-go_on.ensures.all;
  comes = λ file t m is h. c.in_ok-go_on.ensures.comes file c.args.device.now (wanted_under c.args.device.now [] t) m (c.open.invariant.comes file t m is h);
  said = c.in_ok-go_on.ensures.said c.args.frame.sizes c.open.invariant.laid c.open.invariant.said;
  laid = c.in_ok-go_on.ensures.laid c.args.frame.sizes c.open.invariant.laid;
}

pub returns-in_err-go_on-clause-stop : goal.returns-in_err-go_on-clause-stop
returns-in_err-go_on-clause-stop c =
    let l = c.args.frame.sizes in
    stop_given c.args.known (λ file. (device : List ℕ) × (all : List Assignment) × Comes file device c.open.descent all)
    (λ file. (t : Tree) × (l ≡ layout_of file) × IsDatabase file t)
    (λ file m s. (c.args.device.now, wanted_under c.args.device.now [] s.0, c.open.invariant.comes file s.0 m s.1 s.2))
    c.in_err-go_on.field-0.0 c.from_residual-in_err-go_on.result c.from_residual-in_err-go_on.ensures.1 c.in_err-go_on.ensures.stop

pub returns-clause-found : goal.returns-clause-found
returns-clause-found c file t m is h =
    all_found file c.args.device.now c.open.descent (wanted_under c.args.device.now [] t) (none_open c.open.descent (eqb-true c.open.descent.stack.len 0 (sym c.is_empty.ensures ∙ c.open-test.false))) (c.open.invariant.comes file t m is h)

pub returns-clause-said : goal.returns-clause-said
returns-clause-said c = c.open.invariant.said
