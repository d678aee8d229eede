use Rattle.std.proofs.Common.{◌-◌, ◌∙◌, List, ap, refl, sym, subst, arith}
use Rattle.std.proofs.lemmas.Result.{on_ok_weaker}
use Rattle.hwdb_spec.specs.Assignment.{Assignment}
use Rattle.hwdb_spec.specs.Tree.{Value}
use Rattle.hwdb_spec.specs.Format.{text_at}
use Rattle.hwdb_lookup.specs.Internal.Parts.{MayBeOf}
use Rattle.hwdb_lookup.specs.Internal.Heads.{Fits, AreValues}
use Rattle.hwdb_lookup.specs.Internal.Descents.{Enters, Comes, HasCome, IsArrival}
use Rattle.hwdb_lookup.proofs.PartsLemmas.{stop_given, stop_returned}
use Rattle.hwdb_lookup.proofs.TreeLemmas.{no_levels}
use Rattle.hwdb_lookup.proofs.DescentLemmas.{enters_fits, enters_pays, node_end, visit_passes, visit_lands, kept_left}
use Rattle.hwdb_lookup.proofs.SaidLemmas.{stays_said}
use Rattle.hwdb_lookup.proofs.descent.Descent.visit.Goals as goal

pub returns-then-levels-eq0-clause-stop : goal.returns-then-levels-eq0-clause-stop
returns-then-levels-eq0-clause-stop c file m s =
    let e = s.1 in no_levels c.args.frame.sizes file c.args.levels e.begin c.args.off e.tree e.text c.if-levels-eq0.true

pub returns-in_err-node-clause-stop : goal.returns-in_err-node-clause-stop
returns-in_err-node-clause-stop c =
    let l = c.args.frame.sizes in
    let path = c.args.path.items in
    let device = c.args.reach.device in
    stop_given c.args.known (λ file. Fits l file c.args.off) (λ file. (all : List Assignment) × Enters file l c.args.levels c.args.off path device c.args.self.now all)
    (λ file m s. enters_fits file l c.args.levels c.args.off path device c.args.self.now s.0 s.1)
    c.in_err-node.field-0.0 c.from_residual.result c.from_residual.ensures.1 c.in_err-node.ensures.stop

pub returns-then-self-size-clause-stop : goal.returns-then-self-size-clause-stop
returns-then-self-size-clause-stop c file m s =
    let pays = enters_pays file c.args.frame.sizes c.args.levels c.args.off c.args.path.items c.args.reach.device c.args.self.now s.0 s.1 in
    let end = node_end file c.args.known c.args.frame c.args.off c.in_ok-node.node c.in_ok-node.ensures.node (c.in_ok-node.ensures.head file m) in
    let less = c.if-self-size.true in
    omega (arith, pays, end, less)

pub returns-in_default-clause-comes : goal.returns-in_default-clause-comes
returns-in_default-clause-comes c file all m e =
    let n = c.in_ok-node.node in
    let same = c.in_ok-node.ensures.node in
    let path = c.args.path.items in
    let device = c.args.reach.device in
    let come = c.in_ok-open.ensures.come file (subst (λ k. MayBeOf k file) (sym same.0) m) in
    let size = n.end - c.args.off in
    visit_passes file c.args.known c.args.frame c.args.levels c.args.off path device c.args.self.now (record c.args.self.now { left = c.args.self.now.left - size }) all n same (c.in_ok-node.ensures.head file m)
    c.path_laws.ensures.matched c.path_laws.ensures.below (subst (HasCome device path (text_at file n.prefix)) c.in_default.is come) refl refl
    (kept_left c.args.self.now.left size c.if-self-size.false) e

pub returns-clause-comes : goal.returns-clause-comes
returns-clause-comes c =
    let n = c.in_ok-node.node in
    let o = c.in-Some.open in
    let same = c.in_ok-node.ensures.node in
    let path = c.args.path.items in
    let device = c.args.reach.device in
    let size = n.end - c.args.off in
    let a = subst (IsArrival n (c.args.levels - 1) device) c.in-Some.is c.in_ok-open.ensures.arrival in
    on_ok_weaker c.land.result
    (λ lands file all m e.
    let come = subst (HasCome device path (text_at file n.prefix)) c.in-Some.is (c.in_ok-open.ensures.come file (subst (λ k. MayBeOf k file) (sym same.0) m)) in
    let l = visit_lands file c.args.known c.args.frame c.args.levels c.args.off path device c.args.self.now (record c.args.self.now { left = c.args.self.now.left - size }) all n o same
    (c.in_ok-node.ensures.head file m) m c.if-levels-eq0.false a come refl refl (kept_left c.args.self.now.left size c.if-self-size.false) e in
    subst (λ d. Comes file d c.land.new.self all) a.same_device (lands file all (l.opens).known a.none_done l))
    c.land.ensures.lands

pub returns-clause-stop : goal.returns-clause-stop
returns-clause-stop c =
    let n = c.in_ok-node.node in
    let o = c.in-Some.open in
    let same = c.in_ok-node.ensures.node in
    let path = c.args.path.items in
    let device = c.args.reach.device in
    let size = n.end - c.args.off in
    let a = subst (IsArrival n (c.args.levels - 1) device) c.in-Some.is c.in_ok-open.ensures.arrival in
    stop_returned c.args.known (λ file. (values : List Value) × AreValues file o.node values)
    (λ file. (all : List Assignment) × Enters file c.args.frame.sizes c.args.levels c.args.off path device c.args.self.now all)
    (λ file m s.
    let come = subst (HasCome device path (text_at file n.prefix)) c.in-Some.is (c.in_ok-open.ensures.come file (subst (λ k. MayBeOf k file) (sym same.0) m)) in
    let l = visit_lands file c.args.known c.args.frame c.args.levels c.args.off path device c.args.self.now (record c.args.self.now { left = c.args.self.now.left - size }) s.0 n o same
    (c.in_ok-node.ensures.head file m) m c.if-levels-eq0.false a come refl refl (kept_left c.args.self.now.left size c.if-self-size.false) s.1 in
    (l.values, l.are))
    c.land.result c.land.ensures.stop

pub returns-clause-said : goal.returns-clause-said
returns-clause-said c =
    let n = c.in_ok-node.node in
    let o = c.in-Some.open in
    let same = c.in_ok-node.ensures.node in
    let a = subst (IsArrival n (c.args.levels - 1) c.args.reach.device) c.in-Some.is c.in_ok-open.ensures.arrival in
    on_ok_weaker c.land.result
    (λ stay. stays_said c.args.known c.args.frame c.args.off n o _ _ same a.node (c.in_ok-node.ensures.head) (c.in_ok-node.ensures.sound) stay)
    c.land.ensures.said

pub returns-clause-laid : goal.returns-clause-laid
returns-clause-laid c =
    let n = c.in_ok-node.node in
    let same = c.in_ok-node.ensures.node in
    let a = subst (IsArrival n (c.args.levels - 1) c.args.reach.device) c.in-Some.is c.in_ok-open.ensures.arrival in
    on_ok_weaker c.land.result
    (λ laid l is. laid l (ap (λ m. m.frame.sizes) a.node ∙ ap (λ f. f.sizes) same.1 ∙ is))
    c.land.ensures.laid
