use Rattle.std.proofs.Common.{sym, subst, List, ℕ, ◌≡◌, ◌++◌}
use Rattle.hwdb_spec_commands.specs.Exports as spec
use Rattle.hwdb_exports.proofs.StepLemmas.{all_decoded, coded_step, plain_step}
use Rattle.hwdb_exports.proofs.values.decoded.Goals as goal

pub bytes-preserved-in-Some-coded_at : goal.bytes-preserved-in-Some-coded_at
bytes-preserved-in-Some-coded_at c =
    subst (λ (l : List ℕ). c.push.new.self.items ++ spec.decoded 0 l ≡ spec.decoded 0 c.args.value.now) (sym c.after-left.ensures)
    (coded_step c.bytes.text.items c.push.new.self.items c.bytes.left.now c.in-Some.rest.now (spec.decoded 0 c.args.value.now) c.in-Some.byte.now c.in-Some-coded_at.byte c.in-Some.ensures.cases.0
    (sym c.in-Some-coded_at.ensures) c.in_ok-push-in-Some-coded_at.ensures.items c.bytes.invariant)

pub bytes-preserved : goal.bytes-preserved
bytes-preserved c =
    plain_step c.bytes.text.items c.push-in-None.new.self.items c.bytes.left.now c.in-Some.rest.now (spec.decoded 0 c.args.value.now) c.in-Some.byte.now c.in-Some.ensures.cases.0
    (sym c.in-None.ensures) c.in_ok-push-in-None.ensures.items c.bytes.invariant

pub returns : goal.returns
returns c = all_decoded c.bytes.text.items c.bytes.left.now (spec.decoded 0 c.args.value.now) c.in_default.ensures.cases c.bytes.invariant
