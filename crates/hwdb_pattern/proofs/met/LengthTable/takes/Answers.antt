use Rattle.std.proofs.Common.{List, Bool, length, refl, subst, take}
use Rattle.hwdb_spec.specs.Patterns.{admits_byte, token_at}
use Rattle.hwdb_pattern.specs.Views.{NoneTakes}
use Rattle.hwdb_pattern.specs.Internal.Tables.{SomeAt, passes_at, said}
use Rattle.hwdb_pattern.proofs.TableLemmas.{none_takes, some_takes}
use Rattle.hwdb_pattern.proofs.met.LengthTable.takes.Goals as goal

pub returns-clause-none : goal.returns-clause-none
returns-clause-none c = λ e.
    let t = token_at c.args.text.now in
    let least = c.args.self.now.least in
    let bytes = c.bytes_after-bytes.result.now in
    let says = c.deref-says.result.now in
    let cut = take c.min-count.result says in
    subst (λ (l : List Bool). NoneTakes t c.args.device.now (said least l)) c.deref-says.ensures.value
    (none_takes t c.args.device.now bytes least c.min-count.result says cut c.bytes_after-bytes.ensures c.min-count.ensures refl
    (subst (SomeAt (passes_at (admits_byte t) bytes cut) (length cut)) e c.has_admitted.ensures))

pub returns-clause-some : goal.returns-clause-some
returns-clause-some c = λ e.
    let t = token_at c.args.text.now in
    let least = c.args.self.now.least in
    let bytes = c.bytes_after-bytes.result.now in
    let says = c.deref-says.result.now in
    let cut = take c.min-count.result says in
    subst (λ (l : List Bool). NoneTakes t c.args.device.now (said least l) → ⊥) c.deref-says.ensures.value
    (some_takes t c.args.device.now bytes least c.min-count.result says cut c.bytes_after-bytes.ensures c.min-count.ensures refl
    (subst (SomeAt (passes_at (admits_byte t) bytes cut) (length cut)) e c.has_admitted.ensures))
