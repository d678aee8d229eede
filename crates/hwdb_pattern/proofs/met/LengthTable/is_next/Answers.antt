use Rattle.std.proofs.Common.{List, Bool, length, refl, subst, take}
use Rattle.hwdb_spec.specs.Patterns.{admits_byte, literal}
use Rattle.hwdb_pattern.specs.Views.{NoneTakes}
use Rattle.hwdb_pattern.specs.Internal.Tables.{SomeAt, passes_at, said}
use Rattle.hwdb_pattern.proofs.TableLemmas.{none_takes}
use Rattle.hwdb_pattern.proofs.met.LengthTable.is_next.Goals as goal

pub returns : goal.returns
returns c = λ e.
    let t = literal c.args.byte in
    let least = c.args.self.now.least in
    let bytes = c.bytes_after-bytes.result.now in
    let says = c.deref-says.result.now in
    let cut = take c.min-count.result says in
    subst (λ (l : List Bool). NoneTakes t c.args.device.now (said least l)) c.deref-says.ensures.value
    (none_takes t c.args.device.now bytes least c.min-count.result says cut c.bytes_after-bytes.ensures c.min-count.ensures refl
    (subst (SomeAt (passes_at (admits_byte t) bytes cut) (length cut)) e c.has_byte.ensures))
