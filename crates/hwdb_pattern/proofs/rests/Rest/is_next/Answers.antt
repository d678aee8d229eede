use Rattle.std.proofs.Common.{refl, ◌∙◌, sym, ◌==◌}
use Rattle.hwdb_spec.specs.Patterns.{literal}
use Rattle.hwdb_pattern.specs.Internal.Places.{NonePasses}
use Rattle.hwdb_pattern.proofs.PlaceLemmas.{rest_none_takes, literal_none, none_of}
use Rattle.hwdb_pattern.proofs.rests.Rest.is_next.Goals as goal

pub returns : goal.returns
returns c = λ e.
    let bytes = c.bytes_of.result.now in
    rest_none_takes (literal c.args.byte) c.args.device.now bytes c.args.self.least c.args.self.count c.bytes_of.ensures
    (literal_none {t = literal c.args.byte} bytes 0 refl (none_of c.next_byte.result (NonePasses (λ b. b == c.args.byte) bytes 0) (sym c.is_some.ensures ∙ e) c.next_byte.ensures.none))
