use Rattle.std.proofs.Common.{take, drop, length, ◌-◌, ◌==◌}
use Rattle.std.proofs.lemmas.List.{take_rest}
use Rattle.hwdb_pattern.proofs.PlaceLemmas.{shifted_next, shifted_none}
use Rattle.hwdb_pattern.proofs.rests.next_byte.Goals as goal

pub returns-in-Some-clause-some : goal.returns-in-Some-clause-some
returns-in-Some-clause-some c =
    let bytes = c.args.bytes.now in
    let at = c.args.at in
    shifted_next (λ b. b == c.args.byte) bytes (take (length bytes - at) (drop at bytes)) at c.in-Some.place (take_rest bytes at) c.requires
    c.in-Some.ensures.0.high c.in-Some.ensures.1 c.in-Some.ensures.0.before

pub returns-in-None-clause-none : goal.returns-in-None-clause-none
returns-in-None-clause-none c =
    let bytes = c.args.bytes.now in
    let at = c.args.at in
    shifted_none (λ b. b == c.args.byte) bytes (take (length bytes - at) (drop at bytes)) at (take_rest bytes at) c.in-None.ensures
