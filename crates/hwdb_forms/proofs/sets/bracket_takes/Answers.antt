use Rattle.std.proofs.Common.{arith, ◌-◌, ◌+◌}
use Rattle.std.proofs.Common.{add-one}
use Rattle.hwdb_spec.specs.Patterns.{token_at}
use Rattle.hwdb_forms.specs.Internal.{takes_of_set}
use Rattle.hwdb_forms.proofs.MeetLemmas.{byte_passed, byte_left, last_byte}
use Rattle.hwdb_forms.proofs.sets.bracket_takes.Goals as goal

pub returns-then-takes_of_set : goal.returns-then-takes_of_set
returns-then-takes_of_set c =
    byte_passed (takes_of_set (token_at c.args.text.now) c.args.set) (256 - c.loop-byte.byte) c.loop-byte.byte c.takes_of_set-in-loop-byte.result _
    c.takes_of_set-in-loop-byte.ensures c.if-takes_of_set.true (omega arith) c.loop-byte.invariant.rest

pub loop-byte-preserved : goal.loop-byte-preserved
loop-byte-preserved c = record {
  within = omega arith;
  rest = byte_left (takes_of_set (token_at c.args.text.now) c.args.set) (256 - c.loop-byte.byte) (256 - (c.loop-byte.byte + 1)) c.loop-byte.byte (c.loop-byte.byte + 1)
      c.takes_of_set-in-loop-byte.result _ c.takes_of_set-in-loop-byte.ensures c.if-takes_of_set.false (omega arith) (add-one c.loop-byte.byte) c.loop-byte.invariant.rest;
}

pub returns : goal.returns
returns c =
    last_byte (takes_of_set (token_at c.args.text.now) c.args.set) (256 - c.loop-byte.byte) c.loop-byte.byte c.takes_of_set-2.result _
    c.takes_of_set-2.ensures (omega arith) c.loop-byte.invariant.rest
