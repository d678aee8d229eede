use Rattle.std.proofs.Common.{◌∙◌, ap, arith, add-one, ◌-◌, ◌+◌}
use Rattle.hwdb_spec.specs.Forms.{is_expected}
use Rattle.hwdb_spec.specs.Forms
use Rattle.hwdb_forms.specs.Internal.{forms_of}
use Rattle.hwdb_forms.specs.declared.pieces.Table.{Table}
use Rattle.hwdb_forms.proofs.ExpectedLemmas.{byte_done, last_done}
use Rattle.hwdb_forms.proofs.expecting.expected_by.Goals as goal

pub loop-byte-preserved : goal.loop-byte-preserved
loop-byte-preserved c = record {
  within = omega arith;
  done = byte_done (is_expected (forms_of c.in_ok-known.known.table) c.args.front.now) (256 - c.loop-byte.byte) c.loop-byte.byte (256 - (c.loop-byte.byte + 1)) (c.loop-byte.byte + 1) c.loop-byte.bytes.items _ _
      (omega arith) (add-one c.loop-byte.byte) c.in_ok-put_expected.ensures c.loop-byte.invariant.done;
}

pub returns : goal.returns
returns c =
    last_done (is_expected (forms_of c.in_ok-known.known.table) c.args.front.now) (256 - c.loop-byte.byte) c.loop-byte.byte c.loop-byte.bytes.items _ _ (omega arith) c.in_ok-put_expected-2.ensures c.loop-byte.invariant.done
    ∙ ap (λ (t : Table). Forms.expected (forms_of t) c.args.front.now) c.in_ok-known.ensures.table
