use Rattle.std.proofs.Common.{arith, add-one, ◌-◌, ◌+◌, ◌∙◌, sym}
use Rattle.hwdb_spec.specs.Patterns.{token_at}
use Rattle.hwdb_spec_commands.specs.FormTexts.{takes}
use Rattle.hwdb_forms.proofs.TextLemmas.{all_here, all_last, all_next}
use Rattle.hwdb_forms.proofs.cells.first_of_all.Goals as goal

pub returns-then-takes : goal.returns-then-takes
returns-then-takes c =
    all_here (takes (token_at c.args.token.now) c.args.set) (256 - c.loop-byte.byte) c.loop-byte.byte _ (sym c.takes.ensures ∙ c.if-takes.true) (omega arith) c.loop-byte.invariant.rest

pub loop-byte-preserved : goal.loop-byte-preserved
loop-byte-preserved c = record {
  within = omega arith;
  rest = all_next (takes (token_at c.args.token.now) c.args.set) (256 - c.loop-byte.byte) (256 - (c.loop-byte.byte + 1)) c.loop-byte.byte (c.loop-byte.byte + 1) _
      (sym c.takes.ensures ∙ c.if-takes.false) (omega arith) (add-one c.loop-byte.byte) c.loop-byte.invariant.rest;
}

pub returns : goal.returns
returns c = all_last (takes (token_at c.args.token.now) c.args.set) (256 - c.loop-byte.byte) c.loop-byte.byte _ _ c.taken.ensures (omega arith) c.loop-byte.invariant.rest
