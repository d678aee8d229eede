use Rattle.std.proofs.Common.{sym, ◌∙◌}
use Rattle.hwdb_spec.specs.Patterns.{admits_byte, token_at}
use Rattle.hwdb_samples.proofs.TextLemmas.{find_here, find_next, find_none}
use Rattle.hwdb_samples.proofs.texts.first_of.Goals as goal

pub returns-then-begins_with : goal.returns-then-begins_with
returns-then-begins_with c =
    find_here (admits_byte (token_at c.args.token.now)) c.args.bytes.now c.loop-byte.byte-index c.loop-byte-test.true (sym c.begins_with.ensures ∙ c.if-begins_with.true) c.loop-byte.invariant

pub loop-byte-preserved : goal.loop-byte-preserved
loop-byte-preserved c =
    find_next (admits_byte (token_at c.args.token.now)) c.args.bytes.now c.loop-byte.byte-index c.loop-byte-test.true (sym c.begins_with.ensures ∙ c.if-begins_with.false) c.loop-byte.invariant

pub returns : goal.returns
returns c = find_none (admits_byte (token_at c.args.token.now)) c.args.bytes.now c.loop-byte.byte-index c.loop-byte-test.false c.loop-byte.invariant
