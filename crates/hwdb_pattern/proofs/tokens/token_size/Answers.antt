use Rattle.std.proofs.Common.{ap, sym}
use Rattle.hwdb_spec.specs.Patterns.{token_size}
use Rattle.hwdb_pattern.proofs.TokenLemmas.{star_at}
use Rattle.hwdb_pattern.proofs.tokens.token_size.Goals as goal

pub returns-then-text-eq42-clause-size : goal.returns-then-text-eq42-clause-size
returns-then-text-eq42-clause-size c = sym (ap token_size (star_at c.args.text.now c.if-text-eq42.true))
