use Rattle.std.proofs.Common.{◌≡◌, drop}
use Rattle.hwdb_rulefiles.specs.Escapes.{unescaped, onto, first_pieces}
use Rattle.hwdb_rulefiles.proofs.escapes.unescaped.Given as goal

abbrev pub invariant-loop-most : goal.invariant-loop-most
invariant-loop-most l = onto l.out.items (first_pieces l.most l.rest) ≡ unescaped l.text

abbrev pub decreases-loop-most : goal.decreases-loop-most
decreases-loop-most l = l.most
