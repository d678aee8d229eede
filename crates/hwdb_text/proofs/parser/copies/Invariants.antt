use Rattle.std.proofs.Common.{◌≡◌, map, take}
use Rattle.hwdb_text.specs.Views.{origin, assigned, given_in}
use Rattle.hwdb_text.proofs.parser.copies.Given as goal

abbrev pub invariant-loop-given : goal.invariant-loop-given
invariant-loop-given l = map assigned l.copied.items ≡ map (given_in (origin l.path l.priority)) (take l.given-index l.all)
