use Rattle.std.proofs.Common.{arith, eqb-true, length, sym, ◌∙◌}
use Rattle.std.proofs.lemmas.Bool.{le-ltb}
use Rattle.hwdb_forms.proofs.expecting.known_after.Goals as goal

pub returns-clause-after : goal.returns-clause-after
returns-clause-after c = record {
  same = c.in_ok-tokens.ensures;
  closed = λ t.
      let all = eqb-true c.open_place.result (length c.args.front.now) t in
      sym c.open_place.ensures.found ∙ le-ltb c.open_place.result (length c.args.front.now) (omega (arith, all));
}
