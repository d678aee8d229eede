use Rattle.std.proofs.Common.{◌≡◌, ◌<◌, ◌-◌, ◌∙◌, take, drop, sym, arith, ap, length, eqb-true, eq-eqb}
use Rattle.std.proofs.lemmas.Bool.{false≢true}
use Rattle.std.proofs.lemmas.List.{take_rest, length-drop}
use Rattle.hwdb_pattern.specs.Internal.Met.{lengths_of}
use Rattle.hwdb_pattern.proofs.PathLemmas.{along_then, along_end, along_dead, along_after, after_within}
use Rattle.hwdb_pattern.proofs.met.Met.follow.Goals as goal
use Rattle.hwdb_pattern.proofs.met.Met.follow.Goals.{then-following-test+else-not-is_empty, else-following-test}

pub following-preserved : goal.following-preserved
following-preserved c =
    let text = c.args.text.now in
    let at = c.following.at in
    let device = c.args.device.now in
    let rest = take (length text - at) (drop at text) in
    let r : rest ≡ drop at text = take_rest text at in
    let some : 0 < length rest = omega (arith, c.following-test.true, ap length r, length-drop at text) in
    record {
      at_in = omega (arith, c.run_size-at.ensures.within, ap length r, length-drop at text);
      within = after_within device (lengths_of c.following.met) (lengths_of c.in_ok-met.met) rest c.in_ok-met.ensures;
      none = λ e. absurd (false≢true (sym c.if-not-is_empty.true ∙ c.is_empty.ensures ∙ eq-eqb (length (lengths_of c.following.met)) 0 (ap length (c.following.invariant.none e))));
      along = along_then device (lengths_of c.args.self) (lengths_of c.following.met) (lengths_of c.in_ok-met.met) text rest at c.run_size-at.result r
          (along_after device (lengths_of c.following.met) (lengths_of c.in_ok-met.met) rest c.run_size-at.result some c.run_size-at.ensures.moves c.run_size-at.ensures.within c.in_ok-met.ensures c.run_size-at.ensures.run)
          c.following.invariant.along;
    }

pub returns-clause-follows : goal.returns-clause-follows
returns-clause-follows c = elim c.following-test.branch [
  | then-following-test+else-not-is_empty w ↦
      along_dead c.args.device.now (lengths_of c.args.self) (lengths_of c.following.met) c.args.text.now c.following.at
      (eqb-true (length (lengths_of c.following.met)) 0 (sym w.is_empty.ensures ∙ w.if-not-is_empty.false)) c.following.invariant.along
  | else-following-test w ↦
      along_end c.args.device.now (lengths_of c.args.self) (lengths_of c.following.met) c.args.text.now c.following.at w.following-test.false c.following.invariant.along
]
