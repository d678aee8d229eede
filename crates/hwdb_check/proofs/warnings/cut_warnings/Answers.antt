use Rattle.std.proofs.Common.{◌-◌, ◌++◌, ◌∙◌, ap, arith, drop, length, refl, subst, sym, take, List, ℕ}
use Rattle.std.proofs.lemmas.List.{length-drop, take_rest}
use Rattle.hwdb_spec_commands.specs.Findings.{found_warnings}
use Rattle.hwdb_check.specs.Found.{finds}
use Rattle.hwdb_check.specs.Internal.{line_of}
use Rattle.hwdb_check.specs.Leaving.{names_of}
use Rattle.hwdb_check.specs.Plain.{IsQuiet, IsTame}
use Rattle.hwdb_check.proofs.MarkLemmas.{front_tame, quiet_on, tame_on, told_end, told_on, told_tame}
use Rattle.hwdb_check.proofs.warnings.cut_warnings.Goals as goal

pub loop-at-preserved : goal.loop-at-preserved
loop-at-preserved c =
    let file = c.args.bytes.now in
    let allowed = names_of c.args.telling.now in
    let at = c.loop-at.at in
    let n = c.loop-at.number in
    let end = c.end_of-end.result in
    let rest = take_rest file at in
    let line = line_of n (take end (take (length file - at) (drop at file))) in
    record {
      within = omega (arith, ap length rest, length-drop at file, c.end_of-end.ensures.within, c.loop-at-test.true);
      near = omega (arith, c.loop-at.invariant.near);
      tame = tame_on file _ at end _ rest c.tame_after-tame.ensures;
      quiet = (quiet_on file n at end _ c.loop-at-test.true rest c.end_of-end.ensures.place c.loop-at.invariant.quiet).1;
      found = told_on (found_warnings c.args.telling.now.format allowed c.args.path.now file) file _ _ _ n at end _ c.loop-at-test.true rest c.end_of-end.ensures.place
          (c.in_ok-put_tame.ensures ∙ ap (λ (b : List ℕ). finds c.loop-at.warned.found.items ++ found_warnings c.args.telling.now.format allowed c.args.path.now b line) c.nothing_known-known.ensures.1)
          c.loop-at.invariant.found;
    }

pub returns-then-rest-tame : goal.returns-then-rest-tame
returns-then-rest-tame c =
    told_tame c.args.telling.now.format (names_of c.args.telling.now) c.args.path.now c.args.bytes.now _ _ _ c.loop-at.number c.loop-at.at c.loop-at.tame
    (take_rest c.args.bytes.now c.loop-at.at) c.if-rest-tame.true c.loop-at.invariant.tame c.loop-at.invariant.quiet c.loop-at.invariant.found

pub returns : goal.returns
returns c =
    told_end (found_warnings c.args.telling.now.format (names_of c.args.telling.now) c.args.path.now c.args.bytes.now) c.args.bytes.now _ _ c.loop-at.number c.loop-at.at
    c.loop-at-test.false c.loop-at.invariant.found

pub put_tame-requires-clause-quiet : goal.put_tame-requires-clause-quiet
put_tame-requires-clause-quiet c =
    let file = c.args.bytes.now in
    let at = c.loop-at.at in
    let line = line_of c.loop-at.number (take c.end_of-end.result (take (length file - at) (drop at file))) in
    subst (λ (b : List ℕ). IsQuiet b line) (sym c.nothing_known-known.ensures.1)
    ((quiet_on file c.loop-at.number at c.end_of-end.result _ c.loop-at-test.true (take_rest file at) c.end_of-end.ensures.place c.loop-at.invariant.quiet).0)

pub put_tame-requires-clause-tame : goal.put_tame-requires-clause-tame
put_tame-requires-clause-tame c =
    let file = c.args.bytes.now in
    let at = c.loop-at.at in
    front_tame (take (length file - at) (drop at file)) _ c.end_of-end.result c.loop-at.tame refl
    (subst (λ (l : List ℕ). IsTame 10 (take c.loop-at.tame l)) (sym (take_rest file at)) c.loop-at.invariant.tame)
