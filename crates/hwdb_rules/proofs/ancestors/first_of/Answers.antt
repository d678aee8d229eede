use Rattle.std.proofs.Common.{◌∙◌, ◌≡◌, ◌+◌, ap, arith, map, suc, sym}
use Rattle.hwdb_spec_commands.specs.Sysfs.{first_at}
use Rattle.hwdb_rules.specs.Internal.{passes}
use Rattle.hwdb_sysfs.specs.Views.{ancestor_of}
use Rattle.hwdb_rules.proofs.AncestorLemmas.{first_here, first_later, no_first}
use Rattle.hwdb_rules.proofs.ancestors.first_of.Goals as goal

pub returns-then-passes : goal.returns-then-passes
returns-then-passes c =
    let test = passes c.args.wanted in
    sym (first_here test c.looking.place (ancestor_of c.in-Some.ancestor.now) (map ancestor_of c.in-Some.more.now) (sym c.passes.ensures ∙ c.if-passes.true))
    ∙ ap (λ l. first_at test c.looking.place (map ancestor_of l)) (sym c.in-Some.ensures.cases.0)
    ∙ c.looking.invariant.same

pub looking-preserved : goal.looking-preserved
looking-preserved c =
    let test = passes c.args.wanted in
    record {
      place = omega (arith, c.looking.invariant.place, c.in-Some.ensures.cases.1);
      same = ap (λ p. first_at test p (map ancestor_of c.in-Some.more.now)) (let s : c.looking.place + 1 ≡ suc c.looking.place = omega arith in s)
          ∙ sym (first_later test c.looking.place (ancestor_of c.in-Some.ancestor.now) (map ancestor_of c.in-Some.more.now) (sym c.passes.ensures ∙ c.if-passes.false))
          ∙ ap (λ l. first_at test c.looking.place (map ancestor_of l)) (sym c.in-Some.ensures.cases.0)
          ∙ c.looking.invariant.same;
    }

pub returns : goal.returns
returns c = sym (no_first (passes c.args.wanted) c.looking.place ancestor_of c.looking.left.now c.in_default.ensures.cases) ∙ c.looking.invariant.same
