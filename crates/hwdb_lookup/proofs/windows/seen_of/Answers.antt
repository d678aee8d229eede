use Rattle.std.proofs.Common.{◌≡◌, ◌-◌, length, subst, sym, arith}
use Rattle.hwdb_reader.specs.Passes.Views.{IsPart}
use Rattle.hwdb_lookup.proofs.windows.seen_of.Goals as goal

pub returns-clause-seen : goal.returns-clause-seen
returns-clause-seen c file is =
    let o = c.args.windows.outline in
    let ends = o.ends in
    let place : o.frame.sizes.strings ≡ o.size - length o.strings.now = omega (arith, ends) in
    record {
      size = sym is.outline.size;
      strings = subst (λ i. IsPart file i o.strings.now) place is.outline.strings;
      each = is.each;
    }
