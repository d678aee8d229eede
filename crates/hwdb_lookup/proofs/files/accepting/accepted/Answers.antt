use Rattle.std.proofs.Common.{◌≡◌, ◌+◌, ◌-◌, ◌≤◌, ◌∙◌, ap, sym, subst, ℕ, List, length, arith}
use Rattle.std.proofs.lemmas.Option.{IfSome_then}
use Rattle.hwdb_spec.specs.declared.Layout.{Layout}
use Rattle.hwdb_reader.specs.Passes.Views.{IsPart}
use Rattle.hwdb_lookup.proofs.files.PlaceLemmas.{long_is}
use Rattle.hwdb_lookup.proofs.files.accepting.accepted.Goals as goal

pub returns-clause-kept : goal.returns-clause-kept
returns-clause-kept g c = IfSome_then c.keep.result c.keep.ensures.kept (λ k kept file of.
    let header = c.in_ok-header.ensures.part file of in
    let strings = c.in_ok-strings.ensures.part file of in
    let ends = c.ends_at.ensures c.if-not-ends_at.false file of in
    let size : length file ≡ c.u64_at-size.result =
    long_is file c.in_ok-strings.strings.items c.in-Some.frame.sizes.strings c.u64_at-size.result ends strings (c.in_ok-strings.ensures.long) (c.in-Some.ensures.inside).1 in
    let sections = c.in-Some.ensures.sections file (subst (λ b. IsPart file 0 b) (sym c.deref-2.ensures.value) header) size in
    kept file of record {
      long = size;
      front = subst (λ b. IsPart file 0 b) (sym c.deref-3.ensures.value) header;
      texts = subst (λ (l : Layout). IsPart file l.strings c.in_ok-strings.strings.items) sections.layout strings;
    } sections)
