use Rattle.std.proofs.Common.{◌≡◌, ◌<◌, ◌-◌, ◌==◌, ◌∙◌, sym, subst, ℕ, false, length, arith, zero, suc}
use Rattle.hwdb_spec.specs.declared.Layout.{Layout}
use Rattle.hwdb_reader.specs.Passes.Views.{IsPart}
use Rattle.hwdb_reader.proofs.passes.HeaderLemmas.{header_whole}
use Rattle.hwdb_reader.proofs.passes.opening.open_outline.Goals as goal

some_there : (n : ℕ) → (n == 0) ≡ false → 0 < n
some_there zero h = absurd (cc)
some_there (suc n) h = omega arith

pub returns : goal.returns
returns c file r =
    let inside = c.in-Some.ensures.inside.1 in
    let some = some_there (length c.args.strings.now) (sym c.is_empty.ensures ∙ c.if-is_empty.false) in
    let rest : length c.args.strings.now ≡ c.args.size - c.in-Some.frame.sizes.strings = c.if-strings-size.false in
    let size = r.long in
    let h = c.in-Some.ensures.sections file r.front size in
    let q = subst (λ (l : Layout). IsPart file l.strings c.args.strings.now) (sym h.layout) r.texts in
    record {
      layout = h.layout;
      header = header_whole c.in-Some.frame.sizes file c.args.strings.now h q (omega (arith, rest, inside, size)) some c.if-strings-ne0.false;
      size = sym size;
      strings = q;
    }
