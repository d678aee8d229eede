use Rattle.std.proofs.Common.{◌∙◌, ap, arith, sym}
use Rattle.std.specs.List.{list_all}
use Rattle.hwdb_show.specs.Escapes.{is_clean}
use Rattle.hwdb_show.proofs.EscapeLemmas.{all_printed, clean_kept}
use Rattle.hwdb_show.proofs.escapes.escaped.Goals as goal

pub returns-then-all_clean : goal.returns-then-all_clean
returns-then-all_clean c =
    sym (clean_kept c.args.json.items (ap (list_all is_clean) (sym c.deref.ensures.value) ∙ sym c.all_clean.ensures ∙ c.if-all_clean.true))

pub returns : goal.returns
returns c =
    let past = c.escaping-test.false in
    all_printed c.escaping.text.items c.args.json.items c.escaping.i c.escaping.second (omega (arith, past)) c.escaping.invariant
