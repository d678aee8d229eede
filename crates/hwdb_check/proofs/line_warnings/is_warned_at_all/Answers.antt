use Rattle.std.proofs.Common.{◌≡◌, ◌∙◌, ap, subst, sym, nat_lt, List, ℕ, []}
use Rattle.std.specs.Option.{is_some}
use Rattle.hwdb_spec_commands.specs.Unmatched.{is_unmatched, judgement_of, likelihood_of}
use Rattle.hwdb_spec_commands.specs.Warnings.{all_warnings, misused}
use Rattle.hwdb_check.specs.Internal.{line_of, read_line}
use Rattle.hwdb_check.proofs.ReplaceLemmas.{some_replaces}
use Rattle.hwdb_check.proofs.WarningLemmas.{none_warned}
use Rattle.hwdb_check.proofs.line_warnings.is_warned_at_all.Goals as goal

pub returns : goal.returns
returns c = λ e allowed.
    let r = c.args.line.now in
    let file = r.bytes.now in
    let clean = line_of r.number r.clean.now in
    subst (λ (t : List ℕ). all_warnings allowed file (read_line r) (line_of r.number t) ≡ []) c.requires.clean
    (none_warned allowed file (read_line r) clean (
      sym c.begins_with_mark.ensures ∙ c.if-begins_with_mark.false,
      (
        sym c.begins_with_tab.ensures ∙ c.if-begins_with_tab.false,
        (
          sym c.has_return.ensures ∙ c.if-has_return.false,
          (
            c.has_odd_bracket.ensures.open c.if-has_odd_bracket.false,
            (
              c.has_odd_bracket.ensures.range c.if-has_odd_bracket.false,
              (
                sym c.has_spaced_equals.ensures ∙ c.if-has_spaced_equals.false,
                (
                  sym c.has_cut_value.ensures ∙ c.if-has_cut_value.false,
                  (
                    sym c.requires.repeated ∙ c.if-line.false,
                    (
                      some_replaces file r.number ∙ ap (nat_lt 0) (sym c.requires.replaced) ∙ sym c.is_replaced.ensures ∙ c.if-is_replaced.false,
                      (
                        ap (λ (t : List ℕ). is_some (misused (line_of r.number t))) c.requires.clean ∙ ap is_some (sym c.requires.misuse) ∙ sym c.is_some.ensures ∙ c.if-is_some.false,
                        (
                          sym c.requires.unread ∙ c.if-line-2.false,
                          (
                            sym c.requires.unpaired ∙ c.if-line-3.false,
                            (
                              ap (λ (t : List ℕ). is_unmatched (judgement_of t)) c.requires.clean ∙ ap is_unmatched (sym c.requires.judgement) ∙ sym c.is_unmatched.ensures ∙ c.if-is_unmatched.false,
                              (
                                ap (λ (t : List ℕ). is_unmatched (likelihood_of t)) c.requires.clean ∙ ap is_unmatched (sym c.requires.likelihood) ∙ sym c.is_unmatched-2.ensures ∙ c.if-is_unmatched-2.false,
                                (sym c.is_too_long.ensures ∙ c.if-is_too_long.false, (sym c.may_be_too_deep.ensures ∙ c.if-may_be_too_deep.false, (sym c.is_fragile_line.ensures ∙ e, tt))),
                              ),
                            ),
                          ),
                        ),
                      ),
                    ),
                  ),
                ),
              ),
            ),
          ),
        ),
      ),
    ))
