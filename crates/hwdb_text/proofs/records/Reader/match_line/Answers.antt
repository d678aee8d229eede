use Rattle.std.proofs.Common.{sym, ◌∙◌, ◌++◌, [], ◌∷◌, refl, ap, map, append_assoc}
use Rattle.hwdb_spec.specs.declared.FaultKind.TheVariants.{StrayMatch, LongMatch}
use Rattle.hwdb_text.specs.Internal.Contents.{line}
use Rattle.hwdb_text.specs.Views.{text_of}
use Rattle.hwdb_spec.specs.Records.{patterns, fault}
use Rattle.hwdb_text.proofs.HeldLemmas.{on_ok_both, held_match_start, held_match_more, held_stray_match, long_yes, long_no}
use Rattle.hwdb_text.proofs.records.Reader.match_line.Goals as goal

pub returns-in-Start-clause-held : goal.returns-in-Start-clause-held
returns-in-Start-clause-held c =
    on_ok_both c.pattern.result (λ ep ef o whole rest h.
    held_match_start o whole rest (line c.args.line c.args.text.now) c.args.self.now _ c.in-Start.is c.requires refl
    (ep ∙ ap (λ p. map text_of p ++ patterns (line c.args.line c.args.text.now ∷ [])) c.clear.ensures.items) refl ef h)
    c.pattern.ensures.patterns c.pattern.ensures.faults

pub returns-in-Matches-clause-held : goal.returns-in-Matches-clause-held
returns-in-Matches-clause-held c =
    on_ok_both c.pattern-in-Matches.result (λ ep ef o whole rest h.
    held_match_more o whole rest (line c.args.line c.args.text.now) c.args.self.now _ c.in-Matches.is c.in-Matches.is c.requires refl ep refl ef h)
    c.pattern-in-Matches.ensures.patterns c.pattern-in-Matches.ensures.faults

pub returns-in_ok-push-in-Properties-2-clause-held : goal.returns-in_ok-push-in-Properties-2-clause-held
returns-in_ok-push-in-Properties-2-clause-held c = λ o whole rest h.
    held_stray_match o whole rest (line c.args.line c.args.text.now) c.args.self.now _ c.in-Properties.is c.requires refl
    (c.in_ok-push-in-Properties-2.ensures.items ∙ ap (λ g. g ++ fault LongMatch (line c.args.line c.args.text.now) ∷ []) c.in_ok-push-in-Properties.ensures.items
    ∙ append_assoc c.args.self.now.faults.items (fault StrayMatch (line c.args.line c.args.text.now) ∷ []) (fault LongMatch (line c.args.line c.args.text.now) ∷ [])
    ∙ ap (λ g. c.args.self.now.faults.items ++ fault StrayMatch (line c.args.line c.args.text.now) ∷ g) (sym (long_yes (line c.args.line c.args.text.now) c.if-text-gt-LONGEST_MATCH.true))) h

pub returns-else-text-gt-LONGEST_MATCH-clause-held : goal.returns-else-text-gt-LONGEST_MATCH-clause-held
returns-else-text-gt-LONGEST_MATCH-clause-held c = λ o whole rest h.
    held_stray_match o whole rest (line c.args.line c.args.text.now) c.args.self.now _ c.in-Properties.is c.requires refl
    (c.in_ok-push-in-Properties.ensures.items
    ∙ ap (λ g. c.args.self.now.faults.items ++ fault StrayMatch (line c.args.line c.args.text.now) ∷ g) (sym (long_no (line c.args.line c.args.text.now) c.if-text-gt-LONGEST_MATCH.false))) h
