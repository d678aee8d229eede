use Rattle.std.proofs.Common.{◌≡◌, ◌∙◌, ap, sym, arith, drop, get_or}
use Rattle.std.proofs.lemmas.List.{length-drop}
use Rattle.std.specs.Option.{option_map}
use Rattle.hwdb_spec.specs.Patterns.{literal}
use Rattle.hwdb_pattern.specs.Internal.Parts.{bracket_part}
use Rattle.hwdb_pattern.proofs.TokenLemmas.{token_byte, token_open}
use Rattle.hwdb_pattern.proofs.SearchLemmas.{first_at, not_true}
use Rattle.hwdb_pattern.proofs.search.is_plain.Goals as goal

pub returns-then-pattern-at-eq91 : goal.returns-then-pattern-at-eq91
returns-then-pattern-at-eq91 c = λ e.
    let text = drop c.args.at c.args.pattern.now in
    let first : get_or text 0 0 ≡ get_or c.args.pattern.now c.args.at 0 = first_at c.args.pattern.now c.args.at in
    token_open text 0 (first ∙ c.if-pattern-at-eq91.true) (sym (ap (option_map (bracket_part 0)) (c.may_close.ensures (not_true c.may_close.result e))))
    ∙ ap literal first

pub returns : goal.returns
returns c = λ e.
    let text = drop c.args.at c.args.pattern.now in
    let first : get_or text 0 0 ≡ get_or c.args.pattern.now c.args.at 0 = first_at c.args.pattern.now c.args.at in
    let own = c.stands_for_itself.ensures in
    token_byte text (omega (arith, c.requires.within, length-drop c.args.at c.args.pattern.now))
    (λ f. own.no_star e (sym first ∙ f)) (λ f. own.no_mark e (sym first ∙ f)) (λ f. own.no_bracket e (sym first ∙ f))
    ∙ ap literal first
