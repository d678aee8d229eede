use Rattle.std.proofs.Common.{◌≡◌, ◌∙◌, ap, sym, cond, true, false, Bool, refl}
use Rattle.hwdb_spec.specs.Lines.{has, is_match}
use Rattle.hwdb_spec.specs.Tree.{closed_part}
use Rattle.hwdb_check.specs.Internal.{line_of}
use Rattle.hwdb_check.proofs.BracketLemmas.{none_reversed}
use Rattle.hwdb_check.proofs.line_warnings.has_empty_range.Goals as goal

neither : (b : Bool) → cond b false false ≡ false
neither true = refl
neither false = refl

pub returns-then-not-holds_bracket : goal.returns-then-not-holds_bracket
returns-then-not-holds_bracket c =
    let clean = line_of 0 c.args.clean.now in
    let none = none_reversed 0 (closed_part c.args.clean.now) (ap (has 91) (sym c.closed-part.ensures) ∙ sym c.holds_bracket.ensures ∙ c.if-not-holds_bracket.true) in
    sym (ap (λ (b : Bool). cond (is_match clean) b false) none ∙ neither (is_match clean))
