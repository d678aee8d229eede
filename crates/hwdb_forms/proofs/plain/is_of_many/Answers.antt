use Rattle.std.proofs.Common.{inl, inr, sym, ◌∙◌}
use Rattle.hwdb_forms.proofs.plain.is_of_many.Goals as goal

pub returns-then-byte-eq42 : goal.returns-then-byte-eq42
returns-then-byte-eq42 c = λ e. inl c.if-byte-eq42.true

pub returns : goal.returns
returns c = λ e. inr (sym c.has.ensures ∙ e, sym c.is_wild.ensures ∙ c.if-is_wild.false)
