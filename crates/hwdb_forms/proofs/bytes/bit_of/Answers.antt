use Rattle.std.proofs.Common.{arith, inl, inr, ◌-◌, ◌∙◌}
use Rattle.hwdb_forms.proofs.AfterLemmas.{no_own, with_own}
use Rattle.hwdb_forms.proofs.bytes.bit_of.Goals as goal

pub returns-then-own-first : goal.returns-then-own-first
returns-then-own-first c = no_own c.args.own c.args.first 128 (inl (omega arith))

pub returns-then-at-ge128 : goal.returns-then-at-ge128
returns-then-at-ge128 c = no_own c.args.own c.args.first 128 (inr (omega arith))

pub returns : goal.returns
returns c = c.bit.ensures ∙ with_own c.args.own c.args.first (c.args.own - c.args.first) 128 (omega arith) (omega arith)
