use Rattle.std.proofs.Common.{◌<◌, ◌∙◌, sym, arith, subst, length, List, ℕ, eqb-true}
use Rattle.std.proofs.lemmas.List.{take_rest}
use Rattle.std.proofs.lemmas.Result.{IfOk-weaker}
use Rattle.hwdb_spec.specs.Patterns.{tokens}
use Rattle.hwdb_pattern.specs.Internal.Prefixes.{Follows}
use Rattle.hwdb_pattern.specs.Internal.Met.{lengths_of}
use Rattle.hwdb_pattern.proofs.PathLemmas.{along_none, along_after, along_rest, after_within}
use Rattle.hwdb_pattern.proofs.met.Met.along.Goals as goal

pub returns-then-is_empty-clause-follows : goal.returns-then-is_empty-clause-follows
returns-then-is_empty-clause-follows c =
    IfOk-weaker c.copied.result _ _
    (λ after e. subst (λ (l : List ℕ). Follows (tokens c.args.text.now) c.args.device.now (lengths_of c.args.self.now) l) (sym e)
    (along_none c.args.device.now (lengths_of c.args.self.now) c.args.text.now
    (eqb-true (length c.args.text.now) 0 (sym c.is_empty.ensures ∙ c.if-is_empty.true))))
    c.copied.ensures

pub follow-requires : goal.follow-requires
follow-requires c = after_within c.args.device.now (lengths_of c.args.self.now) (lengths_of c.in_ok-after.after) c.args.text.now c.in_ok-after.ensures.after

pub returns-clause-follows : goal.returns-clause-follows
returns-clause-follows c =
    let text = c.args.text.now in
    let device = c.args.device.now in
    let some : 0 < length text = omega (arith, c.run_size.ensures.moves, c.run_size.ensures.within) in
    IfOk-weaker c.follow.result _ _
    (λ after f. along_rest device (lengths_of c.args.self.now) (lengths_of c.in_ok-after.after) (lengths_of after) text _ c.run_size.result (take_rest text c.run_size.result)
    (along_after device (lengths_of c.args.self.now) (lengths_of c.in_ok-after.after) text c.run_size.result some c.run_size.ensures.moves c.run_size.ensures.within c.in_ok-after.ensures.after c.run_size.ensures.run) f)
    c.follow.ensures.follows
