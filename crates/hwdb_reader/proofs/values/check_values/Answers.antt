use Rattle.std.proofs.Common.{◌≡◌, ◌↔◌, List, ℕ, option_map, arith, ap, sym, ◌∙◌, refl, subst, IsTrue, Less}
use Rattle.std.proofs.lemmas.Result.{err_from_is_err_and}
use Rattle.hwdb_spec.specs.Assignment.{text_cmp}
use Rattle.hwdb_spec.specs.Format.{number_at, text_at}
use Rattle.hwdb_spec.specs.Tree.{IsAbove}
use Rattle.hwdb_reader.proofs.CopyLemmas.{false_true}
use Rattle.hwdb_reader.proofs.EntryLemmas.{values_next, values_back}
use Rattle.hwdb_reader.proofs.values.check_values.Goals as goal
use Rattle.hwdb_reader.proofs.values.check_values.Goals.{in-Some+else-not-is_less, in_default}

pub returns-in_err-check_value-clause-err : goal.returns-in_err-check_value-clause-err
returns-in_err-check_value-clause-err c =
    let p = err_from_is_err_and c.from_residual.result c.from_residual.ensures.1 in
    rw p.1 (λ h. c.in_err-check_value.ensures.err (values_next c.args.l.sizes c.args.b.now c.loop-i.entry (option_map (text_at c.args.b.now) c.loop-i.before) c.args.n c.loop-i.i (omega arith) (c.loop-i.invariant.rest.1 h)).0)

pub returns-then-not-is_less-clause-err : goal.returns-then-not-is_less-clause-err
returns-then-not-is_less-clause-err c h =
    let b = c.args.b.now in
    let is : c.loop-i.repeats ≡ b = c.loop-i.invariant.same ∙ c.requires.text in
    let q = values_next c.args.l.sizes b c.loop-i.entry (option_map (text_at b) c.loop-i.before) c.args.n c.loop-i.i (omega arith) (c.loop-i.invariant.rest.1 h) in
    let a : text_cmp (text_at b c.in-Some.other) (text_at b (number_at 8 c.loop-i.entry b)) ≡ Less = rw (ap (option_map (text_at b)) c.in-Some.is) at q.1 in
    let k : text_cmp (text_at b c.in-Some.other) (text_at b c.u64_at-key.result) ≡ Less = ap (λ i. text_cmp (text_at b c.in-Some.other) (text_at b i)) c.u64_at-key.ensures ∙ a in
    let less = subst (λ (t : List ℕ). IsTrue c.is_less.result ↔ (text_cmp (text_at t c.in-Some.other) (text_at t c.u64_at-key.result) ≡ Less)) is c.is_less.ensures.less in
    false_true (sym c.if-not-is_less.true ∙ less.1 k)

pub loop-i-preserved : goal.loop-i-preserved
loop-i-preserved c =
    let b = c.args.b.now in
    let is : c.loop-i.repeats ≡ b = c.loop-i.invariant.same ∙ c.requires.text in
    let key : text_at b c.u64_at-key.result ≡ text_at b (number_at 8 c.loop-i.entry b) = ap (text_at b) c.u64_at-key.ensures in
    let above : IsAbove (option_map (text_at b) c.loop-i.before) (text_at b c.u64_at-key.result) =
    elim c.match-before.branch [
      | in-Some+else-not-is_less w ↦ rw w.in-Some.is ((subst (λ (t : List ℕ). IsTrue w.is_less.result ↔ (text_cmp (text_at t w.in-Some.other) (text_at t c.u64_at-key.result) ≡ Less)) is w.is_less.ensures.less).0 w.if-not-is_less.false)
      | in_default w ↦ rw w.in_default.is tt
    ] in
    let still : c.match-before.repeats ≡ c.args.repeats.now =
    elim c.match-before.branch [
      | in-Some+else-not-is_less w ↦ w.repeats-is ∙ w.is_less.ensures.same ∙ c.loop-i.invariant.same
      | in_default w ↦ w.repeats-is ∙ c.loop-i.invariant.same
    ] in
    let entry = c.loop-i.invariant.entry in
    let ok = c.in_ok-check_value.ensures.ok in
    record {
      same = still;
      entry = omega arith;
      rest = (
        λ h. c.loop-i.invariant.rest.0 (values_back c.args.l.sizes b c.loop-i.entry _ c.args.n c.loop-i.i (omega arith) ok (rw key at above) (rw key at h)),
        λ h. rw key (values_next c.args.l.sizes b c.loop-i.entry _ c.args.n c.loop-i.i (omega arith) (c.loop-i.invariant.rest.1 h)).2,
      );
      last = (c.loop-i.i, refl, rw entry at ok.key, rw entry at c.u64_at-key.ensures);
    }
