use Rattle.std.proofs.Common.{◌≡◌, ◌∙◌, ◌-◌, ◌+◌, ℕ, suc, false, ap, arith, map, refl, subst, sym}
use Rattle.std.proofs.lemmas.List.{length-map, length-set}
use Rattle.hwdb_spec.specs.Patterns.{token_at}
use Rattle.hwdb_samples.specs.Internal.{token_of}
use Rattle.hwdb_samples.proofs.OverlapLemmas.{RowSoFar, dropped_token, own_value, row_next, row_done}
use Rattle.hwdb_samples.proofs.overlap.next_row.Goals as goal

pub loop-at-preserved : goal.loop-at-preserved
loop-at-preserved c =
    let i = c.loop-at.at - 1 in
    let le = c.loop-at.invariant.within in
    let size = c.loop-at.invariant.size in
    let back : i + 1 ≡ c.loop-at.at = omega (arith, c.loop-at-test.true) in
    let texts = length-map c.args.under.now token_of in
    record {
      within = omega (arith, le);
      size = length-set _ _ _ ∙ size;
      done =
          row_next c.args.row.now c.loop-at.next.items _ (map token_of c.args.under.now) (token_at c.args.over.now) _ (i + 1) i c.cell.result refl (omega (arith, le, back, texts)) (size ∙ ap suc (sym texts)) refl
          (dropped_token c.args.under.now i (i + 1) _ _ refl (omega (arith, le, back)) refl)
          (λ us qs a b n. c.cell.ensures us qs a b (own_value c.loop-at.next.items (i + 1) c.index.result.now false (omega (arith, size, le, back)) c.index.ensures ∙ n))
          (subst (λ (n : ℕ). RowSoFar c.args.row.now c.loop-at.next.items (map token_of c.args.under.now) (token_at c.args.over.now) n) (sym back) c.loop-at.invariant.done);
    }

pub returns-clause-within : goal.returns-clause-within
returns-clause-within c = λ qs w.
    let none : c.loop-at.at ≡ 0 = omega (arith, c.loop-at-test.false) in
    row_done c.args.row.now c.loop-at.next.items (map token_of c.args.under.now) (token_at c.args.over.now) qs
    (subst (λ (n : ℕ). RowSoFar c.args.row.now c.loop-at.next.items (map token_of c.args.under.now) (token_at c.args.over.now) n) none c.loop-at.invariant.done) w
