use Rattle.std.proofs.Common.{◌≡◌, ◌≢◌, ◌⊎◌, inl, inr, ◌+◌, List, ℕ, get_or, ap, ◌∙◌, arith, subst}
use Rattle.hwdb_spec.specs.Assignment.{text_cmp}
use Rattle.hwdb_spec.specs.Format.{text_at}
use Rattle.hwdb_reader.specs.Internal.Repeats.{AgreeInside}
use Rattle.hwdb_reader.proofs.CopyLemmas.{false_true}
use Rattle.hwdb_reader.proofs.AgreeLemmas.{agree_one, less_of_bytes, ends_of_bytes, not_less_itself}
use Rattle.hwdb_reader.proofs.repeats.Repeats.is_less.Goals as goal
use Rattle.hwdb_reader.proofs.repeats.Repeats.is_less.Goals.{then-x-y-via-then-x-y, then-x-y-via-else-x-y+then-x-eq0}

pub returns-then-x-y-clause-less : goal.returns-then-x-y-clause-less
returns-then-x-y-clause-less c =
    let is : c.self.inside.bytes.now ≡ c.args.self.now = c.self.view_is in
    let left = subst (λ (b : List ℕ). c.byte_at-x.result ≡ get_or b (c.args.left + c.loop-n.n) 0) is c.byte_at-x.ensures in
    let right = subst (λ (b : List ℕ). c.byte_at-y.result ≡ get_or b (c.args.right + c.loop-n.n) 0) is c.byte_at-y.ensures in
    let differ : (c.byte_at-x.result ≢ c.byte_at-y.result) ⊎ (c.byte_at-x.result ≡ 0) =
    elim c.then-x-y.branch [
      | then-x-y-via-then-x-y w ↦ inl w.if-x-y.true
      | then-x-y-via-else-x-y+then-x-eq0 w ↦ inr w.if-x-eq0.true
    ] in
    less_of_bytes c.args.self.now c.args.left c.args.right c.loop-n.n c.byte_at-x.result c.byte_at-y.result
    (subst (λ (b : List ℕ). AgreeInside b c.args.left c.args.right c.loop-n.n) is c.loop-n.invariant)
    left right (ends_of_bytes _ _ _ _ left right differ)

pub loop-n-preserved : goal.loop-n-preserved
loop-n-preserved c =
    agree_one c.self.inside.bytes.now c.args.left c.args.right c.loop-n.n c.loop-n.invariant (omega arith) (λ none. absurd (omega (arith, none)))

pub returns-then-left-right-clause-less : goal.returns-then-left-right-clause-less
returns-then-left-right-clause-less c = (
  λ t. absurd (false_true t),
  λ less. absurd (not_less_itself (text_at c.args.self.now c.args.left) (ap (λ p. text_cmp (text_at c.args.self.now c.args.left) (text_at c.args.self.now p)) c.if-left-right.true ∙ less)),
)

pub returns-clause-less : goal.returns-clause-less
returns-clause-less c =
    let is : c.self.inside.bytes.now ≡ c.args.self.now = c.self.view_is in
    less_of_bytes c.args.self.now c.args.left c.args.right c.agreeing-count.result c.byte_at.result c.byte_at-2.result
    c.agreeing-count.ensures.agree
    (subst (λ (b : List ℕ). c.byte_at.result ≡ get_or b (c.args.left + c.agreeing-count.result) 0) is c.byte_at.ensures)
    (subst (λ (b : List ℕ). c.byte_at-2.result ≡ get_or b (c.args.right + c.agreeing-count.result) 0) is c.byte_at-2.ensures)
    c.agreeing-count.ensures.ends
