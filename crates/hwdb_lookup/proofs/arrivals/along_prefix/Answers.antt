use Rattle.std.proofs.Common.{◌≡◌, ◌∙◌, ◌+◌, ◌++◌, List, ℕ, ap, sym, subst, arith, length, append_assoc, append-nil, eqb-true}
use Rattle.hwdb_pattern.specs.Views.{StandsFor}
use Rattle.hwdb_spec.specs.Tree.{IsLive}
use Rattle.hwdb_spec.specs.Format.{text_at}
use Rattle.hwdb_lookup.proofs.TextLemmas.{piece_and_rest, piece_ends}
use Rattle.hwdb_lookup.proofs.TreeLemmas.{dead_before}
use Rattle.hwdb_lookup.proofs.arrivals.along_prefix.Goals as goal

pub feeding-preserved : goal.feeding-preserved
feeding-preserved c =
    let path = c.feeding.path.items in
    let piece = c.in_ok-piece.piece.now in
    let longer : c.extend_from_slice.new.self.items ≡ path ++ piece = c.in_ok-extend_from_slice.ensures.items in
    let within = c.in_ok-piece.ensures.within in
    let above = c.feeding.invariant.above in
    record {
      within = omega (arith, within);
      above = omega (arith, above);
      stands = subst (StandsFor c.in_ok-reach.reach) (sym longer) (c.in_ok-reach.ensures.path path c.feeding.invariant.stands);
      same_device = c.in_ok-reach.ensures.device ∙ c.feeding.invariant.same_device;
      whole = λ file m.
          ap (λ (l : List ℕ). l ++ text_at file (c.feeding.at + length piece)) longer
          ∙ append_assoc path piece (text_at file (c.feeding.at + length piece))
          ∙ ap (λ (l : List ℕ). path ++ l) (piece_and_rest file piece c.feeding.at c.max.result (c.in_ok-piece.ensures.read file m))
          ∙ c.feeding.invariant.whole file m;
    }

pub returns-then-is_empty-clause-fed : goal.returns-then-is_empty-clause-fed
returns-then-is_empty-clause-fed c file m =
    let path = c.feeding.path.items in
    let piece = c.in_ok-piece.piece.now in
    let none : length piece ≡ 0 = eqb-true (length piece) 0 (sym c.is_empty.ensures ∙ c.if-is_empty.true) in
    let most = c.max.ensures in
    let ends = piece_ends (text_at file c.feeding.at) piece c.max.result (c.in_ok-piece.ensures.read file m) (omega (arith, most)) none in
    record {
      path_is = sym (ap (λ (l : List ℕ). path ++ l) ends ∙ append-nil path) ∙ c.feeding.invariant.whole file m;
      same_device = c.feeding.invariant.same_device;
    }

pub returns-clause-fed : goal.returns-clause-fed
returns-clause-fed c file m =
    let path = c.feeding.path.items in
    let whole = c.args.path.now.items ++ text_at file c.args.prefix in
    subst (λ (d : List ℕ). IsLive whole d → ⊥) c.feeding.invariant.same_device
    (dead_before c.feeding.reach.device path (text_at file c.feeding.at) whole _ c.path_laws.ensures.longer (c.feeding.invariant.whole file m)
    c.feeding-test.false (c.is_alive.ensures path c.feeding.invariant.stands))
