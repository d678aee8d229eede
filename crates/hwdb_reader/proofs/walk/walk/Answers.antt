use Rattle.std.proofs.Common.{◌≡◌, ◌↔◌, ◌∙◌, ap, sym, subst, [], ◌∷◌, List, ℕ}
use Rattle.hwdb_spec.specs.Format.{max_levels}
use Rattle.hwdb_reader.specs.Internal.Placed.{visit, IsSoundNode}
use Rattle.hwdb_reader.specs.Internal.Walks.{AreOpen, ToCome, last_end}
use Rattle.hwdb_reader.proofs.WalkLemmas.{first_opens, first_sound}
use Rattle.hwdb_reader.proofs.walk.walk.Goals as goal

pub loop-last-init : goal.loop-last-init
loop-last-init c =
    let nodes : c.push.new.self ≡ (c.args.off, 0) ∷ [] = c.push.ensures ∙ ap (λ (rest : List (ℕ × ℕ)). (c.args.off, 0) ∷ rest) c.new-path.ensures in
    let sound = c.in_ok-check_record.ensures.ok in
    record {
      kept = c.in_ok-check_record.ensures.same ∙ c.new-repeats.ensures;
      stand = subst (λ (now : List (ℕ × ℕ)). AreOpen c.args.l.sizes c.args.b.now now c.args.from) (sym nodes)
          (first_opens c.args.l.sizes c.args.b.now c.args.from c.args.off c.args.limit sound c.requires.visited c.requires.inside);
      sound = subst (λ (now : List (ℕ × ℕ)). ToCome c.args.l.sizes c.args.b.now now c.args.from ↔ IsSoundNode c.args.l.sizes c.args.b.now (visit max_levels c.args.from c.args.off c.args.limit)) (sym nodes)
          (first_sound c.args.l.sizes c.args.b.now c.args.from c.args.off c.args.limit sound);
      end = ap (λ (now : List (ℕ × ℕ)). last_end c.args.l.sizes c.args.b.now now c.args.from) nodes;
    }
