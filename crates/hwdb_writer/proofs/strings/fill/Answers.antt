use Rattle.std.proofs.Common.{◌≡◌, ◌+◌, ◌-◌, ◌^◌, ◌++◌, List, Vec, Global, ℕ, min, length, set, sym, subst, ap, ◌∙◌, refl, arith}
use Rattle.hwdb_spec.specs.Written.{ended}
use Rattle.hwdb_writer.proofs.SectionLemmas.{none_sectioned, new_sectioned, old_sectioned, all_sectioned}
use Rattle.std.proofs.lemmas.List.{length-map, length-set}
use Rattle.hwdb_writer.specs.Internal.Word.{Word, word_of}
use Rattle.hwdb_writer.specs.Internal.Numbered.{texts, bounded_place, distinct, IsReached, IsSectioned}
use Rattle.hwdb_writer.proofs.PlaceLemmas.{rises, nothing_reached, new_reached, old_reached, all_reached, text_in}
use Rattle.hwdb_writer.proofs.TableLemmas.{number_within, texts_sorted, text_at, filled_more, all_filled, reached_as}
use Rattle.hwdb_writer.proofs.strings.fill.Goals as goal
use Rattle.hwdb_writer.proofs.strings.fill.Goals.{then-is_new+in_ok-push_ended, else-is_new}

pub loop-i-init : goal.loop-i-init
loop-i-init c = record {
  long = c.requires.room;
  within = omega arith;
  reached = nothing_reached c.args.first (texts c.args.ordered.now);
  filled = λ j d lt. absurd (omega (arith, lt));
  sectioned = none_sectioned c.args.section.now.items (texts c.args.ordered.now);
}

pub put-requires : goal.put-requires
put-requires c =
    let w = c.index-ordered-i.result in
    let within = number_within c.requires.numbered.0 c.args.ordered.now c.requires.numbered.1 c.requires.numbered.2 c.loop-i.i w c.loop-i-test.true in
    let e = ap (λ (v : Word). v.number) c.index-ordered-i.is in
    omega (arith, within, e, c.number.ensures, c.loop-i.invariant.long)

pub loop-i-preserved : goal.loop-i-preserved
loop-i-preserved c =
    let os = c.args.ordered.now in
    let ts = texts os in
    let i = c.loop-i.i in
    let w = c.index-ordered-i.result in
    let lt = c.loop-i-test.true in
    let n = length-map os word_of in
    let at : text_in ts i ≡ w.word = text_at os i w lt ∙ ap word_of (sym c.index-ordered-i.is) in
    let r : IsReached c.args.first ts (i + 1) c.if-is_new.start c.if-is_new.end = elim c.if-is_new.branch [
      | then-is_new+in_ok-push_ended b ↦ reached_as c.args.first ts (i + 1) _ _ _ _ b.start-is b.end-is
          (new_reached c.args.first ts i c.loop-i.start c.loop-i.end b.len.result b.saturating_add.result b.saturating_add-end.result c.ranges.first.fits (rises ts (texts_sorted os c.requires.sorted)) (omega (arith, lt, n)) b.if-is_new.ensures.yes
          c.loop-i.invariant.reached (b.len.ensures ∙ ap (λ t. min (length t) (2 ^ 64 - 1)) (sym at)) b.saturating_add.ensures b.saturating_add-end.ensures)
      | else-is_new b ↦ reached_as c.args.first ts (i + 1) _ _ _ _ b.start-is b.end-is (old_reached c.args.first ts i c.loop-i.start c.loop-i.end b.if-is_new.ensures.no c.loop-i.invariant.reached)
    ] in
    let e = ap (λ (v : Word). v.number) c.index-ordered-i.is in
    record {
      long = ap length c.put.ensures ∙ length-set c.loop-i.places _ _ ∙ c.loop-i.invariant.long;
      within = omega (arith, lt);
      reached = r;
      filled = filled_more c.requires.numbered.0 os c.requires.numbered.1 c.requires.numbered.2 c.args.first c.loop-i.places c.put.new.places i c.if-is_new.start w lt c.loop-i.invariant.long
          (c.put.ensures ∙ ap (λ k. set c.loop-i.places k c.if-is_new.start) (c.number.ensures ∙ e))
          (r.started i refl ∙ ap (bounded_place c.args.first (distinct ts)) (text_at os i w lt)) c.loop-i.invariant.filled;
      sectioned = elim c.if-is_new.branch [
        | then-is_new+in_ok-push_ended b ↦ subst (λ (l : List ℕ). IsSectioned c.args.section.now.items ts (i + 1) l) (sym (ap (λ (v : Vec ℕ Global). v.items) b.section-is))
            (new_sectioned c.args.section.now.items ts i c.loop-i.section.items b.push_ended.new.out.items (omega (arith, lt, n)) b.if-is_new.ensures.yes (b.in_ok-push_ended.ensures ∙ ap (λ t. c.loop-i.section.items ++ ended t) (sym at)) c.loop-i.invariant.sectioned)
        | else-is_new b ↦ subst (λ (l : List ℕ). IsSectioned c.args.section.now.items ts (i + 1) l) (sym (ap (λ (v : Vec ℕ Global). v.items) b.section-is))
            (old_sectioned c.args.section.now.items ts i c.loop-i.section.items (omega (arith, lt, n)) b.if-is_new.ensures.no c.loop-i.invariant.sectioned)
      ];
    }

pub returns-clause-filled : goal.returns-clause-filled
returns-clause-filled c = λ words numbered moved.
    let os = c.args.ordered.now in
    let ts = texts os in
    let n = length-map os word_of in
    record {
      placed = all_filled words os numbered moved c.args.first c.loop-i.places c.loop-i.invariant.long (λ j d lt. c.loop-i.invariant.filled j d (omega (arith, lt, c.loop-i-test.false)));
      ended = all_reached c.args.first ts c.loop-i.i c.loop-i.start c.loop-i.end c.ranges.first.fits (rises ts (texts_sorted os c.requires.sorted)) (omega (arith, n, c.loop-i.invariant.within, c.loop-i-test.false)) c.loop-i.invariant.reached;
    }

pub returns-clause-section : goal.returns-clause-section
returns-clause-section c =
    let os = c.args.ordered.now in
    let n = length-map os word_of in
    all_sectioned c.args.section.now.items (texts os) c.loop-i.i c.loop-i.section.items (omega (arith, n, c.loop-i.invariant.within)) (omega (arith, n, c.loop-i-test.false)) c.loop-i.invariant.sectioned
