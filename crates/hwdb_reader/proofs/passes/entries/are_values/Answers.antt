use Rattle.std.proofs.Common.{◌≡◌, ◌-◌, ◌+◌, ◌*◌, ◌∙◌, suc, None, MatchOption, sym, refl, subst, arith, Less, length}
use Rattle.hwdb_spec.specs.Assignment.{text_cmp}
use Rattle.hwdb_spec.specs.Format.{text_at}
use Rattle.hwdb_reader.specs.Passes.Internal.{IsInside}
use Rattle.hwdb_reader.specs.Passes.Lemmas.Parts.{number_is}
use Rattle.hwdb_reader.proofs.passes.EntryLemmas.{values_none, values_more, values_all, stepped, ended}
use Rattle.hwdb_reader.proofs.passes.entries.are_values.Goals as goal

pub loop-i-init : goal.loop-i-init
loop-i-init c = record {
  within = omega arith;
  entry = refl;
  inside = tt;
  stand = λ file at is p. values_none c.args.o.frame.sizes file (at + (c.args.first + c.args.o.frame.sizes.value_size * c.args.n)) c.args.n c.args.n None (omega arith);
}

pub loop-i-preserved-else-not-is_less : goal.loop-i-preserved-else-not-is_less
loop-i-preserved-else-not-is_less c =
    let l = c.args.o.frame.sizes in
    let some = c.loop-i-test.true in
    let within = c.loop-i.invariant.within in
    let more : c.loop-i.i ≡ suc (c.loop-i.i - 1) = omega (arith, some) in
    let step = stepped c.args.first l.value_size c.args.n c.loop-i.i (c.loop-i.i - 1) c.loop-i.entry (length c.args.piece.now) more within c.args.o.frame.value_fields c.loop-i.invariant.entry c.requires in
    let back = step.1 in
    let room = step.2 in
    record {
      within = omega (arith, within);
      entry = step.0;
      inside = subst (λ j. IsInside c.args.o j) (sym c.u64_at-key.ensures) (c.is_value.ensures.key c.if-not-is_value.false);
      stand = λ file at is p.
          let less : MatchOption c.loop-i.next (Unit {0}) (λ other. text_cmp (text_at file c.u64_at-key.result) (text_at file other) ≡ Less) = rw c.in-Some.is (c.is_less.ensures c.if-not-is_less.false file is) in
          values_more l file (at + (c.loop-i.entry - l.value_size)) (at + c.loop-i.entry) c.args.n c.loop-i.i (c.loop-i.i - 1) c.u64_at-key.result c.loop-i.next more within (omega (arith, back))
          (c.is_value.ensures.sound c.if-not-is_value.false file at is p)
          (c.u64_at-key.ensures ∙ number_is file c.args.piece.now at 8 (c.loop-i.entry - l.value_size) (at + (c.loop-i.entry - l.value_size)) p (omega (arith, room)) refl)
          less (c.loop-i.invariant.stand file at is p);
    }

pub loop-i-preserved : goal.loop-i-preserved
loop-i-preserved c =
    let l = c.args.o.frame.sizes in
    let some = c.loop-i-test.true in
    let within = c.loop-i.invariant.within in
    let more : c.loop-i.i ≡ suc (c.loop-i.i - 1) = omega (arith, some) in
    let step = stepped c.args.first l.value_size c.args.n c.loop-i.i (c.loop-i.i - 1) c.loop-i.entry (length c.args.piece.now) more within c.args.o.frame.value_fields c.loop-i.invariant.entry c.requires in
    let back = step.1 in
    let room = step.2 in
    record {
      within = omega (arith, within);
      entry = step.0;
      inside = subst (λ j. IsInside c.args.o j) (sym c.u64_at-key.ensures) (c.is_value.ensures.key c.if-not-is_value.false);
      stand = λ file at is p.
          let less : MatchOption c.loop-i.next (Unit {0}) (λ other. text_cmp (text_at file c.u64_at-key.result) (text_at file other) ≡ Less) = rw c.in_default.is tt in
          values_more l file (at + (c.loop-i.entry - l.value_size)) (at + c.loop-i.entry) c.args.n c.loop-i.i (c.loop-i.i - 1) c.u64_at-key.result c.loop-i.next more within (omega (arith, back))
          (c.is_value.ensures.sound c.if-not-is_value.false file at is p)
          (c.u64_at-key.ensures ∙ number_is file c.args.piece.now at 8 (c.loop-i.entry - l.value_size) (at + (c.loop-i.entry - l.value_size)) p (omega (arith, room)) refl)
          less (c.loop-i.invariant.stand file at is p);
    }

pub returns : goal.returns
returns c t file at is p =
    let l = c.args.o.frame.sizes in
    let test = c.loop-i-test.false in
    let none : c.loop-i.i ≡ 0 = omega (arith, test) in
    values_all l file (at + c.args.first) (at + c.loop-i.entry) c.args.n c.loop-i.i c.loop-i.next none (ended c.args.first l.value_size c.loop-i.i c.loop-i.entry at none c.loop-i.invariant.entry)
    (c.loop-i.invariant.stand file at is p)
