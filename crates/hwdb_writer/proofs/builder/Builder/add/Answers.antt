use Rattle.std.proofs.Common.{◌<◌, ◌≤◌, length, sym, subst, ap, arith}
use Rattle.hwdb_writer.specs.declared.builder.Builder.{Builder}
use Rattle.hwdb_writer.specs.Internal.Spine.{MeetAt, Opens, IsClosable, Counts}
use Rattle.hwdb_writer.proofs.BuildLemmas.{added_here, added_leaf}
use Rattle.hwdb_writer.proofs.builder.Builder.add.Goals.{then-at-pattern+in_ok-close_to+in_ok-open, else-at-pattern}
use Rattle.hwdb_writer.proofs.builder.Builder.add.Goals as goal

pub add_value-requires : goal.add_value-requires
add_value-requires c =
    let fits = c.requires.fits in
    elim c.if-at-pattern.branch [
      | then-at-pattern+in_ok-close_to+in_ok-open w ↦ let k = ap (λ (b : Builder). b.top.node.count) w.self-is in let z = w.in_ok-open.ensures.count in omega (arith, k, z)
      | else-at-pattern w ↦ let k = ap (λ (b : Builder). b.top.node.count) w.self-is in let n = c.requires.next.3.counted in omega (arith, k, n, fits)
    ]

pub open-requires : goal.open-requires
open-requires c =
    let k = c.requires.next in
    let closable : IsClosable k.0 c.args.self.now k.1 = record { nodes = k.3.nodes; forked = k.3.forked } in
    let t = c.in_ok-close_to.ensures k.0 k.1 closable in
    omega (arith, t.1.end, c.if-at-pattern.true)

pub returns : goal.returns
returns c = λ es fs e built next same.
    let meet : MeetAt c.common-at.result c.args.self.now.path.now e.pattern.now = subst (MeetAt c.common-at.result c.args.self.now.path.now) (sym same) c.common-at.ensures.meeting in
    let new = c.add_value.new.self in
    elim c.if-at-pattern.branch [
      | then-at-pattern+in_ok-close_to+in_ok-open w ↦
          let closable : IsClosable es c.args.self.now fs = record { nodes = built.nodes; forked = built.forked } in
          let t = w.in_ok-close_to.ensures es fs closable in
          let opens = subst (λ p. Opens p c.args.number w.close_to.new.self w.open.new.self) (sym same) w.in_ok-open.ensures in
          let less = subst (λ p. c.common-at.result < length p) (sym same) w.if-at-pattern.true in
          let counts = subst (λ (b : Builder). Counts b new) w.self-is c.add_value.ensures in
          added_leaf es c.args.number e next c.args.self.now w.close_to.new.self w.open.new.self new fs t.0 built c.common-at.result meet less t.1 opens counts
      | else-at-pattern w ↦
          let counts = subst (λ (b : Builder). Counts b new) w.self-is c.add_value.ensures in
          let ge = subst (λ p. length p ≤ c.common-at.result) (sym same) w.if-at-pattern.false in
          let le = subst (λ p. c.common-at.result ≤ length p) (sym same) c.common-at.ensures.second in
          added_here es c.args.number e next c.args.self.now new fs built counts c.common-at.result meet ge le
    ]
