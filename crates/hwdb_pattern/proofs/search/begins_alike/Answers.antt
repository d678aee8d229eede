use Rattle.std.proofs.Common.{◌-◌, ◌∙◌, take, sym, arith}
use Rattle.std.specs.Cmp.Lexicographic.{other_text}
use Rattle.hwdb_pattern.proofs.SearchLemmas.{front_byte, front_of}
use Rattle.hwdb_pattern.proofs.search.begins_alike.Goals as goal

pub returns-then-device-plain : goal.returns-then-device-plain
returns-then-device-plain c = λ e m.
    let f = front_of c.args.pattern.now c.args.device.now c.args.plain c.requires.within c.requires.plain m in
    let size = f.size in
    absurd (omega (arith, size, c.if-device-plain.true))

pub returns-then-device-plain-2 : goal.returns-then-device-plain-2
returns-then-device-plain-2 c = λ _ m.
    let f = front_of c.args.pattern.now c.args.device.now c.args.plain c.requires.within c.requires.plain m in
    c.if-device-plain-2.true (front_byte (c.args.plain - 1) (omega (arith, c.if-plain-gt0.true)) f)

pub returns : goal.returns
returns c = λ e m.
    let f = front_of c.args.pattern.now c.args.device.now c.args.plain c.requires.within c.requires.plain m in
    let a = take c.args.plain c.args.device.now in
    let b = take c.args.plain c.args.pattern.now in
    other_text a b (sym e ∙ c.eq.ensures) f.same
