use Rattle.std.proofs.Common.{◌∙◌, ap, sym, subst, map, All}
use Rattle.hwdb_text.specs.Views.{given_in, IsStorable, HasNoZero, origin}
use Rattle.hwdb_compile.proofs.GatherLemmas.{puttable}
use Rattle.hwdb_compile.proofs.compiler.add_file.Goals as goal

pub put_all-requires : goal.put_all-requires
put_all-requires c =
    let o = origin c.args.path.now c.args.file.now.priority in
    let same = ap (map (given_in o)) c.deref.ensures.value in
    puttable o c.args.bytes.now _ (same ∙ c.in_ok-scanned.ensures.assignments o)
    (subst (All IsStorable) (sym same) (c.in_ok-scanned.ensures.storable o))
    (subst HasNoZero (sym c.requires.path) c.requires.storable.path) c.requires.storable.priority
