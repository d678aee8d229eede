use Rattle.std.proofs.Common.{◌∙◌, ◌∷◌, [], ◌++◌, ap, sym, Some, None}
use Rattle.std.proofs.lemmas.Bool.Decides.{Decides-eqb}
use Rattle.std.proofs.lemmas.Slice.Eq.{strip_prefix_is}
use Rattle.hwdb_system.proofs.MemoryLemmas.{name_of_path, no_name}
use Rattle.hwdb_system.proofs.memory.name_in.Goals as goal

pub returns-in-Some : goal.returns-in-Some
returns-in-Some c =
    let rest = c.in-Some.rest.now in
    let first = strip_prefix_is Decides-eqb c.args.path.now c.as_bytes.result.now (Some c.in-Some.rest) c.in-Some.ensures.cases in
    name_of_path c.args.folder.now c.args.path.now rest c.strip_prefix-in-Some.result (first ∙ ap (λ l. l ++ rest) c.as_bytes.ensures.value)
    (strip_prefix_is Decides-eqb rest (47 ∷ []) c.strip_prefix-in-Some.result c.strip_prefix-in-Some.ensures.cases)

pub returns-in-None : goal.returns-in-None
returns-in-None c =
    no_name c.args.folder.now c.args.path.now
    (λ rest is. strip_prefix_is Decides-eqb c.args.path.now c.as_bytes.result.now None c.in-None.ensures.cases rest (is ∙ ap (λ l. l ++ rest) (sym c.as_bytes.ensures.value)))
