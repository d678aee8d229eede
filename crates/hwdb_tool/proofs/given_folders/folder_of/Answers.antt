use Rattle.std.proofs.Common.{◌++◌, ◌∷◌, ◌∙◌, [], ap, sym, List, ℕ}
use Rattle.hwdb_tool.proofs.GivenFolderLemmas.{cut_slash, kept_whole}
use Rattle.hwdb_tool.proofs.given_folders.folder_of.Goals as goal

pub returns-in-Some : goal.returns-in-Some
returns-in-Some c = cut_slash c.args.path.now c.in-Some.folder.now (c.in-Some.ensures.cases.1.1 ∙ ap (λ (l : List ℕ). l ++ 47 ∷ []) (sym c.in-Some.ensures.cases.2))

pub returns-in-None : goal.returns-in-None
returns-in-None c = kept_whole c.args.path.now c.in-None.ensures.cases
