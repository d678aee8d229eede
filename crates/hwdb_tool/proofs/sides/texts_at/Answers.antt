use Rattle.std.proofs.Common.{[], ap, map, string_bytes, ◌∙◌, ◌≡◌, ◌∷◌, subst, List, Global, Vec, ℕ, Ok, Err}
use Rattle.hwdb_check.specs.Checks.{source_of}
use Rattle.hwdb_spec_commands.specs.Sides.{as_etc}
use Rattle.hwdb_tool.proofs.FileLemmas.{are_files}
use Rattle.hwdb_plan.specs.Files.{ReachesFiles, read_files}
use Rattle.hwdb_plan.specs.Lemmas.Sides.{files_then, files_then_stop, memory_reached}
use Rattle.hwdb_plan.specs.Plans.{Plan}
use Rattle.hwdb_plan.specs.Sides.{made_at as plan_at, made_of}
use Rattle.hwdb_spec.specs.Folders.{Source}
use Rattle.hwdb_tool.proofs.SidePlanLemmas.{items, side_made}
use Rattle.hwdb_tool.proofs.sides.texts_at.Goals as goal

abbrev texts_of : Vec (Vec ℕ Global) Global → List (List ℕ)
texts_of v = map (λ t. t.items) v.items

abbrev made : List Source → (List ℕ → Plan) → Plan
made sources = made_of (map as_etc sources) []

pub returns : goal.returns
returns g c = record {
  told = λ tells.
      let w = g.D.System.reads c.args.system.now in
      let own = map string_bytes c.args.own.now in
      let files = c.deref-3.result.now in
      let words : map string_bytes c.deref.result.now ≡ c.args.path.now ∷ [] = ap (map string_bytes) c.deref.ensures.value ∙ c.in_ok-words.ensures in
      let told = subst (λ (l : List (List ℕ)). ReachesFiles texts_of own w (read_files l [] own []) (Ok c.in_ok-texts.texts)) words (c.in_ok-texts.ensures.told tells) in
      let named : map (λ f. f.path.now) files ≡ own = ap (map (λ f. f.path.now)) c.deref-3.ensures.value ∙ c.in_ok-files.ensures.paths in
      let held : map (λ f. f.bytes.now) files ≡ texts_of c.in_ok-texts.texts =
      ap (map (λ f. f.bytes.now)) c.deref-3.ensures.value ∙ c.in_ok-files.ensures.bytes ∙ ap (map (λ t. t.items)) c.deref-2.ensures.value in
      files_then w texts_of own items (read_files (c.args.path.now ∷ []) [] own []) made c.in_ok-texts.texts (map source_of files) c.database_of_texts.result told (are_files files own _ named held)
      (side_made w (map as_etc (map source_of files)) [] c.database_of_texts.result c.database_of_texts.ensures.made c.database_of_texts.ensures.refused);
}

pub returns-in_err-words : goal.returns-in_err-words
returns-in_err-words g c = record {
  told = λ tells.
      memory_reached (g.D.System.reads c.args.system.now) items (plan_at c.args.path.now (map string_bytes c.args.own.now)) c.from_residual.result c.from_residual.ensures.1;
}

pub returns-in_err-texts : goal.returns-in_err-texts
returns-in_err-texts g c = record {
  told = λ tells.
      let w = g.D.System.reads c.args.system.now in
      let own = map string_bytes c.args.own.now in
      let r = c.in_err-texts.field-0.0 in
      let words : map string_bytes c.deref.result.now ≡ c.args.path.now ∷ [] = ap (map string_bytes) c.deref.ensures.value ∙ c.in_ok-words.ensures in
      let told = subst (λ (l : List (List ℕ)). ReachesFiles texts_of own w (read_files l [] own []) (Err r)) words (c.in_err-texts.ensures.told tells) in
      files_then_stop w texts_of own items (read_files (c.args.path.now ∷ []) [] own []) made r c.from_residual-in_err-texts.result told c.from_residual-in_err-texts.ensures.1;
}

pub returns-in_err-files : goal.returns-in_err-files
returns-in_err-files g c = record {
  told = λ tells.
      memory_reached (g.D.System.reads c.args.system.now) items (plan_at c.args.path.now (map string_bytes c.args.own.now)) c.from_residual-in_err-files.result c.from_residual-in_err-files.ensures.1;
}
