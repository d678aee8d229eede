use Rattle.std.proofs.Common.{ap, map, string_bytes, sym, true, false, ◌==◌, ◌∙◌, ◌≡◌, length, ℕ}
use Rattle.std.proofs.lemmas.List.{length-map}
use Rattle.hwdb_plan.specs.Lemmas.Sides.{no_own, some_own}
use Rattle.hwdb_tool.proofs.SidePlanLemmas.{items}
use Rattle.hwdb_tool.proofs.sides.own_texts.Goals as goal

pub returns-then-no_names : goal.returns-then-no_names
returns-then-no_names g c = record {
  told = λ tells.
      let found = map string_bytes c.args.names.now in
      let is : (length found == 0) ≡ true = ap (λ (n : ℕ). n == 0) (length-map c.args.names.now string_bytes) ∙ sym c.no_names.ensures ∙ c.if-no_names.true in
      no_own (g.D.System.reads c.args.system.now) items c.args.path.now found c.refused_folder.result is c.refused_folder.ensures;
}

pub returns-else-no_names : goal.returns-else-no_names
returns-else-no_names g c = record {
  told = λ tells.
      let found = map string_bytes c.args.names.now in
      let is : (length found == 0) ≡ false = ap (λ (n : ℕ). n == 0) (length-map c.args.names.now string_bytes) ∙ sym c.no_names.ensures ∙ c.if-no_names.false in
      some_own (g.D.System.reads c.args.system.now) items c.args.path.now found c.named_texts.result is (c.named_texts.ensures.told tells);
}
