use Rattle.std.proofs.Common.{[], Bool, false, inl, refl, subst, true, Global, List, Ok, Vec, ℕ}
use Rattle.hwdb_plan.specs.Lemmas.Folders.{value_stops, value_then}
use Rattle.hwdb_plan.specs.Lemmas.Update.{handed_on}
use Rattle.hwdb_plan.specs.Plans.{Ends}
use Rattle.hwdb_plan.specs.Update.{loss_of, lost_in}
use Rattle.hwdb_spec_commands.specs.Asked.{database_path}
use Rattle.hwdb_tool.proofs.EmptyingLemmas.{text_lost, usr_looked}
use Rattle.hwdb_spec.specs.declared.errors.ToolError.TheVariants.{Memory}
use Rattle.hwdb_spec_commands.specs.declared.refusals.Refusal.TheVariants.{Plain}
use Rattle.hwdb_tool.proofs.emptied.loss_of_empty.Goals as goal

pub returns-in_err-etc_lost : goal.returns-in_err-etc_lost
returns-in_err-etc_lost g c = record {
  follows = λ tells.
      let w = g.D.System.reads c.args.system.now in
      let root = c.args.root.now in
      value_stops w (λ (b : Bool). b) (λ (v : Vec ℕ Global). v.items) (lost_in (database_path false root)) (usr_looked root c.args.usr) c.in_err-etc_lost.field-0.0 c.from_residual.result
      (c.in_err-etc_lost.ensures.follows tells) c.from_residual.ensures.1;
}

pub returns-in_err-usr_lost : goal.returns-in_err-usr_lost
returns-in_err-usr_lost g c = record {
  follows = λ tells.
      let w = g.D.System.reads c.args.system.now in
      let root = c.args.root.now in
      let items = λ (v : Vec ℕ Global). v.items in
      value_then w (λ (b : Bool). b) items (lost_in (database_path false root)) (usr_looked root c.args.usr) c.in_ok-etc_lost.etc_lost c.from_residual-in_err-usr_lost.result
      (c.in_ok-etc_lost.ensures.follows tells)
      (value_stops w (λ (b : Bool). b) items (lost_in (database_path true root)) (text_lost root c.args.usr c.in_ok-etc_lost.etc_lost) c.in_err-usr_lost.field-0.0 c.from_residual-in_err-usr_lost.result
      (c.in_err-usr_lost.ensures.follows tells) c.from_residual-in_err-usr_lost.ensures.1);
}

pub returns-in_err-text : goal.returns-in_err-text
returns-in_err-text g c = record {
  follows = λ tells.
      handed_on (λ (v : Vec ℕ Global). v.items) (g.D.System.reads c.args.system.now) (loss_of [] c.args.root.now c.args.usr) (Plain Memory) c.from_residual-in_err-text.result (inl refl) c.from_residual-in_err-text.ensures.1;
}

pub returns : goal.returns
returns g c = record {
  follows = λ tells.
      let w = g.D.System.reads c.args.system.now in
      let root = c.args.root.now in
      let items = λ (v : Vec ℕ Global). v.items in
      let etc = c.in_ok-etc_lost.etc_lost in
      let of_usr = c.in_ok-usr_lost.usr_lost in
      let text = c.in_ok-text.text in
      value_then w (λ (b : Bool). b) items (lost_in (database_path false root)) (usr_looked root c.args.usr) etc (Ok text) (c.in_ok-etc_lost.ensures.follows tells)
      (value_then w (λ (b : Bool). b) items (lost_in (database_path true root)) (text_lost root c.args.usr etc) of_usr (Ok text) (c.in_ok-usr_lost.ensures.follows tells)
      (λ next e ends. subst (λ (t : List ℕ). Ends w (next t) e) c.in_ok-text.ensures ends));
}
