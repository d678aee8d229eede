use Rattle.std.proofs.Common.{◌∙◌, subst, sym, Bool, Err, Global, Ok, Vec, ℕ}
use Rattle.hwdb_plan.specs.Files.{IsInputText}
use Rattle.hwdb_spec_commands.specs.declared.unread.Unread.TheVariants as unread
use Rattle.hwdb_tool.proofs.given.input_text.Goals as goal

pub returns-then-any_dash-clause-told : goal.returns-then-any_dash-clause-told
returns-then-any_dash-clause-told g c =
    let told = c.read_input.ensures.told in
    (told.0, told.1, subst (λ (b : Bool). IsInputText (λ (v : Vec ℕ Global). v.items) b told.0 c.read_input.result) (sym (sym c.any_dash.ensures ∙ c.if-any_dash.true)) told.2)

pub returns-else-any_dash-clause-told : goal.returns-else-any_dash-clause-told
returns-else-any_dash-clause-told g c = (
  Err unread.Memory,
  tt,
  subst (λ (b : Bool). IsInputText (λ (v : Vec ℕ Global). v.items) b (Err unread.Memory) (Ok c.new.result)) (sym (sym c.any_dash.ensures ∙ c.if-any_dash.false)) c.new.ensures.items,
)
