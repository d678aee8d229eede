use Rattle.std.proofs.Common.{inl, inr, ⊎_elim}
use Rattle.hwdb_spec_commands.specs.SysfsAnswers.{sight_by}
use Rattle.hwdb_spec_program.specs.DeviceErrors.{IsNoDevice}
use Rattle.hwdb_tool.proofs.DeviceLemmas.{error_kept}
use Rattle.hwdb_tool.proofs.missing.place_else.Goals as goal

pub returns-in_err-place-clause-refused : goal.returns-in_err-place-clause-refused
returns-in_err-place-clause-refused g c = λ tells root unfound.
    error_kept (IsNoDevice root c.args.sys.now c.args.given.now (sight_by g.F.DeviceFiles.answers c.args.files.now)) c.in_err-place.field-0.0 c.from_residual.result c.from_residual.ensures.1
    (⊎_elim (λ memory. inl memory) (λ several. inr (inr (inr several))) (c.in_err-place.ensures.several tells root unfound))
