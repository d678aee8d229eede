use Rattle.std.proofs.Common.{◌≡◌, ◌∙◌, ◌∷◌, ap, false, inl, inr, subst, ⊎_elim, List, None, Option, Some, Vec, Global, ℕ, []}
use Rattle.hwdb_spec.specs.Lines.{is, pieces}
use Rattle.hwdb_spec_commands.specs.DeviceAsked.{no_device_text}
use Rattle.std.specs.Option.{option_map_or}
use Rattle.hwdb_spec_commands.specs.DeviceFound.{near_given, only, places_meant}
use Rattle.hwdb_spec_commands.specs.Refusals.{IsInWords}
use Rattle.hwdb_exports.specs.declared.export.Export.{Export}
use Rattle.hwdb_spec_commands.specs.Exports.{export_sight}
use Rattle.hwdb_spec_program.specs.DeviceErrors.{asked_names}
use Rattle.hwdb_tool.proofs.DeviceLemmas.{error_kept}
use Rattle.hwdb_tool.proofs.reported.place_else.Goals as goal
use Rattle.hwdb_tool.specs.Reported.{IsUnfoundIn}

-- the places that are meant, of which there is one at most
places : Option (Vec ℕ Global) → List (List ℕ)
places o = option_map_or (λ (place : Vec ℕ Global). place.items ∷ []) o []

one_meant : (meant : List (List ℕ)) (o : Option (Vec ℕ Global)) (place : Vec ℕ Global) → meant ≡ places o → o ≡ Some place → only meant ≡ Some place.items
unfolding places
one_meant meant o place are is = ap only (are ∙ ap places is)

none_meant : (meant : List (List ℕ)) (o : Option (Vec ℕ Global)) → meant ≡ places o → o ≡ None → meant ≡ []
unfolding places
none_meant meant o are is = are ∙ ap places is

pub returns-in_err-place-clause-refused : goal.returns-in_err-place-clause-refused
returns-in_err-place-clause-refused c = λ unfound.
    error_kept (IsUnfoundIn c.args.sys.now c.args.given.now (export_sight c.args.export.now.bytes.now)) c.in_err-place.field-0.0 c.from_residual.result c.from_residual.ensures.1
    (⊎_elim (λ memory. inl memory) (λ several. inr (inr several)) (c.in_err-place.ensures.several tt [] unfound))

pub returns-clause-refused : goal.returns-clause-refused
unfolding places
returns-clause-refused c = λ unfound.
    let meant = places_meant (export_sight c.args.export.now.bytes.now) asked_names [] c.args.sys.now c.args.given.now in
    let given = c.args.given.now in
    let sysfs = c.for_rules-sysfs.result in
    let sight = export_sight c.args.export.now.bytes.now in
    let near = ap (λ (e : Export). near_given (export_sight e.bytes.now) (pieces (is 10) sysfs.names.now) sysfs.folder.now given) c.for_rules-sysfs.ensures.files
    ∙ ap (λ names. near_given sight names sysfs.folder.now given) c.for_rules-sysfs.ensures.names
    ∙ ap (λ folder. near_given sight asked_names folder given) c.for_rules-sysfs.ensures.folder in
    inr (inl (
      none_meant meant c.in_ok-place.field-0 (c.in_ok-place.ensures.meant tt [] unfound) c.in-None.is,
      subst (λ (n : List ℕ). IsInWords (no_device_text false given [] n) c.no_device.result) near (c.no_device.ensures.said tt),
    ))

pub returns-in-Some-clause-found : goal.returns-in-Some-clause-found
unfolding places
returns-in-Some-clause-found c = λ unfound.
    let meant = places_meant (export_sight c.args.export.now.bytes.now) asked_names [] c.args.sys.now c.args.given.now in
    one_meant meant c.in_ok-place.field-0 c.in-Some.place (c.in_ok-place.ensures.meant tt [] unfound) c.in-Some.is
