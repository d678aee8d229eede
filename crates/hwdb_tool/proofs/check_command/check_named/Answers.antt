use Rattle.std.proofs.Common.{◌≡◌, false, map, option_map, string_bytes, subst, sym, Err, Global, List, Result, String, Vec, [], ℕ}
use Rattle.hwdb_spec_commands.specs.Given.{any_dash}
use Rattle.hwdb_spec_commands.specs.declared.unread.Unread.{Unread}
use Rattle.hwdb_spec_commands.specs.declared.unread.Unread.TheVariants as unread
use Rattle.hwdb_plan.specs.Check.{said_of}
use Rattle.hwdb_plan.specs.Files.{OfInput, given_files}
use Rattle.hwdb_plan.specs.GivenFolders.{named_files}
use Rattle.hwdb_plan.specs.Lemmas.Folders.{value_ends, value_ends_in}
use Rattle.hwdb_plan.specs.Plans.{Follows, Plan}
use Rattle.hwdb_plan.specs.Plans.Plan.{Done}
use Rattle.hwdb_tool.specs.Views.{end_of}
use Rattle.hwdb_tool.proofs.check_command.check_named.Goals as goal

pub returns-clause-unread : goal.returns-clause-unread
returns-clause-unread g c = λ none.
    c.check_given.ensures.unread (subst (λ l. any_dash (map string_bytes l) ≡ false) (sym c.deref.ensures.value) (c.in_ok-paths.ensures.plain none))

pub returns-in_err-paths-clause-follows : goal.returns-in_err-paths-clause-follows
returns-in_err-paths-clause-follows g c = λ tells.
    let given = map string_bytes c.args.given.now in
    let next : Result (List ℕ) Unread → List (List ℕ) → Plan = λ told paths. given_files given told paths (λ sources. Done (said_of c.args.format c.args.strict (map string_bytes c.args.allowed.now) (option_map (λ t. t.now) c.args.name) (map (λ t. t.items) c.args.known.now) sources)) in (
      Err unread.Memory,
      tt,
      value_ends_in (g.D.System.reads c.args.system.now) (λ (v : Vec (String Global) Global). map string_bytes v.items) end_of (named_files given []) (next (Err unread.Memory)) c.in_err-paths.field-0.0
          c.from_residual.result (c.in_err-paths.ensures.told tells) c.from_residual.ensures.1,
    )

pub returns-clause-follows : goal.returns-clause-follows
returns-clause-follows g c = λ tells.
    let w = g.D.System.reads c.args.system.now in
    let given = map string_bytes c.args.given.now in
    let next : Result (List ℕ) Unread → List (List ℕ) → Plan = λ told paths. given_files given told paths (λ sources. Done (said_of c.args.format c.args.strict (map string_bytes c.args.allowed.now) (option_map (λ t. t.now) c.args.name) (map (λ t. t.items) c.args.known.now) sources)) in
    let told = subst (λ l. OfInput (g.I.Source.left c.args.input.now) (g.I.Source.failures c.args.input.now) (g.I.Source.failures c.check_given.new.input)
    (λ told. Follows end_of w (next told (map string_bytes l)) c.check_given.result)) c.deref.ensures.value (c.check_given.ensures.follows tells) in (
      told.0,
      told.1,
      value_ends w (λ (v : Vec (String Global) Global). map string_bytes v.items) end_of (named_files given []) (next told.0) c.in_ok-paths.paths c.check_given.result (c.in_ok-paths.ensures.told tells) told.2,
    )
