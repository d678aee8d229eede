use Rattle.std.proofs.Common.{map, string_bytes, subst, sym, Vec, Global, List, [], ℕ}
use Rattle.hwdb_plan.specs.Files.{ReachesFiles, read_files}
use Rattle.hwdb_plan.specs.Lemmas.Files.{files_end, input_ends}
use Rattle.hwdb_tool.proofs.CheckLemmas.{IsShort, given_texts_are, told_of}
use Rattle.hwdb_tool.proofs.check_command.given_texts.Goals as goal

pub returns-in_err-text-clause-told : goal.returns-in_err-text-clause-told
returns-in_err-text-clause-told g c = λ tells.
    let told = c.in_err-text.ensures.told in (
      told.0,
      told.1,
      input_ends (g.D.System.reads c.args.system.now) (map string_bytes c.args.words.now) (map string_bytes c.args.given.now) told.0 (λ (v : Vec ℕ Global). v.items) (λ (v : Vec (Vec ℕ Global) Global). map (λ t. t.items) v.items)
          c.in_err-text.field-0.0 c.from_residual.result told.2 c.from_residual.ensures.1,
    )

pub returns-clause-told : goal.returns-clause-told
returns-clause-told g c = λ tells.
    let told = c.in_ok-text.ensures.told in
    let w = g.D.System.reads c.args.system.now in
    let words = map string_bytes c.args.words.now in
    let given = map string_bytes c.args.given.now in
    let texts = λ (v : Vec (Vec ℕ Global) Global). map (λ t. t.items) v.items in (
      told.0,
      told.1,
      files_end w words given told.0 (λ (v : Vec ℕ Global). v.items) texts c.in_ok-text.text c.read_given.result told.2
          (subst (λ (text : List ℕ). ReachesFiles texts given w (read_files words text given []) c.read_given.result) c.deref.ensures.value (c.read_given.ensures.told tells)),
    )

pub returns-clause-files : goal.returns-clause-files
returns-clause-files g c = λ tells.
    let given = map string_bytes c.args.given.now in
    let input = g.I.Source.left c.args.input.now in
    let told = told_of given input _ _ c.deref.ensures.value c.in_ok-text.ensures.whole in
    let short = subst (λ (t : List ℕ). IsShort t) (sym c.deref.ensures.value) c.in_ok-text.ensures.within in
    given_texts_are given input (g.D.Store.seen c.args.system.now) c.deref.result.now c.read_given.result told (c.read_given.ensures.read tells) (c.read_given.ensures.within short)
