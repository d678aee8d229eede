use Rattle.hwdb_cli.proofs.diff.with_choice.Goals as goal

pub returns : goal.returns
returns c = λ app is.
    let with_only = c.with_argument-with_only.ensures _ _ is c.globs_option.ensures in
    let with_not = c.with_argument-with_not.ensures _ _ with_only c.globs_option-2.ensures in
    c.with_argument.ensures _ _ with_not c.globs_option-3.ensures
