use Rattle.hwdb_cli.proofs.diff.with_review.Goals as goal

pub returns : goal.returns
returns c = λ app is.
    let with_verbose = c.with_argument-with_verbose.ensures _ _ is c.flag.ensures in
    let with_globs = c.with_choice-with_globs.ensures _ with_verbose in
    let with_stat = c.with_argument-with_stat.ensures _ _ with_globs c.flag-2.ensures in
    let with_format = c.with_argument-with_format.ensures _ _ with_stat c.option.ensures in
    c.with_argument.ensures _ _ with_format c.json_option.ensures
