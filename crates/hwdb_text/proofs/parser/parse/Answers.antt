use Rattle.std.proofs.Common.{◌≡◌, ◌∙◌, true, false}
use Rattle.hwdb_text.specs.Views.{origin, given_in}
use Rattle.hwdb_text.proofs.EmptyLemmas.{nothing_given}
use Rattle.hwdb_text.proofs.parser.parse.Goals as goal

pub returns-in_err-assignments-clause-free : goal.returns-in_err-assignments-clause-free
returns-in_err-assignments-clause-free c = λ empty.
    let o = origin c.args.path.now c.args.priority in
    let none = nothing_given o (given_in o) c.in_ok-scanned.scanned.assignments.items c.args.bytes.now (c.in_ok-scanned.ensures.assignments o) empty in
    let no : false ≡ true = c.in_err-assignments.ensures.free (c.deref.ensures.value ∙ none) in cc
