-- What an answer is, and what its printing leaves.
use Rattle.hwdb_spec.specs.Outputs.{Texts}
use Rattle.hwdb_plan.specs.Plans.{End}
use Rattle.hwdb_plan.specs.Plans.End.{Answers}
use Rattle.hwdb_tool.specs.declared.answer.Answer.{Answer}

-- its texts
abbrev pub texts_in : Answer → Texts
texts_in a = record { err = a.err.items; out = a.out.items }

-- what it ends in
abbrev pub end_of : Answer → End
end_of a = Answers a.status a.err.items a.out.items
