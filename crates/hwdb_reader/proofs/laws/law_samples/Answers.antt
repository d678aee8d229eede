use Rattle.std.proofs.Common.{refl}
use Rattle.hwdb_spec.specs.Tree.{count}
use Rattle.hwdb_spec.specs.Written.{strings_of, place_of, text_size, record_at, entries_text, node_text, written}
use Rattle.hwdb_spec.specs.Assignment.{ascending, put}
use Rattle.hwdb_reader.proofs.laws.law_samples.Goals as goal

pub returns-clause-empty : goal.returns-clause-empty
unfolding count put ascending strings_of place_of text_size record_at entries_text node_text written
returns-clause-empty c = refl

pub returns-clause-one : goal.returns-clause-one
unfolding count put ascending strings_of place_of text_size record_at entries_text node_text written
returns-clause-one c = refl

pub returns-clause-two : goal.returns-clause-two
unfolding count put ascending strings_of place_of text_size record_at entries_text node_text written
returns-clause-two c = refl
