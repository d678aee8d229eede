use Rattle.std.proofs.Common.{◌∙◌, ap, sym, length, map, arith}
use Rattle.std.specs.String.{string_bytes}
use Rattle.std.proofs.lemmas.List.Elements.{All-same}
use Rattle.hwdb_text.specs.Internal.Choosing.{entry_of, with_priorities}
use Rattle.hwdb_spec.specs.Folders.{choice}
use Rattle.hwdb_spec.specs.Selected.{IsListed}
use Rattle.hwdb_text.specs.Views.{IsStorableChoice}
use Rattle.hwdb_text.proofs.StoreLemmas.{choices_storable}
use Rattle.hwdb_text.proofs.ListLemmas.{choices_listed}
use Rattle.hwdb_text.proofs.TakeLemmas.{choice_is, as_many, both_put}
use Rattle.hwdb_text.proofs.ChoiceLemmas.{map_length}
use Rattle.hwdb_text.proofs.choice.select.Goals as goal

pub returns-then-len-gt-MOST_FILES-clause-too_many : goal.returns-then-len-gt-MOST_FILES-clause-too_many
returns-then-len-gt-MOST_FILES-clause-too_many c = λ _.
    let etc = map string_bytes c.args.etc.now in
    let usr = map string_bytes c.args.usr.now in
    let held = both_put etc usr c.new-held.result.entries c.put.new.names.entries c.put-2.new.names.entries c.new-held.ensures.empty c.in_ok-put.ensures.names c.in_ok-put-2.ensures.names in
    let many = sym (map_length entry_of c.put-2.new.names.entries) ∙ ap length held ∙ as_many etc usr in
    omega (arith, many)

pub returns-clause-few : goal.returns-clause-few
returns-clause-few c =
    let etc = map string_bytes c.args.etc.now in
    let usr = map string_bytes c.args.usr.now in
    let held = both_put etc usr c.new-held.result.entries c.put.new.names.entries c.put-2.new.names.entries c.new-held.ensures.empty c.in_ok-put.ensures.names c.in_ok-put-2.ensures.names in
    let many = sym (map_length entry_of c.put-2.new.names.entries) ∙ ap length held ∙ as_many etc usr in
    omega (arith, many)

pub returns-clause-chosen : goal.returns-clause-chosen
returns-clause-chosen c =
    let etc = map string_bytes c.args.etc.now in
    let usr = map string_bytes c.args.usr.now in
    let held = both_put etc usr c.new-held.result.entries c.put.new.names.entries c.put-2.new.names.entries c.new-held.ensures.empty c.in_ok-put.ensures.names c.in_ok-put-2.ensures.names in
    c.in_ok-list.ensures.chosen ∙ ap (with_priorities 1) held ∙ choice_is etc usr

pub returns-clause-listed : goal.returns-clause-listed
returns-clause-listed c =
    let etc = map string_bytes c.args.etc.now in
    let usr = map string_bytes c.args.usr.now in
    All-same (IsListed etc usr) _ (choice etc usr) (returns-clause-chosen c) (choices_listed etc usr)

pub returns-clause-storable : goal.returns-clause-storable
returns-clause-storable c =
    let etc = map string_bytes c.args.etc.now in
    let usr = map string_bytes c.args.usr.now in
    All-same IsStorableChoice _ (choice etc usr) (returns-clause-chosen c) (choices_storable etc usr)
