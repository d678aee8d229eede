use Rattle.std.proofs.Common.{◌≡◌, sym, subst, List, ℕ, Some, None}
use Rattle.std.specs.BTreeMap.{BTreeMap, get_by, insert_entry}
use Rattle.std.specs.Borrow.{Bor}
use Rattle.hwdb_spec.specs.Assignment.{text_cmp}
use Rattle.hwdb_databases.specs.declared.counting.Count.{Count}
use Rattle.hwdb_databases.specs.Internal.Counts.{named_count}
use Rattle.hwdb_spec_commands.specs.ChangeCounts as spec
use Rattle.hwdb_databases.specs.Views.{change_shown}
use Rattle.std.proofs.Common.{◌∙◌, ap, map}
use Rattle.hwdb_databases.proofs.NamedCountLemmas.{name_order, put_shown, written_shown}
use Rattle.hwdb_databases.proofs.counting.count_one.Goals as goal

pub returns-in-Some : goal.returns-in-Some
returns-in-Some c =
    let m = c.args.counts.now in
    let k = c.args.name in
    let old = c.in-Some.count.now in
    let w = c.one_more.result in
    let writes = c.get_mut.follows.holds w in
    let there : get_by (λ j. text_cmp k.now j.now) m ≡ Some old = sym c.in-Some.ensures.value in
    ap (λ es. map named_count es) writes.0 ∙ written_shown m.entries k old w (change_shown c.args.change) c.one_more.ensures c.in-Some.ensures.ordered there

pub returns : goal.returns
returns c =
    let m = c.args.counts.now in
    let k = c.args.name in
    let w = c.one_more-2.result in
    let none : get_by (λ j. text_cmp k.now j.now) m ≡ None = sym c.in_default.ensures.value in
    let P : BTreeMap (Bor (List ℕ)) Count → Type 0 = λ z. c.insert.new.self.entries ≡ insert_entry name_order z.entries k w in
    let put : P m = subst P c.get_mut.follows.holds-at-none c.in_ok-insert.ensures.entries in
    ap (λ es. map named_count es) put ∙ put_shown m.entries k w (change_shown c.args.change) (c.one_more-2.ensures ∙ ap (spec.one_more (change_shown c.args.change)) c.nothing.ensures) none
