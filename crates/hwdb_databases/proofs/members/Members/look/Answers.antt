use Rattle.std.proofs.Common.{◌∙◌, ap, sym, option_map, ◌++◌, drop, suc, add-one}
use Rattle.hwdb_spec.specs.Tree.{values_of}
use Rattle.hwdb_reader.specs.Unread.{text_of, value_in}
use Rattle.hwdb_reader.specs.Views.{entered_tree, shown}
use Rattle.hwdb_query.specs.Internal.Members.{own_members}
use Rattle.hwdb_query.specs.Lemmas.Parts.{own_next, shown_none}
use Rattle.hwdb_databases.specs.Internal.Trails.{path_of}
use Rattle.hwdb_databases.proofs.MeetingLemmas.{found_here, no_key}
use Rattle.hwdb_databases.proofs.members.Members.look.Goals as goal

pub returns-then-has_key-clause-rest : goal.returns-then-has_key-clause-rest
returns-then-has_key-clause-rest c =
    found_here c.loop-i.self.walk c.args.self.now.walk c.unread-entry.result (values_of (entered_tree c.args.inside)) c.loop-i.i c.args.self.now.looked
    c.loop-i.invariant.same (sym c.if-has_key.true ∙ c.has_key.ensures) c.unread-entry.ensures.value c.loop-i.invariant.rest

pub loop-i-preserved : goal.loop-i-preserved
loop-i-preserved c =
    let values = values_of (entered_tree c.args.inside) in
    let p = path_of c.args.self.now.walk.trail in
    let s = shown (value_in c.unread-entry.result) in
    let none = shown_none p s (no_key (text_of c.unread-entry.result.key) (sym c.if-has_key.false ∙ c.has_key.ensures)) in
    rw add-one (record {
      none = c.loop-i.invariant.none;
      looked = c.loop-i.invariant.looked;
      same = c.loop-i.invariant.same;
      rest = sym (own_next p values c.loop-i.i s (ap (option_map shown) c.unread-entry.ensures.value) ∙ ap (λ r. r ++ own_members p (drop (suc c.loop-i.i) values)) none) ∙ c.loop-i.invariant.rest;
    })
