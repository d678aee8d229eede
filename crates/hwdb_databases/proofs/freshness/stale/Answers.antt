use Rattle.std.proofs.Common.{◌<◌, ◌^◌, ◌+◌, length, rules, subst, sym, ap, ◌∙◌, []}
use Rattle.std.proofs.lemmas.Result.{IfOk-weaker}
use Rattle.hwdb_databases.specs.Internal.Alike.{IsHow}
use Rattle.hwdb_databases.specs.Views.{state_shown}
use Rattle.hwdb_spec.specs.Tree.{Map, Tree, map_of, members_under}
use Rattle.hwdb_databases.proofs.FewLemmas.{few_members, halves}
use Rattle.hwdb_databases.proofs.freshness.stale.Goals as goal

pub compared-requires-clause-few : goal.compared-requires-clause-few
compared-requires-clause-few c =
    let made = c.args.made.now in
    let is = c.requires.made in
    let long : length made < 2 ^ 64 = search rules in
    let few : length (members_under [] c.reopen-new.result) + length (members_under [] c.reopen-new.result) < length made =
    subst (λ (t : Tree). length (members_under [] t) + length (members_under [] t) < length made) (sym (c.reopen-new.ensures is.0 is.1)) (few_members made is.0 is.1) in
    halves _ _ c.args.size (length made) _ c.requires.few few c.ranges.size.fits long

pub returns-clause-state : goal.returns-clause-state
returns-clause-state c =
    IfOk-weaker c.compared.result _ _
    (λ s told m is. subst (λ (n : Map). IsHow (map_of c.args.old.now) n (state_shown s.state)) (ap map_of (c.reopen-new.ensures is.0 is.1) ∙ is.2) told)
    c.compared.ensures.state
