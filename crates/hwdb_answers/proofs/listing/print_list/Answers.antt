use Rattle.std.proofs.Common.{◌≡◌, ◌∙◌, ap, inr, take}
use Rattle.std.proofs.lemmas.Result.{on_ok_weaker}
use Rattle.std.specs.Prelude.{flat_map, option_map}
use Rattle.hwdb_spec.specs.Answers.{last_assignments}
use Rattle.hwdb_spec.specs.Folders.{all_assignments}
use Rattle.hwdb_spec.specs.Texts.{within_limit}
use Rattle.hwdb_spec.specs.Tree.{answers_after}
use Rattle.hwdb_query.specs.Views.{Progress, next_position}
use Rattle.hwdb_spec_commands.specs.Listings.{line_of}
use Rattle.hwdb_answers.proofs.HitLineLemmas.{last_list_is, list_is}
use Rattle.hwdb_answers.proofs.RefusalLemmas.{lent_position, list_without_memory}
use Rattle.hwdb_answers.proofs.listing.print_list.Goals as goal

pub returns-in_err-hits-clause-refusals : goal.returns-in_err-hits-clause-refusals
returns-in_err-hits-clause-refusals g c =
    list_without_memory (option_map (λ t. t.now) c.args.asked.after) c.args.bytes.now _ c.from_residual-in_err-hits.ensures.1

pub returns-clause-printed : goal.returns-clause-printed
returns-clause-printed g c =
    let from = next_position c.in_ok-after.after in
    let tree = c.in_ok-db.db in
    let all : c.in_ok-hits.hits.to_come ≡ answers_after c.args.asked.device.now from tree =
    ap (λ (p : Progress). p.to_come) c.in_ok-hits.ensures.begins ∙ ap (λ s. answers_after c.args.asked.device.now s tree) (lent_position c.as_ref.result c.in_ok-after.after c.as_ref.ensures.value) in
    on_ok_weaker c.print_hits.result
    (λ printed. record {
      text = _;
      is = record {
        from = from;
        spelled = c.in_ok-after.ensures.spelled;
        is = record {
          tree = tree;
          database = c.in_ok-db.ensures.accepted;
          is = ap (λ hits. flat_map (line_of c.args.asked.json) (within_limit c.args.asked.limit hits)) all ∙ list_is c.args.asked.json c.args.asked.device.now from c.args.asked.limit tree;
        };
      };
      took = printed;
    })
    c.print_hits.ensures.printed

pub returns-clause-cut_short : goal.returns-clause-cut_short
returns-clause-cut_short g c = λ e.
    let from = next_position c.in_ok-after.after in
    let tree = c.in_ok-db.db in
    let all : c.in_ok-hits.hits.to_come ≡ answers_after c.args.asked.device.now from tree =
    ap (λ (p : Progress). p.to_come) c.in_ok-hits.ensures.begins ∙ ap (λ s. answers_after c.args.asked.device.now s tree) (lent_position c.as_ref.result c.in_ok-after.after c.as_ref.ensures.value) in
    record {
      text = _;
      is = record {
        from = from;
        spelled = c.in_ok-after.ensures.spelled;
        is = record {
          tree = tree;
          database = c.in_ok-db.ensures.accepted;
          is = ap (λ hits. flat_map (line_of c.args.asked.json) (within_limit c.args.asked.limit hits)) all ∙ list_is c.args.asked.json c.args.asked.device.now from c.args.asked.limit tree;
        };
      };
      cut = c.print_hits.ensures.cut_short e;
    }

pub returns-clause-whole_lines : goal.returns-clause-whole_lines
returns-clause-whole_lines g c = λ e.
    let from = next_position c.in_ok-after.after in
    let tree = c.in_ok-db.db in
    let all : c.in_ok-hits.hits.to_come ≡ answers_after c.args.asked.device.now from tree =
    ap (λ (p : Progress). p.to_come) c.in_ok-hits.ensures.begins ∙ ap (λ s. answers_after c.args.asked.device.now s tree) (lent_position c.as_ref.result c.in_ok-after.after c.as_ref.ensures.value) in
    let lines = c.print_hits.ensures.whole_lines e in
    inr (record {
      text = _;
      is = record {
        from = from;
        spelled = c.in_ok-after.ensures.spelled;
        tree = tree;
        database = c.in_ok-db.ensures.accepted;
        lines = lines.0;
        is = ap (λ hits. flat_map (line_of c.args.asked.json) (take lines.0 (within_limit c.args.asked.limit hits))) all;
      };
      took = lines.1;
    })

pub returns-clause-headline : goal.returns-clause-headline
returns-clause-headline g c =
    let from = next_position c.in_ok-after.after in
    let tree = c.in_ok-db.db in
    on_ok_weaker c.print_hits.result
    (λ printed etc usr compiled.
    let all : c.in_ok-hits.hits.to_come ≡ last_assignments c.args.asked.device.now from (all_assignments etc usr) =
    ap (λ (p : Progress). p.to_come) c.in_ok-hits.ensures.begins ∙ ap (λ s. answers_after c.args.asked.device.now s tree) (lent_position c.as_ref.result c.in_ok-after.after c.as_ref.ensures.value)
    ∙ c.compiled_answers_are_last.ensures.after etc usr c.args.bytes.now compiled tree c.in_ok-db.ensures.accepted c.args.asked.device.now from in
    record {
      text = _;
      is = record {
        from = from;
        spelled = c.in_ok-after.ensures.spelled;
        is = ap (λ hits. flat_map (line_of c.args.asked.json) (within_limit c.args.asked.limit hits)) all ∙ last_list_is c.args.asked.json c.args.asked.device.now from c.args.asked.limit etc usr;
      };
      took = printed;
    })
    c.print_hits.ensures.printed
