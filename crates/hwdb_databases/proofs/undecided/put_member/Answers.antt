use Rattle.std.proofs.Common.{List, ap, codes, map, sym, ◌++◌, ◌∙◌}
use Rattle.std.proofs.lemmas.List.{append-nil}
use Rattle.json.specs.Token.{Token}
use Rattle.hwdb_spec_commands.specs.Json.{array_of, text_json}
use Rattle.hwdb_samples.specs.Views.{own_text}
use Rattle.hwdb_show.specs.JsonTokens.{tokens_of_member}
use Rattle.hwdb_show.specs.Lemmas.Json.{key_value}
use Rattle.hwdb_databases.proofs.undecided.put_member.Goals as goal

pub returns-clause-tokens : goal.returns-clause-tokens
returns-clause-tokens c =
    let all = array_of (map text_json (map own_text c.args.patterns.now)) in
    key_value c.args.json.now.tokens c.key.new.self.tokens c.put_patterns.new.json.tokens (codes "undecided") all c.in_ok-key.ensures.ok c.in_ok-put_patterns.ensures.tokens
    ∙ ap (λ (l : List Token). c.args.json.now.tokens ++ l) (sym (append-nil (tokens_of_member (codes "undecided", all))))
