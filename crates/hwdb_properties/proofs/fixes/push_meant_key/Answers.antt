use Rattle.std.proofs.Common.{◌≡◌, ◌∙◌, ◌++◌, ℕ, List, OnOk, ap, subst}
use Rattle.hwdb_spec_commands.specs.Fixes.{mark_of, marked_key, unquoted}
use Rattle.hwdb_spec_commands.specs.Properties.{letters_row, without, without_key, word}
use Rattle.hwdb_spec_commands.specs.declared.vocabulary.TheConstants.{KEY_NAMES}
use Rattle.hwdb_properties.proofs.fixes.push_meant_key.Goals as goal

pub returns : goal.returns
returns c =
    let old : List ℕ = c.args.text.now.items in
    let last : List ℕ = c.push_marked.new.text.items in
    subst (λ (name : List ℕ). OnOk c.push_marked.result (last ≡ old ++ marked_key (mark_of c.args.value.now) name))
    (c.word.ensures ∙ ap word (c.key_in_letters.ensures ∙ ap (letters_row KEY_NAMES.now) (c.without_key.ensures
    ∙ ap without_key (c.deref.ensures.value ∙ c.in_ok-bare.ensures ∙ ap unquoted c.without.ensures))))
    (subst (λ (mark : List ℕ). OnOk c.push_marked.result (last ≡ old ++ marked_key mark c.word.result.now)) c.mark_of.ensures c.push_marked.ensures)
