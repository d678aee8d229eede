use Rattle.std.proofs.Common.{◌≡◌, ◌∙◌, ◌++◌, ◌∷◌, [], ap, ℕ, List}
use Rattle.hwdb_spec.specs.Forms.{can_begin}
use Rattle.hwdb_spec.specs.Patterns.{tokens}
use Rattle.hwdb_forms.specs.Internal.{forms_of, views}
use Rattle.hwdb_forms.proofs.expecting.begins_anew.Goals as goal

pub returns : goal.returns
returns c =
    let text : c.deref.result.now ≡ c.args.front.now ++ c.args.byte ∷ [] =
    c.deref.ensures.value ∙ c.in_ok-push.ensures.items ∙ ap (λ (l : List ℕ). l ++ c.args.byte ∷ []) (c.in_ok-text.ensures.items_if_clones_equal (λ x y e. e)) in
    c.in_ok-met.ensures ∙ ap (can_begin (forms_of c.args.table)) (ap views c.deref-2.ensures.value ∙ c.in_ok-tokens.ensures ∙ ap tokens text)
