use Rattle.std.proofs.Common.{refl, ap, ◌∙◌, ◌++◌, ◌∷◌, [], List, ℕ, append_assoc}
use Rattle.hwdb_exports.proofs.SetLemmas.{listed_one}
use Rattle.hwdb_exports.proofs.names.put_name.Goals as goal

pub returns : goal.returns
returns c =
    listed_one c.args.names.now c.taken-listing.new.names c.insert.new.self c.in_ok-folder.folder c.push.new.self c.args.folder.now c.args.name.now _ (λ a b. refl) c.in_ok-folder.ensures.items c.taken-listing.ensures.left
    (c.in_ok-push.ensures.items ∙ ap (λ (l : List ℕ). l ++ 0 ∷ []) (c.in_ok-extend_from_slice.ensures.items ∙ ap (λ (l : List ℕ). l ++ c.args.name.now) c.taken-listing.ensures.taken)
    ∙ append_assoc _ c.args.name.now (0 ∷ [])) c.in_ok-insert.ensures.entries
