-- What a rule sees of a device.
use Rattle.std.proofs.Common.{◌≡◌, ◌∙◌, ap, sym, subst, ℕ, List, ◌∷◌}
use Rattle.hwdb_spec_commands.specs.Lookups.{Found, Scene, Told, found_for, found_in}
use Rattle.hwdb_spec_commands.specs.Sysfs.{Ancestor, cut_short}

-- the scene of a device
abbrev pub scene : (chain : List Ancestor) (own : Ancestor) (text : List ℕ) → Scene
scene chain own text = record { own = own; chain = chain; machine = text }

-- what is found in a scene is what is found for the device
module _ (tells : List ℕ → Told) (found : List Found) (own : Ancestor) (parents : List Ancestor) (machine : List ℕ) where
  in_place : found ≡ found_in tells (scene (own ∷ parents) own (cut_short machine)) → found ≡ found_for tells machine (own ∷ parents)
  in_place is = is

  pub same_scene : (s : Scene) (chain : List Ancestor) → found ≡ found_in tells s → s ≡ scene chain own (cut_short machine)
      → chain ≡ own ∷ parents → found ≡ found_for tells machine chain
  same_scene s chain is same c =
      subst (λ (l : List Ancestor). found ≡ found_for tells machine l) (sym c)
      (in_place (subst (λ (x : Scene). found ≡ found_in tells x) (same ∙ ap (λ (l : List Ancestor). scene l own (cut_short machine)) c) is))

-- a scene of these parts
pub scene_is : (chain given : List Ancestor) (own : Ancestor) (text machine : List ℕ) → given ≡ chain → text ≡ cut_short machine
    → scene given own text ≡ scene chain own (cut_short machine)
scene_is chain given own text machine g m =
    ap (λ (l : List Ancestor). scene l own text) g ∙ ap (λ (t : List ℕ). scene chain own t) m
