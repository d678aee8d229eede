-- What beside others may be in the database's place.
use Rattle.std.proofs.Common.{inl, inr, ap, ◌∙◌, refl, Some}
use Rattle.hwdb_spec.specs.Store.{Stored}
use Rattle.hwdb_replace.specs.Laws.{BesideIsOneOfThree, NothingElseIsPut, OwnFilesAreLeftAlone, TheirsAreWhole}
use Rattle.hwdb_replace.proofs.OthersLemmas.{database_is_no_part}

pub beside_is_one_of_three : BesideIsOneOfThree
beside_is_one_of_three old ours theirs v (inl was) = inl was
beside_is_one_of_three old ours theirs v (inr (inl new)) = inr (inl new)
beside_is_one_of_three old ours theirs v (inr (inr (file, is, e))) = inr (inr (e ∙ ap (λ (f : Stored). Some f) is))

pub nothing_else_is_put : NothingElseIsPut
nothing_else_is_put folder bytes old v (inl was) = inl was
nothing_else_is_put folder bytes old v (inr (inl new)) = inr new.1
nothing_else_is_put folder bytes old v (inr (inr part)) = absurd (database_is_no_part folder (folder, part))

pub theirs_are_whole : TheirsAreWhole
theirs_are_whole folder theirs v (inl part) = absurd (database_is_no_part folder part)
theirs_are_whole folder theirs v (inr (other, file, at, is, e)) = e ∙ ap (λ (f : Stored). Some f) is

pub own_files_are_left_alone : OwnFilesAreLeftAlone
own_files_are_left_alone = record {
  written = λ own file theirs may. may.1 refl;
  removed = λ own theirs may. may.1 refl;
  renamed = λ own to file theirs loose may. may.1 refl;
  replaced = λ own from file theirs loose may. may.2 refl;
}
