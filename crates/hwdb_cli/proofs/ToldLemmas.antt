-- What is told of an error, by the kinds that the words may give.
use Rattle.std.proofs.Common.{◌≡◌, ◌∙◌, inl, inr, sym, subst}
use Rattle.clap.specs.Kinds.{HasKind, IsAmong, Kinds}
use Rattle.clap.specs.Values.{kind_of}
use Rattle.clap.specs.declared.error.Error.{Error}
use Rattle.clap.specs.declared.error.kind.ErrorKind.TheVariants.{DisplayHelp, DisplayVersion, OutOfMemory}
use Rattle.hwdb_spec_commands.specs.declared.job.WordsFault.{WordsFault}
use Rattle.hwdb_spec_commands.specs.declared.job.WordsFault.TheVariants.{Help, Usage, Memory}
use Rattle.hwdb_spec_commands.specs.WordFaults.{IsToldOf, IsToldOfOne}

pub told_of_one : (kinds : Kinds) (e : Error) (fault : WordsFault) → HasKind kinds e → IsToldOf (kind_of e) fault → IsToldOfOne kinds fault
told_of_one kinds e (Help text) (inl memory) (inl told, some) = let bad : OutOfMemory ≡ DisplayHelp = sym memory ∙ told in cc
told_of_one kinds e (Help text) (inl memory) (inr told, some) = let bad : OutOfMemory ≡ DisplayVersion = sym memory ∙ told in cc
told_of_one kinds e (Help text) (inr among) (inl told, some) = (inl (subst (λ k. IsAmong k kinds) told among), some)
told_of_one kinds e (Help text) (inr among) (inr told, some) = (inr (subst (λ k. IsAmong k kinds) told among), some)
told_of_one kinds e (Usage text) (inl memory) told = absurd (told.0.2 memory)
told_of_one kinds e (Usage text) (inr among) told = ((kind_of e, told.0.0, told.0.1, among), told.1)
told_of_one kinds e Memory has told = tt
