use Rattle.std.proofs.Common.{◌∙◌, ap, option_map, refl, Ok}
use Rattle.hwdb_system.specs.Internal.{bytes_after}
use Rattle.hwdb_system.specs.Lemmas.MemoryReads.{none_untold}
use Rattle.hwdb_system.proofs.memory.read_after.Goals as goal

pub returns-in-None-clause-told : goal.returns-in-None-clause-told
returns-in-None-clause-told c =
    none_untold (bytes_after c.args.steps.now c.args.path.now) c.args.path.now c.args.path.now c.of_cause.result
    (c.in_ok-bytes.ensures.told ∙ ap (λ o. Ok (option_map (λ v. v.items) o)) c.in-None.is) refl c.of_cause.ensures
