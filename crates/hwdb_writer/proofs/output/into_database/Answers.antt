use Rattle.std.proofs.Common.{◌<◌, ◌^◌, ◌∙◌, length, refl, sym, subst, arith, List, ℕ}
use Rattle.hwdb_spec.specs.Format.{IsDatabase}
use Rattle.hwdb_spec.specs.Written.{written}
use Rattle.hwdb_writer.specs.Internal.PostOrder.{tree_of}
use Rattle.hwdb_writer.proofs.BridgeLemmas.{is_database}
use Rattle.hwdb_writer.proofs.SoundnessLemmas.{sound_narrow, sound_tight}
use Rattle.hwdb_writer.proofs.output.into_database.Goals as goal

pub database_within-requires : goal.database_within-requires
database_within-requires c =
    let t = tree_of c.in_ok-stored.ensures.stored.0 c.in_ok-stored.ensures.stored.1 in
    (c.in_ok-stored.ensures.stored.0, c.in_ok-stored.ensures.stored.1, c.in_ok-stored.ensures.stored.2, sound_narrow t c.in_ok-stored.ensures.stored.3.sound)

pub returns-in-Some-clause-written : goal.returns-in-Some-clause-written
returns-in-Some-clause-written c =
    let t = tree_of c.in_ok-stored.ensures.stored.0 c.in_ok-stored.ensures.stored.1 in
    let made = c.in_ok-stored.ensures.stored.3 in
    let narrow = sound_narrow t made.sound in
    let e = rw c.in-Some.is at (c.in_ok-bytes.ensures c.in_ok-stored.ensures.stored.0 c.in_ok-stored.ensures.stored.1 c.in_ok-stored.ensures.stored.2 narrow) in
    (t, sound_tight c.args.tree t made.sound (made.same ∙ c.tree.view_is), e.0)

pub returns-in-Some-clause-database : goal.returns-in-Some-clause-database
returns-in-Some-clause-database c =
    let t = tree_of c.in_ok-stored.ensures.stored.0 c.in_ok-stored.ensures.stored.1 in
    let made = c.in_ok-stored.ensures.stored.3 in
    let narrow = sound_narrow t made.sound in
    let e = rw c.in-Some.is at (c.in_ok-bytes.ensures c.in_ok-stored.ensures.stored.0 c.in_ok-stored.ensures.stored.1 c.in_ok-stored.ensures.stored.2 narrow) in
    let few : length (written t) < 2 ^ 64 = omega (arith, e.1, c.ranges.max_bytes.fits) in
    let P : List ℕ → Type 0 = λ bytes. IsDatabase bytes t in
    (t, subst P (sym e.0) (is_database t made.sound few), made.same ∙ c.tree.view_is)

pub returns-in-Some-clause-within : goal.returns-in-Some-clause-within
returns-in-Some-clause-within c =
    let t = tree_of c.in_ok-stored.ensures.stored.0 c.in_ok-stored.ensures.stored.1 in
    let made = c.in_ok-stored.ensures.stored.3 in
    let narrow = sound_narrow t made.sound in
    let e = rw c.in-Some.is at (c.in_ok-bytes.ensures c.in_ok-stored.ensures.stored.0 c.in_ok-stored.ensures.stored.1 c.in_ok-stored.ensures.stored.2 narrow) in
    rw (sym e.0) at e.1

pub returns-in-None-clause-too_large : goal.returns-in-None-clause-too_large
returns-in-None-clause-too_large c w =
    let t = tree_of c.in_ok-stored.ensures.stored.0 c.in_ok-stored.ensures.stored.1 in
    let made = c.in_ok-stored.ensures.stored.3 in
    let narrow = sound_narrow t made.sound in
    let e = rw c.in-None.is at (c.in_ok-bytes.ensures c.in_ok-stored.ensures.stored.0 c.in_ok-stored.ensures.stored.1 c.in_ok-stored.ensures.stored.2 narrow) in
    (written t, (t, sound_tight c.args.tree t made.sound (made.same ∙ c.tree.view_is), refl), e)
