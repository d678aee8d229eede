-- The job of a command line, by what was found.
use Rattle.std.proofs.Common.{◌≡◌, ◌∙◌, ap, sym, subst, refl, true, List, Option, Some, None, option_map, unwrap_or, true≢false}
use Rattle.std.specs.Prelude.{is_some, option_and_then, slice_get}
use Rattle.std.specs.List.{find}
use Rattle.std.specs.Option.{IsSome}
use Rattle.std.specs.Str.{bytes_eq}
use Rattle.std.specs.Prelude.{Box}
use Rattle.std.specs.Box.{box_value}
use Rattle.clap.specs.Walk.{Row, Text, all_of}
use Rattle.clap.specs.Simple.{subcommand_rows}
use Rattle.clap.specs.declared.parser.matches.ArgMatches.TheViews.{out-SubCommand}
use Rattle.clap.specs.declared.parser.matches.SubCommand.{SubCommand}
use Rattle.hwdb_spec_commands.specs.declared.job.Job.{Job}
use Rattle.hwdb_spec_commands.specs.Jobs.{HasValue, IsCommand, IsJob, IsJobOf}

pub name_in_rows : {Z : Type 0} (o : Option (Box SubCommand Z))
    → option_map (λ b. (out-SubCommand (box_value b)).name.now) o ≡ option_map (λ p. p.0) (subcommand_rows o)
name_in_rows None = refl
name_in_rows (Some b) = refl

pub job_found : (top : List Row) (sub : Option (Text × List Row)) (name : Text) (inner : List Row) (job : Job)
    → Some name ≡ option_map (λ p. p.0) sub → Some inner ≡ option_map (λ p. p.1) sub → IsJob top name inner job → IsJobOf top sub job
job_found top None name inner job n i is = let bad = ap is_some n in absurd (true≢false bad)
job_found top (Some p) name inner job n i is =
    let same_name : name ≡ p.0 = ap (λ o. unwrap_or o name) n in
    let same_rows : inner ≡ p.1 = ap (λ o. unwrap_or o inner) i in
    let P : Text → Type 0 = λ t. IsJob top t p.1 job in
    let Q : List Row → Type 0 = λ rows. IsJob top name rows job in
    subst P same_name (subst Q same_rows is)

-- the command that is read is the one that was found
pub command_found : (sub : Option (Text × List Row)) (name : Text) (inner : List Row) → Some name ≡ option_map (λ p. p.0) sub → Some inner ≡ option_map (λ p. p.1) sub
    → (q : Text × List Row) × (sub ≡ Some q) × IsCommand q.0 q.1 → IsCommand name inner
command_found sub name inner n i found =
    let q = found.0 in
    let same_name : q.0 ≡ name = sym (ap (λ o. unwrap_or o name) (n ∙ ap (option_map (λ p. p.0)) found.1)) in
    let same_rows : q.1 ≡ inner = sym (ap (λ o. unwrap_or o inner) (i ∙ ap (option_map (λ p. p.1)) found.1)) in
    let P : Text → Type 0 = λ t. IsCommand t q.1 in
    subst (IsCommand name) same_rows (subst P same_name found.2)

-- an argument with a first value has values
pub has_values : (id : Text) (rows : List Row) → HasValue id rows → is_some (all_of id rows) ≡ true
has_values id rows some = go (find (λ r. bytes_eq r.id id) rows) some
  where
    go : (o : Option Row) → is_some (option_and_then (λ r. slice_get r.values 0) o) ≡ true → is_some (option_map (λ r. r.values) o) ≡ true
    go None e = absurd (true≢false (sym e))
    go (Some r) e = refl

-- what is some after a function is some
pub some_behind : {X Y : Type 0} (f : X → Y) (o : Option X) (p : Option Y) → option_map f o ≡ p → is_some p ≡ true → IsSome o
some_behind f None p e some = absurd (true≢false (sym some ∙ ap is_some (sym e)))
some_behind f (Some x) p e some = refl
