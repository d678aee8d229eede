use Rattle.std.proofs.Common.{◌≡◌, ◌<◌, ◌≤◌, ◌∙◌, ◌++◌, ◌∷◌, ap, arith, inr, length, map, subst, sym, suc, List, Vec, Global, ℕ, []}
use Rattle.hwdb_spec_commands.specs.DeviceFound.{places_meant, several_text}
use Rattle.hwdb_spec_commands.specs.Refusals.{IsInWords}
use Rattle.hwdb_spec_commands.specs.SysfsAnswers.{sight_by}
use Rattle.hwdb_spec_program.specs.DeviceErrors.{asked_names}
use Rattle.hwdb_sysfs.specs.Lemmas.Names.{items}
use Rattle.hwdb_tool.proofs.DeviceLemmas.{says_several}
use Rattle.hwdb_tool.proofs.missing.only_meant.Goals as goal

-- one place at most, of which one was taken, is that one
some_left : (rest : List (Vec ℕ Global)) (x : Vec ℕ Global) → 0 < length (rest ++ x ∷ [])
some_left [] x = omega arith
some_left (r ∷ rest) x = omega arith

one_left : (meant : List (List ℕ)) (xs rest : List (Vec ℕ Global)) (x : Vec ℕ Global) → map items xs ≡ meant → xs ≡ rest ++ x ∷ [] → length xs ≤ 1 → meant ≡ x.items ∷ []
one_left meant xs [] x are is le = sym are ∙ ap (map items) is
one_left meant xs (r ∷ rest) x are is le = absurd (let n : length xs ≡ suc (length (rest ++ x ∷ [])) = ap length is in let some = some_left rest x in omega (arith, n, some, le))

none_left : (meant : List (List ℕ)) (xs : List (Vec ℕ Global)) → map items xs ≡ meant → length xs ≡ 0 → meant ≡ []
none_left meant [] are h = sym are
none_left meant (x ∷ xs) are h = absurd (omega (arith, h))

pub returns-then-len-gt1-clause-several : goal.returns-then-len-gt1-clause-several
returns-then-len-gt1-clause-several g c = λ tells root unfound.
    let sight = sight_by g.F.DeviceFiles.answers c.args.files.now in
    let places = c.in_ok-places.places.items in
    let several : 1 < length places = omega (arith, c.len.ensures, c.if-len-gt1.true) in
    inr (says_several sight root c.args.sys.now c.args.given.now c.several.result places several (c.in_ok-places.ensures tells root unfound)
    (subst (λ (l : List (Vec ℕ Global)). IsInWords (several_text sight asked_names c.args.sys.now c.args.given.now (map items l)) c.several.result)
    c.deref.ensures.value (c.several.ensures.said tells)))

pub returns-in-Some-clause-meant : goal.returns-in-Some-clause-meant
returns-in-Some-clause-meant g c = λ tells root unfound.
    let few : length c.in_ok-places.places.items ≤ 1 = omega (arith, c.len.ensures, c.if-len-gt1.false) in
    one_left (places_meant (sight_by g.F.DeviceFiles.answers c.args.files.now) asked_names root c.args.sys.now c.args.given.now) c.in_ok-places.places.items c.pop.new.self.items c.in-Some.place
    (c.in_ok-places.ensures tells root unfound) c.in-Some.ensures.items few

pub returns-clause-meant : goal.returns-clause-meant
returns-clause-meant g c = λ tells root unfound.
    let empty : length c.in_ok-places.places.items ≡ 0 = let ok = c.in_ok-places.places.ok in let zero = c.in-None.ensures.cases.0 in omega (arith, ok, zero) in
    none_left (places_meant (sight_by g.F.DeviceFiles.answers c.args.files.now) asked_names root c.args.sys.now c.args.given.now) c.in_ok-places.places.items (c.in_ok-places.ensures tells root unfound) empty
